use Rattle.vmx_serial_queues.proofs.walk.+head_from.Given as goal

abbrev pub decreases-head_from : goal.decreases-head_from
decreases-head_from l = l.fuel
