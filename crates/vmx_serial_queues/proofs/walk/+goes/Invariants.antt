use Rattle.vmx_serial_queues.proofs.walk.+goes.Given as goal

abbrev pub decreases-goes : goal.decreases-goes
decreases-goes l = l.n
