use Rattle.vmx_rx_walk.proofs.reading.+skip_to.Given as goal

abbrev pub decreases-skip_to : goal.decreases-skip_to
decreases-skip_to g l = l.fuel
