use Rattle.vmx_rx_walk.proofs.reading.+read_frame.Given as goal

abbrev pub decreases-read_frame : goal.decreases-read_frame
decreases-read_frame g l = l.fuel
