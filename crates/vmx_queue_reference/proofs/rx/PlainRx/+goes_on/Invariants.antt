use Rattle.vmx_queue_reference.proofs.rx.PlainRx.+goes_on.Given as goal

abbrev pub decreases-goes_on : goal.decreases-goes_on
decreases-goes_on l = l.further
