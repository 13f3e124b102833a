use Rattle.vmx_rx_walk.proofs.walking.+find_head.Given as goal

abbrev pub decreases-find_head : goal.decreases-find_head
decreases-find_head g l = l.fuel
