use Rattle.vmx_ends.proofs.walk.+way.Given as goal

abbrev pub decreases-way : goal.decreases-way
decreases-way l = l.n
