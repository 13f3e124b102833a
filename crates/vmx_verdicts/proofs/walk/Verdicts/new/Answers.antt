use Rattle.vmx_verdicts.specs.Walks.{starts}
use Rattle.vmx_verdicts.proofs.walk.Verdicts.new.Goals as goal

pub invariant_of-result : goal.invariant_of-result
invariant_of-result c = starts c.args.guest.now
