use Rattle.vmx_txq.proofs.Counting.{count_is}
use Rattle.vmx_txq.proofs.words.count_to.Goals as goal

pub returns-clause-count : goal.returns-clause-count
returns-clause-count c = λ k least most is. count_is c.args.size c.args.last c.args.returned k c.requires.size.0 least most is
