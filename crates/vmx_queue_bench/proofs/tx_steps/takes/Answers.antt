use Rattle.std.proofs.Common.{◌≡◌, true, false}
use Rattle.vmx_txq.specs.Ends.{device_view}
use Rattle.vmx_queue_bench.proofs.tx_steps.takes.Goals as goal

pub returns-in-Frame-clause-takes : goal.returns-in-Frame-clause-takes
returns-in-Frame-clause-takes c = record { place = c.in-Frame.place; mark = c.in-Frame.mark; between = device_view c.take.new.self; takes = c.in-Frame.ensures.takes; completes = c.complete.ensures.completes }

pub returns-in-Empty-clause-takes : goal.returns-in-Empty-clause-takes
returns-in-Empty-clause-takes c = let none = c.in-Empty.ensures.takes in (none.0, c.in-Empty.word, none.1)

pub returns-in-Bad-clause-takes : goal.returns-in-Bad-clause-takes
returns-in-Bad-clause-takes c = let never : false ≡ true = c.in-Bad.ensures.takes.1.given in cc
