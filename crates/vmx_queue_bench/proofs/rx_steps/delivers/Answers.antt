use Rattle.std.proofs.Common.{◌≡◌, true, false}
use Rattle.vmx_queue_bench.proofs.rx_steps.delivers.Goals as goal

pub returns-in-Done-clause-delivers : goal.returns-in-Done-clause-delivers
returns-in-Done-clause-delivers c = c.in-Done.ensures.delivers.1

pub returns-in-NoBuffer-clause-delivers : goal.returns-in-NoBuffer-clause-delivers
returns-in-NoBuffer-clause-delivers c = let no = c.in-NoBuffer in record { ring = no.ring; position = no.position; word = no.word; look = no.look; refuses = no.ensures.delivers }

pub returns-in-Bad-clause-delivers : goal.returns-in-Bad-clause-delivers
returns-in-Bad-clause-delivers c = let never : false ≡ true = c.in-Bad.ensures.delivers.given in cc
