use Rattle.vmx_ring_laws.specs.Keys.{key_of}
use Rattle.vmx_txq.proofs.Showing.{is_word}
use Rattle.vmx_txq.proofs.shown.word.Goals as goal

pub returns-clause-word : goal.returns-clause-word
returns-clause-word c = let me = c.args.driver.now in is_word (key_of me.writer.seat.table_id) me.writer.seat.me.0 c.args.index c.load.result me.rests me.writer.rests.2 c.load.ensures.seen
