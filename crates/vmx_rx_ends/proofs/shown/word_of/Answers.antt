use Rattle.std.proofs.Common.{ap, sym, ◌∙◌, arith}
use Rattle.vmx_ring_laws.specs.Keys.{key_of}
use Rattle.vmx_rx_ring.specs.Words.{count}
use Rattle.vmx_rx_ends.proofs.Showing.{shows, is_word}
use Rattle.vmx_rx_ends.proofs.shown.word_of.Goals as goal

pub load-requires : goal.load-requires
load-requires g c = let me = c.args.reader.now in let here = me.seated.0 ∙ sym (ap (λ q. q.shared.table_id) c.deref.ensures) in let wide = ap (λ z. z.words) here in let many = c.requires.words in let made = ap count me.driver.3 in let low = c.requires.index in
    (here, omega arith, shows g.C.TellsVisible.counted _ _ _ _ me.driver.0)

pub returns-clause-word : goal.returns-clause-word
returns-clause-word g c = let me = c.args.reader.now in is_word g.C.TellsVisible.counted (key_of me.seat.table_id) me.seat.me.0 c.args.index c.load.result me.sums.0 me.sums.1 me.sums.2 me.idle c.load.ensures.2.1
