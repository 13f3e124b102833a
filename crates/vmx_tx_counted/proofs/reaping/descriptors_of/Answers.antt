use Rattle.std.proofs.Common.{ℕ, ◌+◌, ◌%◌, sym, refl, ap, ap₂, ◌∙◌, arith, mod-lt}
use Rattle.vmx_tx_counted.proofs.Chains.{is_last, not_last}
use Rattle.vmx_tx_counted.proofs.CountSteps.{driver_walks, walked_last}
use Rattle.vmx_tx_counted.proofs.reaping.descriptors_of.Goals as goal

pub loop-before-init : goal.loop-before-init
loop-before-init c = record { key = refl; me = refl; within = λ s next. let n = c.requires.need s next in omega arith }

pub load-word-requires : goal.load-word-requires
load-word-requires c = let inv = c.loop-before.invariant in let place = c.requires.place in let low = mod-lt (c.args.returned + c.loop-before.before) place.2 in let wide = c.requires.words in
    (inv.key ∙ c.requires.key, omega arith, driver_walks _ _ _ _ (ap (λ m. m.0.drives) inv.me ∙ c.requires.state.0) (ap (λ m. m.0.driver.at.checking) inv.me ∙ c.requires.state.1))

pub loop-before-preserved : goal.loop-before-preserved
loop-before-preserved c = let inv = c.loop-before.invariant in let place = c.requires.place in record {
  key = c.load-word.ensures.0 ∙ inv.key;
  me = c.load-word.ensures.2.0 ∙ inv.me;
  within = λ s next. let less = inv.within s next in not_last _ _ less (sym (walked_last _ _ _ _ _ s inv.me c.load-word.ensures.2.1 next less (ap₂ (λ (a b : ℕ). (a + c.loop-before.before) % b) place.1 place.0) _ c.ends_packet.ensures.field) ∙ c.if-ends_packet.false);
}

pub returns-then-ends_packet-clause-count : goal.returns-then-ends_packet-clause-count
returns-then-ends_packet-clause-count c = let inv = c.loop-before.invariant in let place = c.requires.place in λ s next. let less = inv.within s next in
    sym (is_last _ _ less (sym (walked_last _ _ _ _ _ s inv.me c.load-word.ensures.2.1 next less (ap₂ (λ (a b : ℕ). (a + c.loop-before.before) % b) place.1 place.0) _ c.ends_packet.ensures.field) ∙ c.if-ends_packet.true))
