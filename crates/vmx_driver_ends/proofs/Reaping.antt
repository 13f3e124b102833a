-- Reaping, until nothing more is completed.
use Rattle.std.proofs.Common.{◌≡◌, ℕ, suc, ◌<◌, ◌≤◌, [], ◌∷◌, ◌++◌, length, sym, ap, ◌∙◌, subst, arith}
use Rattle.vmx_layout.specs.declared.TheConstants.{COMPLETION_GENERATION_BIT}
use Rattle.vmx_ring_laws.specs.Lists.{at_below}
use Rattle.vmx_ends.specs.Words.{IsMissed}
use Rattle.vmx_ends.specs.declared.answers.Reap.TheVariants.{Done as Reaped_, NotYet}
use Rattle.vmx_ends.specs.Transmit.{TxDriverView}
use Rattle.vmx_ends.specs.TransmitClauses.{Reaps}
use Rattle.vmx_driver_steps.specs.Queues.{IsFine, IsReaped}

-- changed in this field alone
abbrev pub Same : TxDriverView → TxDriverView → Type 0
Same start now = now ≡ record start { reaped = now.reaped }

pub record OneMore (start old new : TxDriverView) : Type 0 where
  pub is : Same start new
  pub fine : IsFine new
  pub up : new.reaped ≡ suc old.reaped
  pub sent : new.sent ≡ old.sent
  pub below : old.reaped < length old.sent

pub one_more : (start old new : TxDriverView) (place count : ℕ) → Same start old → IsFine old → Reaps old (Reaped_ place count) new → OneMore start old new
one_more start old new place count h fine r =
    let is : new ≡ record old { reaped = suc old.reaped } = r.4 in
    let at = r.0 in let below = at_below old.sent place r.1 r.2 in let small = fine.small in
    let sent = ap (λ (v : TxDriverView). v.sent) is in let up = ap (λ (v : TxDriverView). v.reaped) is in let len = ap length sent in record {
      is = is ∙ ap (λ (v : TxDriverView). record v { reaped = suc old.reaped }) h ∙ (λ i. record start { reaped = sym up i });
      fine = record { within = omega (arith, at, below, up, len); small = omega (arith, small, len) };
      up = up;
      sent = sent;
      below = omega (arith, at, below);
    }

pub none_more : (start old new : TxDriverView) (word : ℕ) → Same start old → IsFine old → start.reaped ≤ old.reaped → Reaps old (NotYet word) new → IsReaped start new
none_more start old new word h fine more r =
    let is = r.0 in let heard = r.2 in let within = fine.within in
    let up = ap (λ (v : TxDriverView). v.reaped) is in let told = ap (λ (v : TxDriverView). v.heard) is in let len = ap (λ (v : TxDriverView). length v.sent) is in record {
      word = word;
      missed = subst (λ (v : TxDriverView). IsMissed COMPLETION_GENERATION_BIT v.made.size v.reaped word) (sym is) r.1;
      looked = ap (λ (v : TxDriverView). v.looks) is ∙ (λ i. (ap (λ (v : TxDriverView). v.looks) h i) ++ (sym up i, word) ∷ []);
      is = is ∙ ap (λ (v : TxDriverView). record v { looks = old.looks ++ (old.reaped, word) ∷ [] }) h ∙ (λ i. record start { reaped = sym up i; looks = sym (ap (λ (v : TxDriverView). v.looks) is) i });
      within = omega (arith, within, up, len);
      more = omega (arith, more, up);
      heard = omega (arith, heard, up, told);
    }
