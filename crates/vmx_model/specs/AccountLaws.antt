-- What follows from the accounts.
use Rattle.std.proofs.Common.{◌≡◌, ℕ, ◌<◌, ◌≤◌, Bool, true, false, length, refl, ap, arith, List}
use Rattle.vmx_ends.specs.Transmit.{TxView}
use Rattle.std.specs.Prelude.{⊤}
use Rattle.vmx_model.specs.declared.journal.Fate.TheVariants as fate
use Rattle.vmx_model.specs.Types.{GuestPlan, Entry, Fate}
use Rattle.vmx_switch.specs.Ports.{Wiring}
use Rattle.vmx_model.specs.Plan.{posted_of, ends_by_reset}
use Rattle.vmx_model.specs.Account.{AccountsTx}

-- a frame that was not taken was sent in an activation that a scripted reset ended
pub discarded_by_reset : (net : Wiring) (g : ℕ) (p : GuestPlan) (es : List Entry) (f : TxView) (k : ℕ) → AccountsTx net g p es f → length f.taken ≤ k → k < length (posted_of p f.made.name.activation f.made.name.queue) → ends_by_reset p f.made.name.activation ≡ true
discarded_by_reset net g p es f k h le lt = step (ends_by_reset p f.made.name.activation) refl
  where
    step : (b : Bool) → ends_by_reset p f.made.name.activation ≡ b → ends_by_reset p f.made.name.activation ≡ true
    step true e = e
    step false e = absurd (omega (arith, h.whole e, ap length h.sent, le, lt))

-- a fate of a frame that was taken
abbrev pub IsNotDiscarded : Fate → Type 0
IsNotDiscarded (fate.Up a q place) = ⊤
IsNotDiscarded (fate.LinkFull look) = ⊤
IsNotDiscarded fate.Inactive = ⊤
IsNotDiscarded (fate.Filtered r) = ⊤
IsNotDiscarded (fate.NoBuffer a q ring position look) = ⊤
IsNotDiscarded (fate.Stopped a q) = ⊤
IsNotDiscarded fate.Discarded = ⊥
IsNotDiscarded fate.NoPort = ⊤
IsNotDiscarded fate.Down = ⊤
IsNotDiscarded fate.Short = ⊤
IsNotDiscarded fate.TooLong = ⊤
