-- Notes of all queues leave what stands between two steps.
use Rattle.std.proofs.Common.{◌≡◌, ℕ, ◌≤◌, Bool, true, false, List, [], ◌∷◌, length, refl, sym, ap, ◌∙◌, subst, arith, if◌then◌else◌, nat_lt}
use Rattle.std.proofs.lemmas.Bool.Decides.{nat_tests}
use mathlib.Core.List.{IsPrefix}
use Rattle.vmx_ends.specs.declared.frames.Sent.{Sent}
use Rattle.vmx_ends.specs.Frames.{longer, larger, sent_of}
use Rattle.vmx_ends.specs.Transmit.{TxDriverView, TxDeviceView}
use Rattle.vmx_ends.specs.Receive.{RxDriverView, RxDeviceView}
use Rattle.vmx_machine_state.specs.Views.{MachineView}
use Rattle.vmx_model.specs.Bags.{Pairwise}
use Rattle.vmx_device_laws.specs.Pairs.{tx_of, rx_of}
use Rattle.vmx_driver_steps.specs.Near.{IsNearTx, IsNearRx}
use Rattle.vmx_note_laws.specs.Each.{EachPasses}
use Rattle.vmx_note_laws.specs.Queues.{PassesTx, PassesRx}
use Rattle.vmx_trusted_turns.specs.Trusted.{TrustedTx, TrustedRx, IsTrusted}
use Rattle.vmx_replay_steps.specs.Between.{IsThrough, WasSent}

larger_low : (a b : ℕ) → a ≤ larger a b
larger_low a b = step (nat_lt a b) refl
  where
    step : (c : Bool) → nat_lt a b ≡ c → a ≤ (if c then b else a)
    step true e = grind (arith, nat_tests, e)
    step false e = omega arith

longer_low : {X : Type 0} (xs ys : List X) → length xs ≤ length (longer xs ys)
longer_low xs ys = step (nat_lt (length xs) (length ys)) refl
  where
    step : (c : Bool) → nat_lt (length xs) (length ys) ≡ c → length xs ≤ length (if c then ys else xs)
    step true e = grind (arith, nat_tests, e)
    step false e = omega arith

-- ------------------------------------------------------------ drivers' ends

near_one_tx : (d : TxDriverView) (e : TxDeviceView) (d' : TxDriverView) (e' : TxDeviceView) → PassesTx d e d' e' → IsNearTx d d'
near_one_tx d e d' e' p = record {
  is = p.driver ∙ (λ i. record d { looks = sym (ap (λ (x : TxDriverView). x.looks) p.driver) i; heard = sym (ap (λ (x : TxDriverView). x.heard) p.driver) i; notes_given = sym (ap (λ (x : TxDriverView). x.notes_given) p.driver) i; notes_heard = sym (ap (λ (x : TxDriverView). x.notes_heard) p.driver) i });
  more = let h = ap (λ (x : TxDriverView). x.heard) p.driver in let low = larger_low d.heard e.completed in omega (arith, h, low);
}

near_one_rx : (d : RxDriverView) (e : RxDeviceView) (d' : RxDriverView) (e' : RxDeviceView) → PassesRx d e d' e' → IsNearRx d d'
near_one_rx d e d' e' p = record {
  is = p.driver ∙ (λ i. record d { looks = sym (ap (λ (x : RxDriverView). x.looks) p.driver) i; heard = sym (ap (λ (x : RxDriverView). x.heard) p.driver) i; notes_given = sym (ap (λ (x : RxDriverView). x.notes_given) p.driver) i; notes_heard = sym (ap (λ (x : RxDriverView). x.notes_heard) p.driver) i });
  more = let h = ap (λ (x : RxDriverView). length x.heard) p.driver in let low = longer_low d.heard e.delivered in omega (arith, h, low);
}

pub near_tx : (ds : List TxDriverView) (es : List TxDeviceView) (ds' : List TxDriverView) (es' : List TxDeviceView) → EachPasses PassesTx ds es ds' es' → Pairwise IsNearTx ds ds'
near_tx [] [] [] [] h = tt
near_tx [] [] [] (e' ∷ es') h = absurd h
near_tx [] [] (d' ∷ ds') es' h = absurd h
near_tx [] (e ∷ es) ds' es' h = absurd h
near_tx (d ∷ ds) [] ds' es' h = absurd h
near_tx (d ∷ ds) (e ∷ es) [] es' h = absurd h
near_tx (d ∷ ds) (e ∷ es) (d' ∷ ds') [] h = absurd h
near_tx (d ∷ ds) (e ∷ es) (d' ∷ ds') (e' ∷ es') h = (near_one_tx d e d' e' h.0, near_tx ds es ds' es' h.1)

pub near_rx : (ds : List RxDriverView) (es : List RxDeviceView) (ds' : List RxDriverView) (es' : List RxDeviceView) → EachPasses PassesRx ds es ds' es' → Pairwise IsNearRx ds ds'
near_rx [] [] [] [] h = tt
near_rx [] [] [] (e' ∷ es') h = absurd h
near_rx [] [] (d' ∷ ds') es' h = absurd h
near_rx [] (e ∷ es) ds' es' h = absurd h
near_rx (d ∷ ds) [] ds' es' h = absurd h
near_rx (d ∷ ds) (e ∷ es) [] es' h = absurd h
near_rx (d ∷ ds) (e ∷ es) (d' ∷ ds') [] h = absurd h
near_rx (d ∷ ds) (e ∷ es) (d' ∷ ds') (e' ∷ es') h = (near_one_rx d e d' e' h.0, near_rx ds es ds' es' h.1)

-- ------------------------------------------------------------ both ends

-- what was sent and taken stays
pub through_on : (ds : List TxDriverView) (es : List TxDeviceView) (ds' : List TxDriverView) (es' : List TxDeviceView) → EachPasses PassesTx ds es ds' es' → Pairwise IsThrough ds es → Pairwise IsThrough ds' es'
through_on [] [] [] [] h t = tt
through_on [] [] [] (e' ∷ es') h t = absurd h
through_on [] [] (d' ∷ ds') es' h t = absurd h
through_on [] (e ∷ es) ds' es' h t = absurd h
through_on (d ∷ ds) [] ds' es' h t = absurd h
through_on (d ∷ ds) (e ∷ es) [] es' h t = absurd h
through_on (d ∷ ds) (e ∷ es) (d' ∷ ds') [] h t = absurd h
through_on (d ∷ ds) (e ∷ es) (d' ∷ ds') (e' ∷ es') h t =
    (ap (λ (x : TxDeviceView). sent_of x.taken) h.0.device ∙ t.0 ∙ sym (ap (λ (x : TxDriverView). x.sent) h.0.driver), through_on ds es ds' es' h.1 t.1)

-- and what a device took later was sent before the notes
pub sent_before : (ds : List TxDriverView) (es : List TxDeviceView) (ds' : List TxDriverView) (es' fs : List TxDeviceView) → EachPasses PassesTx ds es ds' es' → Pairwise WasSent ds' fs → Pairwise WasSent ds fs
sent_before [] [] [] [] fs h s = s
sent_before [] [] [] (e' ∷ es') fs h s = absurd h
sent_before [] [] (d' ∷ ds') es' fs h s = absurd h
sent_before [] (e ∷ es) ds' es' fs h s = absurd h
sent_before (d ∷ ds) [] ds' es' fs h s = absurd h
sent_before (d ∷ ds) (e ∷ es) [] es' fs h s = absurd h
sent_before (d ∷ ds) (e ∷ es) (d' ∷ ds') [] fs h s = absurd h
sent_before (d ∷ ds) (e ∷ es) (d' ∷ ds') (e' ∷ es') [] h s = absurd s
sent_before (d ∷ ds) (e ∷ es) (d' ∷ ds') (e' ∷ es') (f ∷ fs) h s =
    (subst (λ (xs : List Sent). IsPrefix (sent_of f.taken) xs) (ap (λ (x : TxDriverView). x.sent) h.0.driver) s.0, sent_before ds es ds' es' fs h.1 s.1)

-- ------------------------------------------------------------ the device is trusted

trusted_tx : (ds : List TxDriverView) (es : List TxDeviceView) (ds' : List TxDriverView) (es' : List TxDeviceView) → EachPasses PassesTx ds es ds' es' → TrustedTx es'
trusted_tx [] [] [] [] h = tt
trusted_tx [] [] [] (e' ∷ es') h = absurd h
trusted_tx [] [] (d' ∷ ds') es' h = absurd h
trusted_tx [] (e ∷ es) ds' es' h = absurd h
trusted_tx (d ∷ ds) [] ds' es' h = absurd h
trusted_tx (d ∷ ds) (e ∷ es) [] es' h = absurd h
trusted_tx (d ∷ ds) (e ∷ es) (d' ∷ ds') [] h = absurd h
trusted_tx (d ∷ ds) (e ∷ es) (d' ∷ ds') (e' ∷ es') h = (ap (λ (x : TxDeviceView). x.given) h.0.device ∙ h.0.given, trusted_tx ds es ds' es' h.1)

trusted_rx : (ds : List RxDriverView) (es : List RxDeviceView) (ds' : List RxDriverView) (es' : List RxDeviceView) → EachPasses PassesRx ds es ds' es' → TrustedRx es'
trusted_rx [] [] [] [] h = tt
trusted_rx [] [] [] (e' ∷ es') h = absurd h
trusted_rx [] [] (d' ∷ ds') es' h = absurd h
trusted_rx [] (e ∷ es) ds' es' h = absurd h
trusted_rx (d ∷ ds) [] ds' es' h = absurd h
trusted_rx (d ∷ ds) (e ∷ es) [] es' h = absurd h
trusted_rx (d ∷ ds) (e ∷ es) (d' ∷ ds') [] h = absurd h
trusted_rx (d ∷ ds) (e ∷ es) (d' ∷ ds') (e' ∷ es') h = (ap (λ (x : RxDeviceView). x.given) h.0.device ∙ h.0.given, trusted_rx ds es ds' es' h.1)

pub trusted_on : (m m' : MachineView) (ds ds' : List TxDriverView) (fs fs' : List RxDriverView) → EachPasses PassesTx ds (tx_of m.active) ds' (tx_of m'.active) → EachPasses PassesRx fs (rx_of m.active) fs' (rx_of m'.active)
    → m'.tx_stopped ≡ m.tx_stopped → m'.rx_stopped ≡ m.rx_stopped → IsTrusted m → IsTrusted m'
trusted_on m m' ds ds' fs fs' tx rx tx_same rx_same t = record {
  tx = trusted_tx ds (tx_of m.active) ds' (tx_of m'.active) tx;
  rx = trusted_rx fs (rx_of m.active) fs' (rx_of m'.active) rx;
  tx_stopped = tx_same ∙ t.tx_stopped;
  rx_stopped = rx_same ∙ t.rx_stopped;
}
