-- Notes, and the close, keep what always holds of a driver with its room.
use Rattle.std.proofs.Common.{◌≡◌, ℕ, suc, ◌<◌, ◌≤◌, Bool, true, false, List, length, map, get_or, set, refl, ap, sym, ◌∙◌, subst, arith, if◌then◌else◌, nat_lt}
use Rattle.std.specs.Prelude.{is_some}
use Rattle.std.proofs.lemmas.Bool.Decides.{nat_tests}
use Rattle.std.proofs.lemmas.List.{map-set, length-map}
use Rattle.vmx_io.specs.Views.{viewed}
use Rattle.vmx_ends.specs.Frames.{longer, larger}
use Rattle.vmx_ends.specs.Transmit.{TxDriverView, TxNoteView}
use Rattle.vmx_ends.specs.Receive.{RxDriverView, RxNoteView}
use Rattle.vmx_ends.specs.TransmitClauses as tx
use Rattle.vmx_ends.specs.ReceiveClauses as rx
use Rattle.vmx_device_state.specs.SetupView.{SetupView}
use Rattle.vmx_driver_steps.specs.declared.progress.Due.TheVariants as due
use Rattle.vmx_driver_steps.specs.Progress.{due_of}
use Rattle.vmx_driver_steps.specs.Driver.{DriverView}
use Rattle.vmx_driver_steps.specs.Near.{IsNearTx, IsNearRx}
use Rattle.vmx_driver_steps.specs.Closing.{closes}
use Rattle.vmx_driver.specs.Stocked.{Holds}
use Rattle.vmx_driver.specs.Notes.{NotesTx, HearsTx, FitsTx, NotesRx, HearsRx, FitsRx}
use Rattle.vmx_driver.specs.Holding.{near_tx_holds, near_rx_holds}

larger_low : (a b : ℕ) → a ≤ larger a b
larger_low a b = step (nat_lt a b) refl
  where
    step : (c : Bool) → nat_lt a b ≡ c → a ≤ (if c then b else a)
    step true e = grind (arith, nat_tests, e)
    step false e = omega arith

longer_low : {X : Type 0} (xs ys : List X) → length xs ≤ length (longer xs ys)
longer_low xs ys = step (nat_lt (length xs) (length ys)) refl
  where
    step : (c : Bool) → nat_lt (length xs) (length ys) ≡ c → length xs ≤ length (if c then ys else xs)
    step true e = grind (arith, nat_tests, e)
    step false e = omega arith

-- a note was given
pub noted_tx : (d d' : TxDriverView) → d' ≡ record d { notes_given = suc d.notes_given } → IsNearTx d d'
noted_tx d d' e = record {
  is = e ∙ (λ i. record d { looks = sym (ap (λ (x : TxDriverView). x.looks) e) i; heard = sym (ap (λ (x : TxDriverView). x.heard) e) i; notes_given = sym (ap (λ (x : TxDriverView). x.notes_given) e) i; notes_heard = sym (ap (λ (x : TxDriverView). x.notes_heard) e) i });
  more = let h = ap (λ (x : TxDriverView). x.heard) e in omega (arith, h);
}

pub noted_rx : (d d' : RxDriverView) → d' ≡ record d { notes_given = suc d.notes_given } → IsNearRx d d'
noted_rx d d' e = record {
  is = e ∙ (λ i. record d { looks = sym (ap (λ (x : RxDriverView). x.looks) e) i; heard = sym (ap (λ (x : RxDriverView). x.heard) e) i; notes_given = sym (ap (λ (x : RxDriverView). x.notes_given) e) i; notes_heard = sym (ap (λ (x : RxDriverView). x.notes_heard) e) i });
  more = let h = ap (λ (x : RxDriverView). length x.heard) e in omega (arith, h);
}

-- a note was heard
pub heard_tx : (d d' : TxDriverView) (n : TxNoteView) → tx.DriverHears d n d' → IsNearTx d d'
heard_tx d d' n h = record {
  is = h.is ∙ (λ i. record d { looks = sym (ap (λ (x : TxDriverView). x.looks) h.is) i; heard = sym (ap (λ (x : TxDriverView). x.heard) h.is) i; notes_given = sym (ap (λ (x : TxDriverView). x.notes_given) h.is) i; notes_heard = sym (ap (λ (x : TxDriverView). x.notes_heard) h.is) i });
  more = let e = ap (λ (x : TxDriverView). x.heard) h.is in let low = larger_low d.heard n.done in omega (arith, e, low);
}

pub heard_rx : (d d' : RxDriverView) (n : RxNoteView) → rx.DriverHears d n d' → IsNearRx d d'
heard_rx d d' n h = record {
  is = h.is ∙ (λ i. record d { looks = sym (ap (λ (x : RxDriverView). x.looks) h.is) i; heard = sym (ap (λ (x : RxDriverView). x.heard) h.is) i; notes_given = sym (ap (λ (x : RxDriverView). x.notes_given) h.is) i; notes_heard = sym (ap (λ (x : RxDriverView). x.notes_heard) h.is) i });
  more = let e = ap (λ (x : RxDriverView). length x.heard) h.is in let low = longer_low d.heard n.frames in omega (arith, e, low);
}

-- an end of a list in hand, as contracts see it
module _ {E V : Type 0} (view : E → V) (vs : List V) (es : List E) (q : ℕ) (e new : E) (is : vs ≡ map view es) (lt : q < length es) (at : e ≡ get_or es q e) where
  pub there_at : view e ≡ get_or vs q (view e)
  there_at = subst (λ (xs : List V). view e ≡ get_or xs q (view e)) (sym is) (sym (viewed view es q e lt at))

  pub there_below : q < length vs
  there_below = let l = ap length is in let m = length-map es view in omega (arith, lt, l, m)

  pub there_set : map view (set es q new) ≡ set vs q (view new)
  there_set = map-set view es q new ∙ ap (λ (xs : List V). set xs q (view new)) (sym is)

module _ {E : Type 0} (view : E → TxDriverView) (v : DriverView) (es : List E) (q : ℕ) (e new : E) (is : v.tx ≡ map view es) (lt : q < length es) (at : e ≡ get_or es q e) where
  pub tx_at : (s : SetupView) (opening : Bool) (left n m : ℕ) → Holds v s opening left n m → IsNearTx (view e) (view new) → Holds (record v { tx = map view (set es q new) }) s opening left n m
  tx_at s opening left n m h near = subst (λ (xs : List TxDriverView). Holds (record v { tx = xs }) s opening left n m) (sym (there_set view v.tx es q e new is lt at))
      (near_tx_holds v s opening left n m h q (view e) (view new) (there_at view v.tx es q e new is lt at) (there_below view v.tx es q e new is lt at) near)

  -- what a note does, where contracts saw the driver as w
  pub notes_tx : (w : DriverView) (note : TxNoteView) → v ≡ w → note ≡ tx.driver_note (view e) → view new ≡ record (view e) { notes_given = suc (view e).notes_given } → NotesTx q w note (record v { tx = map view (set es q new) })
  notes_tx w note same tells grown = subst (λ (x : DriverView). NotesTx q x note (record v { tx = map view (set es q new) })) same (record {
    end = view e;
    at = there_at view v.tx es q e new is lt at;
    tells = tells;
    is = λ i. record v { tx = (there_set view v.tx es q e new is lt at ∙ ap (λ (d : TxDriverView). set v.tx q d) grown) i };
  })

  pub hears_tx : (w : DriverView) (note : TxNoteView) → v ≡ w → tx.DriverHears (view e) note (view new) → HearsTx q w note (record v { tx = map view (set es q new) })
  hears_tx w note same h = subst (λ (x : DriverView). HearsTx q x note (record v { tx = map view (set es q new) })) same (record {
    end = view e;
    at = there_at view v.tx es q e new is lt at;
    end' = view new;
    hears = h;
    is = λ i. record v { tx = there_set view v.tx es q e new is lt at i };
  })

  -- a note that fits is of this end's queue
  pub fits_tx : (w : DriverView) (note : TxNoteView) → v ≡ w → FitsTx q w.tx note → note.key ≡ (view e).key
  fits_tx w note same fits = fits.0 (view e) (subst (λ (x : DriverView). view e ≡ get_or x.tx q (view e)) same (there_at view v.tx es q e new is lt at))

-- the same of a receive queue
module _ {E : Type 0} (view : E → RxDriverView) (v : DriverView) (es : List E) (q : ℕ) (e new : E) (is : v.rx ≡ map view es) (lt : q < length es) (at : e ≡ get_or es q e) where
  pub rx_at : (s : SetupView) (opening : Bool) (left n m : ℕ) → Holds v s opening left n m → IsNearRx (view e) (view new) → Holds (record v { rx = map view (set es q new) }) s opening left n m
  rx_at s opening left n m h near = subst (λ (xs : List RxDriverView). Holds (record v { rx = xs }) s opening left n m) (sym (there_set view v.rx es q e new is lt at))
      (near_rx_holds v s opening left n m h q (view e) (view new) (there_at view v.rx es q e new is lt at) (there_below view v.rx es q e new is lt at) near)

  pub notes_rx : (w : DriverView) (note : RxNoteView) → v ≡ w → note ≡ rx.driver_note (view e) → view new ≡ record (view e) { notes_given = suc (view e).notes_given } → NotesRx q w note (record v { rx = map view (set es q new) })
  notes_rx w note same tells grown = subst (λ (x : DriverView). NotesRx q x note (record v { rx = map view (set es q new) })) same (record {
    end = view e;
    at = there_at view v.rx es q e new is lt at;
    tells = tells;
    is = λ i. record v { rx = (there_set view v.rx es q e new is lt at ∙ ap (λ (d : RxDriverView). set v.rx q d) grown) i };
  })

  pub hears_rx : (w : DriverView) (note : RxNoteView) → v ≡ w → rx.DriverHears (view e) note (view new) → HearsRx q w note (record v { rx = map view (set es q new) })
  hears_rx w note same h = subst (λ (x : DriverView). HearsRx q x note (record v { rx = map view (set es q new) })) same (record {
    end = view e;
    at = there_at view v.rx es q e new is lt at;
    end' = view new;
    hears = h;
    is = λ i. record v { rx = there_set view v.rx es q e new is lt at i };
  })

  pub fits_rx : (w : DriverView) (note : RxNoteView) → v ≡ w → FitsRx q w.rx note → note.key ≡ (view e).key
  fits_rx w note same fits = fits.0 (view e) (subst (λ (x : DriverView). view e ≡ get_or x.rx q (view e)) same (there_at view v.rx es q e new is lt at))

pub closes_hold : (v : DriverView) (s : SetupView) (opening : Bool) (left n m : ℕ) → Holds v s opening left n m → due_of v.plan v.at (is_some v.calls.asked) ≡ due.Nothing → Holds (record v { at = record v.at { closed = true } }) s opening left n m
closes_hold v s opening left n m h e = record { runs = closes v s h.runs e; opening_is = h.opening_is; left_is = h.left_is; tx_room = h.tx_room; rx_room = h.rx_room }
