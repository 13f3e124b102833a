-- The world between two turns of a run by the plan of `pair`, as a closed form over what was sent so far.
use Rattle.std.proofs.Common.{◌≡◌, ℕ, zero, suc, ◌+◌, ◌-◌, ◌≤◌, ◌%◌, Bool, true, false, List, [], ◌∷◌, ◌++◌, length, refl, sym, ap, ◌∙◌, arith, nat_eq, nat_lt, Some, None, length-append}
use Rattle.std.proofs.lemmas.Bool.Decides.{nat_tests}
use Rattle.std.specs.List.{slice_get}
use Rattle.vmx_ends.specs.declared.frames.Delivery.{Delivery}
use Rattle.vmx_ends.specs.declared.frames.Sent.{Sent}
use Rattle.vmx_ends.specs.Core.{takes}
use Rattle.vmx_ends.specs.Receive.{used, took1, took2}
use Rattle.vmx_ends.specs.ReceiveCore.{RxCore, comes_to}
use Rattle.vmx_ends.specs.TransmitCore.{TxCore}
use Rattle.vmx_ends.specs.Walk.{at_head}
use Rattle.vmx_model.specs.declared.journal.Entry.TheVariants as entry
use Rattle.vmx_model.specs.declared.journal.Fate.TheVariants as fate
use Rattle.vmx_model.specs.declared.journal.Way.TheVariants as way
use Rattle.vmx_model.specs.declared.guest.GuestPlan.{GuestPlan}
use Rattle.vmx_model.specs.declared.journal.Entry.{Entry}
use Rattle.vmx_model.specs.declared.journal.Received.{Received}
use Rattle.vmx_model.specs.Account.{tx_made, rx_made}
use Rattle.vmx_model.specs.Fates.{tag_at}
use Rattle.vmx_model.specs.Meta.{delivered_as, taken_out}
use Rattle.vmx_model.specs.Plan.{activate_dev, first_setup}
use Rattle.vmx_model.specs.Serial.{Seat, arrived, drained, emptied, fate_at, name_at, new_rx, new_tx, poll, polls, tried}
use Rattle.vmx_pair_run.proofs.Arrives.{IsPlainRing, comes_up_here, lets_in}

-- ------------------------------------------------------------ journals

-- the first entry of each journal
abbrev pub opened : Entry
opened = entry.Setting activate_dev 0 (Some 0)

-- what the device of `a` gave to its link
abbrev pub outs : ℕ → List Entry
outs zero = []
outs (suc k) = outs k ++ entry.Out (tag_at 0 0 0 k) 1 (way.Link k) ∷ []

-- what the device of `b` took, and handed up
abbrev pub ins : ℕ → List Entry
ins zero = []
ins (suc k) = ins k ++ entry.In 0 k (fate.Up 0 0 k) ∷ []

-- a frame as `b` hands it up
abbrev pub up_at : ℕ → List ℕ → Received
up_at k frame = record { activation = 0; queue = 0; place = k; frame = frame; tci = None }

-- ------------------------------------------------------------ the two guests

-- the transmit queue of `a`: what was posted was taken, completed and reaped
abbrev pub sent_core : GuestPlan → ℕ → List Sent → TxCore
sent_core a n sent = record { made = tx_made a (name_at 0 0 0); sent = sent; reaped = n; completed = n; taken = n }

abbrev pub seat_a : GuestPlan → ℕ → List Sent → Seat
seat_a a n sent = record {
  active = true;
  setup = first_setup a;
  begun = 1;
  seen = 0;
  entries = opened ∷ outs n;
  setups = first_setup a ∷ [];
  received = [];
  tx = sent_core a n sent ∷ [];
  rx = new_rx 0 a 0 0 ∷ [];
}

-- the receive queue of `b`: what was delivered was received
abbrev pub received_core : GuestPlan → ℕ → List Delivery → RxCore
received_core b n delivered = record { made = rx_made b (name_at 1 0 0); delivered = delivered; received = n; refused = [] }

abbrev pub seat_b : GuestPlan → ℕ → ℕ → List Received → List Delivery → Seat
seat_b b n seen received delivered = record {
  active = true;
  setup = first_setup b;
  begun = 1;
  seen = seen;
  entries = opened ∷ ins n;
  setups = first_setup b ∷ [];
  received = received;
  tx = new_tx 1 b 0 0 ∷ [];
  rx = received_core b n delivered ∷ [];
}

-- ------------------------------------------------------------ a copy reaches `b`

-- what matters of guest `b`
pub record IsSniffing (b : GuestPlan) : Type 0 where
  pub mode : b.setup.filter.mode ≡ 16
  pub rss : b.setup.rss ≡ None
  pub strip : b.setup.strip ≡ false
  pub ring : IsPlainRing (rx_made b (name_at 1 0 0))

pub next_last : {X : Type 0} (xs : List X) (x : X) (n : ℕ) → length xs ≡ n → slice_get (xs ++ x ∷ []) n ≡ Some x
next_last [] x zero e = refl
next_last [] x (suc n) e = absurd (omega (arith, e))
next_last (y ∷ ys) x zero e = absurd (omega (arith, e))
next_last (y ∷ ys) x (suc n) e = next_last ys x n (omega (arith, e))

always_due : (m : ℕ) → nat_eq ((m + 1) % 1) 0 ≡ true
always_due m = let e : (m + 1) % 1 ≡ 0 = omega arith in rw e refl

-- the frame as it is delivered
abbrev pub delivery : GuestPlan → List Delivery → List ℕ → Delivery
delivery b ds frame = record {
  frame = (delivered_as (first_setup b) frame).frame;
  meta = (delivered_as (first_setup b) frame).meta;
  passed = used took1 ds - used took1 ds;
  chain = (at_head (used took1 ds) (used took2 ds)).chain;
}

same_frame : (b : GuestPlan) → IsSniffing b → (frame : List ℕ) → (delivered_as (first_setup b) frame).frame ≡ frame
same_frame b is frame = ap (λ (s : Bool). (taken_out s frame).frame) is.strip

no_tag : (b : GuestPlan) → IsSniffing b → (frame : List ℕ) → (delivered_as (first_setup b) frame).meta.tci ≡ None
no_tag b is frame = ap (λ (s : Bool). (taken_out s frame).tci) is.strip

-- where frames come up
comes_here : (b : GuestPlan) → IsSniffing b → (n : ℕ) (ds : List Delivery) (frame : List ℕ) → length ds ≡ n → length frame ≤ 1518
    → comes_to (received_core b n ds) (length (delivered_as (first_setup b) frame).frame) ≡ takes (used took1 ds - used took1 ds) (at_head (used took1 ds) (used took2 ds))
comes_here b is n ds frame long le = let e = same_frame b is frame in comes_up_here (received_core b n ds) is.ring (sym long) (length (delivered_as (first_setup b) frame).frame) (rw e le)

fate_here : (b : GuestPlan) → IsSniffing b → (n seen : ℕ) (received : List Received) (ds : List Delivery) (mac frame : List ℕ) → length ds ≡ n → length frame ≤ 1518
    → fate_at (seat_b b n seen received ds) mac frame ≡ fate.Up 0 0 n
fate_here b is n seen received ds mac frame long le =
    rw (lets_in (first_setup b) mac frame is.mode, is.rss, comes_here b is n ds frame long le, long) refl

tried_here : (b : GuestPlan) → IsSniffing b → (n : ℕ) (ds : List Delivery) (frame : List ℕ) → length ds ≡ n → length frame ≤ 1518
    → tried (delivered_as (first_setup b) frame) (received_core b n ds) ≡ received_core b n (ds ++ delivery b ds frame ∷ [])
unfolding tried
tried_here b is n ds frame long le = rw (comes_here b is n ds frame long le) refl

-- the guest between the device's part and the driver's
abbrev came : GuestPlan → ℕ → ℕ → List Received → RxCore → Seat
came b n seen received c = record (seat_b b (suc n) seen received []) { rx = c ∷ [] }

poll_here : (b : GuestPlan) → IsSniffing b → (n seen : ℕ) (received : List Received) (ds : List Delivery) (frame : List ℕ) → length ds ≡ n
    → poll 0 (came b n seen received (received_core b n (ds ++ delivery b ds frame ∷ []))) ≡ seat_b b (suc n) seen (received ++ up_at n frame ∷ []) (ds ++ delivery b ds frame ∷ [])
poll_here b is n seen received ds frame long =
    let next = next_last ds (delivery b ds frame) n long in
    let more = length-append ds (delivery b ds frame ∷ []) in
    let there : nat_lt n (length (ds ++ delivery b ds frame ∷ [])) ≡ true = grind (arith, nat_tests) in
    rw (next, there, same_frame b is frame, no_tag b is frame) refl

drained_here : (b : GuestPlan) → IsSniffing b → (n seen : ℕ) (received : List Received) (ds : List Delivery) (frame : List ℕ) → length ds ≡ n
    → drained (came b n seen received (received_core b n (ds ++ delivery b ds frame ∷ []))) ≡ seat_b b (suc n) seen (received ++ up_at n frame ∷ []) (ds ++ delivery b ds frame ∷ [])
unfolding drained emptied
drained_here b is n seen received ds frame long =
    let more = length-append ds (delivery b ds frame ∷ []) in
    let one : (length (ds ++ delivery b ds frame ∷ []) - n) + 0 ≡ 1 = omega arith in
    ap (λ (k : ℕ). polls 0 k (came b n seen received (received_core b n (ds ++ delivery b ds frame ∷ [])))) one ∙ poll_here b is n seen received ds frame long

-- a copy comes up at once
pub arrived_here : (b : GuestPlan) → IsSniffing b → (n seen : ℕ) (received : List Received) (ds : List Delivery) (mac frame : List ℕ) → length ds ≡ n → length frame ≤ 1518
    → arrived 1 mac 0 n frame (seat_b b n seen received ds) ≡ seat_b b (suc n) (seen + 1) (received ++ up_at n frame ∷ []) (ds ++ delivery b ds frame ∷ [])
arrived_here b is n seen received ds mac frame long le =
    rw (always_due seen, fate_here b is n seen received ds mac frame long le)
    (ap (λ (c : RxCore). drained (came b n (seen + 1) received c)) (tried_here b is n ds frame long le) ∙ drained_here b is n (seen + 1) received ds frame long)
