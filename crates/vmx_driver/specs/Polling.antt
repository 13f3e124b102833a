-- A poll keeps what always holds of a driver with its room, and does what it says.
use Rattle.std.proofs.Common.{◌≡◌, ℕ, suc, ◌+◌, ◌^◌, ◌<◌, ◌≤◌, List, [], ◌∷◌, ◌++◌, length, get_or, refl, ap, sym, ◌∙◌, subst, arith, append-nil, length-append, inl, inr, ⊎_elim, All}
use Rattle.std.specs.Prelude.{◌⊎◌, Bool, true, false}
use Rattle.std.specs.List.{filter}
use Rattle.vmx_ends.specs.declared.frames.Delivery.{Delivery}
use Rattle.vmx_ends.specs.declared.made.RxMade.{RxMade}
use Rattle.vmx_ends.specs.Receive.{RxDriverView, used, pieces_of}
use Rattle.vmx_device_state.specs.SetupView.{SetupView}
use Rattle.vmx_regs.specs.declared.known.Calls.{Calls}
use Rattle.vmx_regs.specs.declared.known.Masks.{Masks}
use Rattle.vmx_model.specs.declared.journal.Received.{Received}
use Rattle.vmx_model.specs.Account.{from_queue, received_from}
use Rattle.vmx_driver_steps.specs.declared.progress.Stage.{Stage}
use Rattle.vmx_driver_steps.specs.declared.progress.Stage.TheVariants.{Fresh, Active, Stopping, Held, Quiet, Ended}
use Rattle.vmx_driver_steps.specs.Progress.{in_hand, count_in}
use Rattle.vmx_driver_steps.specs.Driver.{DriverView, Runs, HandsUp}
use Rattle.vmx_driver_steps.specs.Each.{each_at}
use Rattle.vmx_driver_steps.specs.Hints.{Looked}
use Rattle.vmx_driver_steps.specs.Driving.{Polls, PollsAll, HandsNext, FindsNoFrame}
use Rattle.vmx_driver.specs.Stocked.{Stocked, Holds, UsesRoom}
use Rattle.vmx_driver_ends.specs.Founds.{PollsUp, KeepsOn}
use Rattle.vmx_driver.specs.Holding.{polls_hold, few_rx, regs_hold}

-- every receive end was made by its plan, with all its buffers
pub all_full : (v : DriverView) (s : SetupView) → Runs v s → All (λ (d : RxDriverView). d.made.full ≡ true) v.rx
all_full v s k i d lt = ap (λ (m : RxMade). m.full) (each_at (HandsUp v.guest v.plan v.at.ended v.received) 0 v.rx i d lt k.keeps.rx).made

filter_few : {X : Type 0} (test : X → Bool) (xs : List X) → length (filter test xs) ≤ length xs
filter_few test [] = omega arith
filter_few test (x ∷ xs) = step (test x) refl (filter_few test xs)
  where
    step : (b : Bool) → test x ≡ b → length (filter test xs) ≤ length xs → length (filter test (x ∷ xs)) ≤ suc (length xs)
    step true e h = rw e (omega (arith, h))
    step false e h = rw e (omega (arith, h))

from_length : (a q k : ℕ) (ds : List Delivery) → length (received_from a q k ds) ≡ length ds
from_length a q k [] = refl
from_length a q k (d ∷ ds) = ap suc (from_length a q (k + 1) ds)

-- there is room for the numbers of one more frame of each queue
pub all_receivable : (v : DriverView) (s : SetupView) → Runs v s → length v.received < 2 ^ 58 → All (λ (d : RxDriverView). (length d.received < 2 ^ 58) × (used pieces_of d.received < 2 ^ 62)) v.rx
all_receivable v s k low i d lt =
    let h = each_at (HandsUp v.guest v.plan v.at.ended v.received) 0 v.rx i d lt k.keeps.rx in
    let few = filter_few (from_queue v.at.ended (0 + i)) v.received in let len = ap length h.handed in let same = from_length v.at.ended (0 + i) 0 (get_or v.rx i d).received in let up = h.positions in
    (omega (arith, few, len, same, low), omega (arith, few, len, same, low, up))

none_polled : (n first a : ℕ) (ds : List RxDriverView) (up : List Received) (m m' : Masks) → Polls n first a 0 [] ds up m m' → (ds ≡ []) × (up ≡ [])
none_polled n first a [] up m m' p = (refl, p.0)
none_polled n first a (d ∷ ds) up m m' p = absurd p

-- with no ends nothing is handed up
no_ends : (n first a : ℕ) (ds ds' : List RxDriverView) (received received' : List Received) (m m' : Masks) (k : ℕ) → ds ≡ [] → PollsUp n first a ds ds' received received' m m' k → (ds' ≡ ds) × (received' ≡ received)
no_ends n first a ds ds' received received' m m' k none p =
    let e = none_polled n first a ds' p.up m m' (subst (λ (xs : List RxDriverView). Polls n first a 0 xs ds' p.up m m') none p.polls) in
    (e.0 ∙ sym none, p.is ∙ ap (λ (xs : List Received). received ++ xs) e.1 ∙ append-nil received)

no_items : {X : Type 0} (xs : List X) → length xs ≡ 0 → xs ≡ []
no_items [] e = refl
no_items (x ∷ xs) e = absurd (omega (arith, e))

in_hand_or_none : (g : Stage) (k : ℕ) → (in_hand g ≡ 1) ⊎ (count_in g k ≡ 0)
in_hand_or_none Fresh k = inr refl
in_hand_or_none Active k = inl refl
in_hand_or_none (Stopping t) k = inl refl
in_hand_or_none (Held t) k = inl refl
in_hand_or_none Quiet k = inr refl
in_hand_or_none Ended k = inr refl

-- at most a frame of each queue is handed up
few_up : (n first a q : ℕ) (ds ds' : List RxDriverView) (up : List Received) (m m' : Masks) → Polls n first a q ds ds' up m m' → length up ≤ length ds
few_up n first a q [] [] up m m' p = let e = ap length p.0 in omega (arith, e)
few_up n first a q [] (d' ∷ ds') up m m' p = absurd p
few_up n first a q (d ∷ ds) [] up m m' p = absurd p
few_up n first a q (d ∷ ds) (d' ∷ ds') up m m' p =
    let more = few_up n first a (suc q) ds ds' p.1 p.2 m' p.5 in let sum = ap length p.3 ∙ length-append p.0 p.1 in
    let one : length p.0 ≤ 1 = ⊎_elim
    (λ (x : (x : Received) × (p.0 ≡ x ∷ []) × HandsNext n a q d d' x m p.2). let e = ap length x.1 in omega (arith, e))
    (λ (x : (p.0 ≡ []) × FindsNoFrame first q d d' m p.2). let e = ap length x.0 in omega (arith, e))
    p.4 in
    omega (arith, more, sum, one)

module _ (v : DriverView) (s : SetupView) (opening : Bool) (left n m : ℕ) (h : Holds v s opening left n m) where
  pub polled_holds : (key' : List ℕ) (calls' : Calls) (masks' mid : Masks) (rx' : List RxDriverView) (received' : List Received) (i first count : ℕ) → PollsUp i first v.at.ended v.rx rx' v.received received' mid masks' count → KeepsOn v.at.ended v.rx rx' v.received received' → calls' ≡ v.calls → length rx' ≡ length v.rx
      → Holds (record v { key = key'; calls = calls'; masks = masks'; rx = rx'; received = received' }) s opening left n m
  polled_holds key' calls' masks' mid rx' received' i first count p keeps calls many = ⊎_elim
      (λ (hand : in_hand v.at.stage ≡ 1). polls_hold v s opening left n m h key' calls' masks' rx' received' keeps calls many hand)
      (λ (none : count_in v.at.stage v.plan.setup.rx_queues ≡ 0).
      let e = no_ends i first v.at.ended v.rx rx' v.received received' mid masks' count (no_items v.rx (h.runs.keeps.rx_count ∙ none)) p in
      subst (λ (x : List RxDriverView × List Received). Holds (record v { key = key'; calls = calls'; masks = masks'; rx = x.0; received = x.1 }) s opening left n m) (λ j. (sym e.0 j, sym e.1 j))
      (regs_hold v s opening left n m h key' calls' masks' (record { turns = ap (λ (x : Calls). x.turns) calls; asked = ap (λ (x : Calls). x.asked) calls; interrupts = ap (λ (x : Calls). x.interrupts) calls })))
      (in_hand_or_none v.at.stage v.plan.setup.rx_queues)

  -- interrupts of receive queues are there
  pub rx_interrupts : v.plan.setup.tx_queues + 8 < v.calls.interrupts
  rx_interrupts = let a = v.plan.setup.tx_queues_high in let c = h.runs.interrupts in omega (arith, a, c)

  -- as many as the receive queues in hand
  pub roomy_for : (room buffers : ℕ) → v.plan.setup.rx_queues ≤ room → v.plan.setup.rx_queues ≤ buffers → (length v.rx ≤ room) × (length v.rx ≤ buffers)
  roomy_for room buffers a b = let e = few_rx v s opening left n m h in (omega (arith, e, a), omega (arith, e, b))

  -- and at most 8
  pub few_queues : length v.rx ≤ 8
  few_queues = let e = few_rx v s opening left n m h in let a = v.plan.setup.rx_queues_high in omega (arith, e, a)

  -- what a poll uses of the room, where contracts saw the driver with it as w
  pub polled_room : (w : Stocked) (room buffers room' buffers' : ℕ) (key' : List ℕ) (calls' : Calls) (masks' mid : Masks) (rx' : List RxDriverView) (received' : List Received) (i first count : ℕ) → record { driver = v; room = room; buffers = buffers } ≡ w → PollsUp i first v.at.ended v.rx rx' v.received received' mid masks' count → room ≤ room' + length v.rx → buffers ≤ buffers' + length v.rx
      → UsesRoom w (record { driver = record v { key = key'; calls = calls'; masks = masks'; rx = rx'; received = received' }; room = room'; buffers = buffers' })
  polled_room w room buffers room' buffers' key' calls' masks' mid rx' received' i first count same p a b = subst (λ (x : Stocked). UsesRoom x (record { driver = record v { key = key'; calls = calls'; masks = masks'; rx = rx'; received = received' }; room = room'; buffers = buffers' })) same (
      let e = few_rx v s opening left n m h in let up = few_up i first v.at.ended 0 v.rx rx' p.up mid masks' p.polls in let l = ap length p.is ∙ length-append v.received p.up in record {
        room = omega (arith, e, a);
        buffers = omega (arith, e, b);
        received = omega (arith, e, up, l);
        plan = refl;
      })

-- what a poll does where contracts saw the driver as w
pub polls_told : (v w : DriverView) (key' : List ℕ) (calls' : Calls) (mid masks' : Masks) (rx' : List RxDriverView) (received' : List Received) (i j first a count : ℕ) → v ≡ w → key' ≡ v.key → calls' ≡ v.calls → i ≡ v.calls.interrupts → j ≡ v.calls.interrupts → first ≡ v.plan.setup.tx_queues → a ≡ v.at.ended
    → Looked i v.masks mid → PollsUp j first a v.rx rx' v.received received' mid masks' count → PollsAll w count (record v { key = key'; calls = calls'; masks = masks'; rx = rx'; received = received' })
polls_told v w key' calls' mid masks' rx' received' i j first a count e key calls is js firsts ended looked p = subst (λ (x : DriverView). PollsAll x count (record v { key = key'; calls = calls'; masks = masks'; rx = rx'; received = received' })) e (record {
  up = p.up;
  count = p.count;
  mid = mid;
  looked = subst (λ (x : ℕ). Looked x v.masks mid) is looked;
  polls = subst (λ (x : ℕ × ℕ × ℕ). Polls x.0 x.1 x.2 0 v.rx rx' p.up mid masks') (λ z. (js z, firsts z, ended z)) p.polls;
  is = λ z. record v { key = key z; calls = calls z; masks = masks'; rx = rx'; received = p.is z };
})
