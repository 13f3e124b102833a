-- Polls of a guest until one hands up nothing.
use Rattle.std.proofs.Common.{◌≡◌, ℕ, zero, suc, ◌+◌, ◌-◌, Bool, true, false, List, [], ◌∷◌, length, refl, ap, sym, ◌∙◌, arith, Option, Some, None, if◌then◌else◌}
use Rattle.std.specs.Option.{option_map}
use Rattle.std.specs.List.{slice_get}
use Rattle.std.proofs.lemmas.List.{nil_from_length}
use Rattle.vmx_model.specs.Serial.{Seat, at_number, poll, pending, drained, emptied}
use Rattle.vmx_model.specs.PollSteps.{drained_poll, emptied_stays, poll_nothing, poll_less}
use Rattle.vmx_model.specs.Turns.{comes_up}
use Rattle.vmx_replay_runs.specs.Runs.{RunView, changes, live_poll, live_up, count_up, up_at, due_in}
use Rattle.vmx_replay_order.specs.Orders.{polled_due}
use Rattle.vmx_replay_order.proofs.Guests.{at_twice, at_same, at_stays, get_at}

-- how many frames wait at a guest: the measure of the loop
abbrev pub left_in : Option Seat → ℕ
left_in None = 0
left_in (Some s) = pending s.rx

abbrev pub left_at : ℕ → RunView → ℕ
left_at port r = left_in (slice_get r.world.seats port)

-- the run with other guests
abbrev with_seats : RunView → List Seat → RunView
with_seats r ss = record r { world = record r.world { seats = ss } }

-- ------------------------------------------------------------ one guest

drained_is : (s : Seat) → drained s ≡ (if s.active then emptied s else s)
unfolding drained
drained_is s = refl

drained_live : (s : Seat) → drained (live_poll s) ≡ drained s
drained_live s = step s.active refl
  where
    step : (b : Bool) → s.active ≡ b → drained (if b then poll (s.begun - 1) s else s) ≡ drained s
    step true e = drained_poll s e
    step false e = refl

drained_none : (s : Seat) → live_up s ≡ [] → drained s ≡ s
drained_none s none = drained_is s ∙ step s.active none
  where
    step : (b : Bool) → (if b then comes_up (s.begun - 1) s else []) ≡ [] → (if b then emptied s else s) ≡ s
    step true h = emptied_stays s h
    step false h = refl

live_stays : (s : Seat) → live_up s ≡ [] → live_poll s ≡ s
live_stays s none = step s.active none
  where
    step : (b : Bool) → (if b then comes_up (s.begun - 1) s else []) ≡ [] → (if b then poll (s.begun - 1) s else s) ≡ s
    step true h = poll_nothing (s.begun - 1) s h
    step false h = refl

live_less : (s : Seat) → pending (live_poll s).rx + length (live_up s) ≡ pending s.rx
live_less s = step s.active
  where
    step : (b : Bool) → pending (if b then poll (s.begun - 1) s else s).rx + length (if b then comes_up (s.begun - 1) s else []) ≡ pending s.rx
    step true = poll_less (s.begun - 1) s.rx
    step false = omega arith

-- ------------------------------------------------------------ one of all guests

-- a poll leaves what is to be drained
pub polled_on : (port : ℕ) (r s : RunView) → s ≡ changes port live_poll r → changes port drained s ≡ changes port drained r
polled_on port r s e = ap (changes port drained) e ∙ ap (with_seats r) (at_twice port drained live_poll r.world.seats ∙ at_same port _ _ drained_live r.world.seats)

-- one that hands up nothing ends the loop
pub polled_off : (port : ℕ) (r s : RunView) → s ≡ changes port live_poll r → up_at port r ≡ 0 → s ≡ changes port drained r
polled_off port r s e none =
    e ∙ ap (with_seats r) (at_stays port live_poll r.world.seats (λ x there_. live_stays x (up x there_)) ∙ sym (at_stays port drained r.world.seats (λ x there_. drained_none x (up x there_))))
  where
    up : (x : Seat) → slice_get r.world.seats port ≡ Some x → live_up x ≡ []
    up x there_ = nil_from_length (live_up x) (sym (ap count_up there_) ∙ none)

-- each poll that hands something up leaves less
pub polled_less : (port : ℕ) (r s : RunView) → s ≡ changes port live_poll r → left_at port s + up_at port r ≡ left_at port r
polled_less port r s e = ap (λ (x : RunView). left_at port x + up_at port r) e ∙ ap (λ (o : Option Seat). left_in o + up_at port r) (get_at port live_poll r.world.seats) ∙ by_seat (slice_get r.world.seats port)
  where
    by_seat : (o : Option Seat) → left_in (option_map live_poll o) + count_up o ≡ left_in o
    by_seat None = refl
    by_seat (Some x) = live_less x

-- where polls are due they drain; where not, nothing changes
pub due_true : (every port : ℕ) (r : RunView) → true ≡ due_in every (slice_get r.world.seats port) → changes port drained r ≡ changes port (polled_due every) r
due_true every port r due = ap (with_seats r) (alike port r.world.seats due)
  where
    alike : (n : ℕ) (ss : List Seat) → true ≡ due_in every (slice_get ss n) → at_number n drained ss ≡ at_number n (polled_due every) ss
    alike n [] h = refl
    alike zero (s ∷ ss) h = ap (λ (x : Seat). x ∷ ss) (ap (λ (b : Bool). if b then drained s else s) h)
    alike (suc n) (s ∷ ss) h = ap (λ (xs : List Seat). s ∷ xs) (alike n ss h)

pub due_false : (every port : ℕ) (r : RunView) → false ≡ due_in every (slice_get r.world.seats port) → r ≡ changes port (polled_due every) r
due_false every port r due = ap (with_seats r) (sym (at_stays port (polled_due every) r.world.seats (λ s there_. ap (λ (b : Bool). if b then drained s else s) (sym (due ∙ ap (due_in every) there_)))))
