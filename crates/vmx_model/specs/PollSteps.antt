-- Polls past the end change nothing: the step of a loop that polls until nothing comes.
use Rattle.std.proofs.Common.{◌≡◌, ◌⊎◌, ℕ, zero, suc, ◌+◌, ◌-◌, ◌<◌, ◌≤◌, List, [], ◌∷◌, ◌++◌, length, refl, ap, sym, ◌∙◌, arith, nat_eq, true, false, Bool, append-nil, get_or, Some, None, if◌then◌else◌, inl, inr}
use Rattle.std.proofs.lemmas.Option.{slice_get_cases}
use Rattle.std.specs.List.{filter_map, slice_get, AllByRecursion}
use Rattle.vmx_ends.specs.declared.frames.Delivery.{Delivery}
use Rattle.std.specs.Prelude.{nat_lt}
use Rattle.std.proofs.lemmas.Bool.Decides.{nat_tests}
use Rattle.vmx_ends.specs.ReceiveCore.{RxCore}
use Rattle.vmx_model.specs.Serial.{Seat, where_it, emptied, drained, polls, poll, pending, is_of, received_next, next_of, up_next}

-- so many polls are enough for a queue of the activation
abbrev pub Enough : ℕ → ℕ → RxCore → Type 0
Enough a n c = nat_eq c.made.name.activation a ≡ true → length c.delivered ≤ c.received + n

enough_less : (a n : ℕ) (c : RxCore) → Enough a (suc n) c → (b : Bool) → nat_eq c.made.name.activation a ≡ b → Enough a n (if b then received_next c else c)
enough_less a n c h false e = λ is. absurd (cc (e, is))
enough_less a n c h true e = step (nat_lt c.received (length c.delivered)) refl
  where
    step : (b : Bool) → nat_lt c.received (length c.delivered) ≡ b → Enough a n (if b then record c { received = suc c.received } else c)
    step true k is = omega (arith, h e)
    step false k is = let le : length c.delivered ≤ c.received = grind (arith, nat_tests) in omega (arith, le)

all_less : (a n : ℕ) (cs : List RxCore) → AllByRecursion (Enough a (suc n)) cs → AllByRecursion (Enough a n) (where_it (is_of a) received_next cs)
all_less a n [] h = tt
all_less a n (c ∷ cs) h = (enough_less a n c h.0 (nat_eq c.made.name.activation a) refl, all_less a n cs h.1)

polls_less : (a n : ℕ) (s : Seat) → AllByRecursion (Enough a n) s.rx → AllByRecursion (Enough a 0) (polls a n s).rx
polls_less a zero s h = h
polls_less a (suc n) s h = polls_less a n (poll a s) (all_less a n s.rx h)

pub pending_enough : (a n : ℕ) (cs : List RxCore) → pending cs ≤ n → AllByRecursion (Enough a n) cs
pending_enough a n [] le = tt
pending_enough a n (c ∷ cs) le = (λ is. omega (arith, le), pending_enough a n cs (omega (arith, le)))

nothing_next : (a : ℕ) (c : RxCore) → Enough a 0 c → nat_eq c.made.name.activation a ≡ true → next_of c ≡ None
nothing_next a c h is = elim ((slice_get_cases c.delivered c.received).1) [ inl w ↦ absurd (omega (arith, h is, w.1)) | inr w ↦ w.1 ]

nothing_received : (a : ℕ) (c : RxCore) → Enough a 0 c → nat_eq c.made.name.activation a ≡ true → received_next c ≡ c
nothing_received a c h is = let le = h is in let e : nat_lt c.received (length c.delivered) ≡ false = grind (arith, nat_tests) in rw e refl

rx_stays : (a : ℕ) (cs : List RxCore) → AllByRecursion (Enough a 0) cs → (where_it (is_of a) received_next cs ≡ cs) × (filter_map (up_next a) cs ≡ [])
rx_stays a [] h = (refl, refl)
rx_stays a (c ∷ cs) h = step (nat_eq c.made.name.activation a) refl (rx_stays a cs h.1)
  where
    step : (b : Bool) → nat_eq c.made.name.activation a ≡ b → (where_it (is_of a) received_next cs ≡ cs) × (filter_map (up_next a) cs ≡ []) → (where_it (is_of a) received_next (c ∷ cs) ≡ c ∷ cs) × (filter_map (up_next a) (c ∷ cs) ≡ [])
    step true e ih = let none : next_of c ≡ None = nothing_next a c h.0 e in (rw e (λ i. nothing_received a c h.0 e i ∷ ih.0 i), rw (e, none) ih.1)
    step false e ih = (rw (e, ih.0) refl, rw e ih.1)

-- a poll that finds nothing changes nothing
pub poll_stays : (a : ℕ) (s : Seat) → AllByRecursion (Enough a 0) s.rx → poll a s ≡ s
poll_stays a s h =
    let stays = rx_stays a s.rx h in
    let up : s.received ++ filter_map (up_next a) s.rx ≡ s.received = rw stays.1 (append-nil s.received) in
    λ i. record s { received = up i; rx = stays.0 i }

pub polls_stay : (a n : ℕ) (s : Seat) → poll a s ≡ s → polls a n s ≡ s
polls_stay a zero s e = refl
polls_stay a (suc n) s e = ap (polls a n) e ∙ polls_stay a n s e

pub polls_add : (a n m : ℕ) (s : Seat) → polls a m (polls a n s) ≡ polls a (n + m) s
polls_add a zero m s = let e : m ≡ 0 + m = omega arith in ap (λ (k : ℕ). polls a k s) e
polls_add a (suc n) m s = let e : suc (n + m) ≡ suc n + m = omega arith in polls_add a n m (poll a s) ∙ ap (λ (k : ℕ). polls a k s) e

-- two numbers of polls that are both enough give the same
pub enough_same : (a n m : ℕ) (s : Seat) → AllByRecursion (Enough a n) s.rx → AllByRecursion (Enough a m) s.rx → polls a n s ≡ polls a m s
enough_same a n m s h k =
    let e : n + m ≡ m + n = omega arith in
    sym (polls_stay a m (polls a n s) (poll_stays a (polls a n s) (polls_less a n s h))) ∙ polls_add a n m s ∙ ap (λ (x : ℕ). polls a x s) e ∙ sym (polls_add a m n s) ∙ polls_stay a n (polls a m s) (poll_stays a (polls a m s) (polls_less a m s k))

pub more_enough : (a n : ℕ) (cs : List RxCore) → pending (where_it (is_of a) received_next cs) ≤ n → AllByRecursion (Enough a (suc n)) cs
more_enough a n [] le = tt
more_enough a n (c ∷ cs) le = (step (nat_eq c.made.name.activation a) refl le, more_enough a n cs (omega (arith, le)))
  where
    next : (b : Bool) → (length (if b then record c { received = suc c.received } else c).delivered - (if b then record c { received = suc c.received } else c).received) + pending (where_it (is_of a) received_next cs) ≤ n → length c.delivered ≤ c.received + suc n
    next true le = omega (arith, le)
    next false le = omega (arith, le)

    step : (b : Bool) → nat_eq c.made.name.activation a ≡ b → (length (if b then received_next c else c).delivered - (if b then received_next c else c).received) + pending (where_it (is_of a) received_next cs) ≤ n → Enough a (suc n) c
    step true e le is = next (nat_lt c.received (length c.delivered)) le
    step false e le is = absurd (cc (e, is))

-- one poll on the way leaves where the polls end
pub emptied_poll : (s : Seat) → emptied (poll (s.begun - 1) s) ≡ emptied s
unfolding emptied
emptied_poll s = enough_same (s.begun - 1) (suc (pending (poll (s.begun - 1) s).rx)) (pending s.rx) s (more_enough (s.begun - 1) (pending (poll (s.begun - 1) s).rx) s.rx (omega arith)) (pending_enough (s.begun - 1) (pending s.rx) s.rx (omega arith))

-- the same of an active guest
pub drained_poll : (s : Seat) → s.active ≡ true → drained (poll (s.begun - 1) s) ≡ drained s
unfolding drained
drained_poll s on = step s.active on
  where
    step : (b : Bool) → b ≡ true → (if b then emptied (poll (s.begun - 1) s) else poll (s.begun - 1) s) ≡ (if b then emptied s else s)
    step true e = emptied_poll s
    step false e = absurd (cc e)

-- where no queue hands up anything, nothing is pending
exit_enough : (a : ℕ) (cs : List RxCore) → filter_map (up_next a) cs ≡ [] → AllByRecursion (Enough a 0) cs
exit_enough a [] h = tt
exit_enough a (c ∷ cs) h = step (nat_eq c.made.name.activation a) refl (λ k. exit_enough a cs k) ((slice_get_cases c.delivered c.received).1)
  where
    step : (b : Bool) → nat_eq c.made.name.activation a ≡ b → (filter_map (up_next a) cs ≡ [] → AllByRecursion (Enough a 0) cs) → ((x : Delivery) × (c.received < length c.delivered) × (slice_get c.delivered c.received ≡ Some x) × (get_or c.delivered c.received x ≡ x)) ⊎ ((length c.delivered ≤ c.received) × (slice_get c.delivered c.received ≡ None)) → Enough a 0 c × AllByRecursion (Enough a 0) cs
    step true e k (inl w) = absurd (cc (rw (e, w.2) at h))
    step true e k (inr w) = (λ is. omega (arith, w.0), k (rw (e, w.1) at h))
    step false e k w = (λ is. absurd (cc (e, is)), k (rw e at h))

-- polls end where one hands up nothing
pub emptied_stays : (s : Seat) → filter_map (up_next (s.begun - 1)) s.rx ≡ [] → emptied s ≡ s
unfolding emptied
emptied_stays s h = polls_stay (s.begun - 1) (pending s.rx) s (poll_stays (s.begun - 1) s (exit_enough (s.begun - 1) s.rx h))

-- such a poll changes nothing
pub poll_nothing : (a : ℕ) (s : Seat) → filter_map (up_next a) s.rx ≡ [] → poll a s ≡ s
poll_nothing a s none = poll_stays a s (exit_enough a s.rx none)

abbrev Cases : RxCore → Type 0
Cases c = ((x : Delivery) × (c.received < length c.delivered) × (slice_get c.delivered c.received ≡ Some x) × (get_or c.delivered c.received x ≡ x)) ⊎ ((length c.delivered ≤ c.received) × (slice_get c.delivered c.received ≡ None))

-- each frame that a poll hands up is pending no longer: the measure of a loop of polls
pub poll_less : (a : ℕ) (cs : List RxCore) → pending (where_it (is_of a) received_next cs) + length (filter_map (up_next a) cs) ≡ pending cs
poll_less a [] = refl
poll_less a (c ∷ cs) = step (nat_eq c.made.name.activation a) refl (slice_get_cases c.delivered c.received).1 (poll_less a cs)
  where
    step : (b : Bool) → nat_eq c.made.name.activation a ≡ b → Cases c → pending (where_it (is_of a) received_next cs) + length (filter_map (up_next a) cs) ≡ pending cs
        → pending (where_it (is_of a) received_next (c ∷ cs)) + length (filter_map (up_next a) (c ∷ cs)) ≡ pending (c ∷ cs)
    step false e cases ih = rw e (omega (arith, ih))
    step true e cases ih = elim cases [
      | inl w ↦ (let less = w.1 in let lt : nat_lt c.received (length c.delivered) ≡ true = grind (arith, nat_tests) in rw (e, lt, w.2) (omega (arith, ih, w.1)))
      | inr w ↦ (let past = w.0 in let ge : nat_lt c.received (length c.delivered) ≡ false = grind (arith, nat_tests) in rw (e, ge, w.1) (omega (arith, ih)))
    ]
