-- What a look-up by name finds.
use Rattle.std.proofs.Common.{◌≡◌, ℕ, zero, suc, ◌+◌, ◌<◌, ◌≤◌, List, [], ◌∷◌, ◌++◌, map, refl, ap, sym, ◌∙◌, arith, nat_eq, true, false, Bool, subst, ◌&&◌, nat_le, if◌then◌else◌, inl, inr, Some, None}
use Rattle.std.proofs.lemmas.Bool.Decides.{eqb_tells, nat_tests}
use Rattle.std.specs.List.{filter, filter_map, flat_map, find, AllByRecursion}
use Rattle.vmx_model.specs.Types.{GuestPlan, Action, QueueName}
use Rattle.vmx_model.specs.Lists.{count, upto}
use Rattle.vmx_model.specs.Deeds.{begins}
use Rattle.vmx_model.specs.Plan.{activation_at}
use Rattle.vmx_ends.specs.Transmit.{TxView}
use Rattle.vmx_ends.specs.Receive.{RxView}
use Rattle.vmx_ends.specs.LinkView.{LinkView}
use Rattle.vmx_model.specs.Journal.{is_link}
use Rattle.vmx_model.specs.Fates.{tx_named}
use Rattle.vmx_model.specs.Account.{rx_named, names, queue_names, activations, link_names}

abbrev pub Finds : {X : Type 0} → (X → Bool) → List X → Type 0
Finds {X} test xs = (x : X) × (find test xs ≡ Some x)

pub found_passes : {X : Type 0} (test : X → Bool) (xs : List X) (x : X) → find test xs ≡ Some x → test x ≡ true
found_passes test [] x h = absurd (cc)
found_passes {X} test (y ∷ ys) x h = step (test y) refl (λ k. found_passes test ys x k)
  where
    step : (b : Bool) → test y ≡ b → (find test ys ≡ Some x → test x ≡ true) → test x ≡ true
    step true e ih = let same : Some y ≡ Some x = rw e at h in let same' : y ≡ x = cc in sym (ap test same') ∙ e
    step false e ih = ih (rw e at h)

pub found_holds : {X : Type 0} (P : X → Type 0) (test : X → Bool) (xs : List X) (x : X) → find test xs ≡ Some x → AllByRecursion P xs → P x
found_holds P test [] x h k = absurd (cc)
found_holds {X} P test (y ∷ ys) x h k = step (test y) refl (λ e. found_holds P test ys x e k.1)
  where
    step : (b : Bool) → test y ≡ b → (find test ys ≡ Some x → P x) → P x
    step true e ih = let same : Some y ≡ Some x = rw e at h in let same' : y ≡ x = cc in subst P same' k.0
    step false e ih = ih (rw e at h)

finds_cons : {X : Type 0} (test : X → Bool) (x : X) (xs : List X) → Finds test xs → Finds test (x ∷ xs)
finds_cons {X} test x xs h = step (test x) refl
  where
    step : (b : Bool) → test x ≡ b → Finds test (x ∷ xs)
    step true e = (x, rw e refl)
    step false e = (h.0, rw e h.1)

finds_right : {X : Type 0} (test : X → Bool) (xs ys : List X) → Finds test ys → Finds test (xs ++ ys)
finds_right test [] ys h = h
finds_right test (x ∷ xs) ys h = finds_cons test x (xs ++ ys) (finds_right test xs ys h)

finds_left : {X : Type 0} (test : X → Bool) (xs ys : List X) → Finds test xs → Finds test (xs ++ ys)
finds_left test [] ys h = absurd (cc h.1)
finds_left {X} test (x ∷ xs) ys h = step (test x) refl (λ k. finds_left test xs ys k)
  where
    step : (b : Bool) → test x ≡ b → (Finds test xs → Finds test (xs ++ ys)) → Finds test (x ∷ (xs ++ ys))
    step true e ih = (x, rw e refl)
    step false e ih = let rest : Finds test (xs ++ ys) = ih (h.0, rw e at h.1) in (rest.0, rw e rest.1)

-- what is found among the names is found among the named
pub finds_named : {X Y : Type 0} (name : X → Y) (test : Y → Bool) (xs : List X) → Finds test (map name xs) → Finds (λ x. test (name x)) xs
finds_named name test [] h = absurd (cc h.1)
finds_named {X} {Y} name test (x ∷ xs) h = step (test (name x)) refl (λ k. finds_named name test xs k)
  where
    step : (b : Bool) → test (name x) ≡ b → (Finds test (map name xs) → Finds (λ x. test (name x)) xs) → Finds (λ x. test (name x)) (x ∷ xs)
    step true e ih = (x, rw e refl)
    step false e ih = let rest : Finds (λ x. test (name x)) xs = ih (h.0, rw e at h.1) in (rest.0, rw e rest.1)

is_name : ℕ → ℕ → QueueName → Bool
is_name a q n = nat_eq n.activation a && nat_eq n.queue q

finds_queue : (g a q low n : ℕ) → low ≤ q → q < low + n → Finds (is_name a q) (map (λ q. record { guest = g; activation = a; queue = q }) (upto low n))
unfolding is_name
finds_queue g a q low zero le lt = absurd (omega arith)
finds_queue g a q low (suc n) le lt = elim (eqb_tells low q) [
  | inl p ↦ let e : nat_eq a a ≡ true = grind (arith, nat_tests) in (record { guest = g; activation = a; queue = low }, rw (e, p.0) refl)
  | inr p ↦ finds_cons (is_name a q) _ _ (finds_queue g a q (low + 1) n (omega arith) (omega arith))
]

finds_activation : (g a q queues low n : ℕ) → low ≤ a → a < low + n → q < queues → Finds (is_name a q) (flat_map (queue_names g queues) (upto low n))
finds_activation g a q queues low zero le lt l = absurd (omega arith)
finds_activation g a q queues low (suc n) le lt l = elim (eqb_tells low a) [
  | inl p ↦ finds_left (is_name a q) (queue_names g queues low) _ (subst (λ b. Finds (is_name a q) (queue_names g queues b)) (sym p.1) (finds_queue g a q 0 queues (omega arith) (omega arith)))
  | inr p ↦ finds_right (is_name a q) (queue_names g queues low) _ (finds_activation g a q queues (low + 1) n (omega arith) (omega arith) l)
]

-- each queue of each activation has its facts
pub finds_tx : (p : GuestPlan) (g queues a q : ℕ) (fs : List TxView) → map (λ (f : TxView). f.made.name) fs ≡ names g p queues → a < activations p → q < queues → Finds (tx_named a q) fs
unfolding is_name
finds_tx p g queues a q fs h la lq = finds_named (λ (f : TxView). f.made.name) (is_name a q) fs (rw h (finds_activation g a q queues 0 (activations p) (omega arith) (omega arith) lq))

pub finds_rx : (p : GuestPlan) (g queues a q : ℕ) (fs : List RxView) → map (λ (f : RxView). f.made.name) fs ≡ names g p queues → a < activations p → q < queues → Finds (rx_named a q) fs
unfolding is_name
finds_rx p g queues a q fs h la lq = finds_named (λ (f : RxView). f.made.name) (is_name a q) fs (rw h (finds_activation g a q queues 0 (activations p) (omega arith) (omega arith) lq))

count_narrow : {X : Type 0} (test other : X → Bool) (xs : List X) → count test (filter other xs) ≤ count test xs
count_narrow test other [] = omega arith
count_narrow {X} test other (x ∷ xs) = step (other x) (test x) refl refl (count_narrow test other xs)
  where
    step : (b c : Bool) → other x ≡ b → test x ≡ c → count test (filter other xs) ≤ count test xs → count test (filter other (x ∷ xs)) ≤ count test (x ∷ xs)
    step true true e k ih = rw (e, k) (omega arith)
    step true false e k ih = rw (e, k) ih
    step false true e k ih = rw (e, k) (omega arith)
    step false false e k ih = rw (e, k) ih

pub activation_within : (p : GuestPlan) (i : ℕ) → activation_at p i < activations p
activation_within p i = let le = count_narrow (λ (x : Action). begins x.deed) (λ (x : Action). nat_le x.at i) p.script in omega arith

is_pair : ℕ → ℕ → ℕ × ℕ → Bool
is_pair from to x = nat_eq x.0 from && nat_eq x.1 to

finds_pair : (from to low n : ℕ) → low ≤ to → to < low + n → nat_eq to from ≡ false → Finds (is_pair from to) (filter_map (λ x. if nat_eq from x then None else Some (from, x)) (upto low n))
unfolding is_pair
finds_pair from to low zero le lt ne = absurd (omega arith)
finds_pair from to low (suc n) le lt ne = elim (eqb_tells low to) [
  | inl p ↦ let e : nat_eq from low ≡ false = grind (arith, nat_tests) in let e' : nat_eq from from ≡ true = grind (arith, nat_tests) in ((from, low), rw (e, e', p.0) refl)
  | inr p ↦ step (nat_eq from low) refl (finds_pair from to (low + 1) n (omega arith) (omega arith) ne)
]
  where
    step : (b : Bool) → nat_eq from low ≡ b → Finds (is_pair from to) (filter_map (λ x. if nat_eq from x then None else Some (from, x)) (upto (low + 1) n)) → Finds (is_pair from to) (filter_map (λ x. if nat_eq from x then None else Some (from, x)) (upto low (suc n)))
    step true e h = rw e h
    step false e h = rw e (finds_cons (is_pair from to) _ _ h)

finds_pairs : (n from to low m : ℕ) → low ≤ from → from < low + m → to < n → nat_eq to from ≡ false → Finds (is_pair from to) (flat_map (link_names n) (upto low m))
finds_pairs n from to low zero le lt l ne = absurd (omega arith)
finds_pairs n from to low (suc m) le lt l ne = elim (eqb_tells low from) [
  | inl p ↦ finds_left (is_pair from to) (link_names n low) _ (subst (λ b. Finds (is_pair from to) (link_names n b)) (sym p.1) (finds_pair from to 0 n (omega arith) (omega arith) ne))
  | inr p ↦ finds_right (is_pair from to) (link_names n low) _ (finds_pairs n from to (low + 1) m (omega arith) (omega arith) l ne)
]

-- each ordered pair of ports has its link
pub finds_link : (n from to : ℕ) (ls : List LinkView) → map (λ (l : LinkView). (l.from, l.to)) ls ≡ flat_map (link_names n) (upto 0 n) → from < n → to < n → nat_eq to from ≡ false → Finds (is_link from to) ls
unfolding is_pair
finds_link n from to ls h lf lt ne = finds_named (λ (l : LinkView). (l.from, l.to)) (is_pair from to) ls (rw h (finds_pairs n from to 0 n (omega arith) (omega arith) lt ne))
