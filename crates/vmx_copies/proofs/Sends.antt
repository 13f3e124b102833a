-- What a journal gives to the switch from a queue, in a record that accounts: each taken frame to its targets, in the order of places.
use Rattle.std.proofs.Common.{◌≡◌, ◌≢◌, ℕ, zero, suc, ◌+◌, ◌<◌, ◌≤◌, Bool, true, false, nat_eq, ◌&&◌, if◌then◌else◌, List, [], ◌∷◌, ◌++◌, length, map, refl, ap, sym, ◌∙◌, subst, append-nil, arith, Option, Some, None}
use Rattle.std.specs.List.{filter, filter_map, slice_get, AllByRecursion}
use Rattle.std.proofs.lemmas.Bool.Decides.{nat_tests}
use Rattle.std.proofs.lemmas.List.{map-append}
use Rattle.std.proofs.lemmas.List.Elements.{filter-append}
use Rattle.vmx_switch.specs.Ports.{Wiring}
use Rattle.vmx_ends.specs.declared.packet.Tag.{Tag}
use Rattle.vmx_model.specs.declared.journal.Entry.{Entry}
use Rattle.vmx_model.specs.declared.journal.Way.{Way}
use Rattle.vmx_model.specs.declared.journal.Entry.TheVariants as entry
use Rattle.vmx_model.specs.Lists.{Rises}
use Rattle.vmx_model.specs.Wire.{targets}
use Rattle.vmx_model.specs.Fates.{same_tag, ways, tag_at}
use Rattle.vmx_model.specs.Account.{Send, send_of, of_queue, sends_on, frame_sends, planned}
use Rattle.vmx_model.proofs.Lists.{all_weaker}
use Rattle.vmx_buckets.specs.declared.sends.Switched.{Switched}
use Rattle.vmx_buckets.specs.declared.sends.Toward.{Toward}
use Rattle.vmx_buckets.specs.Buckets.{switched_in, switched_on}
use Rattle.vmx_copies.specs.Join.{IsInOrder, here}

-- a place, and the target of a frame given to the switch
abbrev pub Aim : Type 0
Aim = ℕ × Option ℕ

abbrev pub target_of : Option Toward → Option ℕ
target_of None = None
target_of (Some t) = Some t.target

abbrev pub aim : Switched → Aim
aim s = (s.place, target_of s.to)

abbrev pub send_aim : Send → Aim
send_aim s = (s.tag.place, s.target)

-- a journal's frames of a queue, either way
pub aims : (a q : ℕ) (es : List Entry) → map aim (switched_on a q es) ≡ map send_aim (sends_on a q es)
aims a q [] = refl
aims a q (entry.Setting number answer setup ∷ es) = aims a q es
aims a q (entry.In from place f ∷ es) = aims a q es
aims a q (entry.Lost tag ∷ es) = step (nat_eq tag.activation a && nat_eq tag.queue q) refl (aims a q es)
  where
    step : (b : Bool) → (nat_eq tag.activation a && nat_eq tag.queue q) ≡ b → map aim (switched_on a q es) ≡ map send_aim (sends_on a q es) → map aim (switched_on a q (entry.Lost tag ∷ es)) ≡ map send_aim (sends_on a q (entry.Lost tag ∷ es))
    step true e ih = rw e (ap (λ (xs : List Aim). (tag.place, None) ∷ xs) ih)
    step false e ih = rw e ih
aims a q (entry.Out tag target way ∷ es) = step (nat_eq tag.activation a && nat_eq tag.queue q) refl (aims a q es)
  where
    step : (b : Bool) → (nat_eq tag.activation a && nat_eq tag.queue q) ≡ b → map aim (switched_on a q es) ≡ map send_aim (sends_on a q es) → map aim (switched_on a q (entry.Out tag target way ∷ es)) ≡ map send_aim (sends_on a q (entry.Out tag target way ∷ es))
    step true e ih = rw e (ap (λ (xs : List Aim). (tag.place, Some target) ∷ xs) ih)
    step false e ih = rw e ih

-- ------------------------------------------------------------ planned sends

abbrev pub frame_aims : ℕ → List ℕ → List Aim
frame_aims k [] = (k, None) ∷ []
frame_aims k (t ∷ ts) = map (λ x. (k, Some x)) (t ∷ ts)

abbrev pub planned_aims : Wiring → ℕ → ℕ → List (List ℕ) → List Aim
planned_aims w g k [] = []
planned_aims w g k (f ∷ fs) = frame_aims k (targets w g f) ++ planned_aims w g (k + 1) fs

target_aims : (t : Tag) (ts : List ℕ) → map send_aim (map (λ x. record { tag = t; target = Some x }) ts) ≡ map (λ x. (t.place, Some x)) ts
target_aims t [] = refl
target_aims t (x ∷ ts) = ap (λ (xs : List Aim). (t.place, Some x) ∷ xs) (target_aims t ts)

sends_aims : (t : Tag) (ts : List ℕ) → map send_aim (frame_sends t ts) ≡ frame_aims t.place ts
sends_aims t [] = refl
sends_aims t (x ∷ ts) = target_aims t (x ∷ ts)

pub planned_are : (w : Wiring) (g a q k : ℕ) (fs : List (List ℕ)) → map send_aim (planned w g a q k fs) ≡ planned_aims w g k fs
planned_are w g a q k [] = refl
planned_are w g a q k (f ∷ fs) =
    map-append send_aim (frame_sends (tag_at g a q k) (targets w g f)) (planned w g a q (k + 1) fs)
    ∙ ap (λ (xs : List Aim). xs ++ map send_aim (planned w g a q (k + 1) fs)) (sends_aims (tag_at g a q k) (targets w g f))
    ∙ ap (λ (xs : List Aim). frame_aims k (targets w g f) ++ xs) (planned_are w g a q (k + 1) fs)

-- their tags are of one guest

all_both : (P : Send → Type 0) (xs ys : List Send) → AllByRecursion P xs → AllByRecursion P ys → AllByRecursion P (xs ++ ys)
all_both P [] ys h k = k
all_both P (x ∷ xs) ys h k = (h.0, all_both P xs ys h.1 k)

targets_guest : (t : Tag) (g : ℕ) (ts : List ℕ) → nat_eq t.guest g ≡ true → AllByRecursion (λ (s : Send). nat_eq s.tag.guest g ≡ true) (map (λ x. record { tag = t; target = Some x }) ts)
targets_guest t g [] e = tt
targets_guest t g (x ∷ ts) e = (e, targets_guest t g ts e)

sends_guest : (t : Tag) (g : ℕ) (ts : List ℕ) → nat_eq t.guest g ≡ true → AllByRecursion (λ (s : Send). nat_eq s.tag.guest g ≡ true) (frame_sends t ts)
sends_guest t g [] e = (e, tt)
sends_guest t g (x ∷ ts) e = targets_guest t g (x ∷ ts) e

pub planned_guest : (w : Wiring) (g a q k : ℕ) (fs : List (List ℕ)) → AllByRecursion (λ (s : Send). nat_eq s.tag.guest g ≡ true) (planned w g a q k fs)
planned_guest w g a q k [] = tt
planned_guest w g a q k (f ∷ fs) = all_both (λ (s : Send). nat_eq s.tag.guest g ≡ true) (frame_sends (tag_at g a q k) (targets w g f)) (planned w g a q (k + 1) fs)
    (sends_guest (tag_at g a q k) g (targets w g f) (let e : nat_eq g g ≡ true = grind (arith, nat_tests) in e)) (planned_guest w g a q (k + 1) fs)

-- ------------------------------------------------------------ the order of places

abbrev IsFrom : ℕ → Aim → Type 0
IsFrom k u = k ≤ u.0

abbrev NotFalling : Aim → Aim → Type 0
NotFalling u v = u.0 ≤ v.0

all_aims : (P : Aim → Type 0) (xs ys : List Aim) → AllByRecursion P xs → AllByRecursion P ys → AllByRecursion P (xs ++ ys)
all_aims P [] ys h k = k
all_aims P (x ∷ xs) ys h k = (h.0, all_aims P xs ys h.1 k)

targets_from : (k : ℕ) (ts : List ℕ) → AllByRecursion (IsFrom k) (map (λ x. (k, Some x)) ts)
targets_from k [] = tt
targets_from k (x ∷ ts) = (let le : k ≤ k = omega arith in le, targets_from k ts)

frame_from : (k : ℕ) (ts : List ℕ) → AllByRecursion (IsFrom k) (frame_aims k ts)
frame_from k [] = (let le : k ≤ k = omega arith in le, tt)
frame_from k (x ∷ ts) = targets_from k (x ∷ ts)

planned_from : (w : Wiring) (g k : ℕ) (fs : List (List ℕ)) → AllByRecursion (IsFrom k) (planned_aims w g k fs)
planned_from w g k [] = tt
planned_from w g k (f ∷ fs) = all_aims (IsFrom k) (frame_aims k (targets w g f)) (planned_aims w g (k + 1) fs) (frame_from k (targets w g f))
    (all_weaker (IsFrom (k + 1)) (IsFrom k) (λ u le. let h : k + 1 ≤ u.0 = le in let l : k ≤ u.0 = omega (arith, h) in l) (planned_aims w g (k + 1) fs) (planned_from w g (k + 1) fs))

rise_targets : (k : ℕ) (ts : List ℕ) (rest : List Aim) → AllByRecursion (IsFrom k) rest → Rises NotFalling rest → Rises NotFalling (map (λ x. (k, Some x)) ts ++ rest)
rise_targets k [] rest low h = h
rise_targets k (x ∷ ts) rest low h = (all_aims (IsFrom k) (map (λ x. (k, Some x)) ts) rest (targets_from k ts) low, rise_targets k ts rest low h)

rise_frame : (k : ℕ) (ts : List ℕ) (rest : List Aim) → AllByRecursion (IsFrom k) rest → Rises NotFalling rest → Rises NotFalling (frame_aims k ts ++ rest)
rise_frame k [] rest low h = (low, h)
rise_frame k (x ∷ ts) rest low h = rise_targets k (x ∷ ts) rest low h

planned_rise : (w : Wiring) (g k : ℕ) (fs : List (List ℕ)) → Rises NotFalling (planned_aims w g k fs)
planned_rise w g k [] = tt
planned_rise w g k (f ∷ fs) = rise_frame k (targets w g f) (planned_aims w g (k + 1) fs)
    (all_weaker (IsFrom (k + 1)) (IsFrom k) (λ u le. let h : k + 1 ≤ u.0 = le in let l : k ≤ u.0 = omega (arith, h) in l) (planned_aims w g (k + 1) fs) (planned_from w g (k + 1) fs)) (planned_rise w g (k + 1) fs)

all_by_aim : (P : Aim → Type 0) (xs : List Switched) → AllByRecursion P (map aim xs) → AllByRecursion (λ (s : Switched). P (aim s)) xs
all_by_aim P [] h = tt
all_by_aim P (x ∷ xs) h = (h.0, all_by_aim P xs h.1)

rise_by_aim : (xs : List Switched) → Rises NotFalling (map aim xs) → IsInOrder xs
rise_by_aim [] h = tt
rise_by_aim (x ∷ xs) h = (all_by_aim (NotFalling (aim x)) xs h.0, rise_by_aim xs h.1)

-- so what a queue gives stands in order
pub in_order : (w : Wiring) (g a q : ℕ) (es : List Entry) (fs : List (List ℕ)) → sends_on a q es ≡ planned w g a q 0 fs → IsInOrder (switched_on a q es)
in_order w g a q es fs e = rise_by_aim (switched_on a q es) (subst (Rises NotFalling) (sym (aims a q es ∙ ap (map send_aim) e ∙ planned_are w g a q 0 fs)) (planned_rise w g 0 fs))

-- ------------------------------------------------------------ the frame of a place

abbrev is_at : ℕ → Aim → Bool
is_at k u = nat_eq u.0 k

pub here_aims : (k : ℕ) (xs : List Switched) → map aim (here k xs) ≡ filter (is_at k) (map aim xs)
here_aims k [] = refl
here_aims k (x ∷ xs) = step (nat_eq x.place k) refl (here_aims k xs)
  where
    step : (b : Bool) → nat_eq x.place k ≡ b → map aim (here k xs) ≡ filter (is_at k) (map aim xs) → map aim (here k (x ∷ xs)) ≡ filter (is_at k) (map aim (x ∷ xs))
    step true e ih = rw e (ap (λ (ys : List Aim). aim x ∷ ys) ih)
    step false e ih = rw e ih

none_at : (k : ℕ) (xs : List Aim) → AllByRecursion (IsFrom (k + 1)) xs → filter (is_at k) xs ≡ []
none_at k [] h = refl
none_at k (u ∷ xs) h = let le : k + 1 ≤ u.0 = h.0 in let e : nat_eq u.0 k ≡ false = grind (arith, nat_tests, le) in rw e (none_at k xs h.1)

targets_at : (k j : ℕ) (b : Bool) → nat_eq j k ≡ b → (ts : List ℕ) → filter (is_at k) (map (λ x. (j, Some x)) ts) ≡ (if b then map (λ x. (j, Some x)) ts else [])
targets_at k j true e [] = refl
targets_at k j false e [] = refl
targets_at k j true e (x ∷ ts) = rw e (ap (λ (ys : List Aim). (j, Some x) ∷ ys) (targets_at k j true e ts))
targets_at k j false e (x ∷ ts) = rw e (targets_at k j false e ts)

frame_at : (k j : ℕ) (b : Bool) → nat_eq j k ≡ b → (ts : List ℕ) → filter (is_at k) (frame_aims j ts) ≡ (if b then frame_aims j ts else [])
frame_at k j true e [] = rw e refl
frame_at k j false e [] = rw e refl
frame_at k j b e (x ∷ ts) = picked b (targets_at k j b e (x ∷ ts))
  where
    picked : (b : Bool) → filter (is_at k) (map (λ x. (j, Some x)) (x ∷ ts)) ≡ (if b then map (λ x. (j, Some x)) (x ∷ ts) else []) → filter (is_at k) (frame_aims j (x ∷ ts)) ≡ (if b then frame_aims j (x ∷ ts) else [])
    picked true h = h
    picked false h = h

-- of the planned sends those of place k
pub planned_at : (w : Wiring) (g j i k : ℕ) (fs : List (List ℕ)) (f : List ℕ) → j + i ≡ k → slice_get fs i ≡ Some f → filter (is_at k) (planned_aims w g j fs) ≡ frame_aims k (targets w g f)
planned_at w g j i k [] f e at = absurd (cc at)
planned_at w g j zero k (h ∷ fs) f e at =
    let same : h ≡ f = cc at in
    let place : j ≡ k = omega (arith, e) in
    let is : nat_eq j k ≡ true = grind (arith, nat_tests, place) in
    let none : filter (is_at k) (planned_aims w g (j + 1) fs) ≡ [] = none_at k (planned_aims w g (j + 1) fs) (all_weaker (IsFrom (j + 1)) (IsFrom (k + 1)) (λ u le. let h : j + 1 ≤ u.0 = le in let l : k + 1 ≤ u.0 = omega (arith, h, place) in l) (planned_aims w g (j + 1) fs) (planned_from w g (j + 1) fs)) in
    filter-append (is_at k) (frame_aims j (targets w g h)) (planned_aims w g (j + 1) fs)
    ∙ ap (λ (xs : List Aim). filter (is_at k) (frame_aims j (targets w g h)) ++ xs) none
    ∙ append-nil (filter (is_at k) (frame_aims j (targets w g h)))
    ∙ frame_at k j true is (targets w g h)
    ∙ (λ i. frame_aims (place i) (targets w g (same i)))
planned_at w g j (suc i) k (h ∷ fs) f e at =
    let is : nat_eq j k ≡ false = grind (arith, nat_tests, e) in
    filter-append (is_at k) (frame_aims j (targets w g h)) (planned_aims w g (j + 1) fs)
    ∙ ap (λ (xs : List Aim). xs ++ filter (is_at k) (planned_aims w g (j + 1) fs)) (frame_at k j false is (targets w g h))
    ∙ planned_at w g (j + 1) i k fs f (omega (arith, e)) at

-- behind the last there are none
pub planned_past : (w : Wiring) (g j k : ℕ) (fs : List (List ℕ)) → j + length fs ≤ k → filter (is_at k) (planned_aims w g j fs) ≡ []
planned_past w g j k [] le = refl
planned_past w g j k (f ∷ fs) le =
    let is : nat_eq j k ≡ false = grind (arith, nat_tests, le) in
    filter-append (is_at k) (frame_aims j (targets w g f)) (planned_aims w g (j + 1) fs)
    ∙ ap (λ (xs : List Aim). xs ++ filter (is_at k) (planned_aims w g (j + 1) fs)) (frame_at k j false is (targets w g f))
    ∙ planned_past w g (j + 1) k fs (omega (arith, le))

-- ------------------------------------------------------------ the ways of a copy

-- the way of a frame given to this target
abbrev pub way_to : ℕ → Option Toward → Option Way
way_to to None = None
way_to to (Some t) = if nat_eq t.target to then Some t.way else None

-- the way to a target, among what was given of one frame
abbrev pub ways_in : ℕ → List Switched → List Way
ways_in to xs = filter_map (λ (s : Switched). way_to to s.to) xs

-- what a journal shows of a copy is what it gave of the frame to that target
pub ways_here : (g a q k to : ℕ) (es : List Entry) → AllByRecursion (λ (s : Send). nat_eq s.tag.guest g ≡ true) (sends_on a q es) → ways (tag_at g a q k) to es ≡ ways_in to (here k (switched_on a q es))
ways_here g a q k to [] h = refl
ways_here g a q k to (entry.Setting number answer setup ∷ es) h = ways_here g a q k to es h
ways_here g a q k to (entry.In from place f ∷ es) h = ways_here g a q k to es h
ways_here g a q k to (entry.Lost tag ∷ es) h = step (nat_eq tag.activation a && nat_eq tag.queue q) (nat_eq tag.place k) refl refl (λ x. ways_here g a q k to es x)
  where
    step : (b c : Bool) → (nat_eq tag.activation a && nat_eq tag.queue q) ≡ b → nat_eq tag.place k ≡ c → (AllByRecursion (λ (s : Send). nat_eq s.tag.guest g ≡ true) (sends_on a q es) → ways (tag_at g a q k) to es ≡ ways_in to (here k (switched_on a q es)))
        → ways (tag_at g a q k) to (entry.Lost tag ∷ es) ≡ ways_in to (here k (switched_on a q (entry.Lost tag ∷ es)))
    step true true e f ih = let all = rw e at h in rw (e, f) (ih all.1)
    step true false e f ih = let all = rw e at h in rw (e, f) (ih all.1)
    step false c e f ih = let all = rw e at h in rw e (ih all)
ways_here g a q k to (entry.Out tag target way ∷ es) h = step (nat_eq tag.activation a) (nat_eq tag.queue q) (nat_eq tag.place k) (nat_eq target to) refl refl refl refl (λ x. ways_here g a q k to es x)
  where
    other_queue : (b : Bool) → nat_eq tag.guest g ≡ b → nat_eq tag.activation a ≡ true → nat_eq tag.queue q ≡ false → ways (tag_at g a q k) to es ≡ ways_in to (here k (switched_on a q es)) → ways (tag_at g a q k) to (entry.Out tag target way ∷ es) ≡ ways_in to (here k (switched_on a q (entry.Out tag target way ∷ es)))
    other_queue true x e1 e2 y = rw (x, e1, e2) y
    other_queue false x e1 e2 y = rw (x, e1, e2) y

    other_activation : (b : Bool) → nat_eq tag.guest g ≡ b → nat_eq tag.activation a ≡ false → ways (tag_at g a q k) to es ≡ ways_in to (here k (switched_on a q es)) → ways (tag_at g a q k) to (entry.Out tag target way ∷ es) ≡ ways_in to (here k (switched_on a q (entry.Out tag target way ∷ es)))
    other_activation true x e1 y = rw (x, e1) y
    other_activation false x e1 y = rw (x, e1) y

    step : (b1 b2 c d : Bool) → nat_eq tag.activation a ≡ b1 → nat_eq tag.queue q ≡ b2 → nat_eq tag.place k ≡ c → nat_eq target to ≡ d → (AllByRecursion (λ (s : Send). nat_eq s.tag.guest g ≡ true) (sends_on a q es) → ways (tag_at g a q k) to es ≡ ways_in to (here k (switched_on a q es)))
        → ways (tag_at g a q k) to (entry.Out tag target way ∷ es) ≡ ways_in to (here k (switched_on a q (entry.Out tag target way ∷ es)))
    step true true true true e1 e2 f t ih = let all = rw (e1, e2) at h in rw (all.0, e1, e2, f, t) (ap (λ (xs : List Way). way ∷ xs) (ih all.1))
    step true true true false e1 e2 f t ih = let all = rw (e1, e2) at h in rw (all.0, e1, e2, f, t) (ih all.1)
    step true true false d e1 e2 f t ih = let all = rw (e1, e2) at h in rw (all.0, e1, e2, f) (ih all.1)
    step true false c d e1 e2 f t ih = let all = rw (e1, e2) at h in other_queue (nat_eq tag.guest g) refl e1 e2 (ih all)
    step false b2 c d e1 e2 f t ih = let all = rw e1 at h in other_activation (nat_eq tag.guest g) refl e1 (ih all)
