-- Each copy has exactly one fate.
use Rattle.std.proofs.Common.{◌≡◌, ◌≢◌, ℕ, zero, suc, ◌+◌, ◌<◌, List, [], ◌∷◌, ◌++◌, length, map, refl, ap, sym, ◌∙◌, arith, nat_eq, true, false, Bool, cond, subst, append-nil, ◌&&◌, Option, Some, None}
use Rattle.std.proofs.lemmas.Bool.{and_parts, and_from}
use Rattle.std.proofs.lemmas.Bool.Decides.{nat_tests}
use Rattle.std.specs.List.{filter, filter_map, slice_get, AllByRecursion, range_with_len}
use Rattle.std.specs.Prelude.{nat_lt}
use Rattle.vmx_model.specs.Types.{Tag, Entry, Way}
use Rattle.vmx_model.specs.declared.journal.Entry.TheVariants as entry
use Rattle.vmx_model.specs.declared.journal.Fate.TheVariants as fate
use Rattle.vmx_model.specs.declared.journal.Way.TheVariants as way
use Rattle.vmx_model.specs.Lists.{count, IsOne, Rises, upto}
use Rattle.vmx_switch.specs.Ports.{Wiring, target_ports, is_target}
use Rattle.vmx_model.specs.Wire.{targets}
use Rattle.vmx_model.specs.Fates.{same_tag, ways, arrivals, way_fates, copy_fates, tag_at}
use Rattle.vmx_model.specs.Account.{Send, send_of, of_queue, sends_on, frame_sends, planned, place_to, place_from}
use Rattle.vmx_model.proofs.Lists.{count-append, filter_narrow, one_from_length, all_weaker, rises_once, upto_once, upto_below}

abbrev pub goes_to : ℕ → Option ℕ → Bool
goes_to to None = false
goes_to to (Some x) = nat_eq x to

-- a frame is given to this target
abbrev pub is_copy : Tag → ℕ → Send → Bool
is_copy t to s = same_tag s.tag t && goes_to to s.target

-- the ways of a copy are as many as its sends
pub ways_count : (t : Tag) (to : ℕ) (es : List Entry) → length (ways t to es) ≡ count (is_copy t to) (filter_map send_of es)
ways_count t to [] = refl
ways_count t to (entry.Setting number answer setup ∷ es) = ways_count t to es
ways_count t to (entry.In from place f ∷ es) = ways_count t to es
ways_count t to (entry.Lost tag ∷ es) = step (same_tag tag t) refl (ways_count t to es)
  where
    step : (b : Bool) → same_tag tag t ≡ b → length (ways t to es) ≡ count (is_copy t to) (filter_map send_of es) → length (ways t to (entry.Lost tag ∷ es)) ≡ count (is_copy t to) (filter_map send_of (entry.Lost tag ∷ es))
    step true h ih = rw h ih
    step false h ih = rw h ih
ways_count t to (entry.Out tag target w ∷ es) = step (same_tag tag t && nat_eq target to) refl (ways_count t to es)
  where
    step : (b : Bool) → (same_tag tag t && nat_eq target to) ≡ b → length (ways t to es) ≡ count (is_copy t to) (filter_map send_of es) → length (ways t to (entry.Out tag target w ∷ es)) ≡ count (is_copy t to) (filter_map send_of (entry.Out tag target w ∷ es))
    step true h ih = rw (h, ih) refl
    step false h ih = rw h ih

-- the fates of a packet are as many as its arrivals
pub arrivals_count : (sender at : ℕ) (es : List Entry) → length (arrivals sender at es) ≡ count (λ z. nat_eq z at) (filter_map (place_from sender) es)
arrivals_count sender at [] = refl
arrivals_count sender at (entry.Setting number answer setup ∷ es) = arrivals_count sender at es
arrivals_count sender at (entry.Out tag target w ∷ es) = arrivals_count sender at es
arrivals_count sender at (entry.Lost tag ∷ es) = arrivals_count sender at es
arrivals_count sender at (entry.In from place f ∷ es) = step (nat_eq from sender) (nat_eq place at) refl refl (arrivals_count sender at es)
  where
    step : (b c : Bool) → nat_eq from sender ≡ b → nat_eq place at ≡ c → length (arrivals sender at es) ≡ count (λ z. nat_eq z at) (filter_map (place_from sender) es) → length (arrivals sender at (entry.In from place f ∷ es)) ≡ count (λ z. nat_eq z at) (filter_map (place_from sender) (entry.In from place f ∷ es))
    step true true h k ih = rw (h, k, ih) refl
    step true false h k ih = rw (h, k) ih
    step false c h k ih = rw h ih

-- what holds of the places on a link holds of the ways to its target
abbrev pub WayFits : (ℕ → Type 0) → Way → Type 0
WayFits P (way.Link place) = P place
WayFits P (way.Full look) = Unit {0}

pub ways_fit : (P : ℕ → Type 0) (t : Tag) (to : ℕ) (es : List Entry) → AllByRecursion P (filter_map (place_to to) es) → AllByRecursion (WayFits P) (ways t to es)
ways_fit P t to [] h = tt
ways_fit P t to (entry.Setting number answer setup ∷ es) h = ways_fit P t to es h
ways_fit P t to (entry.In from place f ∷ es) h = ways_fit P t to es h
ways_fit P t to (entry.Lost tag ∷ es) h = ways_fit P t to es h
ways_fit P t to (entry.Out tag target (way.Full look) ∷ es) h = step (same_tag tag t && nat_eq target to) refl (ways_fit P t to es h)
  where
    step : (b : Bool) → (same_tag tag t && nat_eq target to) ≡ b → AllByRecursion (WayFits P) (ways t to es) → AllByRecursion (WayFits P) (ways t to (entry.Out tag target (way.Full look) ∷ es))
    step true e ih = rw e (tt, ih)
    step false e ih = rw e ih
ways_fit P t to (entry.Out tag target (way.Link place) ∷ es) h = step (same_tag tag t) (nat_eq target to) refl refl (λ k. ways_fit P t to es k)
  where
    step : (b c : Bool) → same_tag tag t ≡ b → nat_eq target to ≡ c → (AllByRecursion P (filter_map (place_to to) es) → AllByRecursion (WayFits P) (ways t to es)) → AllByRecursion (WayFits P) (ways t to (entry.Out tag target (way.Link place) ∷ es))
    step true true e k ih = let all = rw k at h in rw (e, k) (all.0, ih all.1)
    step true false e k ih = rw (e, k) (ih (rw k at h))
    step false true e k ih = let all = rw k at h in rw e (ih all.1)
    step false false e k ih = rw e (ih (rw k at h))

-- the targets rise, so each stands there once
kept_past : (test : ℕ → Bool) (from n low : ℕ) → low < from → AllByRecursion (λ x. low < x) (filter test (range_with_len from n))
kept_past test from zero low lt = tt
kept_past test from (suc n) low lt = step (test from) refl (kept_past test (from + 1) n low (omega arith))
  where
    step : (b : Bool) → test from ≡ b → AllByRecursion (λ x. low < x) (filter test (range_with_len (from + 1) n)) → AllByRecursion (λ x. low < x) (filter test (range_with_len from (suc n)))
    step true e ih = rw e (lt, ih)
    step false e ih = rw e ih

kept_rise : (test : ℕ → Bool) (from n : ℕ) → Rises (λ x y. x < y) (filter test (range_with_len from n))
kept_rise test from zero = tt
kept_rise test from (suc n) = step (test from) refl (kept_rise test (from + 1) n)
  where
    step : (b : Bool) → test from ≡ b → Rises (λ x y. x < y) (filter test (range_with_len (from + 1) n)) → Rises (λ x y. x < y) (filter test (range_with_len from (suc n)))
    step true e ih = rw e (kept_past test (from + 1) n from (omega arith), ih)
    step false e ih = rw e ih

pub targets_rise : (net : Wiring) (from : ℕ) (frame : List ℕ) → Rises (λ x y. x < y) (targets net from frame)
unfolding target_ports
targets_rise net from frame = kept_rise (is_target net from frame) 0 (length net.macs)

pub targets_once : (net : Wiring) (from : ℕ) (frame : List ℕ) → AllByRecursion (λ x. count (λ z. nat_eq z x) (targets net from frame) ≡ 1) (targets net from frame)
targets_once net from frame = rises_once (targets net from frame) (targets_rise net from frame)

-- a frame's sends to a target, and another frame's
same_itself : (t : Tag) → same_tag t t ≡ true
same_itself t = let g : nat_eq t.guest t.guest ≡ true = grind (arith, nat_tests) in
    let a : nat_eq t.activation t.activation ≡ true = grind (arith, nat_tests) in
    let q : nat_eq t.queue t.queue ≡ true = grind (arith, nat_tests) in
    let k : nat_eq t.place t.place ≡ true = grind (arith, nat_tests) in rw (g, a, q, k) refl

map_sends : (s t : Tag) (to : ℕ) (b : Bool) → same_tag s t ≡ b → (tos : List ℕ) → count (is_copy t to) (map (λ x. record { tag = s; target = Some x }) tos) ≡ cond b (count (λ z. nat_eq z to) tos) 0
map_sends s t to true e [] = refl
map_sends s t to false e [] = refl
map_sends s t to true e (x ∷ xs) = step (nat_eq x to) refl (map_sends s t to true e xs)
  where
    step : (c : Bool) → nat_eq x to ≡ c → count (is_copy t to) (map (λ x. record { tag = s; target = Some x }) xs) ≡ count (λ z. nat_eq z to) xs → count (is_copy t to) (map (λ x. record { tag = s; target = Some x }) (x ∷ xs)) ≡ count (λ z. nat_eq z to) (x ∷ xs)
    step true k ih = rw (e, k, ih) refl
    step false k ih = rw (e, k) ih
map_sends s t to false e (x ∷ xs) = rw e (map_sends s t to false e xs)

sends_to : (s t : Tag) (to : ℕ) (b : Bool) → same_tag s t ≡ b → (tos : List ℕ) → count (is_copy t to) (frame_sends s tos) ≡ cond b (count (λ z. nat_eq z to) tos) 0
sends_to s t to true e [] = rw e refl
sends_to s t to false e [] = rw e refl
sends_to s t to b e (x ∷ xs) = map_sends s t to b e (x ∷ xs)

other_place : (g a q j k : ℕ) → j ≢ k → same_tag (tag_at g a q j) (tag_at g a q k) ≡ false
other_place g a q j k ne = let h : nat_eq j k ≡ false = grind (arith, nat_tests) in
    let e1 : nat_eq g g ≡ true = grind (arith, nat_tests) in
    let e2 : nat_eq a a ≡ true = grind (arith, nat_tests) in
    let e3 : nat_eq q q ≡ true = grind (arith, nat_tests) in rw (e1, e2, e3, h) refl

pub planned_past : (net : Wiring) (g a q j k to : ℕ) (fs : List (List ℕ)) → k < j → count (is_copy (tag_at g a q k) to) (planned net g a q j fs) ≡ 0
planned_past net g a q j k to [] lt = refl
planned_past net g a q j k to (f ∷ fs) lt =
    count-append (is_copy (tag_at g a q k) to) (frame_sends (tag_at g a q j) (targets net g f)) (planned net g a q (j + 1) fs)
    ∙ rw (sends_to (tag_at g a q j) (tag_at g a q k) to false (other_place g a q j k (omega arith)) (targets net g f), planned_past net g a q (j + 1) k to fs (omega arith)) refl

-- of a queue's frames the one of place k is given to each of its targets
pub planned_count : (net : Wiring) (g a q j k to : ℕ) (fs : List (List ℕ)) (i : ℕ) (f : List ℕ) → j + i ≡ k → slice_get fs i ≡ Some f → count (is_copy (tag_at g a q k) to) (planned net g a q j fs) ≡ count (λ z. nat_eq z to) (targets net g f)
planned_count net g a q j k to [] i f e at = absurd (cc)
planned_count net g a q j k to (h ∷ fs) zero f e at =
    let same : h ≡ f = cc in
    let place : j ≡ k = omega arith in
    let here : same_tag (tag_at g a q j) (tag_at g a q k) ≡ true = subst (λ (n : ℕ). same_tag (tag_at g a q j) (tag_at g a q n) ≡ true) place (same_itself (tag_at g a q j)) in
    count-append (is_copy (tag_at g a q k) to) (frame_sends (tag_at g a q j) (targets net g h)) (planned net g a q (j + 1) fs)
    ∙ rw (sends_to (tag_at g a q j) (tag_at g a q k) to true here (targets net g h), planned_past net g a q (j + 1) k to fs (omega arith), same) (omega arith)
planned_count net g a q j k to (h ∷ fs) (suc i) f e at =
    count-append (is_copy (tag_at g a q k) to) (frame_sends (tag_at g a q j) (targets net g h)) (planned net g a q (j + 1) fs)
    ∙ rw (sends_to (tag_at g a q j) (tag_at g a q k) to false (other_place g a q j k (omega arith)) (targets net g h)) (omega (arith, planned_count net g a q (j + 1) k to fs i f (omega arith) at))

of_queue_wide : (g a q k to : ℕ) (s : Send) → is_copy (tag_at g a q k) to s ≡ true → of_queue a q s ≡ true
of_queue_wide g a q k to s h =
    let p = and_parts (same_tag s.tag (tag_at g a q k)) (goes_to to s.target) h in
    let p1 = and_parts (nat_eq s.tag.guest g) (nat_eq s.tag.activation a && (nat_eq s.tag.queue q && nat_eq s.tag.place k)) p.0 in
    let p2 = and_parts (nat_eq s.tag.activation a) (nat_eq s.tag.queue q && nat_eq s.tag.place k) p1.1 in
    let p3 = and_parts (nat_eq s.tag.queue q) (nat_eq s.tag.place k) p2.1 in
    and_from _ _ p2.0 p3.0

-- a taken frame took one way to each target
pub one_way : (net : Wiring) (g a q k to : ℕ) (es : List Entry) (fs : List (List ℕ)) (f : List ℕ) → sends_on a q es ≡ planned net g a q 0 fs → slice_get fs k ≡ Some f → count (λ z. nat_eq z to) (targets net g f) ≡ 1 → IsOne (ways (tag_at g a q k) to es)
one_way net g a q k to es fs f sends at once = one_from_length _
    (ways_count (tag_at g a q k) to es
    ∙ sym (ap length (filter_narrow (is_copy (tag_at g a q k) to) (of_queue a q) (of_queue_wide g a q k to) (filter_map send_of es)))
    ∙ ap (count (is_copy (tag_at g a q k) to)) sends
    ∙ planned_count net g a q 0 k to fs k f (omega arith) at
    ∙ once)

-- a packet that was pulled has one fate
pub one_arrival : (sender at n : ℕ) (came : List Entry) → filter_map (place_from sender) came ≡ upto 0 n → at < n → IsOne (arrivals sender at came)
one_arrival sender at n came places lt = one_from_length _ (arrivals_count sender at came ∙ ap (count (λ z. nat_eq z at)) places ∙ upto_once 0 n at (omega arith) (omega arith))

pub get-append : {X : Type 0} (xs ys : List X) (k : ℕ) → k < length xs → slice_get (xs ++ ys) k ≡ slice_get xs k
get-append [] ys k lt = absurd (omega arith)
get-append (x ∷ xs) ys zero lt = refl
get-append (x ∷ xs) ys (suc k) lt = get-append xs ys k (omega arith)

one_appended : {X : Type 0} (xs : List X) → IsOne xs → IsOne (xs ++ [])
one_appended xs h = (h.0, append-nil xs ∙ h.1)

one_of_way : (sender n : ℕ) (came : List Entry) (w : Way) → filter_map (place_from sender) came ≡ upto 0 n → WayFits (λ z. z < n) w → IsOne (way_fates sender came w)
one_of_way sender n came (way.Full look) places fits = (fate.LinkFull look, refl)
one_of_way sender n came (way.Link place) places fits = one_arrival sender place n came places fits

-- a sent frame's copy has one fate
pub one_fate : (net : Wiring) (g a q k to n : ℕ) (es came : List Entry) (fs rest frames : List (List ℕ)) (f : List ℕ) →
    sends_on a q es ≡ planned net g a q 0 fs → fs ++ rest ≡ frames → slice_get frames k ≡ Some f → count (λ z. nat_eq z to) (targets net g f) ≡ 1 →
    filter_map (place_to to) es ≡ upto 0 n → filter_map (place_from g) came ≡ upto 0 n → IsOne (copy_fates (length fs) es came (tag_at g a q k) to)
one_fate net g a q k to n es came fs rest frames f sends prefix at once places arrives = step (nat_lt k (length fs)) refl
  where
    step : (b : Bool) → nat_lt k (length fs) ≡ b → IsOne (copy_fates (length fs) es came (tag_at g a q k) to)
    step false h = rw h (fate.Discarded, refl)
    step true h =
        let lt : k < length fs = grind (arith, nat_tests) in
        let here : slice_get fs k ≡ Some f = sym (get-append fs rest k lt) ∙ rw prefix at in
        let way' : IsOne (ways (tag_at g a q k) to es) = one_way net g a q k to es fs f sends here once in
        let fit : AllByRecursion (WayFits (λ z. z < n)) (ways (tag_at g a q k) to es) = ways_fit (λ z. z < n) (tag_at g a q k) to es (rw places (all_weaker (λ z. z < 0 + n) (λ z. z < n) (λ z lt. omega arith) (upto 0 n) (upto_below 0 n))) in
        let fits : WayFits (λ z. z < n) way'.0 = (rw way'.1 at fit).0 in
        rw (h, way'.1) (one_appended (way_fates g came way'.0) (one_of_way g n came way'.0 arrives fits))
