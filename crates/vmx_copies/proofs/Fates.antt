-- The rows of a sent frame are its copies with their fates.
use Rattle.std.proofs.Common.{◌≡◌, ◌≢◌, ℕ, zero, suc, ◌+◌, ◌<◌, ◌≤◌, Bool, true, false, nat_eq, ◌&&◌, if◌then◌else◌, List, [], ◌∷◌, ◌++◌, length, map, get_or, refl, ap, sym, ◌∙◌, subst, append-nil, append_assoc, arith, Option, Some, None}
use Rattle.std.specs.Prelude.{nat_lt}
use Rattle.std.specs.Option.{option_to_list}
use Rattle.std.specs.List.{filter, filter_map, flat_map, slice_get, cons_option, AllByRecursion}
use Rattle.std.proofs.lemmas.Bool.Decides.{nat_tests}
use Rattle.std.proofs.lemmas.List.{map-append}
use Rattle.std.proofs.lemmas.List.Elements.{filter_map-append}
use Rattle.vmx_ends.specs.declared.packet.Tag.{Tag}
use Rattle.vmx_model.specs.declared.journal.Entry.{Entry}
use Rattle.vmx_model.specs.declared.journal.Way.{Way}
use Rattle.vmx_model.specs.declared.journal.Fate.{Fate}
use Rattle.vmx_model.specs.declared.journal.Entry.TheVariants as entry
use Rattle.vmx_model.specs.declared.journal.Fate.TheVariants as fate
use Rattle.vmx_model.specs.declared.journal.Way.TheVariants as way
use Rattle.vmx_model.specs.Lists.{IsOne, upto}
use Rattle.vmx_model.specs.Fates.{ways, arrivals, way_fates, copy_fates, tag_at}
use Rattle.vmx_model.specs.Account.{place_from}
use Rattle.vmx_buckets.specs.declared.sends.Switched.{Switched}
use Rattle.vmx_buckets.specs.declared.sends.Toward.{Toward}
use Rattle.vmx_buckets.specs.Buckets.{came_from}
use Rattle.vmx_copies.specs.declared.copy.FrameCopy.{FrameCopy}
use Rattle.vmx_copies.specs.Table.{CopyName, name_of, named_for, lone_name, target_names, fates_in_row}
use Rattle.vmx_copies.specs.Join.{arrival_at, row_with, fate_by, row_to, row_if, discarded_for, untaken, here, sent_rows, alone}
use Rattle.vmx_copies.proofs.Sends.{Aim, aim, target_of, frame_aims, way_to, ways_in}

-- ------------------------------------------------------------ arrivals by place

-- places before the first have no arrival
none_arrive : (s : ℕ) (es : List Entry) (m n x : ℕ) → filter_map (place_from s) es ≡ upto m n → x < m → arrivals s x es ≡ []
none_arrive s [] m n x h lt = refl
none_arrive s (entry.Setting number answer setup ∷ es) m n x h lt = none_arrive s es m n x h lt
none_arrive s (entry.Out tag target w ∷ es) m n x h lt = none_arrive s es m n x h lt
none_arrive s (entry.Lost tag ∷ es) m n x h lt = none_arrive s es m n x h lt
none_arrive s (entry.In from place f ∷ es) m n x h lt = step (nat_eq from s) refl n h (λ k l e low. none_arrive s es k l x e low)
  where
    step : (b : Bool) → nat_eq from s ≡ b → (n : ℕ) → filter_map (place_from s) (entry.In from place f ∷ es) ≡ upto m n → ((k l : ℕ) → filter_map (place_from s) es ≡ upto k l → x < k → arrivals s x es ≡ []) → arrivals s x (entry.In from place f ∷ es) ≡ []
    step true e zero h ih = let k = rw e at h in absurd (cc k)
    step true e (suc n) h ih =
        let k = rw e at h in
        let p : place ≡ m = cc k in
        let rest : filter_map (place_from s) es ≡ upto (m + 1) n = cc k in
        let ne : nat_eq place x ≡ false = grind (arith, nat_tests, p, lt) in rw (e, ne) (ih (m + 1) n rest (omega (arith, lt)))
    step false e n h ih = rw e (ih m n (rw e at h) lt)

-- the packet of place j has the j-th fate
pub arrivals_at : (s : ℕ) (es : List Entry) (m n j : ℕ) → filter_map (place_from s) es ≡ upto m n → arrivals s (m + j) es ≡ option_to_list (slice_get (came_from s es) j)
arrivals_at s [] m n j h = refl
arrivals_at s (entry.Setting number answer setup ∷ es) m n j h = arrivals_at s es m n j h
arrivals_at s (entry.Out tag target w ∷ es) m n j h = arrivals_at s es m n j h
arrivals_at s (entry.Lost tag ∷ es) m n j h = arrivals_at s es m n j h
arrivals_at s (entry.In from place f ∷ es) m n j h = step (nat_eq from s) refl n j h (λ k l i e. arrivals_at s es k l i e)
  where
    step : (b : Bool) → nat_eq from s ≡ b → (n j : ℕ) → filter_map (place_from s) (entry.In from place f ∷ es) ≡ upto m n → ((k l i : ℕ) → filter_map (place_from s) es ≡ upto k l → arrivals s (k + i) es ≡ option_to_list (slice_get (came_from s es) i))
        → arrivals s (m + j) (entry.In from place f ∷ es) ≡ option_to_list (slice_get (came_from s (entry.In from place f ∷ es)) j)
    step true e zero j h ih = let k = rw e at h in absurd (cc k)
    step true e (suc n) zero h ih =
        let k = rw e at h in
        let p : place ≡ m = cc k in
        let rest : filter_map (place_from s) es ≡ upto (m + 1) n = cc k in
        let is : nat_eq place (m + zero) ≡ true = grind (arith, nat_tests, p) in
        rw (e, is) (ap (λ (xs : List Fate). f ∷ xs) (none_arrive s es (m + 1) n (m + zero) rest (omega arith)))
    step true e (suc n) (suc j) h ih =
        let k = rw e at h in
        let p : place ≡ m = cc k in
        let rest : filter_map (place_from s) es ≡ upto (m + 1) n = cc k in
        let ne : nat_eq place (m + suc j) ≡ false = grind (arith, nat_tests, p) in
        let on : m + 1 + j ≡ m + suc j = omega arith in
        rw (e, ne) (ap (λ (x : ℕ). arrivals s x es) (sym on) ∙ ih (m + 1) n j rest)
    step false e n j h ih = rw e (ih m n j (rw e at h))

-- ------------------------------------------------------------ one of each

one_in : {X : Type 0} (xs ys : List X) (y z : X) → xs ++ y ∷ ys ≡ z ∷ [] → y ≡ z
one_in [] ys y z e = cc e
one_in (x ∷ []) ys y z e = absurd (cc e)
one_in (x ∷ w ∷ xs) ys y z e = absurd (cc e)

only : {X : Type 0} (xs : List X) (z : X) → xs ++ [] ≡ z ∷ [] → xs ≡ z ∷ []
only xs z e = sym (append-nil xs) ∙ e

listed : {X : Type 0} (o : Option X) (z : X) → option_to_list o ≡ z ∷ [] → o ≡ Some z
listed None z e = absurd (cc e)
listed (Some x) z e = let same : x ≡ z = cc e in ap Some same

-- what is known of the copy for a target
pub record IsKnown (came : List (List (List Fate))) (g : ℕ) (t : Tag) (taken : ℕ) (sent : List Entry) (entries : ℕ → List Entry) (to : ℕ) : Type 0 where
  pub one_way : IsOne (ways t to sent)
  pub one_fate : IsOne (copy_fates taken sent (entries to) t to)
  pub arrive : (place : ℕ) → arrivals g place (entries to) ≡ option_to_list (arrival_at came to g place)

pub record IsRows (rows : List FrameCopy) (names : List CopyName) (fates : List (List Fate)) : Type 0 where
  pub names_are : map name_of rows ≡ names
  pub fates_are : map fates_in_row rows ≡ fates

-- the first target of aims, and those behind it
abbrev first_target : List Aim → Option ℕ
first_target [] = None
first_target (u ∷ us) = u.1

abbrev rest_aims : List Aim → List Aim
rest_aims [] = []
rest_aims (u ∷ us) = us

module _ (came : List (List (List Fate))) (g i a q k taken : ℕ) (sent : List Entry) (entries : ℕ → List Entry) (was_taken : k < taken) where
  abbrev t : Tag
  t = tag_at g a q k

  abbrev fates_to : ℕ → List Fate
  fates_to to = copy_fates taken sent (entries to) t to

  -- the fate of a copy by its way
  by_way : (to : ℕ) (w : Way) (f : Fate) → ((place : ℕ) → arrivals g place (entries to) ≡ option_to_list (arrival_at came to g place)) → way_fates g (entries to) w ≡ f ∷ [] → fate_by came g to w ≡ Some f
  by_way to (way.Full look) f arrive e = let same : fate.LinkFull look ≡ f = cc e in ap Some same
  by_way to (way.Link place) f arrive e = listed (arrival_at came to g place) f (sym (arrive place) ∙ e)

  fate_is : (to : ℕ) (w : Way) → ways t to sent ≡ w ∷ [] → IsKnown came g t taken sent entries to → (f : Fate) × (fates_to to ≡ f ∷ []) × (fate_by came g to w ≡ Some f)
  fate_is to w is known =
      let lt : nat_lt k taken ≡ true = grind (arith, nat_tests, was_taken) in
      let f : Fate = known.one_fate.0 in
      let e : fates_to to ≡ f ∷ [] = known.one_fate.1 in
      let flat : fates_to to ≡ way_fates g (entries to) w ++ [] = rw (lt, is) refl in
      (f, e, by_way to w f known.arrive (only (way_fates g (entries to) w) f (sym flat ∙ e)))

  -- the rows of what was given to targets
  rows : (done rest : List Switched) (ts : List ℕ) → ((to : ℕ) → ways t to sent ≡ ways_in to (done ++ rest)) → map aim rest ≡ map (λ x. (k, Some x)) ts → AllByRecursion (IsKnown came g t taken sent entries) ts
      → IsRows (filter_map (row_if came g i) rest) (map (named_for g i) ts) (map fates_to ts)
  rows done [] [] split e h = record { names_are = refl; fates_are = refl }
  rows done [] (to ∷ ts) split e h = absurd (cc e)
  rows done (s ∷ rest) [] split e h = absurd (cc e)
  rows done (s ∷ rest) (to ∷ ts) split e h = by_to s.to refl (rows (done ++ s ∷ []) rest ts (λ x. split x ∙ ap (ways_in x) (sym (append_assoc done (s ∷ []) rest))) (ap rest_aims e) h.1)
    where
      by_to : (o : Option Toward) → s.to ≡ o → IsRows (filter_map (row_if came g i) rest) (map (named_for g i) ts) (map fates_to ts) → IsRows (filter_map (row_if came g i) (s ∷ rest)) (map (named_for g i) (to ∷ ts)) (map fates_to (to ∷ ts))
      by_to None is next = absurd (cc (sym (ap target_of is) ∙ ap first_target e))
      by_to (Some x) is next =
          let aimed : target_of s.to ≡ Some to = ap first_target e in
          let target : x.target ≡ to = cc (sym (ap target_of is) ∙ aimed) in
          let same : nat_eq x.target to ≡ true = grind (arith, nat_tests, target) in
          let way_is : way_to to s.to ≡ Some x.way = ap (way_to to) is ∙ rw same refl in
          let among : ways t to sent ≡ ways_in to done ++ x.way ∷ ways_in to rest =
          split to ∙ filter_map-append (λ (y : Switched). way_to to y.to) done (s ∷ rest) ∙ ap (λ (o : Option Way). ways_in to done ++ cons_option o (ways_in to rest)) way_is in
          let one : x.way ≡ h.0.one_way.0 = one_in (ways_in to done) (ways_in to rest) x.way h.0.one_way.0 (sym among ∙ h.0.one_way.1) in
          let only_way : ways t to sent ≡ x.way ∷ [] = h.0.one_way.1 ∙ ap (λ (w : Way). w ∷ []) (sym one) in
          let f = fate_is to x.way only_way h.0 in
          let row_is : row_if came g i s ≡ Some (record { sender = g; number = i; target = Some to; fate = f.0 }) =
          ap (row_to came g i) is ∙ ap (λ (n : ℕ). row_with g i (Some n) (fate_by came g n x.way)) target ∙ ap (row_with g i (Some to)) f.2 in
          record {
            names_are = ap (λ (o : Option FrameCopy). map name_of (cons_option o (filter_map (row_if came g i) rest))) row_is ∙ ap (λ (xs : List CopyName). named_for g i to ∷ xs) next.names_are;
            fates_are = ap (λ (o : Option FrameCopy). map fates_in_row (cons_option o (filter_map (row_if came g i) rest))) row_is
                ∙ ap (λ (xs : List (List Fate)). (f.0 ∷ []) ∷ xs) next.fates_are ∙ ap (λ (x : List Fate). x ∷ map fates_to ts) (sym f.1);
          }

-- ------------------------------------------------------------ a sent frame

-- the fates of a frame's copies by its targets
abbrev pub fates_by : (ℕ → List Fate) → List ℕ → List (List Fate)
fates_by f [] = (fate.NoPort ∷ []) ∷ []
fates_by f (t ∷ ts) = map f (t ∷ ts)

module _ (came : List (List (List Fate))) (g i a q k taken : ℕ) (sent : List Entry) (entries : ℕ → List Entry) where
  -- one that was taken
  pub taken_rows : k < taken → (ts : List ℕ) (found : List Switched) → ((to : ℕ) → ways (tag_at g a q k) to sent ≡ ways_in to found) → map aim found ≡ frame_aims k ts → AllByRecursion (IsKnown came g (tag_at g a q k) taken sent entries) ts
      → IsRows (sent_rows came g i ts found) (target_names g i ts) (fates_by (λ to. copy_fates taken sent (entries to) (tag_at g a q k) to) ts)
  taken_rows lt [] [] split e h = absurd (cc e)
  taken_rows lt [] (s ∷ []) split e h = by_to s.to refl
    where
      by_to : (o : Option Toward) → s.to ≡ o → IsRows (sent_rows came g i [] (s ∷ [])) (target_names g i []) (fates_by (λ to. copy_fates taken sent (entries to) (tag_at g a q k) to) [])
      by_to None is = rw is (record { names_are = refl; fates_are = refl })
      by_to (Some x) is = absurd (cc (sym (ap target_of is) ∙ ap first_target e))
  taken_rows lt [] (s ∷ x ∷ found) split e h = absurd (cc e)
  taken_rows lt (t ∷ ts) [] split e h = absurd (cc e)
  taken_rows lt (t ∷ ts) (s ∷ found) split e h = rows came g i a q k taken sent entries lt [] (s ∷ found) (t ∷ ts) split e h

  discarded_names : (ts : List ℕ) → map name_of (map (discarded_for g i) ts) ≡ map (named_for g i) ts
  discarded_names [] = refl
  discarded_names (t ∷ ts) = ap (λ (xs : List CopyName). named_for g i t ∷ xs) (discarded_names ts)

  discarded_fates : nat_lt k taken ≡ false → (ts : List ℕ) → map fates_in_row (map (discarded_for g i) ts) ≡ map (λ to. copy_fates taken sent (entries to) (tag_at g a q k) to) ts
  discarded_fates late [] = refl
  discarded_fates late (t ∷ ts) =
      let one : copy_fates taken sent (entries t) (tag_at g a q k) t ≡ fate.Discarded ∷ [] = rw late refl in
      ap (λ (xs : List (List Fate)). (fate.Discarded ∷ []) ∷ xs) (discarded_fates late ts) ∙ ap (λ (x : List Fate). x ∷ map (λ to. copy_fates taken sent (entries to) (tag_at g a q k) to) ts) (sym one)

  -- and one that was not
  pub untaken_rows : taken ≤ k → (ts : List ℕ) (found : List Switched) → found ≡ [] → IsRows (sent_rows came g i ts found) (target_names g i ts) (fates_by (λ to. copy_fates taken sent (entries to) (tag_at g a q k) to) ts)
  untaken_rows le ts [] e = by_targets ts
    where
      by_targets : (ts : List ℕ) → IsRows (untaken g i ts) (target_names g i ts) (fates_by (λ to. copy_fates taken sent (entries to) (tag_at g a q k) to) ts)
      by_targets [] = record { names_are = refl; fates_are = refl }
      by_targets (t ∷ ts) = let late : nat_lt k taken ≡ false = grind (arith, nat_tests, le) in record { names_are = discarded_names (t ∷ ts); fates_are = discarded_fates late (t ∷ ts) }
  untaken_rows le ts (s ∷ found) e = absurd (cc e)
