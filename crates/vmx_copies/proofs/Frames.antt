-- What the functions of a sender add to the rows, put together.
use Rattle.std.proofs.Common.{◌≡◌, ◌≢◌, ℕ, zero, suc, ◌+◌, ◌<◌, ◌≤◌, List, [], ◌∷◌, ◌++◌, length, map, get_or, take, refl, ap, sym, ◌∙◌, subst, append-nil, append_assoc, arith, Result, Ok, Err, Option, Some, None}
use Rattle.std.specs.Result.{OnOk}
use Rattle.std.specs.List.{filter_map, slice_get}
use Rattle.std.proofs.lemmas.List.{get_or_default, take_all}
use Rattle.std.proofs.lemmas.List.Elements.{filter_map-append}
use Rattle.vmx_switch.specs.Ports.{Wiring}
use Rattle.vmx_pcap.specs.declared.records.Stamped.{Stamped}
use Rattle.vmx_model.specs.declared.guest.GuestPlan.{GuestPlan}
use Rattle.vmx_model.specs.declared.journal.Entry.{Entry}
use Rattle.vmx_model.specs.declared.journal.Fate.{Fate}
use Rattle.vmx_model.specs.declared.sending.Sending.{Sending}
use Rattle.vmx_model.specs.declared.sending.Sending.TheVariants as sending
use Rattle.vmx_model.specs.declared.journal.Fate.TheVariants as fate
use Rattle.vmx_model.specs.Wire.{targets, wire_form, posted_form}
use Rattle.vmx_model.specs.Plan.{captured_as, verdict_on, wire}
use Rattle.vmx_model.specs.PlanSteps.{there}
use Rattle.vmx_buckets.specs.declared.sends.Switched.{Switched}
use Rattle.vmx_buckets.specs.Buckets.{switched_on}
use Rattle.vmx_copies.specs.declared.copy.FrameCopy.{FrameCopy}
use Rattle.vmx_copies.specs.Join.{row_if, alone, discarded_for, untaken, sent_rows, verdict_rows, frame_rows, here, before, IsInOrder}
use Rattle.vmx_copies.proofs.Sorted.{goes_on, ends_there, ends_here, none_empty}
use Rattle.vmx_copies.proofs.Steps.{wire_targets}

-- what holds whatever the answer is
pub on_ok : {T E : Type 0} (r : Result T E) (P : Type 0) → P → OnOk r P
on_ok (Ok x) P h = h
on_ok (Err e) P h = tt

module _ (w : Wiring) (came : List (List (List Fate))) (es : List Entry) (g : ℕ) (p : GuestPlan) (i : ℕ) (r : Stamped) (old new : List FrameCopy) where
  -- a frame that is not sent
  pub idle_rows : (s : Sending) (f : Fate) → s ≡ verdict_on p (captured_as p i r) → verdict_rows w came es g i (wire (captured_as p i r)) s ≡ alone g i f → new ≡ old ++ alone g i f → new ≡ old ++ frame_rows w came es g p (captured_as p i r)
  idle_rows s f is k e = e ∙ ap (λ (xs : List FrameCopy). old ++ xs) (sym k ∙ ap (verdict_rows w came es g i (wire (captured_as p i r))) is)

  -- and one that is
  pub rows_sent : (a q k : ℕ) → sending.Sent a q k ≡ verdict_on p (captured_as p i r) → new ≡ old ++ sent_rows came g i (targets w g (wire_form (posted_form p r.frame))) (here k (switched_on a q es)) → new ≡ old ++ frame_rows w came es g p (captured_as p i r)
  rows_sent a q k is e = e ∙ ap (λ (s : Sending). old ++ verdict_rows w came es g i (wire (captured_as p i r)) s) is

module _ (came : List (List (List Fate))) (g i : ℕ) where
  -- a frame of which something was given
  given_rows : (ts : List ℕ) (found : List Switched) → 0 < length found → sent_rows came g i ts found ≡ filter_map (row_if came g i) found
  given_rows ts [] lt = absurd (omega (arith, lt))
  given_rows ts (s ∷ found) lt = refl

  pub rows_given : (ts : List ℕ) (k begun end : ℕ) (list : List Switched) (old new : List FrameCopy) → end ≡ begun + length (here k list) → end ≢ begun → new ≡ old ++ filter_map (row_if came g i) (here k list) → new ≡ old ++ sent_rows came g i ts (here k list)
  rows_given ts k begun end list old new is ne e = e ∙ ap (λ (xs : List FrameCopy). old ++ xs) (sym (given_rows ts (here k list) (some (length (here k list)) is)))
    where
      some : (n : ℕ) → end ≡ begun + n → 0 < n
      some zero e = absurd (ne (omega (arith, e)))
      some (suc n) e = omega arith

  -- and one of which nothing was
  pub rows_untaken : (w : Wiring) (p : GuestPlan) (frame : List ℕ) (k begun end : ℕ) (list : List Switched) (order : IsInOrder list) (old now new : List FrameCopy) → 14 ≤ length frame → end ≡ begun + length (here k list) → end ≡ begun
      → now ≡ old ++ filter_map (row_if came g i) (here k list) → new ≡ now ++ untaken g i (targets w g frame) → new ≡ old ++ sent_rows came g i (targets w g (wire_form (posted_form p frame))) (here k list)
  rows_untaken w p frame k begun end list order old now new low is same was e =
      let none : here k list ≡ [] = none_empty k list order (omega (arith, is, same)) in
      let aim : targets w g (wire_form (posted_form p frame)) ≡ targets w g frame = wire_targets w g p frame low in
      e ∙ ap (λ (xs : List FrameCopy). xs ++ untaken g i (targets w g frame)) (was ∙ ap (λ (xs : List Switched). old ++ filter_map (row_if came g i) xs) none ∙ append-nil old)
      ∙ ap (λ (ts : List ℕ). old ++ untaken g i ts) (sym aim) ∙ ap (λ (xs : List Switched). old ++ sent_rows came g i (targets w g (wire_form (posted_form p frame))) xs) (sym none)

  -- one row more of a frame's
  pub row_more : (k : ℕ) (list : List Switched) (n : ℕ) (s : Switched) (old now new : List FrameCopy) → take (n + 1) (here k list) ≡ take n (here k list) ++ s ∷ [] → now ≡ old ++ filter_map (row_if came g i) (take n (here k list)) → new ≡ now ++ filter_map (row_if came g i) (s ∷ [])
      → new ≡ old ++ filter_map (row_if came g i) (take (n + 1) (here k list))
  row_more k list n s old now new next was e =
      e ∙ ap (λ (xs : List FrameCopy). xs ++ filter_map (row_if came g i) (s ∷ [])) was ∙ append_assoc old (filter_map (row_if came g i) (take n (here k list))) (filter_map (row_if came g i) (s ∷ []))
      ∙ ap (λ (xs : List FrameCopy). old ++ xs) (sym (filter_map-append (row_if came g i) (take n (here k list)) (s ∷ []))) ∙ ap (λ (xs : List Switched). old ++ filter_map (row_if came g i) xs) (sym next)

  -- the item at a cursor is the next of the frame's
  pub step_more : (k : ℕ) (list : List Switched) (order : IsInOrder list) (begun at : ℕ) (d : Switched) (old now new : List FrameCopy) → begun ≡ length (before k list) → at < length list → (get_or list at d).place ≡ k
      → ((n : ℕ) × (at ≡ begun + n) × (n ≤ length (here k list)) × (now ≡ old ++ filter_map (row_if came g i) (take n (here k list)))) → new ≡ now ++ filter_map (row_if came g i) (get_or list at d ∷ [])
      → (n : ℕ) × (at + 1 ≡ begun + n) × (n ≤ length (here k list)) × (new ≡ old ++ filter_map (row_if came g i) (take n (here k list)))
  step_more k list order begun at d old now new b lt place h e =
      let n : ℕ = h.0 in
      let s : Switched = get_or list at d in
      let on : at ≡ length (before k list) + n = omega (arith, h.1, b) in
      let is : s ≡ get_or list (length (before k list) + n) s = get_or_default list at d s lt ∙ ap (λ (m : ℕ). get_or list m s) on in
      let next : (n < length (here k list)) × (take (n + 1) (here k list) ≡ take n (here k list) ++ s ∷ []) = goes_on k list order n s h.2 (omega (arith, on, lt)) is place in
      (n + 1, omega (arith, h.1), omega (arith, next.0), row_more k list n s old now new next.1 h.3 e)

  all_taken : (k : ℕ) (list : List Switched) (begun at n : ℕ) (old now : List FrameCopy) → at ≡ begun + n → n ≡ length (here k list) → now ≡ old ++ filter_map (row_if came g i) (take n (here k list))
      → (at ≡ begun + length (here k list)) × (now ≡ old ++ filter_map (row_if came g i) (here k list))
  all_taken k list begun at n old now on is e =
      (omega (arith, on, is), e ∙ ap (λ (xs : List Switched). old ++ filter_map (row_if came g i) xs) (take_all n (here k list) (omega (arith, is))))

  -- the item is of another frame
  pub ends_other : (k : ℕ) (list : List Switched) (order : IsInOrder list) (begun at : ℕ) (d : Switched) (old now : List FrameCopy) → begun ≡ length (before k list) → at < length list → (get_or list at d).place ≢ k
      → ((n : ℕ) × (at ≡ begun + n) × (n ≤ length (here k list)) × (now ≡ old ++ filter_map (row_if came g i) (take n (here k list))))
      → (at ≡ begun + length (here k list)) × (now ≡ old ++ filter_map (row_if came g i) (here k list))
  ends_other k list order begun at d old now b lt place h =
      let n : ℕ = h.0 in
      let s : Switched = get_or list at d in
      let on : at ≡ length (before k list) + n = omega (arith, h.1, b) in
      let is : s ≡ get_or list (length (before k list) + n) s = get_or_default list at d s lt ∙ ap (λ (m : ℕ). get_or list m s) on in
      all_taken k list begun at n old now h.1 (ends_here k list order n s h.2 is place) h.3

  -- there is none
  pub ends_past : (k : ℕ) (list : List Switched) (order : IsInOrder list) (begun at : ℕ) (old now : List FrameCopy) → begun ≡ length (before k list) → length list ≤ at
      → ((n : ℕ) × (at ≡ begun + n) × (n ≤ length (here k list)) × (now ≡ old ++ filter_map (row_if came g i) (take n (here k list))))
      → (at ≡ begun + length (here k list)) × (now ≡ old ++ filter_map (row_if came g i) (here k list))
  ends_past k list order begun at old now b last h =
      let n : ℕ = h.0 in all_taken k list begun at n old now h.1 (ends_there k list order n h.2 (omega (arith, h.1, b, last))) h.3

-- ------------------------------------------------------------ a frame that was not taken

-- the record of a captured number, as it is read
pub record_read : (records list : List Stamped) (i : ℕ) (x : Stamped) → i < length records → list ≡ records → x ≡ get_or list i x → slice_get records i ≡ Some x
record_read records list i x lt is at = there records i x lt (at ∙ ap (λ (xs : List Stamped). get_or xs i x) is)

-- and its bytes
pub frame_read : (records list : List Stamped) (i : ℕ) (x r : Stamped) (bytes : List ℕ) → i < length records → list ≡ records → x ≡ get_or list i x → bytes ≡ x.frame → slice_get records i ≡ Some r → bytes ≡ r.frame
frame_read records list i x r bytes lt is at read found =
    let both : Some x ≡ Some r = sym (record_read records list i x lt is at) ∙ found in
    let same : x ≡ r = cc both in read ∙ ap (λ (y : Stamped). y.frame) same

module _ (g i : ℕ) where
  -- without a target it counts as one copy
  pub untaken_lone : (ts : List ℕ) (old new : List FrameCopy) → length ts ≡ 0 → new ≡ old ++ alone g i fate.NoPort → new ≡ old ++ untaken g i ts
  untaken_lone [] old new none e = e
  untaken_lone (t ∷ ts) old new none e = absurd (omega (arith, none))

  -- else it has one for each
  pub untaken_each : (ts : List ℕ) (old new : List FrameCopy) → length ts ≢ 0 → new ≡ old ++ map (discarded_for g i) ts → new ≡ old ++ untaken g i ts
  untaken_each [] old new some e = absurd (some refl)
  untaken_each (t ∷ ts) old new some e = e
