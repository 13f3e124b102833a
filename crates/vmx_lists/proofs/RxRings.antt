-- The four changes of the queue: each end takes a slot out at a load, and gives it back at a store.
use Rattle.std.proofs.Common.{◌≡◌, ℕ, suc, ◌+◌, ◌%◌, ◌<◌, ◌≤◌, List, [], ◌∷◌, ◌++◌, length, take, set, Bool, true, false, true≢false, sym, refl, ap, ◌∙◌, subst, ⊎_elim, arith, mod-lt, length-append, length-set, get_or-set_other, get_or-set_same, if◌then◌else◌}
use Rattle.std.proofs.lemmas.List.{take-append-le}
use Rattle.std.proofs.Math.Seq.{take-length}
use mathlib.Core.Logic.{dite}
use mathlib.Core.Option.{none, some, Option}
use native.Mathlib.Decide.{ℕ_discrete}
use native.Mathlib.Nat.{add-mod_right}
use lib.ListN.{get_elem?}
use Rattle.atomic_table.proofs.Lists.{set_here, set_else}
use Rattle.vmx_ends.specs.declared.made.RxMade.{RxMade}
use Rattle.vmx_ends.specs.declared.frames.Delivery.{Delivery}
use Rattle.vmx_ends.specs.Receive.{used, took1, took2, posted1, posted2}
use Rattle.vmx_lists.specs.declared.rx.log.RxParcel.{RxParcel}
use Rattle.vmx_lists.specs.RxRing.{Ring, Shows}
use Rattle.vmx_ends.specs.WalkCounts.{used-append, used_take_more}
use Rattle.vmx_ring_laws.specs.Moves.{elsewhere}
use Rattle.vmx_ring_laws.specs.Lists.{at_below, snoc_cases}
use Rattle.vmx_ends.specs.Alls.{all_more}
use Rattle.vmx_ends.specs.Frames.{IsFrame}

abbrev pub IsLong : Delivery → Type 0
IsLong d = IsFrame d.frame

abbrev pub AtHome : List (Option RxParcel) → ℕ → Type 0
AtHome homes i = (x : RxParcel) × (get_elem? homes i ≡ some (some x))

module _ (m : RxMade) (n : ℕ) (words : List ℕ) (homes : List (Option RxParcel)) (sent : List Delivery) (t : ℕ) where
  -- no more frames are under way than there are slots
  pub within : (writing reading : Bool) → Ring m n words homes sent t writing reading → length sent ≤ t + n
  within writing reading r = let a = r.each_takes t r.behind in let b = r.within1 in let s = r.sized in
      let c : posted1 m (take t sent) ≡ m.size1 + used took1 (take t sent) = ap (λ b. (if b then m.size1 else 0) + used took1 (take t sent)) r.filled in omega arith

  pub takes_out : (reading : Bool) → Ring m n words homes sent t false reading → length sent < t + n → Ring m n words (set homes (length sent % n) none) sent t true reading
  takes_out reading r less = let h : ℕ = length sent in record {
    some_slot = r.some_slot;
    sized = r.sized;
    filled = r.filled;
    as_many_slots = length-set homes (h % n) none ∙ r.as_many_slots;
    two_words = r.two_words;
    behind = r.behind;
    within1 = r.within1;
    within2 = r.within2;
    frames = r.frames;
    each_takes = r.each_takes;
    room = λ _. less;
    there = r.there;
    delivered_word = r.delivered_word;
    received_word = r.received_word;
    in_slot = λ p d le at still. let below = at_below sent p d at in let x = r.in_slot p d le at still in
        (x.0, set_else homes (h % n) (p % n) none (λ e. elsewhere n p h below (omega arith) (sym e)) ∙ x.1, x.2);
    free_slot = λ p le near still. dite (ℕ_discrete p h)
        (λ here. absurd (true≢false (still here)))
        (λ there. let x = r.free_slot p le near (λ _. refl) in (x.0, set_else homes (h % n) (p % n) none (elsewhere n h p (omega arith) (omega arith)) ∙ x.1));
  }

  pub publishes : (reading : Bool) (x : RxParcel) (d : Delivery) → Shows d x → IsFrame d.frame → 0 < took1 d → used took1 sent + took1 d ≤ posted1 m (take t sent) → used took2 sent + took2 d ≤ posted2 m (take t sent) → Ring m n words homes sent t true reading
      → Ring m n (set words 0 (length sent + 1)) (set homes (length sent % n) (some x)) (sent ++ d ∷ []) t false reading
  publishes reading x d shows frame some_taken few1 few2 r = let h : ℕ = length sent in let longer : length (sent ++ d ∷ []) ≡ h + 1 = length-append sent (d ∷ []) in let near = r.room refl in let pos = r.some_slot in
      let b = r.behind in let i : ℕ = h % n in let at : i < n = mod-lt h pos in let nw = r.two_words in let nh = r.as_many_slots in
      let front : take t (sent ++ d ∷ []) ≡ take t sent = take-append-le t sent (d ∷ []) b in
      let more1 = used-append took1 sent (d ∷ []) in let more2 = used-append took2 sent (d ∷ []) in record {
        some_slot = pos;
        sized = r.sized;
        filled = r.filled;
        as_many_slots = length-set homes i (some x) ∙ nh;
        two_words = length-set words 0 (h + 1) ∙ nw;
        behind = omega arith;
        within1 = subst (λ (l : List Delivery). used took1 (sent ++ d ∷ []) ≤ posted1 m l) (sym front) (omega arith);
        within2 = subst (λ (l : List Delivery). used took2 (sent ++ d ∷ []) ≤ posted2 m l) (sym front) (omega arith);
        frames = all_more IsLong sent d r.frames frame;
        each_takes = λ s le. dite (ℕ_discrete s (h + 1))
            (λ whole. let all : take s (sent ++ d ∷ []) ≡ sent ++ d ∷ [] = ap (λ (z : ℕ). take z (sent ++ d ∷ [])) (whole ∙ sym longer) ∙ take-length (sent ++ d ∷ []) in let e = ap (used took1) all in omega arith)
            (λ part. let low : s ≤ h = omega arith in let same = ap (used took1) (take-append-le s sent (d ∷ []) low) in let old = r.each_takes s low in omega arith);
        room = λ e. absurd (true≢false (sym e));
        there = λ e. let a = r.there e in omega arith;
        delivered_word = get_or-set_same words 0 (h + 1) 0 (omega arith) ∙ sym longer;
        received_word = get_or-set_other words 0 1 (h + 1) 0 (λ e. absurd (omega arith)) ∙ r.received_word;
        in_slot = λ p y le is still. ⊎_elim
            (λ (e : (p ≡ h) × (d ≡ y)). subst (λ (z : ℕ × Delivery). (q : RxParcel) × (get_elem? (set homes i (some x)) (z.0 % n) ≡ some (some q)) × Shows z.1 q) (λ k. (sym e.0 k, e.1 k)) (x, set_here homes i (some x) (omega arith), shows))
            (λ (e : (p < h) × (get_elem? sent p ≡ some y)). let less = e.0 in let q = r.in_slot p y le e.1 still in (q.0, set_else homes i (p % n) (some x) (λ k. elsewhere n p h less (omega arith) (sym k)) ∙ q.1, q.2))
            (snoc_cases sent d y p is);
        free_slot = λ p le less still. let q = r.free_slot p (omega arith) less (λ e. absurd (omega arith)) in (q.0, set_else homes i (p % n) (some x) (elsewhere n h p (omega arith) (omega arith)) ∙ q.1);
      }

  pub grabs : (writing : Bool) → Ring m n words homes sent t writing false → t < length sent → Ring m n words (set homes (t % n) none) sent t writing true
  grabs writing r some_in = let h : ℕ = length sent in let w = within writing false r in record {
    some_slot = r.some_slot;
    sized = r.sized;
    filled = r.filled;
    as_many_slots = length-set homes (t % n) none ∙ r.as_many_slots;
    two_words = r.two_words;
    behind = r.behind;
    within1 = r.within1;
    within2 = r.within2;
    frames = r.frames;
    each_takes = r.each_takes;
    room = r.room;
    there = λ _. some_in;
    delivered_word = r.delivered_word;
    received_word = r.received_word;
    in_slot = λ p d le at still. let less = at_below sent p d at in dite (ℕ_discrete p t)
        (λ here. absurd (true≢false (still here)))
        (λ other. let q = r.in_slot p d le at (λ _. refl) in (q.0, set_else homes (t % n) (p % n) none (elsewhere n t p (omega arith) (omega arith)) ∙ q.1, q.2));
    free_slot = λ p le near still. let q = r.free_slot p le near still in (q.0, set_else homes (t % n) (p % n) none (elsewhere n t p (omega arith) near) ∙ q.1);
  }

  pub frees : (writing : Bool) (x : RxParcel) → Ring m n words homes sent t writing true → Ring m n (set words 1 (t + 1)) (set homes (t % n) (some x)) sent (suc t) writing false
  frees writing x r = let h : ℕ = length sent in let some_in = r.there refl in let w = within writing true r in let pos = r.some_slot in let i : ℕ = t % n in let at : i < n = mod-lt t pos in let nw = r.two_words in let nh = r.as_many_slots in
      let back : (t + n) % n ≡ t % n = add-mod_right t n in let f1 = r.within1 in let f2 = r.within2 in let g1 = used_take_more took1 sent t (suc t) (omega arith) in let g2 = used_take_more took2 sent t (suc t) (omega arith) in record {
        some_slot = pos;
        sized = r.sized;
        filled = r.filled;
        as_many_slots = length-set homes i (some x) ∙ nh;
        two_words = length-set words 1 (t + 1) ∙ nw;
        behind = omega arith;
        within1 = omega arith;
        within2 = omega arith;
        frames = r.frames;
        each_takes = r.each_takes;
        room = λ e. let a = r.room e in omega arith;
        there = λ e. absurd (true≢false (sym e));
        delivered_word = get_or-set_other words 1 0 (t + 1) 0 (λ e. absurd (omega arith)) ∙ r.delivered_word;
        received_word = get_or-set_same words 1 (t + 1) 0 (omega arith) ∙ (let g : t + 1 ≡ suc t = omega arith in g);
        in_slot = λ p d le is still. let less = at_below sent p d is in let q = r.in_slot p d (omega arith) is (λ e. absurd (omega arith)) in (q.0, set_else homes i (p % n) (some x) (elsewhere n t p (omega arith) (omega arith)) ∙ q.1, q.2);
        free_slot = λ p le less still. dite (ℕ_discrete p (t + n))
            (λ here. (x, ap (λ (z : ℕ). get_elem? (set homes i (some x)) (z % n)) here ∙ ap (λ (z : ℕ). get_elem? (set homes i (some x)) z) back ∙ set_here homes i (some x) (omega arith)))
            (λ other. let q = r.free_slot p le (omega arith) still in (q.0, set_else homes i (p % n) (some x) (elsewhere n t p (omega arith) (omega arith)) ∙ q.1));
      }
