-- The changes of a transmit queue: a slot goes out to the driver and home with a frame, a frame is reaped, its slot goes out to the device and home, a frame is completed.
use Rattle.std.proofs.Common.{◌≡◌, ◌≢◌, ℕ, suc, ◌+◌, ◌%◌, ◌<◌, ◌≤◌, List, [], ◌∷◌, ◌++◌, length, take, drop, set, Bool, true, false, true≢false, sym, refl, ap, ◌∙◌, subst, ⊎_elim, arith, mod-lt, length-append, length-set, get_or-set_other, get_or-set_same}
use Rattle.std.proofs.lemmas.List.{take-append-le}
use mathlib.Core.Logic.{dite}
use mathlib.Core.Option.{none, some, Option}
use native.Mathlib.Decide.{ℕ_discrete, dec_lt}
use native.Mathlib.Nat.{add-mod_right}
use lib.ListN.{get_elem?}
use Rattle.atomic_table.proofs.Lists.{set_here, set_else}
use Rattle.vmx_ring_laws.specs.Moves.{elsewhere}
use Rattle.vmx_ring_laws.specs.Lists.{at_below, snoc_cases, take_one_more}
use Rattle.vmx_ends.specs.Alls.{all_more}
use Rattle.vmx_ends.specs.declared.made.TxMade.{TxMade}
use Rattle.vmx_ends.specs.declared.frames.Sent.{Sent}
use Rattle.vmx_ends.specs.declared.frames.Taken.{Taken}
use Rattle.vmx_ends.specs.Frames.{IsMarked, sent_of}
use Rattle.vmx_ends.specs.Transmit.{need, descriptors}
use Rattle.vmx_lists.specs.declared.tx.log.TxParcel.{TxParcel}
use Rattle.vmx_lists.specs.TxRing.{Ring, Shows, AtHome}
use Rattle.vmx_ends.specs.TransmitCounts.{descriptors-append, found-append, under_way, drop_one, drop_more, sent_of-append}
use Rattle.vmx_lists.proofs.TxCounts.{MayGo, all_long}

-- a slot that is set leaves the others
home_else : (homes : List (Option TxParcel)) (i j : ℕ) (o : Option TxParcel) → j ≢ i → AtHome homes j → AtHome (set homes i o) j
home_else homes i j o apart h = (h.0, set_else homes i j o apart ∙ h.1)

module _ (m : TxMade) (n : ℕ) (words : List ℕ) (homes : List (Option TxParcel)) (sent : List Sent) (taken : List Taken) (completed reaped : ℕ) where
  -- no more frames are under way than there are slots
  pub within_slots : (filling emptying : Bool) → Ring m n words homes sent taken completed reaped filling emptying → length sent ≤ reaped + n
  within_slots filling emptying r = let u = under_way m sent reaped r.piece (all_long sent r.frames) in let w = r.within in let s = r.sized in omega arith

  pub opens : (emptying : Bool) → Ring m n words homes sent taken completed reaped false emptying → length sent < reaped + n → Ring m n words (set homes (length sent % n) none) sent taken completed reaped true emptying
  opens emptying r less = let h : ℕ = length sent in let a = r.reaped_first in let b = r.completed_first in let c = r.taken_first in record {
    some_slot = r.some_slot;
    sized = r.sized;
    full = r.full;
    piece = r.piece;
    as_many_slots = length-set homes (h % n) none ∙ r.as_many_slots;
    two_words = r.two_words;
    reaped_first = r.reaped_first;
    completed_first = r.completed_first;
    one_ahead = r.one_ahead;
    taken_first = r.taken_first;
    taken_is = r.taken_is;
    exact = r.exact;
    frames = r.frames;
    within = r.within;
    room = λ _. less;
    out = r.out;
    posted_word = r.posted_word;
    completed_word = r.completed_word;
    at_home = λ p le near filled emptied. dite (ℕ_discrete p h)
        (λ here. absurd (true≢false (filled here)))
        (λ other. home_else homes (h % n) (p % n) none (apart p other le near less a b c) (r.at_home p le near (λ _. refl) emptied));
    shows = λ p s le at. let low = at_below sent p s at in let x = r.shows p s le at in
        (x.0, set_else homes (h % n) (p % n) none (λ e. elsewhere n p h low (omega arith) (sym e)) ∙ x.1, x.2);
  }
    where
      apart : (p : ℕ) → p ≢ length sent → reaped ≤ p → p < reaped + n → length sent < reaped + n → reaped ≤ completed → completed ≤ length taken → length taken ≤ length sent → p % n ≢ length sent % n
      apart p other le near less a b c = dite (dec_lt p (length sent))
          (λ low. λ e. elsewhere n p (length sent) low (omega arith) (sym e))
          (λ high. elsewhere n (length sent) p (omega arith) (omega arith))

  pub posts : (emptying : Bool) (x : TxParcel) (s : Sent) → Shows s x → IsMarked s.frame s.mark → descriptors m (drop reaped sent) + need m (length s.frame) ≤ m.size → Ring m n words homes sent taken completed reaped true emptying
      → Ring m n (set words 0 (length sent + 1)) (set homes (length sent % n) (some x)) (sent ++ s ∷ []) taken completed reaped false emptying
  posts emptying x s shown frame fits r = let h : ℕ = length sent in let longer : length (sent ++ s ∷ []) ≡ h + 1 = length-append sent (s ∷ []) in let near = r.room refl in let pos = r.some_slot in
      let a = r.reaped_first in let b = r.completed_first in let c = r.taken_first in let i : ℕ = h % n in let at : i < n = mod-lt h pos in let nw = r.two_words in let nh = r.as_many_slots in
      let more = drop_more m sent reaped s (omega arith) in record {
        some_slot = pos;
        sized = r.sized;
        full = r.full;
        piece = r.piece;
        as_many_slots = length-set homes i (some x) ∙ nh;
        two_words = length-set words 0 (h + 1) ∙ nw;
        reaped_first = a;
        completed_first = b;
        one_ahead = r.one_ahead;
        taken_first = omega arith;
        taken_is = r.taken_is ∙ sym (take-append-le (length taken) sent (s ∷ []) c);
        exact = r.exact;
        frames = all_more MayGo sent s r.frames frame;
        within = omega arith;
        room = λ e. absurd (true≢false (sym e));
        out = r.out;
        posted_word = get_or-set_same words 0 (h + 1) 0 (omega arith) ∙ sym longer;
        completed_word = get_or-set_other words 0 1 (h + 1) 0 (λ e. absurd (omega arith)) ∙ r.completed_word;
        at_home = λ p le less filled emptied. dite (ℕ_discrete p h)
            (λ here. subst (λ (q : ℕ). AtHome (set homes i (some x)) (q % n)) (sym here) (x, set_here homes i (some x) (omega arith)))
            (λ other. home_else homes i (p % n) (some x) (apart p other le less near a b c) (r.at_home p le less (λ e. absurd (other e)) emptied));
        shows = λ p y le is. ⊎_elim
            (λ (e : (p ≡ h) × (s ≡ y)). subst (λ (z : ℕ × Sent). (q : TxParcel) × (get_elem? (set homes i (some x)) (z.0 % n) ≡ some (some q)) × Shows z.1 q) (λ k. (sym e.0 k, e.1 k)) (x, set_here homes i (some x) (omega arith), shown))
            (λ (e : (p < h) × (get_elem? sent p ≡ some y)). let less = e.0 in let q = r.shows p y le e.1 in (q.0, set_else homes i (p % n) (some x) (λ k. elsewhere n p h less (omega arith) (sym k)) ∙ q.1, q.2))
            (snoc_cases sent s y p is);
      }
    where
      apart : (p : ℕ) → p ≢ length sent → reaped ≤ p → p < reaped + n → length sent < reaped + n → reaped ≤ completed → completed ≤ length taken → length taken ≤ length sent → p % n ≢ length sent % n
      apart p other le near less a b c = dite (dec_lt p (length sent))
          (λ low. λ e. elsewhere n p (length sent) low (omega arith) (sym e))
          (λ high. elsewhere n (length sent) p (omega arith) (omega arith))

  pub reaps : (filling emptying : Bool) (s : Sent) → get_elem? sent reaped ≡ some s → reaped < completed → Ring m n words homes sent taken completed reaped filling emptying → Ring m n words homes sent taken completed (suc reaped) filling emptying
  reaps filling emptying s at less r = let a = r.completed_first in let b = r.taken_first in let c = r.one_ahead in let w = r.within in let one = drop_one m sent reaped s at in let pos = r.some_slot in record {
    some_slot = pos;
    sized = r.sized;
    full = r.full;
    piece = r.piece;
    as_many_slots = r.as_many_slots;
    two_words = r.two_words;
    reaped_first = omega arith;
    completed_first = a;
    one_ahead = c;
    taken_first = b;
    taken_is = r.taken_is;
    exact = r.exact;
    frames = r.frames;
    within = omega arith;
    room = λ e. let f = r.room e in omega arith;
    out = r.out;
    posted_word = r.posted_word;
    completed_word = r.completed_word;
    at_home = λ p le near filled emptied. dite (ℕ_discrete p (reaped + n))
        (λ here. let back : (reaped + n) % n ≡ reaped % n = add-mod_right reaped n in
        subst (λ (k : ℕ). AtHome homes k) (sym back ∙ ap (λ (q : ℕ). q % n) (sym here)) (r.at_home reaped (omega arith) (omega arith) (λ e. absurd (omega arith)) (λ e. still e a)))
        (λ other. r.at_home p (omega arith) (omega arith) filled emptied);
    shows = r.shows;
  }
    where
      -- a frame that the device has out is not completed
      still : suc reaped ≡ length taken → completed ≤ length taken → emptying ≡ false
      still e le = by_case emptying refl
        where
          by_case : (b : Bool) → emptying ≡ b → emptying ≡ false
          by_case false is = is
          by_case true is = let o = r.out is in absurd (omega arith)

  pub grabs : (filling : Bool) (s : Sent) → completed ≡ length taken → get_elem? sent (length taken) ≡ some s → Ring m n words homes sent taken completed reaped filling false
      → Ring m n words (set homes (length taken % n) none) sent (taken ++ record { sent = s; descriptors = need m (length s.frame) } ∷ []) completed reaped filling true
  grabs filling s idle at r = let t : ℕ = length taken in let z : Taken = record { sent = s; descriptors = need m (length s.frame) } in let longer : length (taken ++ z ∷ []) ≡ t + 1 = length-append taken (z ∷ []) in
      let a = r.reaped_first in let some_in = at_below sent t s at in let w = within_slots filling false r in
      let on : sent_of (taken ++ z ∷ []) ≡ sent_of taken ++ s ∷ [] = sent_of-append taken (z ∷ []) in
      let e1 = found-append taken (z ∷ []) in let e2 = ap (descriptors m) on in let e3 = descriptors-append m (sent_of taken) (s ∷ []) in let e4 = r.exact in record {
        some_slot = r.some_slot;
        sized = r.sized;
        full = r.full;
        piece = r.piece;
        as_many_slots = length-set homes (t % n) none ∙ r.as_many_slots;
        two_words = r.two_words;
        reaped_first = a;
        completed_first = omega arith;
        one_ahead = omega arith;
        taken_first = omega arith;
        taken_is = on ∙ ap (λ l. l ++ s ∷ []) r.taken_is ∙ sym (take_one_more sent t s at) ∙ ap (λ (k : ℕ). take k sent) (let q : suc t ≡ length (taken ++ z ∷ []) = omega arith in q);
        exact = omega arith;
        frames = r.frames;
        within = r.within;
        room = r.room;
        out = λ _. omega arith;
        posted_word = r.posted_word;
        completed_word = r.completed_word;
        at_home = λ p le near filled emptied. dite (ℕ_discrete p t)
            (λ here. absurd (true≢false (emptied (omega arith))))
            (λ other. home_else homes (t % n) (p % n) none (apart p other le near (omega arith) (omega arith)) (r.at_home p le near filled (λ _. refl)));
        shows = λ p y le is. let low = at_below sent p y is in let q = r.shows p y (omega arith) is in (q.0, set_else homes (t % n) (p % n) none (elsewhere n t p (omega arith) (omega arith)) ∙ q.1, q.2);
      }
    where
      apart : (p : ℕ) → p ≢ length taken → reaped ≤ p → p < reaped + n → reaped ≤ length taken → length taken < reaped + n → p % n ≢ length taken % n
      apart p other le near a b = dite (dec_lt p (length taken))
          (λ low. λ e. elsewhere n p (length taken) low (omega arith) (sym e))
          (λ high. elsewhere n (length taken) p (omega arith) (omega arith))

  pub gives_back : (filling : Bool) (x : TxParcel) (t : ℕ) → length taken ≡ suc t → Ring m n words homes sent taken completed reaped filling true → Ring m n words (set homes (t % n) (some x)) sent taken completed reaped filling false
  gives_back filling x t long r = let pos = r.some_slot in let i : ℕ = t % n in let at : i < n = mod-lt t pos in let nh = r.as_many_slots in let a = r.reaped_first in let o = r.out refl in let c = r.taken_first in let w = within_slots filling true r in record {
    some_slot = pos;
    sized = r.sized;
    full = r.full;
    piece = r.piece;
    as_many_slots = length-set homes i (some x) ∙ nh;
    two_words = r.two_words;
    reaped_first = a;
    completed_first = r.completed_first;
    one_ahead = r.one_ahead;
    taken_first = c;
    taken_is = r.taken_is;
    exact = r.exact;
    frames = r.frames;
    within = r.within;
    room = r.room;
    out = λ e. absurd (true≢false (sym e));
    posted_word = r.posted_word;
    completed_word = r.completed_word;
    at_home = λ p le near filled emptied. dite (ℕ_discrete p t)
        (λ here. subst (λ (q : ℕ). AtHome (set homes i (some x)) (q % n)) (sym here) (x, set_here homes i (some x) (omega arith)))
        (λ other. home_else homes i (p % n) (some x) (apart p other le near (omega arith) (omega arith)) (r.at_home p le near filled (λ e. absurd (other (omega arith)))));
    shows = λ p y le is. let low = at_below sent p y is in let q = r.shows p y le is in (q.0, set_else homes i (p % n) (some x) (elsewhere n t p (omega arith) (omega arith)) ∙ q.1, q.2);
  }
    where
      apart : (p : ℕ) → p ≢ t → reaped ≤ p → p < reaped + n → reaped ≤ t → t < reaped + n → p % n ≢ t % n
      apart p other le near a b = dite (dec_lt p t)
          (λ low. λ e. elsewhere n p t low (omega arith) (sym e))
          (λ high. elsewhere n t p (omega arith) (omega arith))

  pub completes : (filling : Bool) → completed < length taken → Ring m n words homes sent taken completed reaped filling false → Ring m n (set words 1 (completed + 1)) homes sent taken (suc completed) reaped filling false
  completes filling less r = let a = r.reaped_first in let b = r.one_ahead in let nw = r.two_words in record {
    some_slot = r.some_slot;
    sized = r.sized;
    full = r.full;
    piece = r.piece;
    as_many_slots = r.as_many_slots;
    two_words = length-set words 1 (completed + 1) ∙ nw;
    reaped_first = omega arith;
    completed_first = omega arith;
    one_ahead = omega arith;
    taken_first = r.taken_first;
    taken_is = r.taken_is;
    exact = r.exact;
    frames = r.frames;
    within = r.within;
    room = r.room;
    out = λ e. absurd (true≢false (sym e));
    posted_word = get_or-set_other words 1 0 (completed + 1) 0 (λ e. absurd (omega arith)) ∙ r.posted_word;
    completed_word = get_or-set_same words 1 (completed + 1) 0 (omega arith) ∙ (let q : completed + 1 ≡ suc completed = omega arith in q);
    at_home = r.at_home;
    shows = r.shows;
  }
