-- The four moves of the ring: each end takes a slot out at a load, and puts it home at a store.
use Rattle.std.proofs.Common.{◌≡◌, ℕ, suc, ◌+◌, ◌*◌, ◌/◌, ◌%◌, ◌<◌, List, [], ◌∷◌, ◌++◌, length, slice_set, slice_index, Bool, true, false, true≢false, sym, refl, ◌∙◌, arith, mod-lt, length-append, length-set, get_or-set_other, get_or-set_same}
use mathlib.Core.Option.{none, some}
use native.Mathlib.Nat.{add-div_right}
use Rattle.std.specs.Prelude.{Some, None}
use Rattle.atomic_table.proofs.Lists.{set_here, set_else, one_turn}
use Rattle.vmx_ring_laws.specs.Lists.{at_below}
use Rattle.vmx_ring_laws.specs.Moves.{elsewhere, touches, puts, leaves}
use Rattle.vmx_ends.specs.declared.packet.Packet.{Packet}
use Rattle.vmx_link.specs.Rule.{Ring, Slot}

module _ (n : ℕ) (words : List ℕ) (homes : List Slot) (pushed : List Packet) (t : ℕ) where
  -- the sender takes out the free slot of the next position
  pub takes_out : (reading : Bool) → Ring n words homes pushed t false reading → length pushed < t + n → Ring n words (slice_set homes (length pushed % n) none) pushed t true reading
  takes_out reading r room = let h : ℕ = length pushed in let i : ℕ = h % n in record {
    as_many_words = r.as_many_words;
    as_many_slots = length-set homes i none ∙ r.as_many_slots;
    lap = touches n _ _ _ _ _ _ pushed t i r.lap (λ j less other k. (slice_index words j, set_else homes i j none other k))
        (λ p x w le at other f. f)
        (λ p w le less other f. (f.0, λ still. f.1 (λ _. refl)))
        (λ p x le at here f. let less = at_below pushed p x at in absurd (elsewhere n p h less (omega arith) (sym here)))
        (λ p le less here f. let b = r.lap.behind in let same = one_turn h p n le (omega arith) (sym here) in (f.0, λ still. absurd (true≢false (still (sym same)))));
    room = λ _. room;
    there = r.there;
  }

  -- it puts the slot home with the packet, and the packet is in the ring
  pub publishes : (reading : Bool) (x : Packet) → Ring n words homes pushed t true reading
      → Ring n (slice_set words (length pushed % n) (2 * (length pushed / n) + 1)) (slice_set homes (length pushed % n) (some (Some x))) (pushed ++ x ∷ []) t false reading
  publishes reading x r = let h : ℕ = length pushed in let i : ℕ = h % n in let near = r.room refl in let new : ℕ = 2 * (h / n) + 1 in let nw = r.as_many_words in let nh = r.as_many_slots in
      let at : i < n = mod-lt h r.lap.some_cell in let longer : length (pushed ++ x ∷ []) ≡ h + 1 = length-append pushed (x ∷ []) in record {
        as_many_words = length-set words i new ∙ nw;
        as_many_slots = length-set homes i (some (Some x)) ∙ nh;
        lap = puts n _ _ _ _ _ _ pushed t x r.lap near (λ j less other k. (get_or-set_other words i j new 0 other k, set_else homes i j (some (Some x)) other k))
            (get_or-set_same words i new 0 (omega arith), λ _. set_here homes i (some (Some x)) (omega arith))
            (λ p z w le is f. f)
            (λ p w more less f. (f.0, λ _. f.1 (λ e. absurd (omega arith))));
        room = λ e. absurd (true≢false (sym e));
        there = λ e. let a = r.there e in omega arith;
      }

  -- the receiver takes out the slot of the first packet
  pub grabs : (writing : Bool) → Ring n words homes pushed t writing false → t < length pushed → Ring n words (slice_set homes (t % n) none) pushed t writing true
  grabs writing r some_in = let h : ℕ = length pushed in let i : ℕ = t % n in let w = r.lap.within in record {
    as_many_words = r.as_many_words;
    as_many_slots = length-set homes i none ∙ r.as_many_slots;
    lap = touches n _ _ _ _ _ _ pushed t i r.lap (λ j less other k. (slice_index words j, set_else homes i j none other k))
        (λ p x c le is other f. (f.0, λ still. f.1 (λ _. refl)))
        (λ p c le less other f. f)
        (λ p x le is here f. let less = at_below pushed p x is in let same = one_turn t p n le (omega arith) (sym here) in (f.0, λ still. absurd (true≢false (still (sym same)))))
        (λ p le less here f. absurd (elsewhere n t p (omega arith) less here));
    room = r.room;
    there = λ _. some_in;
  }

  -- it puts the slot home with nothing in it, and the cell is free for the position one lap on
  pub frees : (writing : Bool) → Ring n words homes pushed t writing true → Ring n (slice_set words (t % n) (2 * (t / n) + 2)) (slice_set homes (t % n) (some None)) pushed (suc t) writing false
  frees writing r = let h : ℕ = length pushed in let i : ℕ = t % n in let some_in = r.there refl in let new : ℕ = 2 * (t / n) + 2 in let nw = r.as_many_words in let nh = r.as_many_slots in
      let at : i < n = mod-lt t r.lap.some_cell in let up : (t + n) / n ≡ t / n + 1 = add-div_right t r.lap.some_cell in record {
        as_many_words = length-set words i new ∙ nw;
        as_many_slots = length-set homes i (some None) ∙ nh;
        lap = leaves n _ _ _ _ _ _ pushed t r.lap some_in (λ j less other k. (get_or-set_other words i j new 0 other k, set_else homes i j (some None) other k))
            ((get_or-set_same words i new 0 (omega arith) ∙ (let g : 2 * (t / n) + 2 ≡ 2 * ((t + n) / n) = omega arith in g)), λ _. set_here homes i (some None) (omega arith))
            (λ p z c more is f. (f.0, λ _. f.1 (λ e. absurd (omega arith))))
            (λ p c le less f. f);
        room = λ e. let a = r.room e in omega arith;
        there = λ e. absurd (true≢false (sym e));
      }
