-- What a generation bit tells, and why each step keeps it.
use Rattle.std.proofs.Common.{◌≡◌, ◌≢◌, ℕ, zero, suc, ◌==◌, if◌then◌else◌, Bool, true, false, Option, None, ◌+◌, ◌-◌, ◌*◌, ◌/◌, ◌%◌, ◌^◌, ◌<◌, ◌≤◌, ◌↔◌, Some, List, [], ◌∷◌, ◌++◌, length, set, replicate, slice_index, refl, sym, ap, ◌∙◌, subst, inl, inr, arith, length-append, get_or-set_other, get_or-set_same}
use Rattle.std.proofs.Math.ListN.{length-set}
use Rattle.std.proofs.Math.Nat.{mul-le-mul_right, add-mul}
use Rattle.std.specs.Int.{bit_at}
use Rattle.std.proofs.lemmas.Bool.{cases_lt, cases_eq}
use Rattle.std.proofs.lemmas.List.{get_or_append_left, get_or_push, get_or-replicate, length-replicate, set-get_or}
use Rattle.std.proofs.lemmas.Nat.{div-add-mod', div-mul-add, mod_below}
use Rattle.std.proofs.lemmas.Nat.Bits.{bit_at_xor, bit_at-pow_same, bit_at-zero}
use Rattle.vmx_genring.specs.Rings.{generation, generation_bit, flipped, Entry, Contents, entry_at, StandFor}
use Rattle.vmx_genring.specs.Steps.{staged, published, Begins, StoresFirst, StagesFirst, Stages, Publishes, PublishesOne, FirstStands, Reposts, Consumes, FirstShows, GenerationIsBit, GenerationTells}

-- positions less than a lap apart have different indices
pub elsewhere : (size p q : ℕ) → p < q → q < p + size → p % size ≢ q % size
elsewhere size p q less near e =
    let a = div-add-mod' p size in
    let b = div-add-mod' q size in
    elim (cases_lt (p / size) (q / size)) [
      | inl below ↦
          let step : (p / size + 1) * size ≤ q / size * size = mul-le-mul_right size (omega arith) in
          let open_step = add-mul (p / size) 1 size in
          omega arith
      | inr above ↦ let step : q / size * size ≤ p / size * size = mul-le-mul_right size above in omega arith
    ]

-- a lap on, the index is the same, and the generation the other one
pub lap_on-div : (size p : ℕ) → 0 < size → (p + size) / size ≡ p / size + 1
lap_on-div size p some =
    let a = div-add-mod' p size in
    let low = mod_below p size some in
    let sum : p + size ≡ (p / size + 1) * size + p % size = let open_step = add-mul (p / size) 1 size in omega arith in
    ap (λ (n : ℕ). n / size) sum ∙ div-mul-add (p / size + 1) size (p % size) low

pub lap_on-index : (size p : ℕ) → 0 < size → (p + size) % size ≡ p % size
lap_on-index size p some =
    let a = div-add-mod' p size in
    let b = div-add-mod' (p + size) size in
    let open_step = add-mul (p / size) 1 size in
    let product : (p + size) / size * size ≡ (p / size + 1) * size = ap (λ (n : ℕ). n * size) (lap_on-div size p some) in
    omega arith

pub lap_on-generation : (size p : ℕ) → 0 < size → generation_bit size (p + size) ≢ generation_bit size p
lap_on-generation size p some e =
    let next : generation_bit size (p + size) ≡ 1 - (p / size + 1) % 2 = ap (λ (n : ℕ). 1 - n % 2) (lap_on-div size p some) in
    omega (arith, e, next)

-- in the first lap the index is the position, and the generation is 1
pub first_lap-div : (size p : ℕ) → p < size → p / size ≡ 0
first_lap-div size p less = ap (λ (n : ℕ). n / size) (omega arith) ∙ div-mul-add 0 size p less

pub first_lap-index : (size p : ℕ) → p < size → p % size ≡ p
first_lap-index size p less =
    let a = div-add-mod' p size in
    let product : p / size * size ≡ 0 * size = ap (λ (n : ℕ). n * size) (first_lap-div size p less) in
    omega arith

pub first_lap-generation : (size p : ℕ) → p < size → generation_bit size p ≡ 1
first_lap-generation size p less = rw (first_lap-div size p less) refl

-- the flipped bit is the other one
pub flipped_bit : (k word : ℕ) → bit_at (flipped k word) k ≢ bit_at word k
flipped_bit k word e =
    let both : bit_at (flipped k word) k ≡ (bit_at word k + bit_at (2 ^ k) k) % 2 = bit_at_xor word (2 ^ k) k in
    let one : bit_at (2 ^ k) k ≡ 1 = bit_at-pow_same k in
    omega (arith, e, both, one)

-- the bit of each published position that shows is its generation, whatever is staged elsewhere
pub shows_generation : (size k : ℕ) (firsts seconds : List ℕ) (c : Contents) → StandFor size k firsts seconds c
    → (p : ℕ) → p < c.published → length c.entries ≤ p + size → bit_at (slice_index seconds (p % size)) k ≡ generation_bit size p
shows_generation size k firsts seconds c stand p less shown =
    let known = stand.staged_last in
    let apart : p ≢ c.published = omega arith in
    ap (λ (w : ℕ). bit_at w k) (stand.second p (omega arith) shown apart) ∙ stand.own p (omega arith)

-- the bit of the first position that is not published is not its generation
pub hides_next : (size k : ℕ) (firsts seconds : List ℕ) (c : Contents) → 0 < size → StandFor size k firsts seconds c
    → bit_at (slice_index seconds (c.published % size)) k ≢ generation_bit size c.published
hides_next size k firsts seconds c some stand same =
    elim (cases_lt c.published (length c.entries)) [
      | inl staged_there ↦
          let word = ap (λ (w : ℕ). bit_at w k) (stand.inverted staged_there) in
          flipped_bit k (entry_at c.entries c.published).second (sym word ∙ same ∙ sym (stand.own c.published staged_there))
      | inr none_staged ↦
          elim (cases_lt c.published size) [
            | inl new ↦
                let zero : bit_at (slice_index seconds c.published) k ≡ 0 = stand.never c.published none_staged new in
                let here = ap (λ (i : ℕ). bit_at (slice_index seconds i) k) (first_lap-index size c.published new) in
                let one = first_lap-generation size c.published new in
                omega (arith, same, zero, here, one)
            | inr old ↦
                let known = stand.staged_last in
                let p : ℕ = c.published - size in
                let on : p + size ≡ c.published = omega arith in
                let before = shows_generation size k firsts seconds c stand p (omega arith) (omega arith) in
                let here = ap (λ (i : ℕ). bit_at (slice_index seconds i) k) (sym (lap_on-index size p some) ∙ ap (λ (n : ℕ). n % size) on) in
                let gen = ap (λ (n : ℕ). generation_bit size n) on in
                lap_on-generation size p some (gen ∙ sym same ∙ sym here ∙ before)
          ]
    ]

-- so the bit tells, between consumed and published, whether a position is published
pub tells : (size k : ℕ) (firsts seconds : List ℕ) (c : Contents) (p : ℕ) → 0 < size → StandFor size k firsts seconds c
    → c.consumed ≤ p → p ≤ c.published → (bit_at (slice_index seconds (p % size)) k ≡ generation_bit size p) ↔ (p < c.published)
tells size k firsts seconds c p some stand low high = (
  λ same. elim (cases_lt p c.published) [
    | inl less ↦ less
    | inr above ↦
        let at : p ≡ c.published = omega arith in
        absurd (hides_next size k firsts seconds c some stand (subst (λ (n : ℕ). bit_at (slice_index seconds (n % size)) k ≡ generation_bit size n) at same))
  ],
  λ less. let room = stand.room in shows_generation size k firsts seconds c stand p less (omega arith),
)

pub begins : Begins
begins size k = record {
  as_many_firsts = length-replicate size 0;
  as_many_seconds = length-replicate size 0;
  in_order = omega arith;
  staged_last = omega arith;
  room = omega arith;
  own = λ p less. absurd (omega arith);
  second = λ p less. absurd (omega arith);
  inverted = λ less. absurd (omega arith);
  never = λ p past less. let zero : slice_index (replicate size 0) p ≡ 0 = get_or-replicate size p 0 0 less in ap (λ (w : ℕ). bit_at w k) zero ∙ bit_at-zero k;
  first = λ p less. absurd (omega arith);
  next_room = λ word e. absurd (cc);
  next_first = λ word e. absurd (cc);
}

pub stores_first : StoresFirst
stores_first size k word firsts seconds c some stand room =
    let at : ℕ = length c.entries % size in
    let within : at < length firsts = let many = stand.as_many_firsts in let m = mod_below (length c.entries) size some in omega arith in
    record {
      as_many_firsts = length-set firsts at word ∙ stand.as_many_firsts;
      as_many_seconds = stand.as_many_seconds;
      in_order = stand.in_order;
      staged_last = stand.staged_last;
      room = stand.room;
      own = stand.own;
      second = stand.second;
      inverted = stand.inverted;
      never = stand.never;
      first = λ p less shown free.
          elim (cases_eq (p + size) (length c.entries)) [
            | inl here ↦ absurd (cc (free here))
            | inr other ↦
                let apart = elsewhere size p (length c.entries) less (omega arith) in
                get_or-set_other firsts at (p % size) word 0 apart ∙ stand.first p less shown (λ here. absurd (other here))
          ];
      next_room = λ w e. room;
      next_first = λ w e. let same : word ≡ w = cc e in get_or-set_same firsts at word 0 within ∙ same;
    }

-- an entry behind others leaves them where they are
entry_before : (xs : List Entry) (e : Entry) (p : ℕ) → p < length xs → entry_at (xs ++ e ∷ []) p ≡ entry_at xs p
entry_before xs e p less = get_or_append_left xs (e ∷ []) (record { first = 0; second = 0 }) p less

entry_end : (xs : List Entry) (e : Entry) → entry_at (xs ++ e ∷ []) (length xs) ≡ e
entry_end xs e = get_or_push xs e (record { first = 0; second = 0 }) (length xs) refl

-- an entry is staged by its second word, the first one's with the generation inverted
stages_by : (size k word : ℕ) (firsts seconds : List ℕ) (c : Contents) (e : Entry) → 0 < size → StandFor size k firsts seconds c
    → c.next ≡ Some e.first → bit_at e.second k ≡ generation_bit size (length c.entries)
    → (c.published ≡ length c.entries → word ≡ flipped k e.second) → (c.published < length c.entries → word ≡ e.second)
    → StandFor size k firsts (set seconds (length c.entries % size) word) (staged c e)
stages_by size k word firsts seconds c e some stand opened generation_is if_first if_later =
    let n : ℕ = length c.entries in
    let at : ℕ = n % size in
    let longer : length (c.entries ++ e ∷ []) ≡ n + 1 = length-append c.entries (e ∷ []) in
    let within : at < length seconds = let many = stand.as_many_seconds in let m = mod_below n size some in omega arith in
    let order = stand.in_order in
    let known = stand.staged_last in
    let free : n < c.consumed + size = stand.next_room e.first opened in
    let here : slice_index (set seconds at word) at ≡ word = get_or-set_same seconds at word 0 within in
    let other : (i : ℕ) → i ≢ at → slice_index (set seconds at word) i ≡ slice_index seconds i = λ i apart. get_or-set_other seconds at i word 0 apart in
    let before : (p : ℕ) → p < n → entry_at (c.entries ++ e ∷ []) p ≡ entry_at c.entries p = entry_before c.entries e in
    let end : (p : ℕ) → p ≡ n → entry_at (c.entries ++ e ∷ []) p ≡ e = λ p is. ap (λ (q : ℕ). entry_at (c.entries ++ e ∷ []) q) is ∙ entry_end c.entries e in
    let shown_here : (p : ℕ) → p ≡ n → slice_index (set seconds at word) (p % size) ≡ word = λ p is. ap (λ (q : ℕ). slice_index (set seconds at word) (q % size)) is ∙ here in
    record {
      as_many_firsts = stand.as_many_firsts;
      as_many_seconds = length-set seconds at word ∙ stand.as_many_seconds;
      in_order = order;
      staged_last = omega arith;
      room = omega arith;
      own = λ p less. elim (cases_lt p n) [
        | inl old ↦ ap (λ (x : Entry). bit_at x.second k) (before p old) ∙ stand.own p old
        | inr last ↦
            let is : p ≡ n = omega arith in
            ap (λ (x : Entry). bit_at x.second k) (end p is) ∙ generation_is ∙ ap (λ (q : ℕ). generation_bit size q) (sym is)
      ];
      second = λ p less shown apart. elim (cases_lt p n) [
        | inl old ↦
            other (p % size) (elsewhere size p n old (omega arith))
            ∙ stand.second p old (omega arith) apart ∙ ap (λ (x : Entry). x.second) (sym (before p old))
        | inr last ↦
            let is : p ≡ n = omega arith in
            shown_here p is ∙ if_later (omega arith) ∙ ap (λ (x : Entry). x.second) (sym (end p is))
      ];
      inverted = λ less. elim (cases_lt c.published n) [
        | inl old ↦
            other (c.published % size) (elsewhere size c.published n old (omega arith))
            ∙ stand.inverted old ∙ ap (λ (x : Entry). flipped k x.second) (sym (before c.published old))
        | inr last ↦
            let is : c.published ≡ n = omega arith in
            shown_here c.published is ∙ if_first is ∙ ap (λ (x : Entry). flipped k x.second) (sym (end c.published is))
      ];
      never = λ p past less.
          let lap : at ≡ n = first_lap-index size n (omega arith) in
          ap (λ (w : ℕ). bit_at w k) (other p (omega arith)) ∙ stand.never p (omega arith) less;
      first = λ p less shown none. elim (cases_lt p n) [
        | inl old ↦ stand.first p old (omega arith) (λ stands. absurd (omega arith)) ∙ ap (λ (x : Entry). x.first) (sym (before p old))
        | inr last ↦
            let is : p ≡ n = omega arith in
            ap (λ (q : ℕ). slice_index firsts (q % size)) is ∙ stand.next_first e.first opened ∙ ap (λ (x : Entry). x.first) (sym (end p is))
      ];
      next_room = λ w none. absurd (cc none);
      next_first = λ w none. absurd (cc none);
    }

pub stages_first : StagesFirst
stages_first size k firsts seconds c e some stand opened generation_is none =
    stages_by size k (flipped k e.second) firsts seconds c e some stand opened generation_is (λ _. refl) (λ less. absurd (omega arith))

pub stages : Stages
stages size k firsts seconds c e some stand opened generation_is less =
    stages_by size k e.second firsts seconds c e some stand opened generation_is (λ none. absurd (omega arith)) (λ _. refl)

pub publishes : Publishes
publishes size k firsts seconds c some stand less =
    let at : ℕ = c.published % size in
    let word : ℕ = (entry_at c.entries c.published).second in
    let within : at < length seconds = let many = stand.as_many_seconds in let m = mod_below c.published size some in omega arith in
    let order = stand.in_order in
    let room = stand.room in
    let other : (i : ℕ) → i ≢ at → slice_index (set seconds at word) i ≡ slice_index seconds i = λ i apart. get_or-set_other seconds at i word 0 apart in
    record {
      as_many_firsts = stand.as_many_firsts;
      as_many_seconds = length-set seconds at word ∙ stand.as_many_seconds;
      in_order = omega arith;
      staged_last = omega arith;
      room = room;
      own = stand.own;
      second = λ p below shown apart. elim (cases_lt p c.published) [
        | inl early ↦ other (p % size) (elsewhere size p c.published early (omega arith)) ∙ stand.second p below shown (omega arith)
        | inr late ↦ elim (cases_eq p c.published) [
          | inl is ↦
              ap (λ (q : ℕ). slice_index (set seconds at word) (q % size)) is ∙ get_or-set_same seconds at word 0 within
              ∙ ap (λ (q : ℕ). (entry_at c.entries q).second) (sym is)
          | inr not ↦
              other (p % size) (λ same. elsewhere size c.published p (omega arith) (omega arith) (sym same)) ∙ stand.second p below shown not
        ]
      ];
      inverted = λ none. absurd (omega arith);
      never = λ p past small.
          let lap : at ≡ c.published = first_lap-index size c.published (omega arith) in
          ap (λ (w : ℕ). bit_at w k) (other p (omega arith)) ∙ stand.never p past small;
      first = stand.first;
      next_room = stand.next_room;
      next_first = stand.next_first;
    }

set_twice : (xs : List ℕ) (i a b : ℕ) → set (set xs i a) i b ≡ set xs i b
set_twice [] i a b = refl
set_twice (x ∷ xs) zero a b = refl
set_twice (x ∷ xs) (suc i) a b = ap (λ (ys : List ℕ). x ∷ ys) (set_twice xs i a b)

pub publishes_one : PublishesOne
publishes_one size k firsts seconds c e some stand opened generation_is none =
    let at : ℕ = length c.entries % size in
    let longer : length (c.entries ++ e ∷ []) ≡ length c.entries + 1 = length-append c.entries (e ∷ []) in
    let waiting = stages_first size k firsts seconds c e some stand opened generation_is none in
    let done = publishes size k firsts (set seconds at (flipped k e.second)) (staged c e) some waiting (omega arith) in
    let place : c.published % size ≡ at = ap (λ (q : ℕ). q % size) none in
    let last : (entry_at (c.entries ++ e ∷ []) c.published).second ≡ e.second =
    ap (λ (q : ℕ). (entry_at (c.entries ++ e ∷ []) q).second) none ∙ ap (λ (x : Entry). x.second) (entry_end c.entries e) in
    let words : set (set seconds at (flipped k e.second)) (c.published % size) (entry_at (c.entries ++ e ∷ []) c.published).second ≡ set seconds at e.second =
    ap (λ (i : ℕ). set (set seconds at (flipped k e.second)) i (entry_at (c.entries ++ e ∷ []) c.published).second) place
    ∙ ap (λ (w : ℕ). set (set seconds at (flipped k e.second)) at w) last ∙ set_twice seconds at (flipped k e.second) e.second in
    let Stands : List ℕ → Type 0 = λ ws. StandFor size k firsts ws (published (staged c e)) in
    subst Stands words done

pub consumes : Consumes
consumes size k count firsts seconds c stand most =
    let room = stand.room in
    record {
      as_many_firsts = stand.as_many_firsts;
      as_many_seconds = stand.as_many_seconds;
      in_order = most;
      staged_last = stand.staged_last;
      room = omega arith;
      own = stand.own;
      second = stand.second;
      inverted = stand.inverted;
      never = stand.never;
      first = stand.first;
      next_room = λ word opened. let free = stand.next_room word opened in omega arith;
      next_first = stand.next_first;
    }

pub first_stands : FirstStands
first_stands size k word firsts seconds c some stand room is =
    let at : ℕ = length c.entries % size in
    let kept : set firsts at word ≡ firsts = ap (λ (w : ℕ). set firsts at w) (sym is) ∙ set-get_or firsts at 0 in
    let Stands : List ℕ → Type 0 = λ ws. StandFor size k ws seconds (record c { next = Some word }) in
    subst Stands kept (stores_first size k word firsts seconds c some stand room)

pub reposts : Reposts
reposts size k firsts seconds c e some stand room is generation_is none =
    publishes_one size k firsts seconds (record c { next = Some e.first }) e some (first_stands size k e.first firsts seconds c some stand room is) refl generation_is none

pub first_shows : FirstShows
first_shows size k firsts seconds c p stand low high =
    let room = stand.room in stand.first p high (omega arith) (λ e. by_next c.next refl e)
  where
    by_next : (o : Option ℕ) → c.next ≡ o → p + size ≡ length c.entries → c.next ≡ None
    by_next None is e = is
    by_next (Some w) is e = let room = stand.next_room w is in absurd (omega arith)

-- by the lap's evenness
bit_by : (n : ℕ) → n < 2 → 1 - n ≡ (if n == 0 then 1 else 0)
bit_by zero less = refl
bit_by (suc zero) less = refl
bit_by (suc (suc n)) less = absurd (omega arith)

pub generation_is_bit : GenerationIsBit
generation_is_bit size p = bit_by (p / size % 2) (omega arith)

-- a bit and a truth value
told_by : (b : ℕ) (g : Bool) → b < 2 → (b ≡ (if g then 1 else 0)) ↔ ((b == 1) ≡ g)
told_by zero true less = (λ e. absurd (omega arith), λ e. absurd (cc e))
told_by zero false less = (λ _. refl, λ _. refl)
told_by (suc zero) true less = (λ _. refl, λ _. refl)
told_by (suc zero) false less = (λ e. absurd (omega arith), λ e. absurd (cc e))
told_by (suc (suc n)) g less = absurd (omega arith)

pub generation_tells : GenerationTells
generation_tells size p k word =
    let told = told_by (bit_at word k) (generation size p) (omega arith) in
    (λ same. told.0 (same ∙ generation_is_bit size p), λ same. told.1 same ∙ sym (generation_is_bit size p))
