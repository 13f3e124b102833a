-- The steps of a ring as laws: what a store of one word, or nothing at all, makes of the contents.
use Rattle.std.specs.Prelude.{◌≡◌, ℕ, ◌+◌, ◌%◌, ◌<◌, ◌≤◌, ◌↔◌, ◌==◌, if◌then◌else◌, Some, None, List, [], ◌∷◌, ◌++◌, length, slice_index, slice_set, replicate}
use Rattle.std.specs.Int.{bit_at}
use Rattle.vmx_genring.specs.Rings.{generation, generation_bit, flipped, Entry, Contents, entry_at, StandFor}

abbrev pub nothing : Contents
nothing = record { entries = []; next = None; published = 0; consumed = 0 }

-- the next entry goes behind the others, staged
abbrev pub staged : Contents → Entry → Contents
staged c e = record c { entries = c.entries ++ e ∷ []; next = None }

-- all that is staged is published
abbrev pub published : Contents → Contents
published c = record c { published = length c.entries }

-- zeroed memory stands for an empty ring
abbrev pub Begins : Type 0
Begins = (size k : ℕ) → StandFor size k (replicate size 0) (replicate size 0) nothing

-- where there is room, the first word of the next entry may be stored
abbrev pub StoresFirst : Type 0
StoresFirst =
    (size k word : ℕ) (firsts seconds : List ℕ) (c : Contents) → 0 < size → StandFor size k firsts seconds c
    → length c.entries < c.consumed + size
    → StandFor size k (slice_set firsts (length c.entries % size) word) seconds (record c { next = Some word })

-- behind its first word, the first staged entry's second word is stored with the generation inverted
abbrev pub StagesFirst : Type 0
StagesFirst =
    (size k : ℕ) (firsts seconds : List ℕ) (c : Contents) (e : Entry) → 0 < size → StandFor size k firsts seconds c
    → c.next ≡ Some e.first → bit_at e.second k ≡ generation_bit size (length c.entries) → c.published ≡ length c.entries
    → StandFor size k firsts (slice_set seconds (length c.entries % size) (flipped k e.second)) (staged c e)

-- each later one's is stored as it is
abbrev pub Stages : Type 0
Stages =
    (size k : ℕ) (firsts seconds : List ℕ) (c : Contents) (e : Entry) → 0 < size → StandFor size k firsts seconds c
    → c.next ≡ Some e.first → bit_at e.second k ≡ generation_bit size (length c.entries) → c.published < length c.entries
    → StandFor size k firsts (slice_set seconds (length c.entries % size) e.second) (staged c e)

-- the first staged entry's second word, stored as it is, publishes all that is staged
abbrev pub Publishes : Type 0
Publishes =
    (size k : ℕ) (firsts seconds : List ℕ) (c : Contents) → 0 < size → StandFor size k firsts seconds c
    → c.published < length c.entries
    → StandFor size k firsts (slice_set seconds (c.published % size) (entry_at c.entries c.published).second) (published c)

-- where nothing is staged, an entry's second word publishes it at once
abbrev pub PublishesOne : Type 0
PublishesOne =
    (size k : ℕ) (firsts seconds : List ℕ) (c : Contents) (e : Entry) → 0 < size → StandFor size k firsts seconds c
    → c.next ≡ Some e.first → bit_at e.second k ≡ generation_bit size (length c.entries) → c.published ≡ length c.entries
    → StandFor size k firsts (slice_set seconds (length c.entries % size) e.second) (published (staged c e))

-- where there is room and the word at the next entry's index is its first word already, as at a repost, it counts as stored
abbrev pub FirstStands : Type 0
FirstStands =
    (size k word : ℕ) (firsts seconds : List ℕ) (c : Contents) → 0 < size → StandFor size k firsts seconds c
    → length c.entries < c.consumed + size → slice_index firsts (length c.entries % size) ≡ word
    → StandFor size k firsts seconds (record c { next = Some word })

-- so the store of its second word alone publishes it
abbrev pub Reposts : Type 0
Reposts =
    (size k : ℕ) (firsts seconds : List ℕ) (c : Contents) (e : Entry) → 0 < size → StandFor size k firsts seconds c
    → length c.entries < c.consumed + size → slice_index firsts (length c.entries % size) ≡ e.first
    → bit_at e.second k ≡ generation_bit size (length c.entries) → c.published ≡ length c.entries
    → StandFor size k firsts (slice_set seconds (length c.entries % size) e.second) (published (staged c e))

-- published entries are consumed without a store
abbrev pub Consumes : Type 0
Consumes =
    (size k count : ℕ) (firsts seconds : List ℕ) (c : Contents) → StandFor size k firsts seconds c
    → c.consumed + count ≤ c.published → StandFor size k firsts seconds (record c { consumed = c.consumed + count })

-- the first word of each entry that is not consumed shows as it is
abbrev pub FirstShows : Type 0
FirstShows =
    (size k : ℕ) (firsts seconds : List ℕ) (c : Contents) (p : ℕ) → StandFor size k firsts seconds c
    → c.consumed ≤ p → p < length c.entries → slice_index firsts (p % size) ≡ (entry_at c.entries p).first

-- the generation as a bit is 1 exactly where it is true
abbrev pub GenerationIsBit : Type 0
GenerationIsBit = (size p : ℕ) → generation_bit size p ≡ (if generation size p then 1 else 0)

-- so a word's bit is the generation's bit exactly where, as a truth value, it is the generation
abbrev pub GenerationTells : Type 0
GenerationTells =
    (size p k word : ℕ) → (bit_at word k ≡ generation_bit size p) ↔ ((bit_at word k == 1) ≡ generation size p)
