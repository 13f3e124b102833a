-- The targets of entries, one entry after the other.
use Rattle.std.proofs.Common.{◌≡◌, ◌≢◌, ◌≤◌, ◌<◌, ◌+◌, ◌-◌, ℕ, List, [], ◌∷◌, ◌++◌, length, take, drop, set, get_or, refl, sym, ap, ◌∙◌, subst, arith, append-nil, length-append, Some, None}
use Rattle.std.specs.List.{filter_map}
use Rattle.std.proofs.lemmas.List.{length-set, length-drop, take_more, take_more_set, take_all, take_at, take-append-drop, get_or-drop, get_or_default}
use Rattle.std.proofs.lemmas.List.Elements.{filter_map-append}
use Rattle.vmx_switch.specs.declared.answer.TheConstants.{MAX_PORTS}
use Rattle.vmx_model.specs.declared.journal.Entry.{Entry}
use Rattle.vmx_replay_chains.specs.Targets.{target_in, targets_behind}

-- the targets of the first i entries
abbrev pub found_in : List Entry → ℕ → List ℕ
found_in es i = filter_map target_in (take i es)

-- so many of them are the first ports of a list
pub record AreFound (es : List Entry) (i count : ℕ) (ports : List ℕ) : Type 0 where
  pub room : length ports ≡ MAX_PORTS
  pub few : count ≤ MAX_PORTS
  pub long : length (found_in es i) ≡ count
  pub are : take count ports ≡ found_in es i

found_more : (es : List Entry) (i : ℕ) (e : Entry) → i < length es → e ≡ get_or es i e → found_in es (i + 1) ≡ found_in es i ++ filter_map target_in (e ∷ [])
found_more es i e lt is = ap (filter_map target_in) (take_more es i e lt) ∙ filter_map-append target_in (take i es) (get_or es i e ∷ []) ∙ ap (λ (x : Entry). found_in es i ++ filter_map target_in (x ∷ [])) (sym is)

one_of : (e : Entry) (p : ℕ) → target_in e ≡ Some p → filter_map target_in (e ∷ []) ≡ p ∷ []
one_of e p h = rw h

none_of : (e : Entry) → target_in e ≡ None → filter_map target_in (e ∷ []) ≡ []
none_of e h = rw h

pub found_first : (es : List Entry) (ports : List ℕ) → length ports ≡ MAX_PORTS → AreFound es 0 0 ports
found_first es ports room = record { room = room; few = omega arith; long = refl; are = refl }

module _ (es : List Entry) (i count : ℕ) (ports : List ℕ) (f : AreFound es i count ports) (e : Entry) (lt : i < length es) (is : e ≡ get_or es i e) where
  pub found_none : target_in e ≡ None → AreFound es (i + 1) count ports
  found_none none =
      let same : found_in es (i + 1) ≡ found_in es i = found_more es i e lt is ∙ ap (λ (xs : List ℕ). found_in es i ++ xs) (none_of e none) ∙ append-nil (found_in es i) in
      record { room = f.room; few = f.few; long = ap length same ∙ f.long; are = f.are ∙ sym same }

  pub found_one : (p : ℕ) → target_in e ≡ Some p → count ≢ MAX_PORTS → AreFound es (i + 1) (count + 1) (set ports count p)
  found_one p some ne =
      let more : found_in es (i + 1) ≡ found_in es i ++ p ∷ [] = found_more es i e lt is ∙ ap (λ (xs : List ℕ). found_in es i ++ xs) (one_of e p some) in
      let few = f.few in let room = f.room in let below : count < length ports = omega (arith, few, room, ne) in
      let sum = ap length more ∙ length-append (found_in es i) (p ∷ []) in let long = f.long in record {
        room = length-set ports count p ∙ f.room;
        few = omega (arith, few, ne);
        long = omega (arith, sum, long);
        are = take_more_set ports count p below ∙ ap (λ (xs : List ℕ). xs ++ p ∷ []) f.are ∙ sym more;
      }

-- where no more entries are left, or no more ports, all is found
module _ (es : List Entry) (i count : ℕ) (ports : List ℕ) (f : AreFound es i count ports) where
  pub found_all : length es ≤ i → take count ports ≡ take MAX_PORTS (filter_map target_in es)
  found_all all =
      let whole : found_in es i ≡ filter_map target_in es = ap (filter_map target_in) (take_all i es all) in
      let few = f.few in let long = f.long in let short = ap length whole in
      f.are ∙ whole ∙ sym (take_all MAX_PORTS (filter_map target_in es) (omega (arith, few, long, short)))

  pub found_enough : count ≡ MAX_PORTS → take count ports ≡ take MAX_PORTS (filter_map target_in es)
  found_enough full =
      let parts : filter_map target_in es ≡ found_in es i ++ filter_map target_in (drop i es) = ap (filter_map target_in) (sym (take-append-drop i es)) ∙ filter_map-append target_in (take i es) (drop i es) in
      f.are ∙ sym (ap (take MAX_PORTS) parts ∙ take_at (found_in es i) (filter_map target_in (drop i es)) MAX_PORTS (f.long ∙ full))

-- entries behind the first so many
pub behind_is : (es : List Entry) (from index : ℕ) (e : Entry) → from ≤ index → index < length es → e ≡ get_or es index e → (index - from < length (drop from es)) × (e ≡ get_or (drop from es) (index - from) e)
behind_is es from index e le lt is =
    let l = length-drop from es in let sum : from + (index - from) ≡ index = omega (arith, le) in
    (omega (arith, l, le, lt), is ∙ ap (λ (k : ℕ). get_or es k e) (sym sum) ∙ sym (get_or-drop from es (index - from) e))

pub behind_all : (es : List Entry) (from index : ℕ) → length es ≤ index → length (drop from es) ≤ index - from
behind_all es from index le = let l = length-drop from es in omega (arith, l, le)

pub behind_next : (from index : ℕ) → from ≤ index → (index - from) + 1 ≡ (index + 1) - from
behind_next from index le = omega (arith, le)

-- one entry more behind them
module _ (es : List Entry) (from index count : ℕ) (ports : List ℕ) (f : AreFound (drop from es) (index - from) count ports) (le : from ≤ index) (lt : index < length es) (d : Entry) where
  abbrev entry : Entry
  entry = get_or es index d

  entry_is : (index - from < length (drop from es)) × (entry ≡ get_or (drop from es) (index - from) entry)
  entry_is = behind_is es from index entry le lt (get_or_default es index d entry lt)

  pub next_none : target_in (get_or es index d) ≡ None → AreFound (drop from es) (index + 1 - from) count ports
  next_none none = subst (λ (k : ℕ). AreFound (drop from es) k count ports) (behind_next from index le) (found_none (drop from es) (index - from) count ports f entry entry_is.0 entry_is.1 none)

  pub next_one : (p : ℕ) → target_in (get_or es index d) ≡ Some p → count ≢ MAX_PORTS → AreFound (drop from es) (index + 1 - from) (count + 1) (set ports count p)
  next_one p some ne = subst (λ (k : ℕ). AreFound (drop from es) k (count + 1) (set ports count p)) (behind_next from index le) (found_one (drop from es) (index - from) count ports f entry entry_is.0 entry_is.1 p some ne)

-- behind all entries there are none
pub behind_end : (es : List Entry) → targets_behind (length es) es ≡ []
behind_end [] = refl
behind_end (e ∷ es) = behind_end es
