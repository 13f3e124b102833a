-- The links between all ports, made one after the other: from port to port, and from each to each other.
use Rattle.std.proofs.Common.{◌≡◌, ◌≢◌, ℕ, suc, ◌+◌, ◌<◌, ◌≤◌, List, [], ◌∷◌, ◌++◌, length, set, refl, sym, ap, ◌∙◌, subst, arith, Some, inl, inr}
use Rattle.std.specs.List.{slice_get, AllByRecursion}
use Rattle.std.proofs.lemmas.List.{length-set}
use Rattle.std.proofs.lemmas.Bool.Decides.{eqb_tells}
use Rattle.std.proofs.lemmas.Bool.{cases_lt}
use Rattle.vmx_link.specs.Views.{LinkOutView, LinkInView}
use Rattle.vmx_link.specs.Ends.{new_out, new_in}
use Rattle.vmx_model.specs.declared.limits.TheConstants.{LINK_CAPACITY}
use Rattle.vmx_model.specs.Bags.{EachQueue}
use Rattle.vmx_device_looks.specs.Ports.{other}
use Rattle.vmx_device_looks.specs.PortLaws.{other_is, other_once}
use Rattle.vmx_device_looks.specs.Queues.{each_map, each_at, each_set, each_push, all_at, get_lt}
use Rattle.vmx_device_laws.specs.New.{IsNewOut, IsNewIn}
use Rattle.vmx_device_laws.proofs.PairingIn.{some_same}
use Rattle.vmx_replay_start.specs.Linking.{LinksView, IsJoined, IsJoinedIfOther, AreNone, IsRow, IsColumn, IsLink, AreLinked}
use Rattle.vmx_replay_start.proofs.Pushed.{length_pushed, IsIn, was_in}

-- the links from port p, once each port below `from` has all of its n - 1, and the port `from` has those to the ports below `to`
pub record RowTo (n from to p : ℕ) (os : List LinkOutView) : Type 0 where
  pub new : EachQueue (IsNewOut p) 0 os
  pub past : p < from → suc (length os) ≡ n
  pub low : p ≡ from → p < to → suc (length os) ≡ to
  pub high : p ≡ from → to ≤ p → length os ≡ to
  pub later : from < p → length os ≡ 0

-- the links to port p
pub record ColumnTo (from to p : ℕ) (is : List LinkInView) : Type 0 where
  pub new : EachQueue (IsNewIn p) 0 is
  pub now_low : p < to → p ≤ from → length is ≡ from
  pub now_high : p < to → from < p → length is ≡ suc from
  pub then_low : to ≤ p → p < from → suc (length is) ≡ from
  pub then_high : to ≤ p → from ≤ p → length is ≡ from

-- all of them
pub record LinkedTo (n from to : ℕ) (v : LinksView) : Type 0 where
  pub count : (length v.out ≡ n) × (length v.input ≡ n)
  pub out : EachQueue (RowTo n from to) 0 v.out
  pub input : EachQueue (ColumnTo from to) 0 v.input
  pub keys : (f t : ℕ) (o : LinkOutView) (i : LinkInView) → IsLink v f t o i → o.key ≡ i.key

-- ------------------------------------------------------------ the first, and from one port to the next

each_from_all : {X : Type 0} (P : ℕ → X → Type 0) (Q : X → Type 0) (q : ℕ) (xs : List X) → ((k : ℕ) (x : X) → Q x → P k x) → AllByRecursion Q xs → EachQueue P q xs
each_from_all P Q q [] h e = tt
each_from_all P Q q (x ∷ xs) h e = (h q x e.0, each_from_all P Q (suc q) xs h e.1)

none_row : (n p : ℕ) (os : List LinkOutView) → os ≡ [] → RowTo n 0 0 p os
none_row n p os e = let none : length os ≡ 0 = ap length e in record {
  new = subst (EachQueue (IsNewOut p) 0) (sym e) tt;
  past = λ lt. absurd (omega (arith, lt));
  low = λ same lt. absurd (omega (arith, lt));
  high = λ same le. none;
  later = λ lt. none;
}

none_column : (p : ℕ) (is : List LinkInView) → is ≡ [] → ColumnTo 0 0 p is
none_column p is e = let none : length is ≡ 0 = ap length e in record {
  new = subst (EachQueue (IsNewIn p) 0) (sym e) tt;
  now_low = λ lt le. absurd (omega (arith, lt));
  now_high = λ lt gt. absurd (omega (arith, lt));
  then_low = λ le lt. absurd (omega (arith, lt));
  then_high = λ le ge. none;
}

pub linked_none : (n : ℕ) (v : LinksView) → AreNone n v → LinkedTo n 0 0 v
linked_none n v h = record {
  count = (h.out.0, h.input.0);
  out = each_from_all (RowTo n 0 0) (λ (os : List LinkOutView). os ≡ []) 0 v.out (none_row n) h.out.1;
  input = each_from_all (ColumnTo 0 0) (λ (is : List LinkInView). is ≡ []) 0 v.input none_column h.input.1;
  keys = λ f t o i l.
      let none : l.outs ≡ [] = all_at (λ (os : List LinkOutView). os ≡ []) v.out f l.outs l.outs_at h.out.1 in
      let at : slice_get [] l.j ≡ Some o = subst (λ (os : List LinkOutView). slice_get os l.j ≡ Some o) none l.out_at in
      absurd (cc at);
}

next_row : (n from p : ℕ) (os : List LinkOutView) → p < n → RowTo n from n p os → RowTo n (from + 1) 0 p os
next_row n from p os low r =
    let past = r.past in let here : p ≡ from → suc (length os) ≡ n = λ e. r.low e low in record {
      new = r.new;
      past = λ lt. elim (cases_lt p from) [ inl x ↦ past x | inr x ↦ here (omega (arith, lt, x)) ];
      low = λ same lt. absurd (omega (arith, lt));
      high = λ same le. r.later (omega (arith, same));
      later = λ lt. r.later (omega (arith, lt));
    }

next_column : (n from p : ℕ) (is : List LinkInView) → p < n → ColumnTo from n p is → ColumnTo (from + 1) 0 p is
next_column n from p is low r = record {
  new = r.new;
  now_low = λ lt le. absurd (omega (arith, lt));
  now_high = λ lt gt. absurd (omega (arith, lt));
  then_low = λ le lt. (let e = r.now_low low (omega (arith, lt)) in omega (arith, e));
  then_high = λ le ge. (let e = r.now_high low (omega (arith, ge)) in omega (arith, e));
}

pub linked_next : (n from : ℕ) (v : LinksView) → LinkedTo n from n v → LinkedTo n (from + 1) 0 v
linked_next n from v h = let many = h.count.0 in let long = h.count.1 in record {
  count = h.count;
  out = each_map (RowTo n from n) (RowTo n (from + 1) 0) 0 v.out (λ p os le lt r. next_row n from p os (omega (arith, lt, many)) r) h.out;
  input = each_map (ColumnTo from n) (ColumnTo (from + 1) 0) 0 v.input (λ p is le lt r. next_column n from p is (omega (arith, lt, long)) r) h.input;
  keys = h.keys;
}

-- ------------------------------------------------------------ the last

last_row : (n p : ℕ) (os : List LinkOutView) → p < n → RowTo n n 0 p os → IsRow n p os
last_row n p os low r = record { new = r.new; many = r.past low }

last_column : (n p : ℕ) (is : List LinkInView) → p < n → ColumnTo n 0 p is → IsColumn n p is
last_column n p is low r = record { new = r.new; many = r.then_low (omega arith) low }

pub linked_all : (n : ℕ) (v : LinksView) → LinkedTo n n 0 v → AreLinked n v
linked_all n v h = let many = h.count.0 in let long = h.count.1 in record {
  count = h.count;
  out = each_map (RowTo n n 0) (IsRow n) 0 v.out (λ p os le lt r. last_row n p os (omega (arith, lt, many)) r) h.out;
  input = each_map (ColumnTo n 0) (IsColumn n) 0 v.input (λ p is le lt r. last_column n p is (omega (arith, lt, long)) r) h.input;
  keys = h.keys;
}

-- ------------------------------------------------------------ no link to itself

own_row : (n from p : ℕ) (os : List LinkOutView) → RowTo n from from p os → RowTo n from (from + 1) p os
own_row n from p os r = record {
  new = r.new;
  past = r.past;
  low = λ same lt. (let e = r.high same (omega (arith, same)) in omega (arith, e));
  high = λ same le. absurd (omega (arith, same, le));
  later = r.later;
}

own_column : (from p : ℕ) (is : List LinkInView) → ColumnTo from from p is → ColumnTo from (from + 1) p is
own_column from p is r = record {
  new = r.new;
  now_low = λ lt le. elim (cases_lt p from) [ inl x ↦ r.now_low x le | inr x ↦ r.then_high x x ];
  now_high = λ lt gt. absurd (omega (arith, lt, gt));
  then_low = λ le lt. absurd (omega (arith, le, lt));
  then_high = λ le ge. r.then_high (omega (arith, le)) ge;
}

linked_own : (n from : ℕ) (v : LinksView) → LinkedTo n from from v → LinkedTo n from (from + 1) v
linked_own n from v h = record {
  count = h.count;
  out = each_map (RowTo n from from) (RowTo n from (from + 1)) 0 v.out (λ p os le lt r. own_row n from p os r) h.out;
  input = each_map (ColumnTo from from) (ColumnTo from (from + 1)) 0 v.input (λ p is le lt r. own_column from p is r) h.input;
  keys = h.keys;
}

-- ------------------------------------------------------------ one link more

-- the port that comes next among the others
other_after : (p c b : ℕ) → p ≢ b → (p < b → suc c ≡ b) → (b ≤ p → c ≡ b) → b ≡ other p c
other_after p c b ne low high = elim (cases_lt p b) [
  | inl x ↦ (let e = low x in elim (other_is p c) [
    | inl h ↦ (let lt = h.0 in omega (arith, lt, e, x))
    | inr h ↦ (let is = h.1 in omega (arith, is, e))
  ])
  | inr x ↦ (let e = high x in elim (other_is p c) [
    | inl h ↦ (let is = h.1 in omega (arith, is, e))
    | inr h ↦ (let le = h.0 in omega (arith, le, e, x, ne))
  ])
]

module _ (n from to : ℕ) (ne : from ≢ to) (v v' : LinksView) (h : LinkedTo n from to v) (j : IsJoined from to v v') where
  row : RowTo n from to from j.outs
  row = let z : 0 + from ≡ from = omega arith in subst (λ (p : ℕ). RowTo n from to p j.outs) z (each_at (RowTo n from to) 0 v.out from j.outs j.outs_at h.out)

  column : ColumnTo from to to j.ins
  column = let z : 0 + to ≡ to = omega arith in subst (λ (p : ℕ). ColumnTo from to p j.ins) z (each_at (ColumnTo from to) 0 v.input to j.ins j.ins_at h.input)

  to_next : to ≡ other from (length j.outs)
  to_next = other_after from (length j.outs) to ne (row.low refl) (row.high refl)

  from_next : from ≡ other to (length j.ins)
  from_next = other_after to (length j.ins) from (λ e. ne (sym e)) (λ lt. column.then_low (omega arith) lt) (λ le. column.then_high (omega arith) le)

  one_key : j.out.key ≡ j.input.key
  one_key = ap (λ (o : LinkOutView). o.key) j.pair.0

  new_end : IsNewOut from (0 + length j.outs) j.out
  new_end = let z : length j.outs ≡ 0 + length j.outs = omega arith in
      j.pair.0 ∙ (λ i. new_out (sym one_key i) LINK_CAPACITY from ((to_next ∙ ap (other from) z) i))

  new_other : IsNewIn to (0 + length j.ins) j.input
  new_other = let z : length j.ins ≡ 0 + length j.ins = omega arith in
      j.pair.1 ∙ (λ i. new_in (one_key i) LINK_CAPACITY ((from_next ∙ ap (other to) z) i) to)

  row_after : RowTo n from (to + 1) (0 + from) (j.outs ++ j.out ∷ [])
  row_after = let z : from ≡ 0 + from = omega arith in let more = length_pushed j.outs j.out in
      subst (λ (p : ℕ). RowTo n from (to + 1) p (j.outs ++ j.out ∷ [])) z (record {
        new = each_push (IsNewOut from) 0 j.outs j.out row.new new_end;
        past = λ lt. absurd (omega (arith, lt));
        low = λ same lt. (let e = row.low refl (omega (arith, lt, ne)) in omega (arith, e, more));
        high = λ same le. (let e = row.high refl (omega (arith, le)) in omega (arith, e, more));
        later = λ lt. absurd (omega (arith, lt));
      })

  row_else : (p : ℕ) (os : List LinkOutView) → p ≢ 0 + from → RowTo n from to p os → RowTo n from (to + 1) p os
  row_else p os other_ r = record {
    new = r.new;
    past = r.past;
    low = λ same lt. absurd (other_ (omega (arith, same)));
    high = λ same le. absurd (other_ (omega (arith, same)));
    later = r.later;
  }

  column_after : ColumnTo from (to + 1) (0 + to) (j.ins ++ j.input ∷ [])
  column_after = let z : to ≡ 0 + to = omega arith in let more = length_pushed j.ins j.input in
      subst (λ (p : ℕ). ColumnTo from (to + 1) p (j.ins ++ j.input ∷ [])) z (record {
        new = each_push (IsNewIn to) 0 j.ins j.input column.new new_other;
        now_low = λ lt le. (let e = column.then_low (omega arith) (omega (arith, le, ne)) in omega (arith, e, more));
        now_high = λ lt gt. (let e = column.then_high (omega arith) (omega (arith, gt)) in omega (arith, e, more));
        then_low = λ le lt. absurd (omega (arith, le));
        then_high = λ le ge. absurd (omega (arith, le));
      })

  column_else : (p : ℕ) (is : List LinkInView) → p ≢ 0 + to → ColumnTo from to p is → ColumnTo from (to + 1) p is
  column_else p is other_ r = record {
    new = r.new;
    now_low = λ lt le. r.now_low (omega (arith, lt, other_)) le;
    now_high = λ lt gt. r.now_high (omega (arith, lt, other_)) gt;
    then_low = λ le lt. r.then_low (omega (arith, le)) lt;
    then_high = λ le ge. r.then_high (omega (arith, le)) ge;
  }

  abbrev after : LinksView
  after = record { out = set v.out from (j.outs ++ j.out ∷ []); input = set v.input to (j.ins ++ j.input ∷ []) }

  -- an end that was there already has its other end there
  key_before : (f t a b : ℕ) (o : LinkOutView) (i : LinkInView) → t ≡ other f a → f ≡ other t b → IsIn v.out f a o → IsIn v.input t b i → o.key ≡ i.key
  key_before f t a b o i te fe x y = h.keys f t o i (record { outs = x.list; outs_at = x.at; j = a; to_is = te; out_at = x.there_; ins = y.list; ins_at = y.at; k = b; from_is = fe; in_at = y.there_ })

  -- the new end is the only one between its two ports
  no_out : (f t a : ℕ) (o : LinkOutView) → t ≡ other f a → f ≡ from → t ≡ to → IsIn v.out f a o → ⊥
  no_out f t a o te fe tt_ x =
      let same : j.outs ≡ x.list = some_same (slice_get v.out from) j.outs x.list j.outs_at (subst (λ (p : ℕ). slice_get v.out p ≡ Some x.list) fe x.at) in
      let below : a < length j.outs = subst (λ (os : List LinkOutView). a < length os) (sym same) (get_lt x.list a o x.there_) in
      let place : a ≡ length j.outs = other_once from a (length j.outs) (sym (ap (λ (p : ℕ). other p a) fe) ∙ sym te ∙ tt_ ∙ to_next) in
      omega (arith, below, place)

  no_in : (f t b : ℕ) (i : LinkInView) → f ≡ other t b → f ≡ from → t ≡ to → IsIn v.input t b i → ⊥
  no_in f t b i fe fs ts y =
      let same : j.ins ≡ y.list = some_same (slice_get v.input to) j.ins y.list j.ins_at (subst (λ (p : ℕ). slice_get v.input p ≡ Some y.list) ts y.at) in
      let below : b < length j.ins = subst (λ (is : List LinkInView). b < length is) (sym same) (get_lt y.list b i y.there_) in
      let place : b ≡ length j.ins = other_once to b (length j.ins) (sym (ap (λ (p : ℕ). other p b) ts) ∙ sym fe ∙ fs ∙ from_next) in
      omega (arith, below, place)

  key_after : (f t : ℕ) (o : LinkOutView) (i : LinkInView) → IsLink after f t o i → o.key ≡ i.key
  key_after f t o i l =
      elim (was_in v.out from j.outs j.out f l.j l.outs o j.outs_at l.outs_at l.out_at) [
        | inl x ↦ elim (was_in v.input to j.ins j.input t l.k l.ins i j.ins_at l.ins_at l.in_at) [
          | inl y ↦ key_before f t l.j l.k o i l.to_is l.from_is x y
          | inr y ↦ (let fe : f ≡ from = l.from_is ∙ ap (λ (p : ℕ). other p l.k) y.0 ∙ ap (other to) y.1 ∙ sym from_next in absurd (no_out f t l.j o l.to_is fe y.0 x))
        ]
        | inr x ↦ elim (was_in v.input to j.ins j.input t l.k l.ins i j.ins_at l.ins_at l.in_at) [
          | inl y ↦ (let te : t ≡ to = l.to_is ∙ ap (λ (p : ℕ). other p l.j) x.0 ∙ ap (other from) x.1 ∙ sym to_next in absurd (no_in f t l.k i l.from_is x.0 te y))
          | inr y ↦ ap (λ (e : LinkOutView). e.key) x.2 ∙ one_key ∙ sym (ap (λ (e : LinkInView). e.key) y.2)
        ]
      ]

  linked_more : LinkedTo n from (to + 1) v'
  linked_more = subst (LinkedTo n from (to + 1)) (sym j.is) (record {
    count = (length-set v.out from (j.outs ++ j.out ∷ []) ∙ h.count.0, length-set v.input to (j.ins ++ j.input ∷ []) ∙ h.count.1);
    out = each_set (RowTo n from to) (RowTo n from (to + 1)) 0 v.out from (j.outs ++ j.out ∷ []) row_else row_after h.out;
    input = each_set (ColumnTo from to) (ColumnTo from (to + 1)) 0 v.input to (j.ins ++ j.input ∷ []) column_else column_after h.input;
    keys = key_after;
  })

-- a link more, but from a port to itself
pub linked_step : (n from to : ℕ) (v v' : LinksView) → LinkedTo n from to v → IsJoinedIfOther from to v v' → LinkedTo n from (to + 1) v'
linked_step n from to v v' h j = elim (eqb_tells from to) [
  | inl e ↦ (let own : LinkedTo n from from v = subst (λ (t : ℕ). LinkedTo n from t v) (sym e.1) h in
      subst (λ (t : ℕ). LinkedTo n from (t + 1) v') e.1 (subst (LinkedTo n from (from + 1)) (sym (j.own e.1)) (linked_own n from v own)))
  | inr e ↦ linked_more n from to e.1 v v' h (j.another e.1)
]
