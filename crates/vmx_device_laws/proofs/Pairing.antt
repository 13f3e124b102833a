-- The looks at the transmit queues of a turn, pairwise over the lists of ends.
use Rattle.std.proofs.Common.{◌≡◌, ◌≢◌, ℕ, zero, suc, ◌+◌, ◌-◌, ◌<◌, ◌≤◌, Bool, true, false, List, [], ◌∷◌, ◌++◌, length, take, set, append-nil, append_assoc, refl, sym, ap, ◌∙◌, subst, arith, Some, None, Option, inl, inr}
use Rattle.std.specs.List.{slice_get}
use Rattle.std.proofs.lemmas.List.{length-set}
use Rattle.vmx_switch.specs.Ports.{Wiring, target_ports}
use Rattle.vmx_ends.specs.declared.packet.Tag.{Tag}
use Rattle.vmx_ends.specs.Frames.{sent_as}
use Rattle.vmx_ends.specs.Transmit.{TxDeviceView}
use Rattle.vmx_link.specs.Views.{LinkOutView}
use Rattle.vmx_machine_state.specs.Views.{ActiveView, MachineView}
use Rattle.vmx_model.specs.declared.journal.Entry.{Entry}
use Rattle.vmx_model.specs.Lists.{count}
use Rattle.vmx_model.specs.Journal.{is_activation}
use Rattle.vmx_model.specs.Wire.{wire_form}
use Rattle.vmx_device_looks.specs.Looks.{TxAt, with_tx}
use Rattle.vmx_device_laws.specs.Views.{DeviceView, tx_held}
use Rattle.vmx_device_laws.specs.Steps.{TxStep, TxSteps, tag_of}
use Rattle.vmx_device_laws.specs.Pairs.{tx_of, LooksOnce, PairsTx}
use Rattle.vmx_device_laws.proofs.Sends.{frame_puts, sending, activations_stay}
use Rattle.vmx_device_laws.proofs.Turns.{counted_active}

-- ------------------------------------------------------------ lists

module _ {X : Type 0} where
  pub take_get : (xs : List X) (i : ℕ) (x : X) → slice_get xs i ≡ Some x → take (suc i) xs ≡ take i xs ++ x ∷ []
  take_get [] i x h = absurd (cc h)
  take_get (y ∷ ys) zero x h = let same : y ≡ x = cc h in ap (λ (z : X). z ∷ []) same
  take_get (y ∷ ys) (suc i) x h = ap (λ (zs : List X). y ∷ zs) (take_get ys i x h)

  pub take_set_next : (xs : List X) (i : ℕ) (v : X) → i < length xs → take (suc i) (set xs i v) ≡ take i xs ++ v ∷ []
  take_set_next [] i v lt = absurd (omega (arith, lt))
  take_set_next (y ∷ ys) zero v lt = refl
  take_set_next (y ∷ ys) (suc i) v lt = ap (λ (zs : List X). y ∷ zs) (take_set_next ys i v (omega (arith, lt)))

  pub get_set_other : (xs : List X) (i : ℕ) (v : X) (r : ℕ) → r ≢ i → slice_get (set xs i v) r ≡ slice_get xs r
  get_set_other [] i v r ne = refl
  get_set_other (y ∷ ys) zero v zero ne = absurd (ne refl)
  get_set_other (y ∷ ys) zero v (suc r) ne = refl
  get_set_other (y ∷ ys) (suc i) v zero ne = refl
  get_set_other (y ∷ ys) (suc i) v (suc r) ne = get_set_other ys i v r (λ e. ne (ap suc e))

  set_same : (xs : List X) (i : ℕ) (x : X) → slice_get xs i ≡ Some x → set xs i x ≡ xs
  set_same [] i x h = absurd (cc h)
  set_same (y ∷ ys) zero x h = let same : x ≡ y = cc h in ap (λ (z : X). z ∷ ys) same
  set_same (y ∷ ys) (suc i) x h = ap (λ (zs : List X). y ∷ zs) (set_same ys i x h)

  take_whole : (xs : List X) → take (length xs) xs ≡ xs
  take_whole [] = refl
  take_whole (y ∷ ys) = ap (λ (zs : List X). y ∷ zs) (take_whole ys)

  get_there : (xs : List X) (i : ℕ) → i < length xs → (x : X) × (slice_get xs i ≡ Some x)
  get_there [] i lt = absurd (omega (arith, lt))
  get_there (y ∷ ys) zero lt = (y, refl)
  get_there (y ∷ ys) (suc i) lt = get_there ys i (omega (arith, lt))

  pub length_take : (n : ℕ) (xs : List X) → n ≤ length xs → length (take n xs) ≡ n
  length_take zero xs le = refl
  length_take (suc n) [] le = absurd (omega (arith, le))
  length_take (suc n) (y ∷ ys) le = ap suc (length_take n ys (omega (arith, le)))

-- ------------------------------------------------------------ one pair more

module _ (port : ℕ) (table : Wiring) (a : ℕ) where
  pairs_push : (q : ℕ) (xs ys : List TxDeviceView) (es : List Entry) (old mid new : List LinkOutView) (x y : TxDeviceView) (one : List Entry) → PairsTx port table a q xs ys es old mid → LooksOnce port table a (q + length xs) x y one mid new
      → PairsTx port table a q (xs ++ x ∷ []) (ys ++ y ∷ []) (es ++ one) old new
  pairs_push q [] [] es old mid new x y one h look =
      let at : q + 0 ≡ q = omega arith in
      let here = subst (λ (ls : List LinkOutView). LooksOnce port table a (q + 0) x y one ls new) h.1 look in
      (one, [], (new, ap (λ (zs : List Entry). zs ++ one) h.0 ∙ sym (append-nil one), subst (λ (n : ℕ). LooksOnce port table a n x y one old new) at here, (refl, refl)))
  pairs_push q [] (y' ∷ ys) es old mid new x y one h look = absurd h
  pairs_push q (x' ∷ xs) [] es old mid new x y one h look = absurd h
  pairs_push q (x' ∷ xs) (y' ∷ ys) es old mid new x y one (first, rest, (m, is, here, more)) look =
      let at : q + suc (length xs) ≡ suc q + length xs = omega arith in (
        first,
        rest ++ one,
        (m, ap (λ (zs : List Entry). zs ++ one) is ∙ append_assoc first rest one, here, pairs_push (suc q) xs ys rest m mid new x y one more (subst (λ (n : ℕ). LooksOnce port table a n x y one mid new) at look)),
      )

-- ------------------------------------------------------------ one look

-- what one look does to its end, to the journal and to the links; all other ends are as before
pub record OneLook (q : ℕ) (d d' : DeviceView) : Type 0 where
  pub e : TxDeviceView
  pub n : TxDeviceView
  pub at : slice_get (tx_of d.machine.active) q ≡ Some e
  pub es : List Entry
  pub looks : LooksOnce d.port d.table (count is_activation d.entries - 1) q e n es d.out d'.out
  pub entries : d'.entries ≡ d.entries ++ es
  pub ends : tx_of d'.machine.active ≡ set (tx_of d.machine.active) q n
  pub same : (d'.port ≡ d.port) × (d'.table ≡ d.table) × (count is_activation d'.entries ≡ count is_activation d.entries)

pub at_of : (m : MachineView) (q : ℕ) (here : TxAt m q) → slice_get (tx_of m.active) q ≡ Some here.end
at_of m q here = ap (λ (o : Option ActiveView). slice_get (tx_of o) q) here.is_active ∙ here.at

pub set_of : (m new : MachineView) (q : ℕ) (here : TxAt m q) (v : TxDeviceView) → new ≡ with_tx (set here.active.ends.tx q v) m → tx_of new.active ≡ set (tx_of m.active) q v
set_of m new q here v is =
    ap (λ (y : MachineView). tx_of y.active) is ∙ ap (λ (o : Option ActiveView). tx_of (with_tx (set here.active.ends.tx q v) (record m { active = o })).active) here.is_active
    ∙ ap (λ (o : Option ActiveView). set (tx_of o) q v) (sym here.is_active)

pub held_is : (o : Option ActiveView) → tx_held o ≡ length (tx_of o)
held_is None = refl
held_is (Some a) = refl

pub one_look : (q : ℕ) (found : Bool) (d d' : DeviceView) → q < length (tx_of d.machine.active) → TxStep q found d d' → OneLook q d d'
one_look q false d d' lt s = elim s [
  | inl p ↦
      let there = get_there (tx_of d.machine.active) q lt in record {
        e = there.0;
        n = there.0;
        at = there.1;
        es = [];
        looks = inr (record { end = inl refl; entries = refl; links = ap (λ (x : DeviceView). x.out) p.is });
        entries = ap (λ (x : DeviceView). x.entries) p.is ∙ sym (append-nil d.entries);
        ends = ap (λ (x : DeviceView). tx_of x.machine.active) p.is ∙ sym (set_same (tx_of d.machine.active) q there.0 there.1);
        same = (ap (λ (x : DeviceView). x.port) p.is, ap (λ (x : DeviceView). x.table) p.is, ap (λ (x : DeviceView). count is_activation x.entries) p.is);
      }
  | inr n ↦ record {
    e = n.takes.here.end;
    n = n.takes.after;
    at = at_of d.machine q n.takes.here;
    es = [];
    looks = inr (record { end = inr (inl (record { word = n.takes.word; finds = n.takes.finds })); entries = refl; links = ap (λ (x : DeviceView). x.out) n.is });
    entries = ap (λ (x : DeviceView). x.entries) n.is ∙ sym (append-nil d.entries);
    ends = ap (λ (x : DeviceView). tx_of x.machine.active) n.is ∙ set_of d.machine n.machine q n.takes.here n.takes.after n.takes.is;
    same = (ap (λ (x : DeviceView). x.port) n.is, ap (λ (x : DeviceView). x.table) n.is, ap (λ (x : DeviceView). count is_activation x.entries) n.is);
  }
]
one_look q true d d' lt s = elim s [
  | inl f ↦
      let t : Tag = tag_of d q f.place in
      let tos : List ℕ = target_ports d.table d.port (wire_form (sent_as f.bytes f.mark)) in
      let stays = activations_stay t d.entries f.entries (sending t tos f.entries (frame_puts d.port t (wire_form (sent_as f.bytes f.mark)) tos f.entries d.out f.out f.puts)) in
      let links : d'.out ≡ f.out = ap (λ (x : DeviceView). x.out) f.is in record {
        e = f.takes.here.end;
        n = f.takes.after;
        at = at_of d.machine q f.takes.here;
        es = f.entries;
        looks = subst (λ (ls : List LinkOutView). LooksOnce d.port d.table (count is_activation d.entries - 1) q f.takes.here.end f.takes.after f.entries d.out ls) (sym links)
            (inl (record { place = f.place; frame = f.bytes; mark = f.mark; mid = f.takes.mid; takes = f.takes.takes; completes = f.takes.completes; puts = f.puts }));
        entries = ap (λ (x : DeviceView). x.entries) f.is;
        ends = ap (λ (x : DeviceView). tx_of x.machine.active) f.is ∙ ap tx_of (counted_active q _ _ f.machine) ∙ set_of d.machine f.machine q f.takes.here f.takes.after f.takes.is;
        same = (ap (λ (x : DeviceView). x.port) f.is, ap (λ (x : DeviceView). x.table) f.is, ap (λ (x : DeviceView). count is_activation x.entries) f.is ∙ stays);
      }
  | inr b ↦ record {
    e = b.takes.here.end;
    n = b.takes.after;
    at = at_of d.machine q b.takes.here;
    es = [];
    looks = inr (record { end = inr (inr (record { words = b.takes.words; fault = b.fault; shows = b.takes.shows })); entries = refl; links = ap (λ (x : DeviceView). x.out) b.is });
    entries = ap (λ (x : DeviceView). x.entries) b.is ∙ sym (append-nil d.entries);
    ends = ap (λ (x : DeviceView). tx_of x.machine.active) b.is ∙ set_of d.machine b.machine q b.takes.here b.takes.after b.takes.is;
    same = (ap (λ (x : DeviceView). x.port) b.is, ap (λ (x : DeviceView). x.table) b.is, ap (λ (x : DeviceView). count is_activation x.entries) b.is);
  }
]

-- ------------------------------------------------------------ the first n looks

pub record Paired (n : ℕ) (d d' : DeviceView) : Type 0 where
  pub es : List Entry
  pub pairs : PairsTx d.port d.table (count is_activation d.entries - 1) 0 (take n (tx_of d.machine.active)) (take n (tx_of d'.machine.active)) es d.out d'.out
  pub entries : d'.entries ≡ d.entries ++ es
  pub rest : (r : ℕ) → n ≤ r → slice_get (tx_of d'.machine.active) r ≡ slice_get (tx_of d.machine.active) r
  pub many : length (tx_of d'.machine.active) ≡ length (tx_of d.machine.active)
  pub same : (d'.port ≡ d.port) × (d'.table ≡ d.table) × (count is_activation d'.entries ≡ count is_activation d.entries)

pub one_more : (n : ℕ) (d mid d' : DeviceView) → n < length (tx_of d.machine.active) → Paired n d mid → OneLook n mid d' → Paired (suc n) d d'
one_more n d mid d' lt p o =
    let at : slice_get (tx_of d.machine.active) n ≡ Some o.e = sym (p.rest n (omega arith)) ∙ o.at in
    let front = take_get (tx_of d.machine.active) n o.e at in
    let back = ap (take (suc n)) o.ends ∙ take_set_next (tx_of mid.machine.active) n o.n (omega (arith, lt, p.many)) in
    let num : n ≡ 0 + length (take n (tx_of d.machine.active)) = omega (arith, length_take n (tx_of d.machine.active) (omega (arith, lt))) in
    let look : LooksOnce d.port d.table (count is_activation d.entries - 1) (0 + length (take n (tx_of d.machine.active))) o.e o.n o.es mid.out d'.out =
    subst (λ (x : ℕ × Wiring × ℕ × ℕ). LooksOnce x.0 x.1 (x.2 - 1) x.3 o.e o.n o.es mid.out d'.out) (λ i. (p.same.0 i, p.same.1 i, p.same.2 i, num i)) o.looks in
    let both = pairs_push d.port d.table (count is_activation d.entries - 1) 0 (take n (tx_of d.machine.active)) (take n (tx_of mid.machine.active)) p.es d.out mid.out d'.out o.e o.n o.es p.pairs look in record {
      es = p.es ++ o.es;
      pairs = subst (λ (x : List TxDeviceView × List TxDeviceView). PairsTx d.port d.table (count is_activation d.entries - 1) 0 x.0 x.1 (p.es ++ o.es) d.out d'.out) (λ i. (sym front i, sym back i)) both;
      entries = o.entries ∙ ap (λ (zs : List Entry). zs ++ o.es) p.entries ∙ append_assoc d.entries p.es o.es;
      rest = λ r le. ap (λ (vs : List TxDeviceView). slice_get vs r) o.ends ∙ get_set_other (tx_of mid.machine.active) n o.n r (λ e. omega (arith, e, le)) ∙ p.rest r (omega (arith, le));
      many = ap length o.ends ∙ length-set (tx_of mid.machine.active) n o.n ∙ p.many;
      same = (o.same.0 ∙ p.same.0, o.same.1 ∙ p.same.1, o.same.2 ∙ p.same.2);
    }

pub all_paired : (n : ℕ) (found : Bool) (d d' : DeviceView) → n ≤ length (tx_of d.machine.active) → TxSteps n found d d' → Paired n d d'
all_paired zero found d d' le s = record {
  es = [];
  pairs = (refl, ap (λ (x : DeviceView). x.out) s.1);
  entries = ap (λ (x : DeviceView). x.entries) s.1 ∙ sym (append-nil d.entries);
  rest = λ r lo. ap (λ (x : DeviceView). slice_get (tx_of x.machine.active) r) s.1;
  many = ap (λ (x : DeviceView). length (tx_of x.machine.active)) s.1;
  same = (ap (λ (x : DeviceView). x.port) s.1, ap (λ (x : DeviceView). x.table) s.1, ap (λ (x : DeviceView). count is_activation x.entries) s.1);
}
all_paired (suc n) found d d' le (before, here, (mid, is, step, steps)) =
    let p = all_paired n before d mid (omega (arith, le)) steps in
    one_more n d mid d' (omega (arith, le)) p (one_look n here mid d' (omega (arith, le, p.many)) step)

-- ------------------------------------------------------------ all looks

-- the ends before and after the looks at all queues stand pairwise
pub pairs_tx : (found : Bool) (d d' : DeviceView) → TxSteps (tx_held d.machine.active) found d d'
    → (es : List Entry) × PairsTx d.port d.table (count is_activation d.entries - 1) 0 (tx_of d.machine.active) (tx_of d'.machine.active) es d.out d'.out × (d'.entries ≡ d.entries ++ es) × (count is_activation d'.entries ≡ count is_activation d.entries)
pairs_tx found d d' s =
    let all = subst (λ (n : ℕ). TxSteps n found d d') (held_is d.machine.active) s in
    let p = all_paired (length (tx_of d.machine.active)) found d d' (omega arith) all in
    let here = take_whole (tx_of d.machine.active) in
    let there = (λ i. take (sym p.many i) (tx_of d'.machine.active)) ∙ take_whole (tx_of d'.machine.active) in (
      p.es,
      subst (λ (x : List TxDeviceView × List TxDeviceView). PairsTx d.port d.table (count is_activation d.entries - 1) 0 x.0 x.1 p.es d.out d'.out) (λ i. (here i, there i)) p.pairs,
      p.entries,
      p.same.2,
    )
