-- The looks at the transmit queues of a trusted device, pairwise over the lists of ends.
use Rattle.std.proofs.Common.{◌≡◌, ℕ, zero, suc, ◌+◌, ◌-◌, ◌<◌, ◌≤◌, Bool, true, false, true≢false, List, [], ◌∷◌, ◌++◌, length, take, set, append-nil, append_assoc, refl, sym, ap, ◌∙◌, subst, arith, Some, Option, inl, inr}
use Rattle.std.specs.List.{slice_get}
use Rattle.std.proofs.lemmas.List.{length-set}
use Rattle.vmx_switch.specs.Ports.{Wiring, target_ports}
use Rattle.vmx_ends.specs.declared.packet.Tag.{Tag}
use Rattle.vmx_ends.specs.Frames.{sent_as}
use Rattle.vmx_ends.specs.Transmit.{TxDeviceView}
use Rattle.vmx_link.specs.Views.{LinkOutView}
use Rattle.vmx_machine_state.specs.Views.{ActiveView}
use Rattle.vmx_model.specs.declared.journal.Entry.{Entry}
use Rattle.vmx_model.specs.Lists.{count}
use Rattle.vmx_model.specs.Journal.{is_activation}
use Rattle.vmx_model.specs.Wire.{wire_form}
use Rattle.vmx_device_laws.specs.Views.{DeviceView, tx_held}
use Rattle.vmx_device_laws.specs.Steps.{TxStep, TxSteps, SeesNoFrame, SwitchesFrame, tag_of}
use Rattle.vmx_device_laws.specs.Pairs.{tx_of}
use Rattle.vmx_device_laws.proofs.Sends.{frame_puts, sending, activations_stay}
use Rattle.vmx_device_laws.proofs.Turns.{counted_active}
use Rattle.vmx_device_laws.proofs.Pairing.{take_get, take_set_next, get_set_other, length_take, at_of, set_of, held_is}
use Rattle.vmx_trusted_turns.specs.Trusted.{IsTrusted, TrustedTx, Looks, LooksEach, LooksAll}
use Rattle.vmx_trusted_turns.proofs.Trust.{unstopped_tx, all_there, trusts_tx_end, trusts_taken}

take_whole : {X : Type 0} (xs : List X) → take (length xs) xs ≡ xs
take_whole [] = refl
take_whole (y ∷ ys) = ap (λ (zs : List _). y ∷ zs) (take_whole ys)

-- ------------------------------------------------------------ one pair more

module _ (port : ℕ) (table : Wiring) (a : ℕ) where
  looks_push : (q : ℕ) (xs ys : List TxDeviceView) (es : List Entry) (old mid new : List LinkOutView) (x y : TxDeviceView) (one : List Entry) → LooksEach port table a q xs ys es old mid → Looks port table a (q + length xs) x y one mid new
      → LooksEach port table a q (xs ++ x ∷ []) (ys ++ y ∷ []) (es ++ one) old new
  looks_push q [] [] es old mid new x y one h look =
      let at : q + 0 ≡ q = omega arith in
      let here = subst (λ (ls : List LinkOutView). Looks port table a (q + 0) x y one ls new) h.1 look in
      (one, [], (new, ap (λ (zs : List Entry). zs ++ one) h.0 ∙ sym (append-nil one), subst (λ (n : ℕ). Looks port table a n x y one old new) at here, (refl, refl)))
  looks_push q [] (y' ∷ ys) es old mid new x y one h look = absurd h
  looks_push q (x' ∷ xs) [] es old mid new x y one h look = absurd h
  looks_push q (x' ∷ xs) (y' ∷ ys) es old mid new x y one (first, rest, (m, is, here, more)) look =
      let at : q + suc (length xs) ≡ suc q + length xs = omega arith in (
        first,
        rest ++ one,
        (m, ap (λ (zs : List Entry). zs ++ one) is ∙ append_assoc first rest one, here, looks_push (suc q) xs ys rest m mid new x y one more (subst (λ (n : ℕ). Looks port table a n x y one mid new) at look)),
      )

-- ------------------------------------------------------------ one look

-- what one look does to its end, to the journal and to the links; all other ends are as before
record OneLook (q : ℕ) (d d' : DeviceView) : Type 0 where
  e : TxDeviceView
  n : TxDeviceView
  at : slice_get (tx_of d.machine.active) q ≡ Some e
  es : List Entry
  looks : Looks d.port d.table (count is_activation d.entries - 1) q e n es d.out d'.out
  entries : d'.entries ≡ d.entries ++ es
  ends : tx_of d'.machine.active ≡ set (tx_of d.machine.active) q n
  same : (d'.port ≡ d.port) × (d'.table ≡ d.table) × (count is_activation d'.entries ≡ count is_activation d.entries)
  trusted : IsTrusted d'.machine

sees_none : (q : ℕ) (d d' : DeviceView) → IsTrusted d.machine → SeesNoFrame q d d' → OneLook q d d'
sees_none q d d' t n = record {
  e = n.takes.here.end;
  n = n.takes.after;
  at = at_of d.machine q n.takes.here;
  es = [];
  looks = inr (record { none = record { word = n.takes.word; finds = n.takes.finds }; entries = refl; links = ap (λ (x : DeviceView). x.out) n.is });
  entries = ap (λ (x : DeviceView). x.entries) n.is ∙ sym (append-nil d.entries);
  ends = ap (λ (x : DeviceView). tx_of x.machine.active) n.is ∙ set_of d.machine n.machine q n.takes.here n.takes.after n.takes.is;
  same = (ap (λ (x : DeviceView). x.port) n.is, ap (λ (x : DeviceView). x.table) n.is, ap (λ (x : DeviceView). count is_activation x.entries) n.is);
  trusted = subst (λ (x : DeviceView). IsTrusted x.machine) (sym n.is) (trusts_tx_end d.machine n.machine q n.takes.here n.takes.after n.takes.is (λ e. ap (λ (x : TxDeviceView). x.given) n.takes.finds.is ∙ e) t);
}

switches : (q : ℕ) (d d' : DeviceView) → IsTrusted d.machine → SwitchesFrame q d d' → OneLook q d d'
switches q d d' trust f =
    let t : Tag = tag_of d q f.place in
    let tos : List ℕ = target_ports d.table d.port (wire_form (sent_as f.bytes f.mark)) in
    let stays = activations_stay t d.entries f.entries (sending t tos f.entries (frame_puts d.port t (wire_form (sent_as f.bytes f.mark)) tos f.entries d.out f.out f.puts)) in
    let links : d'.out ≡ f.out = ap (λ (x : DeviceView). x.out) f.is in
    let given : f.takes.after.given ≡ f.takes.here.end.given = ap (λ (x : TxDeviceView). x.given) f.takes.completes ∙ ap (λ (x : TxDeviceView). x.given) f.takes.takes.is in record {
      e = f.takes.here.end;
      n = f.takes.after;
      at = at_of d.machine q f.takes.here;
      es = f.entries;
      looks = subst (λ (ls : List LinkOutView). Looks d.port d.table (count is_activation d.entries - 1) q f.takes.here.end f.takes.after f.entries d.out ls) (sym links)
          (inl (record { place = f.place; frame = f.bytes; mark = f.mark; mid = f.takes.mid; takes = f.takes.takes; completes = f.takes.completes; puts = f.puts }));
      entries = ap (λ (x : DeviceView). x.entries) f.is;
      ends = ap (λ (x : DeviceView). tx_of x.machine.active) f.is ∙ ap tx_of (counted_active q _ _ f.machine) ∙ set_of d.machine f.machine q f.takes.here f.takes.after f.takes.is;
      same = (ap (λ (x : DeviceView). x.port) f.is, ap (λ (x : DeviceView). x.table) f.is, ap (λ (x : DeviceView). count is_activation x.entries) f.is ∙ stays);
      trusted = subst (λ (x : DeviceView). IsTrusted x.machine) (sym f.is) (trusts_taken q _ _ f.machine (trusts_tx_end d.machine f.machine q f.takes.here f.takes.after f.takes.is (λ e. given ∙ e) trust));
    }

one_look : (q : ℕ) (found : Bool) (d d' : DeviceView) → IsTrusted d.machine → TxStep q found d d' → OneLook q d d'
one_look q false d d' t s = elim s [
  | inl p ↦ absurd (unstopped_tx d.machine t q p.error p.stopped)
  | inr n ↦ sees_none q d d' t n
]
one_look q true d d' t s = elim s [
  | inl f ↦ switches q d d' t f
  | inr b ↦
      let held : TrustedTx b.takes.here.active.ends.tx = subst (λ (o : Option ActiveView). TrustedTx (tx_of o)) b.takes.here.is_active t.tx in
      absurd (true≢false (sym b.takes.shows.given ∙ all_there (λ (x : TxDeviceView). x.given ≡ false) b.takes.here.active.ends.tx q b.takes.here.end held b.takes.here.at))
]

-- ------------------------------------------------------------ the first n looks

record Paired (n : ℕ) (d d' : DeviceView) : Type 0 where
  es : List Entry
  pairs : LooksEach d.port d.table (count is_activation d.entries - 1) 0 (take n (tx_of d.machine.active)) (take n (tx_of d'.machine.active)) es d.out d'.out
  entries : d'.entries ≡ d.entries ++ es
  rest : (r : ℕ) → n ≤ r → slice_get (tx_of d'.machine.active) r ≡ slice_get (tx_of d.machine.active) r
  many : length (tx_of d'.machine.active) ≡ length (tx_of d.machine.active)
  same : (d'.port ≡ d.port) × (d'.table ≡ d.table) × (count is_activation d'.entries ≡ count is_activation d.entries)
  trusted : IsTrusted d'.machine

one_more : (n : ℕ) (d mid d' : DeviceView) → n < length (tx_of d.machine.active) → Paired n d mid → OneLook n mid d' → Paired (suc n) d d'
one_more n d mid d' lt p o =
    let at : slice_get (tx_of d.machine.active) n ≡ Some o.e = sym (p.rest n (omega arith)) ∙ o.at in
    let front = take_get (tx_of d.machine.active) n o.e at in
    let back = ap (take (suc n)) o.ends ∙ take_set_next (tx_of mid.machine.active) n o.n (omega (arith, lt, p.many)) in
    let num : n ≡ 0 + length (take n (tx_of d.machine.active)) = omega (arith, length_take n (tx_of d.machine.active) (omega (arith, lt))) in
    let look : Looks d.port d.table (count is_activation d.entries - 1) (0 + length (take n (tx_of d.machine.active))) o.e o.n o.es mid.out d'.out =
    subst (λ (x : ℕ × Wiring × ℕ × ℕ). Looks x.0 x.1 (x.2 - 1) x.3 o.e o.n o.es mid.out d'.out) (λ i. (p.same.0 i, p.same.1 i, p.same.2 i, num i)) o.looks in
    let both = looks_push d.port d.table (count is_activation d.entries - 1) 0 (take n (tx_of d.machine.active)) (take n (tx_of mid.machine.active)) p.es d.out mid.out d'.out o.e o.n o.es p.pairs look in record {
      es = p.es ++ o.es;
      pairs = subst (λ (x : List TxDeviceView × List TxDeviceView). LooksEach d.port d.table (count is_activation d.entries - 1) 0 x.0 x.1 (p.es ++ o.es) d.out d'.out) (λ i. (sym front i, sym back i)) both;
      entries = o.entries ∙ ap (λ (zs : List Entry). zs ++ o.es) p.entries ∙ append_assoc d.entries p.es o.es;
      rest = λ r le. ap (λ (vs : List TxDeviceView). slice_get vs r) o.ends ∙ get_set_other (tx_of mid.machine.active) n o.n r (λ e. omega (arith, e, le)) ∙ p.rest r (omega (arith, le));
      many = ap length o.ends ∙ length-set (tx_of mid.machine.active) n o.n ∙ p.many;
      same = (o.same.0 ∙ p.same.0, o.same.1 ∙ p.same.1, o.same.2 ∙ p.same.2);
      trusted = o.trusted;
    }

all_paired : (n : ℕ) (found : Bool) (d d' : DeviceView) → n ≤ length (tx_of d.machine.active) → IsTrusted d.machine → TxSteps n found d d' → Paired n d d'
all_paired zero found d d' le t s = record {
  es = [];
  pairs = (refl, ap (λ (x : DeviceView). x.out) s.1);
  entries = ap (λ (x : DeviceView). x.entries) s.1 ∙ sym (append-nil d.entries);
  rest = λ r lo. ap (λ (x : DeviceView). slice_get (tx_of x.machine.active) r) s.1;
  many = ap (λ (x : DeviceView). length (tx_of x.machine.active)) s.1;
  same = (ap (λ (x : DeviceView). x.port) s.1, ap (λ (x : DeviceView). x.table) s.1, ap (λ (x : DeviceView). count is_activation x.entries) s.1);
  trusted = subst (λ (x : DeviceView). IsTrusted x.machine) (sym s.1) t;
}
all_paired (suc n) found d d' le t (before, here, (mid, is, step, steps)) =
    let p = all_paired n before d mid (omega (arith, le)) t steps in
    one_more n d mid d' (omega (arith, le)) p (one_look n here mid d' p.trusted step)

-- ------------------------------------------------------------ all looks

pub looks_tx : (found : Bool) (d d' : DeviceView) → TxSteps (tx_held d.machine.active) found d d' → IsTrusted d.machine → LooksAll d d' × IsTrusted d'.machine
looks_tx found d d' s t =
    let all = subst (λ (n : ℕ). TxSteps n found d d') (held_is d.machine.active) s in
    let p = all_paired (length (tx_of d.machine.active)) found d d' (omega arith) t all in
    let here = take_whole (tx_of d.machine.active) in
    let there = (λ i. take (sym p.many i) (tx_of d'.machine.active)) ∙ take_whole (tx_of d'.machine.active) in (
      record {
        entries = p.es;
        each = subst (λ (x : List TxDeviceView × List TxDeviceView). LooksEach d.port d.table (count is_activation d.entries - 1) 0 x.0 x.1 p.es d.out d'.out) (λ i. (here i, there i)) p.pairs;
        is = p.entries;
      },
      p.trusted,
    )
