-- The looks of a whole turn, pairwise.
use Rattle.std.proofs.Common.{◌≡◌, ℕ, zero, suc, ◌-◌, Bool, true, false, List, ◌++◌, length, map, refl, sym, ap, ◌∙◌, subst, Some, None, Option, inl, inr}
use Rattle.std.specs.Prelude.{option_map}
use Rattle.vmx_device_state.specs.SetupView.{SetupView}
use Rattle.vmx_ends.specs.Transmit.{TxDeviceView}
use Rattle.vmx_ends.specs.Receive.{RxDeviceView}
use Rattle.vmx_link.specs.Views.{LinkOutView, LinkInView}
use Rattle.vmx_regs.specs.declared.known.Masks.{Masks}
use Rattle.vmx_machine_state.specs.Views.{ActiveView, MachineView, setup_of}
use Rattle.vmx_model.specs.declared.journal.Entry.{Entry}
use Rattle.vmx_model.specs.Lists.{count}
use Rattle.vmx_model.specs.Journal.{is_activation}
use Rattle.vmx_device_looks.specs.Looks.{with_tx}
use Rattle.vmx_device_laws.specs.Views.{DeviceView, tx_held}
use Rattle.vmx_device_laws.specs.Steps.{TxStep, TxSteps, InStep, InSteps, TurnsOnce}
use Rattle.vmx_device_laws.specs.Pairs.{tx_of, rx_of, entry_of, PairsTx, PairsIn, PairsRx, PairsUp}
use Rattle.vmx_device_laws.proofs.Pairing.{pairs_tx}
use Rattle.vmx_device_laws.proofs.PairingIn.{CameOn, all_links, pairs_in}
use Rattle.vmx_device_laws.proofs.Quiets.{idle_ins}
use Rattle.vmx_device_laws.proofs.Turns.{counted_active}

-- ------------------------------------------------------------ what looks leave as it was

pub record Same (d d' : DeviceView) : Type 0 where
  pub port : d'.port ≡ d.port
  pub table : d'.table ≡ d.table
  pub key : d'.key ≡ d.key
  pub calls : d'.calls ≡ d.calls
  pub setups : d'.setups ≡ d.setups

pub same_on : (d m d' : DeviceView) → Same d m → Same m d' → Same d d'
same_on d m d' s t = record { port = t.port ∙ s.port; table = t.table ∙ s.table; key = t.key ∙ s.key; calls = t.calls ∙ s.calls; setups = t.setups ∙ s.setups }

-- a device with other machine, masks, links and entries
module _ (d d' : DeviceView) where
  same_by : (machine : MachineView) (masks : Masks) (out : List LinkOutView) (input : List LinkInView) (entries : List Entry) → d' ≡ record d { machine = machine; masks = masks; out = out; input = input; entries = entries } → Same d d'
  same_by machine masks out input entries is = record {
    port = ap (λ (x : DeviceView). x.port) is;
    table = ap (λ (x : DeviceView). x.table) is;
    key = ap (λ (x : DeviceView). x.key) is;
    calls = ap (λ (x : DeviceView). x.calls) is;
    setups = ap (λ (x : DeviceView). x.setups) is;
  }

-- ------------------------------------------------------------ looks at transmit queues

-- setup and receive ends of an active device stay
pub record TxLeaves (x : ActiveView) (o : Option ActiveView) : Type 0 where
  pub y : ActiveView
  pub is_active : o ≡ Some y
  pub setup : y.setup ≡ x.setup
  pub rx : y.ends.rx ≡ x.ends.rx

leaves_on : (x : ActiveView) (m m' : MachineView) (vs : List TxDeviceView) → m' ≡ with_tx vs m → TxLeaves x m.active → TxLeaves x m'.active
leaves_on x m m' vs is l = record {
  y = record l.y { ends = record l.y.ends { tx = vs } };
  is_active = ap (λ (z : MachineView). z.active) is ∙ ap (λ (o : Option ActiveView). (with_tx vs (record m { active = o })).active) l.is_active;
  setup = l.setup;
  rx = l.rx;
}

leaves_step : (x : ActiveView) (d d' : DeviceView) (q : ℕ) (found : Bool) → TxStep q found d d' → TxLeaves x d.machine.active → TxLeaves x d'.machine.active
leaves_step x d d' q false s l = elim s [
  | inl p ↦ subst (TxLeaves x) (ap (λ (z : DeviceView). z.machine.active) (sym p.is)) l
  | inr n ↦ subst (TxLeaves x) (ap (λ (z : DeviceView). z.machine.active) (sym n.is)) (leaves_on x d.machine n.machine _ n.takes.is l)
]
leaves_step x d d' q true s l = elim s [
  | inl f ↦ subst (TxLeaves x) (sym (ap (λ (z : DeviceView). z.machine.active) f.is ∙ counted_active q _ _ f.machine)) (leaves_on x d.machine f.machine _ f.takes.is l)
  | inr b ↦ subst (TxLeaves x) (ap (λ (z : DeviceView). z.machine.active) (sym b.is)) (leaves_on x d.machine b.machine _ b.takes.is l)
]

leaves_steps : (x : ActiveView) (n : ℕ) (found : Bool) (d d' : DeviceView) → TxSteps n found d d' → TxLeaves x d.machine.active → TxLeaves x d'.machine.active
leaves_steps x zero found d d' s l = subst (TxLeaves x) (ap (λ (z : DeviceView). z.machine.active) (sym s.1)) l
leaves_steps x (suc n) found d d' (before, here, (mid, is, step, steps)) l = leaves_step x mid d' n here step (leaves_steps x n before d mid steps l)

pub same_tx : (d d' : DeviceView) (q : ℕ) (found : Bool) → TxStep q found d d' → Same d d' × (d'.input ≡ d.input)
same_tx d d' q false s = elim s [
  | inl p ↦ (same_by d d' d.machine d.masks d.out d.input d.entries p.is, ap (λ (z : DeviceView). z.input) p.is)
  | inr n ↦ (same_by d d' n.machine d.masks d.out d.input d.entries n.is, ap (λ (z : DeviceView). z.input) n.is)
]
same_tx d d' q true s = elim s [
  | inl f ↦ (same_by d d' _ f.masks f.out d.input (d.entries ++ f.entries) f.is, ap (λ (z : DeviceView). z.input) f.is)
  | inr b ↦ (same_by d d' _ b.masks d.out d.input d.entries b.is, ap (λ (z : DeviceView). z.input) b.is)
]

same_txs : (n : ℕ) (found : Bool) (d d' : DeviceView) → TxSteps n found d d' → Same d d' × (d'.input ≡ d.input)
same_txs zero found d d' s = (same_by d d' d.machine d.masks d.out d.input d.entries s.1, ap (λ (z : DeviceView). z.input) s.1)
same_txs (suc n) found d d' (before, here, (mid, is, step, steps)) =
    let one = same_tx mid d' n here step in
    let rest = same_txs n before d mid steps in (same_on d mid d' rest.0 one.0, one.1 ∙ rest.1)

-- ------------------------------------------------------------ looks at links

same_in : (d d' : DeviceView) (k : ℕ) (found : Bool) → InStep k found d d' → Same d d' × (d'.out ≡ d.out)
same_in d d' k false s = (same_by d d' d.machine d.masks d.out s.input d.entries s.is, ap (λ (z : DeviceView). z.out) s.is)
same_in d d' k true s = (same_by d d' s.machine s.masks d.out s.input _ s.is, ap (λ (z : DeviceView). z.out) s.is)

same_ins : (n : ℕ) (found : Bool) (d d' : DeviceView) → InSteps n found d d' → Same d d' × (d'.out ≡ d.out)
same_ins zero found d d' s = (same_by d d' d.machine d.masks d.out d.input d.entries s.1, ap (λ (z : DeviceView). z.out) s.1)
same_ins (suc n) found d d' (before, here, (mid, is, step, steps)) =
    let one = same_in mid d' n here step in
    let rest = same_ins n before d mid steps in (same_on d mid d' rest.0 one.0, one.1 ∙ rest.1)

-- transmit ends and setup of a device, idle or not
in_ends : (o : Option ActiveView) (d d' : DeviceView) (p : CameOn (length d.input) d d') → d.machine.active ≡ o → (d.machine.active ≡ None → d'.machine.active ≡ None) → (tx_of d'.machine.active ≡ tx_of d.machine.active) × (setup_of d'.machine ≡ setup_of d.machine)
in_ends None d d' p now idle =
    let none = idle now in (ap tx_of none ∙ ap tx_of (sym now), ap (option_map (λ (a : ActiveView). a.setup)) none ∙ ap (option_map (λ (a : ActiveView). a.setup)) (sym now))
in_ends (Some x) d d' p now idle =
    let r = p.rx x now in (
      ap tx_of r.is_active ∙ r.tx ∙ ap tx_of (sym now),
      ap (option_map (λ (a : ActiveView). a.setup)) r.is_active ∙ ap Some r.setup ∙ ap (option_map (λ (a : ActiveView). a.setup)) (sym now),
    )

-- the same of the looks at transmit queues
tx_setup : (o : Option ActiveView) (n : ℕ) (found : Bool) (d d' : DeviceView) → d.machine.active ≡ o → n ≡ tx_held d.machine.active → TxSteps n found d d' → setup_of d'.machine ≡ setup_of d.machine
tx_setup None n found d d' now many s =
    let none : TxSteps zero found d d' = subst (λ (k : ℕ). TxSteps k found d d') (many ∙ ap tx_held now) s in ap (λ (z : DeviceView). setup_of z.machine) none.1
tx_setup (Some x) n found d d' now many s =
    let l = leaves_steps x n found d d' s (record { y = x; is_active = now; setup = refl; rx = refl }) in
    ap (option_map (λ (a : ActiveView). a.setup)) l.is_active ∙ ap Some l.setup ∙ ap (option_map (λ (a : ActiveView). a.setup)) (sym now)

-- ------------------------------------------------------------ a whole turn

looks_pair : (d sent new : DeviceView) (taken pulled : Bool) → TxSteps (tx_held d.machine.active) taken d sent → InSteps (length sent.input) pulled sent new → PairsUp d new
looks_pair d sent new taken pulled takes pulls =
    let t = pairs_tx taken d sent takes in
    let p = all_links pulled sent new pulls in
    let one = same_txs (tx_held d.machine.active) taken d sent takes in
    let two = same_ins (length sent.input) pulled sent new pulls in
    let ends = in_ends sent.machine.active sent new p refl (idle_ins (length sent.input) pulled sent new pulls) in
    let same = same_on d sent new one.0 two.0 in
    let begun : count is_activation sent.entries - 1 ≡ count is_activation d.entries - 1 = ap (λ (k : ℕ). k - 1) t.3 in record {
      sends = t.0;
      tx = subst (λ (x : List TxDeviceView × List LinkOutView). PairsTx d.port d.table (count is_activation d.entries - 1) 0 (tx_of d.machine.active) x.0 t.0 d.out x.1) (λ i. (sym ends.0 i, sym two.1 i)) t.1;
      came = p.came;
      links = subst (λ (x : ℕ × List LinkInView). PairsIn x.0 0 x.1 new.input p.came) (λ i. (one.0.port i, one.1 i)) (pairs_in sent new p);
      rx = λ a now.
          let l = leaves_steps a (tx_held d.machine.active) taken d sent takes (record { y = a; is_active = now; setup = refl; rx = refl }) in
          let r = p.rx l.y l.is_active in
          subst (PairsRx a.setup (count is_activation d.entries - 1) 0 p.came a.ends.rx) (sym (ap rx_of r.is_active))
          (subst (λ (x : SetupView × ℕ × List RxDeviceView). PairsRx x.0 x.1 0 p.came x.2 r.y.ends.rx) (λ i. (l.setup i, begun i, l.rx i)) r.pairs);
      entries = p.entries ∙ ap (λ (es : List Entry). es ++ map entry_of p.came) t.2;
      setup = ends.1 ∙ tx_setup d.machine.active (tx_held d.machine.active) taken d sent refl refl takes;
      same = (same.port, same.table, same.key, same.calls, same.setups);
    }

-- doorbells change masks alone
bells_pair : (d : DeviceView) (masks : Masks) (new : DeviceView) → PairsUp (record d { masks = masks }) new → PairsUp d new
bells_pair d masks new p = record { sends = p.sends; tx = p.tx; came = p.came; links = p.links; rx = p.rx; entries = p.entries; setup = p.setup; same = p.same }

pub turn_pairs : (worked : Bool) (d d' : DeviceView) (t : TurnsOnce worked d d') → PairsUp t.asked d'
turn_pairs worked d d' t =
    let takes : TxSteps (tx_held t.rung.machine.active) t.taken t.rung t.sent = subst (λ (n : ℕ). TxSteps n t.taken t.rung t.sent) (ap (λ (x : DeviceView). tx_held x.machine.active) (sym t.bells.2)) t.takes in
    bells_pair t.asked t.bells.0 d' (subst (λ (x : DeviceView). PairsUp x d') t.bells.2 (looks_pair t.rung t.sent d' t.taken t.pulled takes t.pulls))
