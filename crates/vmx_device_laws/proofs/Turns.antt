-- What a whole turn does, from its looks.
use Rattle.std.proofs.Common.{length-append, ◌≡◌, ℕ, zero, suc, ◌+◌, ◌≤◌, Bool, true, false, true≢false, List, [], ◌∷◌, ◌++◌, length, set, append-nil, append_assoc, refl, sym, ap, ◌∙◌, subst, arith, Some, None, Option, inl, inr}
use Rattle.std.specs.List.{AllByRecursion}
use Rattle.std.specs.Prelude.{◌||◌}
use Rattle.std.proofs.lemmas.List.{length-set}
use Rattle.vmx_ends.specs.Transmit.{TxDeviceView}
use Rattle.vmx_ends.specs.Receive.{RxDeviceView}
use Rattle.vmx_regs.specs.declared.known.Calls.{Calls}
use Rattle.vmx_machine_state.specs.Views.{ActiveView, MachineView}
use Rattle.vmx_model.specs.declared.journal.Entry.{Entry}
use Rattle.vmx_model.specs.declared.journal.Entry.TheVariants as entry
use Rattle.vmx_model.specs.declared.journal.Fate.{Fate}
use Rattle.vmx_device_looks.specs.Ports.{other}
use Rattle.vmx_device_looks.specs.Looks.{TxAt, RxAt, with_tx, with_rx}
use Rattle.vmx_device_laws.specs.Views.{DeviceView, tx_held}
use Rattle.vmx_device_laws.specs.Steps.{CommandStep, TxStep, TxSteps, InStep, InSteps, TurnsOnce, SeesNoFrames, SeesNoPackets, FindsNothing, counted_taken}
use Rattle.vmx_device_laws.specs.Quiet.{IsQuiet, GrowsQuietly}

-- ------------------------------------------------------------ how many ends are held

held_set : (m new : MachineView) (q : ℕ) (here : TxAt m q) (v' : TxDeviceView) → new ≡ with_tx (set here.active.ends.tx q v') m → tx_held new.active ≡ tx_held m.active
held_set m new q here v' is =
    ap (λ (y : MachineView). tx_held y.active) is ∙ ap (λ (o : Option ActiveView). tx_held (with_tx (set here.active.ends.tx q v') (record m { active = o })).active) here.is_active
    ∙ length-set here.active.ends.tx q v' ∙ sym (ap tx_held here.is_active)

pub counted_active : (q : ℕ) (frame : List ℕ) (some : Bool) (m : MachineView) → (counted_taken q frame some m).active ≡ m.active
counted_active q frame true m = refl
counted_active q frame false m = refl

pub held_tx_step : (d d' : DeviceView) (q : ℕ) (found : Bool) → TxStep q found d d' → tx_held d'.machine.active ≡ tx_held d.machine.active
held_tx_step d d' q false s = elim s [
  | inl p ↦ ap (λ (x : DeviceView). tx_held x.machine.active) p.is
  | inr n ↦ ap (λ (x : DeviceView). tx_held x.machine.active) n.is ∙ held_set d.machine n.machine q n.takes.here n.takes.after n.takes.is
]
held_tx_step d d' q true s = elim s [
  | inl f ↦ ap (λ (x : DeviceView). tx_held x.machine.active) f.is ∙ ap tx_held (counted_active q _ _ f.machine) ∙ held_set d.machine f.machine q f.takes.here f.takes.after f.takes.is
  | inr b ↦ ap (λ (x : DeviceView). tx_held x.machine.active) b.is ∙ held_set d.machine b.machine q b.takes.here b.takes.after b.takes.is
]

-- ------------------------------------------------------------ a turn that found nothing

or_none : (a b : Bool) → false ≡ (a || b) → (a ≡ false) × (b ≡ false)
or_none true b e = absurd (true≢false (sym e))
or_none false b e = (refl, sym e)

no_frames : (n : ℕ) (found : Bool) (d d' : DeviceView) → found ≡ false → TxSteps n found d d' → SeesNoFrames n d d' × (d'.entries ≡ d.entries) × (d'.setups ≡ d.setups)
no_frames zero found d d' none s = (s.1, ap (λ (x : DeviceView). x.entries) s.1, ap (λ (x : DeviceView). x.setups) s.1)
no_frames (suc n) found d d' none (before, here, (mid, is, step, steps)) =
    let both = or_none before here (sym none ∙ is) in
    let rest = no_frames n before d mid both.0 steps in
    let one = subst (λ (b : Bool). TxStep n b mid d') both.1 step in
    let same : (d'.entries ≡ mid.entries) × (d'.setups ≡ mid.setups) = elim one [
      | inl p ↦ (ap (λ (x : DeviceView). x.entries) p.is, ap (λ (x : DeviceView). x.setups) p.is)
      | inr s ↦ (ap (λ (x : DeviceView). x.entries) s.is, ap (λ (x : DeviceView). x.setups) s.is)
    ] in
    ((mid, one, rest.0), same.0 ∙ rest.1, same.1 ∙ rest.2)

no_packets : (n : ℕ) (found : Bool) (d d' : DeviceView) → found ≡ false → InSteps n found d d' → SeesNoPackets n d d' × (d'.entries ≡ d.entries) × (d'.setups ≡ d.setups)
no_packets zero found d d' none s = (s.1, ap (λ (x : DeviceView). x.entries) s.1, ap (λ (x : DeviceView). x.setups) s.1)
no_packets (suc n) found d d' none (before, here, (mid, is, step, steps)) =
    let both = or_none before here (sym none ∙ is) in
    let rest = no_packets n before d mid both.0 steps in
    let one = subst (λ (b : Bool). InStep n b mid d') both.1 step in
    ((mid, one, rest.0), ap (λ (x : DeviceView). x.entries) one.is ∙ rest.1, ap (λ (x : DeviceView). x.setups) one.is ∙ rest.2)

pub found_nothing : (d d' : DeviceView) → TurnsOnce false d d' → FindsNothing d d'
found_nothing d d' t =
    let one = or_none t.answered (t.taken || t.pulled) t.found in
    let two = or_none t.taken t.pulled (sym one.1) in
    let command = subst (λ (b : Bool). CommandStep b d t.asked) one.0 t.command in
    let frames = no_frames (tx_held t.asked.machine.active) t.taken t.rung t.sent two.0 t.takes in
    let packets = no_packets (length t.sent.input) t.pulled t.sent d' two.1 t.pulls in record {
      asked = t.asked;
      command = command;
      rung = t.rung;
      bells = t.bells;
      sent = t.sent;
      frames = frames.0;
      packets = packets.0;
      entries = packets.1 ∙ frames.1 ∙ ap (λ (x : DeviceView). x.entries) t.bells.2 ∙ ap (λ (x : DeviceView). x.entries) command.is;
      setups = packets.2 ∙ frames.2 ∙ ap (λ (x : DeviceView). x.setups) t.bells.2 ∙ ap (λ (x : DeviceView). x.setups) command.is;
    }

-- ------------------------------------------------------------ an idle device

pub no_some : {X : Type 0} (o : Option X) (x : X) → o ≡ None → o ≡ Some x → ⊥
no_some o x none some = let both : None ≡ Some x = sym none ∙ some in cc both

some_set : (m new : MachineView) (q : ℕ) (here : TxAt m q) (vs : List TxDeviceView) → new ≡ with_tx vs m → new.active ≡ None → ⊥
some_set m new q here vs is none = no_some new.active _ none (ap (λ (y : MachineView). y.active) is ∙ ap (λ (o : Option ActiveView). (with_tx vs (record m { active = o })).active) here.is_active)

-- a look changes nothing of whether the device is idle
none_tx_step : (d d' : DeviceView) (q : ℕ) (found : Bool) → TxStep q found d d' → d'.machine.active ≡ None → d.machine.active ≡ None
none_tx_step d d' q false s none = elim s [
  | inl p ↦ ap (λ (x : DeviceView). x.machine.active) (sym p.is) ∙ none
  | inr n ↦ absurd (some_set d.machine n.machine q n.takes.here _ n.takes.is (ap (λ (x : DeviceView). x.machine.active) (sym n.is) ∙ none))
]
none_tx_step d d' q true s none = elim s [
  | inl f ↦ absurd (some_set d.machine f.machine q f.takes.here _ f.takes.is (sym (counted_active q _ _ f.machine) ∙ ap (λ (x : DeviceView). x.machine.active) (sym f.is) ∙ none))
  | inr b ↦ absurd (some_set d.machine b.machine q b.takes.here _ b.takes.is (ap (λ (x : DeviceView). x.machine.active) (sym b.is) ∙ none))
]

none_tx_steps : (n : ℕ) (found : Bool) (d d' : DeviceView) → TxSteps n found d d' → d'.machine.active ≡ None → d.machine.active ≡ None
none_tx_steps zero found d d' s none = ap (λ (x : DeviceView). x.machine.active) (sym s.1) ∙ none
none_tx_steps (suc n) found d d' (before, here, (mid, is, step, steps)) none = none_tx_steps n before d mid steps (none_tx_step mid d' n here step none)

some_rx : (m new : MachineView) (q : ℕ) (here : RxAt m q) (vs : List RxDeviceView) → new ≡ with_rx vs m → new.active ≡ None → ⊥
some_rx m new q here vs is none = no_some new.active _ none (ap (λ (y : MachineView). y.active) is ∙ ap (λ (o : Option ActiveView). (with_rx vs (record m { active = o })).active) here.is_active)

-- an idle device took no packet
quiet_in_step : (d d' : DeviceView) (k : ℕ) (found : Bool) → InStep k found d d' → d'.machine.active ≡ None → (d.machine.active ≡ None) × GrowsQuietly d.entries d'.entries
quiet_in_step d d' k false s none = (ap (λ (x : DeviceView). x.machine.active) (sym s.is) ∙ none, ([], ap (λ (x : DeviceView). x.entries) s.is ∙ sym (append-nil d.entries), tt))
quiet_in_step d d' k true s none =
    let idle : s.machine.active ≡ None = ap (λ (x : DeviceView). x.machine.active) (sym s.is) ∙ none in
    elim s.handles [
      | inl i ↦ (i.idle, (entry.In (other d.port k) s.place s.fate ∷ [], ap (λ (x : DeviceView). x.entries) s.is, (subst (λ (f : Fate). IsQuiet (entry.In (other d.port k) s.place f)) (sym i.is_fate) tt, tt)))
      | inr h1 ↦ elim h1 [
        | inl r ↦ absurd (no_some s.machine.active r.active idle (ap (λ (y : MachineView). y.active) r.is ∙ r.is_active))
        | inr h2 ↦ elim h2 [
          | inl t ↦ absurd (no_some s.machine.active t.let_in.active idle (ap (λ (y : MachineView). y.active) t.is ∙ t.let_in.is_active))
          | inr g ↦ elim g.delivers [
            | inl u ↦ absurd (some_rx d.machine u.mid _ u.gives.here _ u.gives.is (ap (λ (y : MachineView). y.active) (sym u.is) ∙ idle))
            | inr h3 ↦ elim h3 [
              | inl u ↦ absurd (some_rx d.machine u.mid _ u.gives.here _ u.gives.is (ap (λ (y : MachineView). y.active) (sym u.is) ∙ idle))
              | inr u ↦ absurd (some_rx d.machine u.mid _ u.gives.here _ u.gives.is (ap (λ (y : MachineView). y.active) (sym u.is) ∙ idle))
            ]
          ]
        ]
      ]
    ]

all_more : (xs ys : List Entry) → AllByRecursion IsQuiet xs → AllByRecursion IsQuiet ys → AllByRecursion IsQuiet (xs ++ ys)
all_more [] ys h g = g
all_more (x ∷ xs) ys h g = (h.0, all_more xs ys h.1 g)

pub grows_on : (a b c : List Entry) → GrowsQuietly a b → GrowsQuietly b c → GrowsQuietly a c
grows_on a b c (xs, is, quiet) (ys, is', quiet') = (xs ++ ys, is' ∙ ap (λ (zs : List Entry). zs ++ ys) is ∙ append_assoc a xs ys, all_more xs ys quiet quiet')

pub grows_same : (a b : List Entry) → b ≡ a → GrowsQuietly a b
grows_same a b e = ([], e ∙ sym (append-nil a), tt)

quiet_in_steps : (n : ℕ) (found : Bool) (d d' : DeviceView) → InSteps n found d d' → d'.machine.active ≡ None → (d.machine.active ≡ None) × GrowsQuietly d.entries d'.entries
quiet_in_steps zero found d d' s none = (ap (λ (x : DeviceView). x.machine.active) (sym s.1) ∙ none, grows_same d.entries d'.entries (ap (λ (x : DeviceView). x.entries) s.1))
quiet_in_steps (suc n) found d d' (before, here, (mid, is, step, steps)) none =
    let one = quiet_in_step mid d' n here step none in
    let rest = quiet_in_steps n before d mid steps one.0 in
    (rest.0, grows_on d.entries mid.entries d'.entries rest.1 one.1)

quiet_command : (d d' : DeviceView) (found : Bool) → CommandStep found d d' → GrowsQuietly d.entries d'.entries
quiet_command d d' false s = grows_same d.entries d'.entries (ap (λ (x : DeviceView). x.entries) s.is)
quiet_command d d' true s = (entry.Setting s.number s.value s.setup ∷ [], ap (λ (x : DeviceView). x.entries) s.is, (tt, tt))

pub grows_quietly : (worked : Bool) (d d' : DeviceView) → TurnsOnce worked d d' → d'.machine.active ≡ None → GrowsQuietly d.entries d'.entries
grows_quietly worked d d' t none =
    let links = quiet_in_steps (length t.sent.input) t.pulled t.sent d' t.pulls none in
    let rung : t.rung.machine.active ≡ None = none_tx_steps (tx_held t.asked.machine.active) t.taken t.rung t.sent t.takes links.0 in
    let asked : t.asked.machine.active ≡ None = ap (λ (x : DeviceView). x.machine.active) (sym t.bells.2) ∙ rung in
    let no_queue : TxSteps zero t.taken t.rung t.sent = subst (λ (n : ℕ). TxSteps n t.taken t.rung t.sent) (ap tx_held asked) t.takes in
    let sent = grows_same t.asked.entries t.sent.entries (ap (λ (x : DeviceView). x.entries) no_queue.1 ∙ ap (λ (x : DeviceView). x.entries) t.bells.2) in
    grows_on d.entries t.asked.entries d'.entries (quiet_command d t.asked t.answered t.command) (grows_on t.asked.entries t.sent.entries d'.entries sent links.1)

-- ------------------------------------------------------------ how many commands

same_calls_tx : (d d' : DeviceView) (q : ℕ) (found : Bool) → TxStep q found d d' → d'.calls ≡ d.calls
same_calls_tx d d' q false s = elim s [ inl p ↦ ap (λ (x : DeviceView). x.calls) p.is | inr n ↦ ap (λ (x : DeviceView). x.calls) n.is ]
same_calls_tx d d' q true s = elim s [ inl f ↦ ap (λ (x : DeviceView). x.calls) f.is | inr b ↦ ap (λ (x : DeviceView). x.calls) b.is ]

same_calls_txs : (n : ℕ) (found : Bool) (d d' : DeviceView) → TxSteps n found d d' → d'.calls ≡ d.calls
same_calls_txs zero found d d' s = ap (λ (x : DeviceView). x.calls) s.1
same_calls_txs (suc n) found d d' (before, here, (mid, is, step, steps)) = same_calls_tx mid d' n here step ∙ same_calls_txs n before d mid steps

same_calls_in : (d d' : DeviceView) (k : ℕ) (found : Bool) → InStep k found d d' → d'.calls ≡ d.calls
same_calls_in d d' k false s = ap (λ (x : DeviceView). x.calls) s.is
same_calls_in d d' k true s = ap (λ (x : DeviceView). x.calls) s.is

same_calls_ins : (n : ℕ) (found : Bool) (d d' : DeviceView) → InSteps n found d d' → d'.calls ≡ d.calls
same_calls_ins zero found d d' s = ap (λ (x : DeviceView). x.calls) s.1
same_calls_ins (suc n) found d d' (before, here, (mid, is, step, steps)) = same_calls_in mid d' n here step ∙ same_calls_ins n before d mid steps

command_served : (d d' : DeviceView) (found : Bool) → CommandStep found d d' → length d'.calls.served ≤ length d.calls.served + 1
command_served d d' false s =
    let same : length d'.calls.served ≡ length d.calls.served = ap (λ (x : DeviceView). length x.calls.served) s.is ∙ ap (λ (v : Calls). length v.served) s.finds.calls in omega (arith, same)
command_served d d' true s =
    let more : length d'.calls.served ≡ length d.calls.served + 1 = ap (λ (x : DeviceView). length x.calls.served) s.is ∙ ap (λ (v : Calls). length v.served) s.answers.calls ∙ length-append d.calls.served _ in omega (arith, more)

pub served_most : (worked : Bool) (d d' : DeviceView) → TurnsOnce worked d d' → length d'.calls.served ≤ length d.calls.served + 1
served_most worked d d' t =
    let same : d'.calls ≡ t.asked.calls = same_calls_ins (length t.sent.input) t.pulled t.sent d' t.pulls ∙ same_calls_txs (tx_held t.asked.machine.active) t.taken t.rung t.sent t.takes ∙ ap (λ (x : DeviceView). x.calls) t.bells.2 in
    let many : length d'.calls.served ≡ length t.asked.calls.served = ap (λ (v : Calls). length v.served) same in
    omega (arith, many, command_served d t.asked t.answered t.command)
