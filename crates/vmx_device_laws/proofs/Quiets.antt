-- From a quiesce until the next activation.
use Rattle.std.proofs.Common.{◌≡◌, ℕ, zero, suc, ◌+◌, ◌≤◌, Bool, true, false, true≢false, List, [], ◌∷◌, ◌++◌, length, append-nil, append_assoc, refl, sym, ap, ◌∙◌, subst, arith, Some, None, Option, inl, inr}
use Rattle.std.specs.Prelude.{option_map}
use Rattle.vmx_machine_state.specs.Views.{EndsView, ActiveView, MachineView, ends_of}
use Rattle.vmx_machine_state.specs.Ends.{ends_held}
use Rattle.vmx_device_state.specs.Deals.{Deal, Begins, Stops, Passes, deal_by, deal_of, is_begins}
use Rattle.vmx_device_state.specs.DealLaws.{activating_begins}
use Rattle.vmx_model.specs.declared.journal.Entry.{Entry}
use Rattle.vmx_model.specs.declared.journal.Entry.TheVariants as entry
use Rattle.vmx_model.specs.Lists.{count}
use Rattle.vmx_model.specs.Journal.{is_activation}
use Rattle.vmx_device_laws.specs.Views.{DeviceView, tx_held}
use Rattle.vmx_device_laws.specs.Steps.{CommandStep, TxStep, TxSteps, InStep, InSteps, TurnsOnce}
use Rattle.vmx_device_laws.specs.Quiet.{StopsDevice, GoesOn, Goes, last_of, StaysQuiet}
use Rattle.vmx_device_laws.proofs.Lists.{count_append}
use Rattle.vmx_device_laws.proofs.Turns.{grows_quietly, grows_on, grows_same, no_some}

-- ------------------------------------------------------------ a journal only grows

abbrev pub Grows : List Entry → List Entry → Type 0
Grows old new = (more : List Entry) × (new ≡ old ++ more)

same_grows : (a b : List Entry) → b ≡ a → Grows a b
same_grows a b e = ([], e ∙ sym (append-nil a))

both_grow : (a b c : List Entry) → Grows a b → Grows b c → Grows a c
both_grow a b c (xs, is) (ys, is') = (xs ++ ys, is' ∙ ap (λ (zs : List Entry). zs ++ ys) is ∙ append_assoc a xs ys)

grows_command : (d d' : DeviceView) (found : Bool) → CommandStep found d d' → Grows d.entries d'.entries
grows_command d d' false s = same_grows d.entries d'.entries (ap (λ (x : DeviceView). x.entries) s.is)
grows_command d d' true s = (entry.Setting s.number s.value s.setup ∷ [], ap (λ (x : DeviceView). x.entries) s.is)

grows_tx : (d d' : DeviceView) (q : ℕ) (found : Bool) → TxStep q found d d' → Grows d.entries d'.entries
grows_tx d d' q false s = elim s [
  | inl p ↦ same_grows d.entries d'.entries (ap (λ (x : DeviceView). x.entries) p.is)
  | inr n ↦ same_grows d.entries d'.entries (ap (λ (x : DeviceView). x.entries) n.is)
]
grows_tx d d' q true s = elim s [
  | inl f ↦ (f.entries, ap (λ (x : DeviceView). x.entries) f.is)
  | inr b ↦ same_grows d.entries d'.entries (ap (λ (x : DeviceView). x.entries) b.is)
]

grows_txs : (n : ℕ) (found : Bool) (d d' : DeviceView) → TxSteps n found d d' → Grows d.entries d'.entries
grows_txs zero found d d' s = same_grows d.entries d'.entries (ap (λ (x : DeviceView). x.entries) s.1)
grows_txs (suc n) found d d' (before, here, (mid, is, step, steps)) = both_grow d.entries mid.entries d'.entries (grows_txs n before d mid steps) (grows_tx mid d' n here step)

grows_in : (d d' : DeviceView) (k : ℕ) (found : Bool) → InStep k found d d' → Grows d.entries d'.entries
grows_in d d' k false s = same_grows d.entries d'.entries (ap (λ (x : DeviceView). x.entries) s.is)
grows_in d d' k true s = let is = ap (λ (x : DeviceView). x.entries) s.is in (_, is)

grows_ins : (n : ℕ) (found : Bool) (d d' : DeviceView) → InSteps n found d d' → Grows d.entries d'.entries
grows_ins zero found d d' s = same_grows d.entries d'.entries (ap (λ (x : DeviceView). x.entries) s.1)
grows_ins (suc n) found d d' (before, here, (mid, is, step, steps)) = both_grow d.entries mid.entries d'.entries (grows_ins n before d mid steps) (grows_in mid d' n here step)

-- the entries behind that of the command
pub grows_after : (worked : Bool) (d d' : DeviceView) (t : TurnsOnce worked d d') → Grows t.asked.entries d'.entries
grows_after worked d d' t =
    both_grow t.asked.entries t.sent.entries d'.entries
    (both_grow t.asked.entries t.rung.entries t.sent.entries (same_grows t.asked.entries t.rung.entries (ap (λ (x : DeviceView). x.entries) t.bells.2)) (grows_txs (tx_held t.asked.machine.active) t.taken t.rung t.sent t.takes))
    (grows_ins (length t.sent.input) t.pulled t.sent d' t.pulls)

pub turn_grows : (worked : Bool) (d d' : DeviceView) → TurnsOnce worked d d' → Grows d.entries d'.entries
turn_grows worked d d' t = both_grow d.entries t.asked.entries d'.entries (grows_command d t.asked t.answered t.command) (grows_after worked d d' t)

activations_grow : (a b : List Entry) → Grows a b → count is_activation a ≤ count is_activation b
activations_grow a b (more, is) =
    let sum : count is_activation b ≡ count is_activation a + count is_activation more = ap (count is_activation) is ∙ count_append is_activation a more in omega (arith, sum)

-- ------------------------------------------------------------ a device that stays idle

idle_ends : (o : Option ActiveView) → option_map (λ (a : ActiveView). a.ends) o ≡ None → o ≡ None
idle_ends None e = refl
idle_ends (Some a) e = absurd (no_some (Some a.ends) a.ends e refl)

ends_idle : (o : Option ActiveView) → o ≡ None → option_map (λ (a : ActiveView). a.ends) o ≡ None
ends_idle o e = ap (option_map (λ (a : ActiveView). a.ends)) e

-- an activation alone brings ends
held_none : (d : Deal) (held given : Option EndsView) → is_begins d ≡ false → held ≡ None → ends_held d held given ≡ None
held_none Begins held given e none = absurd (true≢false e)
held_none Stops held given e none = refl
held_none Passes held given e none = none

activates_not : (e : Entry) → count is_activation (e ∷ []) ≡ 0 → is_activation e ≡ false
activates_not e none = step (is_activation e) refl
  where
    step : (b : Bool) → is_activation e ≡ b → is_activation e ≡ false
    step true at = let one : count is_activation (e ∷ []) ≡ 1 = rw at refl in absurd (omega (arith, one, none))
    step false at = at

idle_command : (d d' : DeviceView) (found : Bool) → CommandStep found d d' → d.machine.active ≡ None → count is_activation d'.entries ≡ count is_activation d.entries → d'.machine.active ≡ None
idle_command d d' false s idle same = ap (λ (x : DeviceView). x.machine.active) s.is ∙ idle
idle_command d d' true s idle same =
    let e = entry.Setting s.number s.value s.setup in
    let sum : count is_activation d'.entries ≡ count is_activation d.entries + count is_activation (e ∷ []) = ap (λ (x : DeviceView). count is_activation x.entries) s.is ∙ count_append is_activation d.entries (e ∷ []) in
    let zero_more : count is_activation (e ∷ []) ≡ 0 = omega (arith, sum, same) in
    let passes : is_begins (deal_of s.number s.value) ≡ false = sym (activating_begins s.number s.value) ∙ activates_not e zero_more in
    let held : ends_of s.machine ≡ None = s.answers.applied.held ∙ held_none (deal_of s.number s.value) (ends_of d.machine) s.answers.given passes (ends_idle d.machine.active idle) in
    ap (λ (x : DeviceView). x.machine.active) s.is ∙ idle_ends s.machine.active held

-- a quiesce or a reset that was answered 0 took all ends
idle_stopped : (d d' : DeviceView) → StopsDevice d d' → d'.machine.active ≡ None
idle_stopped d d' s =
    let o = s.obeys in
    let deal : deal_of o.number o.value ≡ Stops = ap (deal_of o.number) s.value ∙ ap deal_by s.order in
    let held : ends_of o.machine ≡ None = o.answers.applied.held ∙ ap (λ (x : Deal). ends_held x (ends_of d.machine) o.answers.given) deal in
    ap (λ (x : DeviceView). x.machine.active) o.is ∙ idle_ends o.machine.active held

idle_in : (d d' : DeviceView) (k : ℕ) (found : Bool) → InStep k found d d' → d.machine.active ≡ None → d'.machine.active ≡ None
idle_in d d' k false s idle = ap (λ (x : DeviceView). x.machine.active) s.is ∙ idle
idle_in d d' k true s idle = elim s.handles [
  | inl i ↦ ap (λ (x : DeviceView). x.machine.active) s.is ∙ ap (λ (y : MachineView). y.active) i.is ∙ idle
  | inr h1 ↦ elim h1 [
    | inl r ↦ absurd (no_some d.machine.active r.active idle r.is_active)
    | inr h2 ↦ elim h2 [
      | inl t ↦ absurd (no_some d.machine.active t.let_in.active idle t.let_in.is_active)
      | inr g ↦ absurd (no_some d.machine.active g.let_in.active idle g.let_in.is_active)
    ]
  ]
]

pub idle_ins : (n : ℕ) (found : Bool) (d d' : DeviceView) → InSteps n found d d' → d.machine.active ≡ None → d'.machine.active ≡ None
idle_ins zero found d d' s idle = ap (λ (x : DeviceView). x.machine.active) s.1 ∙ idle
idle_ins (suc n) found d d' (before, here, (mid, is, step, steps)) idle = idle_in mid d' n here step (idle_ins n before d mid steps idle)

-- a device that is idle after its command has no queue to look at
idle_rest : (worked : Bool) (d d' : DeviceView) (t : TurnsOnce worked d d') → t.asked.machine.active ≡ None → d'.machine.active ≡ None
idle_rest worked d d' t idle =
    let no_queue : TxSteps zero t.taken t.rung t.sent = subst (λ (n : ℕ). TxSteps n t.taken t.rung t.sent) (ap tx_held idle) t.takes in
    let sent : t.sent.machine.active ≡ None = ap (λ (x : DeviceView). x.machine.active) no_queue.1 ∙ ap (λ (x : DeviceView). x.machine.active) t.bells.2 ∙ idle in
    idle_ins (length t.sent.input) t.pulled t.sent d' t.pulls sent

pub quiesced : (worked : Bool) (d d' : DeviceView) (t : TurnsOnce worked d d') → StopsDevice d t.asked → d'.machine.active ≡ None
quiesced worked d d' t s = idle_rest worked d d' t (idle_stopped d t.asked s)

-- ------------------------------------------------------------ until the next activation

goes_grow : (d n : DeviceView) → GoesOn d n → Grows d.entries n.entries
goes_grow d n g = elim g [ inl t ↦ turn_grows t.0 d n t.1 | inr s ↦ same_grows d.entries n.entries s.0 ]

all_grow : (d : DeviceView) (later : List DeviceView) → Goes d later → Grows d.entries (last_of d later).entries
all_grow d [] g = same_grows d.entries d.entries refl
all_grow d (n ∷ later) g = both_grow d.entries n.entries (last_of n later).entries (goes_grow d n g.0) (all_grow n later g.1)

quiet_turn : (worked : Bool) (d n : DeviceView) → TurnsOnce worked d n → d.machine.active ≡ None → count is_activation n.entries ≡ count is_activation d.entries → StaysQuiet d n
quiet_turn worked d n t idle same =
    let low = activations_grow d.entries t.asked.entries (grows_command d t.asked t.answered t.command) in
    let high = activations_grow t.asked.entries n.entries (grows_after worked d n t) in
    let asked = idle_command d t.asked t.answered t.command idle (omega (arith, low, high, same)) in
    let after = idle_rest worked d n t asked in record { idle = after; quiet = grows_quietly worked d n t after }

quiet_one : (d n : DeviceView) → GoesOn d n → d.machine.active ≡ None → count is_activation n.entries ≡ count is_activation d.entries → StaysQuiet d n
quiet_one d n g idle same = elim g [
  | inl t ↦ quiet_turn t.0 d n t.1 idle same
  | inr s ↦ record { idle = ap (λ (m : MachineView). m.active) s.1 ∙ idle; quiet = grows_same d.entries n.entries s.0 }
]

pub stays_quiet : (d : DeviceView) (later : List DeviceView) → d.machine.active ≡ None → Goes d later → count is_activation (last_of d later).entries ≡ count is_activation d.entries → StaysQuiet d (last_of d later)
stays_quiet d [] idle g same = record { idle = idle; quiet = grows_same d.entries d.entries refl }
stays_quiet d (n ∷ later) idle g same =
    let low = activations_grow d.entries n.entries (goes_grow d n g.0) in
    let high = activations_grow n.entries (last_of n later).entries (all_grow n later g.1) in
    let one = quiet_one d n g.0 idle (omega (arith, low, high, same)) in
    let rest = stays_quiet n later one.idle g.1 (omega (arith, low, high, same)) in record { idle = rest.idle; quiet = grows_on d.entries n.entries (last_of n later).entries one.quiet rest.quiet }
