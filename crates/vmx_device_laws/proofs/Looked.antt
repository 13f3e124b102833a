-- From the clauses of calls to the looks of a turn.
use Rattle.std.proofs.Common.{◌≡◌, ℕ, ◌+◌, ◌≤◌, Bool, true, false, true≢false, List, [], ◌∷◌, ◌++◌, length, length-append, refl, sym, ap, ◌∙◌, arith, add-one, Some, None, Option}
use Rattle.std.specs.List.{filter}
use Rattle.std.specs.Prelude.{◌||◌, is_some}
use Rattle.std.proofs.lemmas.List.Elements.{filter-append}
use Rattle.vmx_model.specs.declared.journal.Entry.{Entry}
use Rattle.vmx_model.specs.declared.journal.Entry.TheVariants as entry
use Rattle.vmx_model.specs.declared.journal.Fate.{Fate}
use Rattle.vmx_model.specs.Lists.{count}
use Rattle.vmx_model.specs.Journal.{is_activation}
use Rattle.vmx_machine_state.specs.Views.{ActiveView}
use Rattle.vmx_device_laws.specs.Views.{DeviceView, tx_held, rx_held}
use Rattle.vmx_device_laws.specs.Keeps.{Keeps, FitEnds}
use Rattle.vmx_device_laws.specs.Steps.{TxStep, TxSteps, InStep, InSteps}

pub tx_next : (q : ℕ) (found here found' : Bool) (d mid d' : DeviceView) → found' ≡ (found || here) → TxSteps q found d mid → TxStep q here mid d' → TxSteps (q + 1) found' d d'
tx_next q found here found' d mid d' e steps step = rw add-one (found, here, (mid, e, step, steps))

pub in_next : (n : ℕ) (found here found' : Bool) (d mid d' : DeviceView) → found' ≡ (found || here) → InSteps n found d mid → InStep n here mid d' → InSteps (n + 1) found' d d'
in_next n found here found' d mid d' e steps step = rw add-one (found, here, (mid, e, step, steps))

-- an entry that is no command begins no activation
pub begun_in : (es : List Entry) (from place : ℕ) (f : Fate) → count is_activation (es ++ entry.In from place f ∷ []) ≡ count is_activation es
begun_in es from place f = ap length (filter-append is_activation es (entry.In from place f ∷ [])) ∙ length-append (filter is_activation es) [] ∙ omega arith

pub begun_more : (es : List Entry) (e : Entry) → count is_activation (es ++ e ∷ []) ≡ count is_activation es + count is_activation (e ∷ [])
begun_more es e = ap length (filter-append is_activation es (e ∷ [])) ∙ length-append (filter is_activation es) (filter is_activation (e ∷ []))

held_few : (o : Option ActiveView) → FitEnds o → (tx_held o ≤ 8) × (rx_held o ≤ 8)
held_few None f = (omega arith, omega arith)
held_few (Some a) f = (omega (arith, f.0, f.2), omega (arith, f.1, f.3))

pub tx_few : (d : DeviceView) → Keeps d → tx_held d.machine.active ≤ 8
tx_few d k = (held_few d.machine.active k.fit).0

pub rx_few : (d : DeviceView) → Keeps d → rx_held d.machine.active ≤ 8
rx_few d k = (held_few d.machine.active k.fit).1

-- ------------------------------------------------------------ options

pub there_of : {X : Type 0} (o : Option X) → is_some o ≡ true → (x : X) × (o ≡ Some x)
there_of None h = absurd (true≢false (sym h))
there_of (Some x) h = (x, refl)

pub none_of : {X : Type 0} (o : Option X) → is_some o ≡ false → o ≡ None
none_of None h = refl
none_of (Some x) h = absurd (true≢false h)
