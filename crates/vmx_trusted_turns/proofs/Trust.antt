-- What keeps a device trusted.
use Rattle.std.proofs.Common.{◌≡◌, ℕ, zero, suc, Bool, true, false, true≢false, List, [], ◌∷◌, length, get_or, set, refl, sym, ap, ◌∙◌, subst, Some, None, Option, inl, inr, if◌then◌else◌}
use Rattle.std.specs.Prelude.{replicate}
use Rattle.std.specs.List.{slice_get, AllByRecursion}
use Rattle.vmx_shared_area.specs.declared.stats.Side.TheVariants.{Tx, Rx}
use Rattle.vmx_ends.specs.Transmit.{TxDeviceView}
use Rattle.vmx_ends.specs.Receive.{RxDeviceView}
use Rattle.vmx_ends.specs.ReceiveClauses as rx
use Rattle.vmx_ends.specs.declared.answers.EndFault.{EndFault}
use Rattle.vmx_ends.specs.declared.answers.Deliver.{Deliver}
use Rattle.vmx_ends.specs.declared.answers.Deliver.TheVariants as answer
use Rattle.vmx_regs.specs.declared.known.Masks.{Masks}
use Rattle.vmx_device_state.specs.Deals.{Deal, Begins, Stops, Passes, deal_of}
use Rattle.vmx_frame.specs.Ethernet.{class_of}
use Rattle.vmx_machine_state.specs.declared.statistics.Count.{Count}
use Rattle.vmx_machine_state.specs.declared.statistics.Count.TheVariants as tally
use Rattle.vmx_machine_state.specs.Views.{EndsView, ActiveView, MachineView, new_machine, no_errors, ends_of}
use Rattle.vmx_machine_state.specs.Statistics.{after_count}
use Rattle.vmx_machine_state.specs.Stopped.{error_on, errors_after, clears}
use Rattle.vmx_machine_state.specs.Ends.{ends_held}
use Rattle.vmx_model.specs.declared.journal.Fate.{Fate}
use Rattle.vmx_model.specs.Wire.{rx_queue}
use Rattle.vmx_model.specs.Meta.{Arrival}
use Rattle.vmx_device_looks.specs.Looks.{TxAt, RxAt, with_tx, with_rx, DeliversAs}
use Rattle.vmx_device_looks.specs.Arrivals.{Handles}
use Rattle.vmx_device_laws.specs.Views.{DeviceView}
use Rattle.vmx_device_laws.specs.Pairs.{tx_of, rx_of}
use Rattle.vmx_device_laws.specs.Steps.{SeesNoCommand, Obeys, BellStep, InStep, InSteps, counted_taken}
use Rattle.vmx_trusted_turns.specs.Trusted.{TrustedTx, TrustedRx, IsTrusted, BringsTrusted, HandlesTrusted}

-- ------------------------------------------------------------ no queue is stopped

none_at : (x : Option ℕ) (n q : ℕ) → get_or (replicate n x) q x ≡ x
none_at x zero zero = refl
none_at x zero (suc q) = refl
none_at x (suc n) zero = refl
none_at x (suc n) (suc q) = none_at x n q

pub unstopped_tx : (m : MachineView) → IsTrusted m → (q error : ℕ) → error_on Tx m q ≡ Some error → ⊥
unstopped_tx m t q error e = absurd (cc (sym e ∙ ap (λ (xs : List (Option ℕ)). get_or xs q None) t.tx_stopped ∙ none_at None 8 q))

pub unstopped_rx : (m : MachineView) → IsTrusted m → (q error : ℕ) → error_on Rx m q ≡ Some error → ⊥
unstopped_rx m t q error e = absurd (cc (sym e ∙ ap (λ (xs : List (Option ℕ)). get_or xs q None) t.rx_stopped ∙ none_at None 8 q))

-- ------------------------------------------------------------ ends

module _ {X : Type 0} (P : X → Type 0) where
  pub all_there : (xs : List X) (i : ℕ) (x : X) → AllByRecursion P xs → slice_get xs i ≡ Some x → P x
  all_there [] i x a e = absurd (cc e)
  all_there (y ∷ ys) zero x a e = let same : y ≡ x = cc e in subst P same a.0
  all_there (y ∷ ys) (suc i) x a e = all_there ys i x a.1 e

  pub all_but : (xs : List X) (i : ℕ) (x : X) → AllByRecursion P xs → P x → AllByRecursion P (set xs i x)
  all_but [] i x a p = a
  all_but (y ∷ ys) zero x a p = (p, a.1)
  all_but (y ∷ ys) (suc i) x a p = (a.0, all_but ys i x a.1 p)

-- ends that are held, by the ends of the machine
abbrev tx_in : Option EndsView → List TxDeviceView
tx_in None = []
tx_in (Some e) = e.tx

abbrev rx_in : Option EndsView → List RxDeviceView
rx_in None = []
rx_in (Some e) = e.rx

tx_in_of : (o : Option ActiveView) (m : MachineView) → tx_of o ≡ tx_in (ends_of (record m { active = o }))
tx_in_of None m = refl
tx_in_of (Some a) m = refl

rx_in_of : (o : Option ActiveView) (m : MachineView) → rx_of o ≡ rx_in (ends_of (record m { active = o }))
rx_in_of None m = refl
rx_in_of (Some a) m = refl

-- ------------------------------------------------------------ the command register

pub trusts_new : (mac : List ℕ) → IsTrusted (new_machine mac)
trusts_new mac = record { tx = tt; rx = tt; tx_stopped = refl; rx_stopped = refl }

pub trusts_no_command : (d d' : DeviceView) → SeesNoCommand d d' → IsTrusted d.machine → IsTrusted d'.machine
trusts_no_command d d' s t = subst (λ (x : DeviceView). IsTrusted x.machine) (sym s.is) t

errors_none : (number value : ℕ) → errors_after number value no_errors ≡ no_errors
errors_none number value = by_clears (clears number value)
  where
    by_clears : (b : Bool) → (if b then no_errors else no_errors) ≡ no_errors
    by_clears true = refl
    by_clears false = refl

dealt_tx : (deal : Deal) (held given : Option EndsView) → TrustedTx (tx_in held) → BringsTrusted given → TrustedTx (tx_in (ends_held deal held given))
dealt_tx Begins held None h b = tt
dealt_tx Begins held (Some e) h b = b.0
dealt_tx Stops held given h b = tt
dealt_tx Passes held given h b = h

dealt_rx : (deal : Deal) (held given : Option EndsView) → TrustedRx (rx_in held) → BringsTrusted given → TrustedRx (rx_in (ends_held deal held given))
dealt_rx Begins held None h b = tt
dealt_rx Begins held (Some e) h b = b.1
dealt_rx Stops held given h b = tt
dealt_rx Passes held given h b = h

pub trusts_obeying : (d d' : DeviceView) (o : Obeys d d') → BringsTrusted o.answers.given → IsTrusted d.machine → IsTrusted d'.machine
trusts_obeying d d' o b t =
    let a = o.answers.applied in
    let deal : Deal = deal_of o.number o.value in
    let tx = dealt_tx deal (ends_of d.machine) o.answers.given (subst TrustedTx (tx_in_of d.machine.active d.machine) t.tx) b in
    let rx = dealt_rx deal (ends_of d.machine) o.answers.given (subst TrustedRx (rx_in_of d.machine.active d.machine) t.rx) b in
    subst (λ (x : DeviceView). IsTrusted x.machine) (sym o.is) (record {
      tx = subst TrustedTx (ap tx_in (sym a.held) ∙ sym (tx_in_of o.machine.active o.machine)) tx;
      rx = subst TrustedRx (ap rx_in (sym a.held) ∙ sym (rx_in_of o.machine.active o.machine)) rx;
      tx_stopped = a.tx_errors ∙ ap (errors_after o.number o.value) t.tx_stopped ∙ errors_none o.number o.value;
      rx_stopped = a.rx_errors ∙ ap (errors_after o.number o.value) t.rx_stopped ∙ errors_none o.number o.value;
    })

pub trusts_bells : (d d' : DeviceView) → BellStep d d' → IsTrusted d.machine → IsTrusted d'.machine
trusts_bells d d' s t = subst (λ (x : DeviceView). IsTrusted x.machine) (sym s.2) t

-- ------------------------------------------------------------ one end more, statistics

pub trusts_tx_end : (m m' : MachineView) (q : ℕ) (here : TxAt m q) (e : TxDeviceView) → m' ≡ with_tx (set here.active.ends.tx q e) m → (here.end.given ≡ false → e.given ≡ false) → IsTrusted m → IsTrusted m'
trusts_tx_end m m' q here e is stays t =
    let held : TrustedTx here.active.ends.tx = subst (λ (o : Option ActiveView). TrustedTx (tx_of o)) here.is_active t.tx in
    let others : TrustedRx here.active.ends.rx = subst (λ (o : Option ActiveView). TrustedRx (rx_of o)) here.is_active t.rx in
    let fine = all_there (λ (x : TxDeviceView). x.given ≡ false) here.active.ends.tx q here.end held here.at in
    subst IsTrusted (sym is) (record {
      tx = subst (λ (o : Option ActiveView). TrustedTx (tx_of (with_tx (set here.active.ends.tx q e) (record m { active = o })).active)) (sym here.is_active) (all_but (λ (x : TxDeviceView). x.given ≡ false) here.active.ends.tx q e held (stays fine));
      rx = subst (λ (o : Option ActiveView). TrustedRx (rx_of (with_tx (set here.active.ends.tx q e) (record m { active = o })).active)) (sym here.is_active) others;
      tx_stopped = t.tx_stopped;
      rx_stopped = t.rx_stopped;
    })

pub trusts_rx_end : (m m' : MachineView) (q : ℕ) (here : RxAt m q) (e : RxDeviceView) → m' ≡ with_rx (set here.active.ends.rx q e) m → (here.end.given ≡ false → e.given ≡ false) → IsTrusted m → IsTrusted m'
trusts_rx_end m m' q here e is stays t =
    let held : TrustedRx here.active.ends.rx = subst (λ (o : Option ActiveView). TrustedRx (rx_of o)) here.is_active t.rx in
    let others : TrustedTx here.active.ends.tx = subst (λ (o : Option ActiveView). TrustedTx (tx_of o)) here.is_active t.tx in
    let fine = all_there (λ (x : RxDeviceView). x.given ≡ false) here.active.ends.rx q here.end held here.at in
    subst IsTrusted (sym is) (record {
      tx = subst (λ (o : Option ActiveView). TrustedTx (tx_of (with_rx (set here.active.ends.rx q e) (record m { active = o })).active)) (sym here.is_active) others;
      rx = subst (λ (o : Option ActiveView). TrustedRx (rx_of (with_rx (set here.active.ends.rx q e) (record m { active = o })).active)) (sym here.is_active) (all_but (λ (x : RxDeviceView). x.given ≡ false) here.active.ends.rx q e held (stays fine));
      tx_stopped = t.tx_stopped;
      rx_stopped = t.rx_stopped;
    })

pub trusts_taken : (q : ℕ) (frame : List ℕ) (some : Bool) (m : MachineView) → IsTrusted m → IsTrusted (counted_taken q frame some m)
trusts_taken q frame true m t = record { tx = t.tx; rx = t.rx; tx_stopped = t.tx_stopped; rx_stopped = t.rx_stopped }
trusts_taken q frame false m t = record { tx = t.tx; rx = t.rx; tx_stopped = t.tx_stopped; rx_stopped = t.rx_stopped }

trusts_counted : (q : ℕ) (what : Count) (m : MachineView) → IsTrusted m → IsTrusted (after_count Rx q what m)
trusts_counted q what m t = record { tx = t.tx; rx = t.rx; tx_stopped = t.tx_stopped; rx_stopped = t.rx_stopped }

-- ------------------------------------------------------------ a packet

given_stays : (v n : RxDeviceView) (frame : Arrival) (said : Deliver) → rx.Delivers v frame.frame frame.meta said n → v.given ≡ false → n.given ≡ false
given_stays v n frame (answer.Done place) g e = ap (λ (x : RxDeviceView). x.given) g.1.is ∙ e
given_stays v n frame (answer.NoBuffer ring position word look) g e = ap (λ (x : RxDeviceView). x.given) g.is ∙ e
given_stays v n frame (answer.Bad words fault) g e = ap (λ (x : RxDeviceView). x.given) g.is ∙ e

trusts_delivery : (q : ℕ) (frame : Arrival) (said : Deliver) (m m' : MachineView) → DeliversAs q frame said m m' → IsTrusted m → IsTrusted m'
trusts_delivery q frame said m m' g t = trusts_rx_end m m' q g.here g.after g.is (given_stays g.here.end g.after frame said g.gives) t

-- no end that is trusted shows a fault
no_fault : (q : ℕ) (frame : Arrival) (m m' : MachineView) (words : List ℕ) (fault : EndFault) → DeliversAs q frame (answer.Bad words fault) m m' → IsTrusted m → ⊥
no_fault q frame m m' words fault g t =
    let held : TrustedRx g.here.active.ends.rx = subst (λ (o : Option ActiveView). TrustedRx (rx_of o)) g.here.is_active t.rx in
    absurd (true≢false (sym g.gives.given ∙ all_there (λ (x : RxDeviceView). x.given ≡ false) g.here.active.ends.rx q g.here.end held g.here.at))

pub handles_trusted : (activation : ℕ) (frame : List ℕ) (interrupts : ℕ) (f : Fate) (old : MachineView) (was : Masks) (new : MachineView) (now : Masks) → Handles activation frame interrupts f old was new now → IsTrusted old → HandlesTrusted activation frame f old was new now × IsTrusted new
handles_trusted activation frame interrupts f old was new now h t = elim h [
  | inl a ↦ (inl a, subst IsTrusted (sym a.is) t)
  | inr r ↦ elim r [
    | inl b ↦ (inr (inl b), subst IsTrusted (sym b.is) t)
    | inr s ↦ elim s [
      | inl c ↦ absurd (unstopped_rx old t (rx_queue c.let_in.active.setup.rss frame) c.error c.stopped)
      | inr g ↦ elim g.delivers [
        | inl up ↦ (inr (inr (record { let_in = g.let_in; delivers = inl up })), subst IsTrusted (sym up.is) (trusts_counted _ (tally.Frame (class_of frame) (length frame)) up.mid (trusts_delivery _ _ _ old up.mid up.gives t)))
        | inr less ↦ elim less [
          | inl none ↦ (inr (inr (record { let_in = g.let_in; delivers = inr none })), subst IsTrusted (sym none.is) (trusts_counted _ tally.NoBuffer none.mid (trusts_delivery _ _ _ old none.mid none.gives t)))
          | inr bad ↦ absurd (no_fault _ _ old bad.mid bad.words bad.fault bad.gives t)
        ]
      ]
    ]
  ]
]

pub trusts_packet : (n : ℕ) (found : Bool) (d d' : DeviceView) → InStep n found d d' → IsTrusted d.machine → IsTrusted d'.machine
trusts_packet n false d d' s t = subst (λ (x : DeviceView). IsTrusted x.machine) (sym s.is) t
trusts_packet n true d d' s t = subst (λ (x : DeviceView). IsTrusted x.machine) (sym s.is) (handles_trusted _ _ _ s.fate d.machine d.masks s.machine s.masks s.handles t).1

pub trusts_packets : (n : ℕ) (found : Bool) (d d' : DeviceView) → InSteps n found d d' → IsTrusted d.machine → IsTrusted d'.machine
trusts_packets zero found d d' s t = subst (λ (x : DeviceView). IsTrusted x.machine) (sym s.1) t
trusts_packets (suc n) found d d' (before, here, (mid, is, step, steps)) t = trusts_packet n here mid d' step (trusts_packets n before d mid steps t)
