-- The ends that are held stay even, and no frame is left taken and not completed.
use Rattle.std.proofs.Common.{◌≡◌, ℕ, zero, suc, ◌+◌, Bool, true, false, true≢false, List, [], ◌∷◌, ◌++◌, length, length-append, set, refl, sym, ap, ◌∙◌, subst, arith, Some, Option, inl, inr}
use Rattle.std.specs.Prelude.{◌&&◌, ◌==◌, option_map}
use Rattle.std.proofs.lemmas.Bool.{eq-eqb}
use Rattle.vmx_ends.specs.Transmit.{TxDeviceView}
use Rattle.vmx_ends.specs.Receive.{RxDeviceView}
use Rattle.vmx_ends.specs.ReceiveClauses.{Delivers}
use Rattle.vmx_ends.specs.declared.answers.Deliver.{Deliver}
use Rattle.vmx_ends.specs.declared.answers.Deliver.TheVariants as deliver
use Rattle.vmx_ends.specs.declared.frames.Taken.{Taken}
use Rattle.vmx_ends.specs.declared.meta.RxMeta.{RxMeta}
use Rattle.vmx_ends.specs.Frames.{sent_as}
use Rattle.vmx_ends.specs.HandedEnds.{EndsView, handed_of, all_of, is_whole_tx, is_whole_rx}
use Rattle.vmx_ends.specs.HandedLaws.{whole_tx}
use Rattle.vmx_device_state.specs.Deals.{IsWhole}
use Rattle.vmx_machine_state.specs.Views.{ActiveView, MachineView, ends_of}
use Rattle.vmx_device_looks.specs.Looks.{TxAt, RxAt, DeliversAs, with_tx, with_rx}
use Rattle.vmx_model.specs.Meta.{Arrival}
use Rattle.vmx_device_laws.specs.Views.{DeviceView, AreWhole}
use Rattle.vmx_device_laws.specs.Steps.{BellStep, TxStep, TxSteps, InStep, InSteps, counted_taken}
use Rattle.vmx_device_laws.proofs.Lists.{all_of_set, and_both}

pub both_true : (a b : Bool) → a ≡ true → b ≡ true → (a && b) ≡ true
both_true true b x y = y
both_true false b x y = absurd (true≢false (sym x))

abbrev pub Whole : MachineView → Type 0
Whole m = IsWhole (option_map handed_of (ends_of m))

pub whole_tx_set : (m new : MachineView) (q : ℕ) (here : TxAt m q) (v' : TxDeviceView) → (is_whole_tx here.end ≡ true → is_whole_tx v' ≡ true) → new ≡ with_tx (set here.active.ends.tx q v') m → Whole m → Whole new
whole_tx_set m new q here v' stays is w =
    let a = here.active in
    let old : (all_of is_whole_tx here.active.ends.tx && all_of is_whole_rx here.active.ends.rx) ≡ true = subst (λ (o : Option ActiveView). IsWhole (option_map handed_of (option_map (λ (x : ActiveView). x.ends) o))) here.is_active w in
    let both = and_both (all_of is_whole_tx here.active.ends.tx) (all_of is_whole_rx here.active.ends.rx) old in
    let now : (all_of is_whole_tx (set here.active.ends.tx q v') && all_of is_whole_rx here.active.ends.rx) ≡ true =
    both_true (all_of is_whole_tx (set here.active.ends.tx q v')) (all_of is_whole_rx here.active.ends.rx) (all_of_set is_whole_tx here.active.ends.tx q here.end v' here.at stays both.0) both.1 in
    let ends_are : ends_of new ≡ Some (record here.active.ends { tx = set here.active.ends.tx q v' }) =
    ap ends_of is ∙ ap (λ (o : Option ActiveView). ends_of (with_tx (set here.active.ends.tx q v') (record m { active = o }))) here.is_active in
    subst (λ (o : Option EndsView). IsWhole (option_map handed_of o)) (sym ends_are) now

pub whole_rx_set : (m new : MachineView) (q : ℕ) (here : RxAt m q) (v' : RxDeviceView) → (is_whole_rx here.end ≡ true → is_whole_rx v' ≡ true) → new ≡ with_rx (set here.active.ends.rx q v') m → Whole m → Whole new
whole_rx_set m new q here v' stays is w =
    let old : (all_of is_whole_tx here.active.ends.tx && all_of is_whole_rx here.active.ends.rx) ≡ true = subst (λ (o : Option ActiveView). IsWhole (option_map handed_of (option_map (λ (x : ActiveView). x.ends) o))) here.is_active w in
    let both = and_both (all_of is_whole_tx here.active.ends.tx) (all_of is_whole_rx here.active.ends.rx) old in
    let now : (all_of is_whole_tx here.active.ends.tx && all_of is_whole_rx (set here.active.ends.rx q v')) ≡ true =
    both_true (all_of is_whole_tx here.active.ends.tx) (all_of is_whole_rx (set here.active.ends.rx q v')) both.0 (all_of_set is_whole_rx here.active.ends.rx q here.end v' here.at stays both.1) in
    let ends_are : ends_of new ≡ Some (record here.active.ends { rx = set here.active.ends.rx q v' }) =
    ap ends_of is ∙ ap (λ (o : Option ActiveView). ends_of (with_rx (set here.active.ends.rx q v') (record m { active = o }))) here.is_active in
    subst (λ (o : Option EndsView). IsWhole (option_map handed_of o)) (sym ends_are) now

-- an end with the same numbers
same_whole : (v v' : TxDeviceView) → v'.taken ≡ v.taken → v'.completed ≡ v.completed → v'.notes_given ≡ v.notes_given → v'.notes_heard ≡ v.notes_heard → is_whole_tx v ≡ true → is_whole_tx v' ≡ true
same_whole v v' taken completed given heard w = (λ i. (completed i == length (taken i)) && (given i == heard i)) ∙ w

-- one frame more was taken and completed
took_whole : (v v' : TxDeviceView) (t : Taken) → v'.taken ≡ v.taken ++ t ∷ [] → v'.completed ≡ suc v.completed → v'.notes_given ≡ v.notes_given → v'.notes_heard ≡ v.notes_heard → is_whole_tx v ≡ true → is_whole_tx v' ≡ true
took_whole v v' t taken completed given heard w =
    let old = whole_tx v w in
    let many : length v'.taken ≡ length v.taken + 1 = ap length taken ∙ length-append v.taken (t ∷ []) in
    both_true (v'.completed == length v'.taken) (v'.notes_given == v'.notes_heard) (eq-eqb v'.completed (length v'.taken) (omega (arith, completed, many, old.0))) (eq-eqb v'.notes_given v'.notes_heard (given ∙ old.1 ∙ sym heard))

counted_ends : (q : ℕ) (frame : List ℕ) (some : Bool) (m : MachineView) → ends_of (counted_taken q frame some m) ≡ ends_of m
counted_ends q frame true m = refl
counted_ends q frame false m = refl

moved : (m m' : MachineView) → ends_of m' ≡ ends_of m → Whole m → Whole m'
moved m m' e w = subst (λ (o : Option EndsView). IsWhole (option_map handed_of o)) (sym e) w

pub whole_tx_step : (d d' : DeviceView) (q : ℕ) (found : Bool) → TxStep q found d d' → AreWhole d → AreWhole d'
whole_tx_step d d' q false s w = elim s [
  | inl p ↦ subst AreWhole (sym p.is) w
  | inr n ↦
      let is = n.takes.finds.is in
      let done = whole_tx_set d.machine n.machine q n.takes.here n.takes.after (same_whole n.takes.here.end n.takes.after (ap (λ (v : TxDeviceView). v.taken) is) (ap (λ (v : TxDeviceView). v.completed) is) (ap (λ (v : TxDeviceView). v.notes_given) is) (ap (λ (v : TxDeviceView). v.notes_heard) is)) n.takes.is w in
      moved n.machine d'.machine (ap (λ (x : DeviceView). ends_of x.machine) n.is) done
]
whole_tx_step d d' q true s w = elim s [
  | inl f ↦
      let t = f.takes.takes in
      let is = f.takes.completes ∙ ap (λ (v : TxDeviceView). record v { completed = suc v.completed }) t.is in
      let done = whole_tx_set d.machine f.machine q f.takes.here f.takes.after (took_whole f.takes.here.end f.takes.after (record { sent = sent_as f.bytes f.mark; descriptors = t.count }) (ap (λ (v : TxDeviceView). v.taken) is) (ap (λ (v : TxDeviceView). v.completed) is) (ap (λ (v : TxDeviceView). v.notes_given) is) (ap (λ (v : TxDeviceView). v.notes_heard) is)) f.takes.is w in
      moved f.machine d'.machine (ap (λ (x : DeviceView). ends_of x.machine) f.is ∙ counted_ends q _ _ f.machine) done
  | inr b ↦
      let is = b.takes.shows.is in
      let done = whole_tx_set d.machine b.machine q b.takes.here b.takes.after (same_whole b.takes.here.end b.takes.after (ap (λ (v : TxDeviceView). v.taken) is) (ap (λ (v : TxDeviceView). v.completed) is) (ap (λ (v : TxDeviceView). v.notes_given) is) (ap (λ (v : TxDeviceView). v.notes_heard) is)) b.takes.is w in
      moved b.machine d'.machine (ap (λ (x : DeviceView). ends_of x.machine) b.is) done
]

-- a delivery gives and hears no notes
delivers_notes : (v v' : RxDeviceView) (frame : List ℕ) (meta : RxMeta) (answer : Deliver) → Delivers v frame meta answer v' → (v'.notes_given ≡ v.notes_given) × (v'.notes_heard ≡ v.notes_heard)
delivers_notes v v' frame meta (deliver.Done place) h = (ap (λ (u : RxDeviceView). u.notes_given) h.1.is, ap (λ (u : RxDeviceView). u.notes_heard) h.1.is)
delivers_notes v v' frame meta (deliver.NoBuffer ring position word look) h = (ap (λ (u : RxDeviceView). u.notes_given) h.is, ap (λ (u : RxDeviceView). u.notes_heard) h.is)
delivers_notes v v' frame meta (deliver.Bad words fault) h = (ap (λ (u : RxDeviceView). u.notes_given) h.is, ap (λ (u : RxDeviceView). u.notes_heard) h.is)

delivered_whole : (m new : MachineView) (q : ℕ) (what : Arrival) (answer : Deliver) → DeliversAs q what answer m new → Whole m → Whole new
delivered_whole m new q what answer g w =
    let n = delivers_notes g.here.end g.after what.frame what.meta answer g.gives in
    whole_rx_set m new q g.here g.after (λ h. (λ i. n.0 i == n.1 i) ∙ h) g.is w

pub whole_in_step : (d d' : DeviceView) (n : ℕ) (found : Bool) → InStep n found d d' → AreWhole d → AreWhole d'
whole_in_step d d' n false s w = moved d.machine d'.machine (ap (λ (x : DeviceView). ends_of x.machine) s.is) w
whole_in_step d d' n true s w =
    let there = ap (λ (x : DeviceView). ends_of x.machine) s.is in
    elim s.handles [
      | inl i ↦ moved d.machine d'.machine (there ∙ ap ends_of i.is) w
      | inr h1 ↦ elim h1 [
        | inl r ↦ moved d.machine d'.machine (there ∙ ap ends_of r.is) w
        | inr h2 ↦ elim h2 [
          | inl t ↦ moved d.machine d'.machine (there ∙ ap ends_of t.is) w
          | inr g ↦ elim g.delivers [
            | inl u ↦ moved u.mid d'.machine (there ∙ ap ends_of u.is) (delivered_whole d.machine u.mid _ _ _ u.gives w)
            | inr h3 ↦ elim h3 [
              | inl u ↦ moved u.mid d'.machine (there ∙ ap ends_of u.is) (delivered_whole d.machine u.mid _ _ _ u.gives w)
              | inr u ↦ moved u.mid d'.machine (there ∙ ap ends_of u.is) (delivered_whole d.machine u.mid _ _ _ u.gives w)
            ]
          ]
        ]
      ]
    ]

-- ------------------------------------------------------------ all looks of a turn

pub whole_bells : (d d' : DeviceView) → BellStep d d' → AreWhole d → AreWhole d'
whole_bells d d' s w = subst AreWhole (sym s.2) w

pub whole_tx_steps : (n : ℕ) (found : Bool) (d d' : DeviceView) → TxSteps n found d d' → AreWhole d → AreWhole d'
whole_tx_steps zero found d d' s w = subst AreWhole (sym s.1) w
whole_tx_steps (suc n) found d d' (before, here, (mid, is, step, steps)) w = whole_tx_step mid d' n here step (whole_tx_steps n before d mid steps w)

pub whole_in_steps : (n : ℕ) (found : Bool) (d d' : DeviceView) → InSteps n found d d' → AreWhole d → AreWhole d'
whole_in_steps zero found d d' s w = subst AreWhole (sym s.1) w
whole_in_steps (suc n) found d d' (before, here, (mid, is, step, steps)) w = whole_in_step mid d' n here step (whole_in_steps n before d mid steps w)
