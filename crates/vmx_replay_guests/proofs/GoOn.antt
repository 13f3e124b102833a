-- What polls of a driver and turns of a device do to the ends of receive queues, for the notes behind them.
use Rattle.std.proofs.Common.{◌≡◌, ℕ, suc, ◌-◌, Bool, true, List, [], ◌∷◌, append-nil, refl, sym, ap, ◌∙◌, subst, Some, None, Option, inl, inr}
use Rattle.std.specs.Prelude.{All}
use Rattle.std.proofs.lemmas.List.Elements.{All-head, All-tail}
use Rattle.vmx_ends.specs.Receive.{RxDriverView, RxDeviceView}
use Rattle.vmx_ends.specs.ReceiveClauses as rx
use Rattle.vmx_ends.specs.declared.answers.Deliver.{Deliver}
use Rattle.vmx_ends.specs.declared.answers.Deliver.TheVariants as answer
use Rattle.vmx_ends.specs.declared.meta.RxMeta.{RxMeta}
use Rattle.vmx_ends.specs.HandedEnds.{ends_handed}
use Rattle.vmx_ends.specs.HandedLaws.{IsFreshRx, are_fresh}
use Rattle.vmx_device_state.specs.SetupView.{SetupView}
use Rattle.vmx_regs.specs.declared.known.Masks.{Masks}
use Rattle.vmx_machine_state.specs.Views.{EndsView, ActiveView, MachineView, setup_of}
use Rattle.vmx_model.specs.declared.journal.Received.{Received}
use Rattle.vmx_model.specs.Bags.{Pairwise}
use Rattle.vmx_model.specs.Lists.{count}
use Rattle.vmx_model.specs.Journal.{is_activation}
use Rattle.vmx_device_laws.specs.Views.{DeviceView}
use Rattle.vmx_device_laws.specs.Steps.{TurnsOnce}
use Rattle.vmx_device_laws.specs.Pairs.{Came, GetsAll, PairsRx, PairsUp, rx_of}
use Rattle.vmx_device_laws.proofs.Pairwise.{turn_pairs}
use Rattle.vmx_driver_steps.specs.Driver.{DriverView}
use Rattle.vmx_driver_steps.specs.Driving.{PolledOne, Polls, PollsAll}
use Rattle.vmx_note_laws.specs.Queues.{AreOneRx, IsBehindRx, GoesOnRxDriver, GoesOnRxDevice}

-- ------------------------------------------------------------ polls

polled_on : (n first a q : ℕ) (d d' : RxDriverView) (one : List Received) (m m' : Masks) → PolledOne n first a q d d' one m m' → GoesOnRxDriver d d'
polled_on n first a q d d' one m m' p = elim p [
  | inl x ↦ let u = x.2.up in record { key = ap (λ (y : RxDriverView). y.key) u.is; received = (u.delivery ∷ [], sym (ap (λ (y : RxDriverView). y.received) u.is)) }
  | inr x ↦ let e = x.1.none in record { key = ap (λ (y : RxDriverView). y.key) e.is; received = ([], append-nil d.received ∙ sym (ap (λ (y : RxDriverView). y.received) e.is)) }
]

pub polls_on : (n first a q : ℕ) (ds ds' : List RxDriverView) (up : List Received) (m m' : Masks) → Polls n first a q ds ds' up m m' → Pairwise GoesOnRxDriver ds ds'
polls_on n first a q [] [] up m m' p = tt
polls_on n first a q [] (d' ∷ ds') up m m' p = absurd p
polls_on n first a q (d ∷ ds) [] up m m' p = absurd p
polls_on n first a q (d ∷ ds) (d' ∷ ds') up m m' p = (polled_on n first a q d d' p.0 m p.2 p.4, polls_on n first a (suc q) ds ds' p.1 p.2 m' p.5)

pub poll_goes_on : (old new : DriverView) (n : ℕ) → PollsAll old n new → Pairwise GoesOnRxDriver old.rx new.rx
poll_goes_on old new n p = polls_on _ _ _ 0 old.rx new.rx p.up p.mid new.masks p.polls

-- ------------------------------------------------------------ turns

delivered_on : (v n : RxDeviceView) (frame : List ℕ) (meta : RxMeta) (said : Deliver) → rx.Delivers v frame meta said n → GoesOnRxDevice v n
delivered_on v n frame meta (answer.Done place) g = record { key = ap (λ (x : RxDeviceView). x.key) g.1.is; heard = ap (λ (x : RxDeviceView). x.heard) g.1.is }
delivered_on v n frame meta (answer.NoBuffer ring position word look) g = record { key = ap (λ (x : RxDeviceView). x.key) g.is; heard = ap (λ (x : RxDeviceView). x.heard) g.is }
delivered_on v n frame meta (answer.Bad words fault) g = record { key = ap (λ (x : RxDeviceView). x.key) g.is; heard = ap (λ (x : RxDeviceView). x.heard) g.is }

same_on : (v n : RxDeviceView) → n ≡ v → GoesOnRxDevice v n
same_on v n e = record { key = ap (λ (x : RxDeviceView). x.key) e; heard = ap (λ (x : RxDeviceView). x.heard) e }

then_on : (v m n : RxDeviceView) → GoesOnRxDevice v m → GoesOnRxDevice m n → GoesOnRxDevice v n
then_on v m n a b = record { key = b.key ∙ a.key; heard = b.heard ∙ a.heard }

gets_on : (s : SetupView) (activation q : ℕ) (came : List Came) (v n : RxDeviceView) → GetsAll s activation q came v n → GoesOnRxDevice v n
gets_on s activation q [] v n g = same_on v n g
gets_on s activation q (c ∷ came) v n (mid, step, rest) =
    let one : GoesOnRxDevice v mid = elim step [
      | inl given ↦ delivered_on v mid _ _ given.said given.delivers
      | inr over ↦ same_on v mid over.same
    ] in
    then_on v mid n one (gets_on s activation q came mid n rest)

pairs_on : (s : SetupView) (activation q : ℕ) (came : List Came) (vs ns : List RxDeviceView) → PairsRx s activation q came vs ns → Pairwise GoesOnRxDevice vs ns
pairs_on s activation q came [] [] p = tt
pairs_on s activation q came [] (n ∷ ns) p = absurd p
pairs_on s activation q came (v ∷ vs) [] p = absurd p
pairs_on s activation q came (v ∷ vs) (n ∷ ns) p = (gets_on s activation q came v n p.0, pairs_on s activation (suc q) came vs ns p.1)

-- a device that was idle is idle
still_idle : (o n : Option ActiveView) (m : MachineView) → o ≡ None → setup_of (record m { active = n }) ≡ setup_of (record m { active = o }) → rx_of n ≡ []
still_idle o None m e h = refl
still_idle o (Some a) m e h = absurd (cc (h ∙ ap (λ (x : Option ActiveView). setup_of (record m { active = x })) e))

pub turn_goes_on : (worked : Bool) (d d' : DeviceView) (t : TurnsOnce worked d d') → Pairwise GoesOnRxDevice (rx_of t.asked.machine.active) (rx_of d'.machine.active)
turn_goes_on worked d d' t = by_active t.asked.machine.active refl
  where
    p : PairsUp t.asked d'
    p = turn_pairs worked d d' t

    by_active : (o : Option ActiveView) → t.asked.machine.active ≡ o → Pairwise GoesOnRxDevice (rx_of o) (rx_of d'.machine.active)
    by_active None e = subst (Pairwise GoesOnRxDevice []) (sym (still_idle t.asked.machine.active d'.machine.active t.asked.machine e p.setup)) tt
    by_active (Some a) e = pairs_on a.setup (count is_activation t.asked.entries - 1) 0 p.came a.ends.rx (rx_of d'.machine.active) (p.rx a e)

-- ------------------------------------------------------------ new ends

fresh_pairs : (ds : List RxDriverView) (es : List RxDeviceView) → Pairwise AreOneRx ds es → All IsFreshRx es → Pairwise IsBehindRx ds es
fresh_pairs [] [] p f = tt
fresh_pairs [] (e ∷ es) p f = absurd p
fresh_pairs (d ∷ ds) [] p f = absurd p
fresh_pairs (d ∷ ds) (e ∷ es) p f = (record { key = p.0; heard = inl (All-head IsFreshRx e es f).0 }, fresh_pairs ds es p.1 (All-tail IsFreshRx e es f))

pub fresh_behind : (ds : List RxDriverView) (e : EndsView) → Pairwise AreOneRx ds e.rx → (ends_handed e.tx e.rx).fresh ≡ true → Pairwise IsBehindRx ds e.rx
fresh_behind ds e p f = fresh_pairs ds e.rx p (are_fresh e.tx e.rx f).1
