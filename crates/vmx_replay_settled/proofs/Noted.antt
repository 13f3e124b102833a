-- What notes both ways leave of a guest's driver and device.
use Rattle.std.proofs.Common.{◌≡◌, true, false, true≢false, is_some, refl, sym, ap, ◌∙◌, subst, Option, Some, None}
use Rattle.vmx_regs.specs.declared.known.Calls.{Calls}
use Rattle.vmx_device_state.specs.declared.turn.CommandView.{CommandView}
use Rattle.vmx_machine_state.specs.Views.{ActiveView, MachineView, ends_of}
use Rattle.vmx_device_laws.specs.Views.{DeviceView, AreWhole}
use Rattle.vmx_driver_steps.specs.declared.progress.Stage.{Stage}
use Rattle.vmx_driver_steps.specs.declared.progress.Stage.TheVariants.{Fresh, Active, Stopping, Held, Quiet, Ended}
use Rattle.vmx_driver_steps.specs.Driver.{DriverView}
use Rattle.vmx_driver.specs.Stocked.{AreEven}
use Rattle.vmx_actor_laws.specs.Joint.{AreCaughtUp, AreOfItsQueues, GoWith}
use Rattle.vmx_actor_laws.proofs.Joint.{leads_its_device}
use Rattle.vmx_note_laws.proofs.Registers.{passes_same}
use Rattle.vmx_replay_guests.specs.Passing.{RegsPassed, QueuesPassed, QueuesPassedBy, AllTxPassed, AllRxPassed, HoldsItsQueues}
use Rattle.vmx_replay_guests.proofs.Even.{stays_even, stays_whole}
use Rattle.vmx_replay_settled.specs.Settled.{ArePaired, BothKeep, QueuesSettled, Settles}

-- ------------------------------------------------------------ registers

module _ (v : DriverView) (d : DeviceView) (v' : DriverView) (d' : DeviceView) (r : RegsPassed v d v' d') where
  -- with no command outstanding both sides know the same turns
  pub caught_up : v'.calls.asked ≡ None → AreCaughtUp v' d'
  caught_up none = record {
    none = none;
    same = ap (λ (c : Calls). c.turns) r.regs.driver ∙ (passes_same v.calls v'.calls d.calls d'.calls r.regs (sym (ap (λ (c : Calls). c.asked) r.regs.driver) ∙ none)).0 ∙ sym (ap (λ (c : Calls). c.served) r.regs.device);
  }

  pub paired_regs : ArePaired v d → ArePaired v' d'
  paired_regs p = record {
    key = ap (λ (x : DriverView). x.key) r.driver ∙ p.key ∙ sym (ap (λ (x : DeviceView). x.key) r.device);
    even = subst AreEven (sym r.driver) (record { tx = p.even.tx; rx = p.even.rx });
    whole = subst AreWhole (sym r.device) p.whole;
  }

-- ------------------------------------------------------------ queues

-- a device holds the ends of its driver's queues
holds_in : (v : DriverView) (g : Stage) (o : Option ActiveView) (m : MachineView) → GoWith g v (ends_of (record m { active = o })) → HoldsItsQueues v o
holds_in v g None m h = tt
holds_in v Active (Some a) m h = let same : h.0 ≡ a.ends = cc (sym h.1) in subst (AreOfItsQueues v) same h.2
holds_in v Fresh (Some a) m h = absurd (cc h)
holds_in v (Stopping t) (Some a) m h = absurd (cc h)
holds_in v (Held t) (Some a) m h = absurd (cc h)
holds_in v Quiet (Some a) m h = absurd (cc h)
holds_in v Ended (Some a) m h = absurd (cc h)

pub holds_queues : (v : DriverView) (d : DeviceView) → BothKeep v d → AreCaughtUp v d → HoldsItsQueues v d.machine.active
holds_queues v d k c = holds_in v v.at.stage d.machine.active d.machine (leads_its_device v d k.driver k.device c).ends

module _ (v : DriverView) (d : DeviceView) (v' : DriverView) (d' : DeviceView) where
  tx_driver_key : AllTxPassed v d v' d' → v'.key ≡ v.key
  tx_driver_key p = ap (λ (x : DriverView). x.key) p.driver

  tx_device_key : AllTxPassed v d v' d' → d'.key ≡ d.key
  tx_device_key p = ap (λ (x : DeviceView). x.key) p.device

  rx_driver_key : AllRxPassed v d v' d' → v'.key ≡ v.key
  rx_driver_key p = ap (λ (x : DriverView). x.key) p.driver

  rx_device_key : AllRxPassed v d v' d' → d'.key ≡ d.key
  rx_device_key p = ap (λ (x : DeviceView). x.key) p.device

keys_by : (o : Option ActiveView) (v : DriverView) (d : DeviceView) (v' : DriverView) (d' : DeviceView) → QueuesPassedBy o v d v' d' → (v'.key ≡ v.key) × (d'.key ≡ d.key)
keys_by None v d v' d' q = (ap (λ (x : DriverView). x.key) q.0, ap (λ (x : DeviceView). x.key) q.1)
keys_by (Some a) v d v' d' q = let p = q.0 in (
  rx_driver_key p.mid_v p.mid_d v' d' p.rx ∙ tx_driver_key v d p.mid_v p.mid_d p.tx,
  rx_device_key p.mid_v p.mid_d v' d' p.rx ∙ tx_device_key v d p.mid_v p.mid_d p.tx,
)

pub paired_queues : (v : DriverView) (d : DeviceView) (v' : DriverView) (d' : DeviceView) → QueuesPassed v d v' d' → ArePaired v d → ArePaired v' d'
paired_queues v d v' d' q p = let keys = keys_by d.machine.active v d v' d' q in record {
  key = keys.0 ∙ p.key ∙ sym keys.1;
  even = stays_even v v' d d' q p.even;
  whole = stays_whole v v' d d' q p.whole;
}

-- ------------------------------------------------------------ both

paired_by : (o : Option CommandView) (v : DriverView) (d : DeviceView) (v' : DriverView) (d' : DeviceView) → QueuesSettled o v d v' d' → ArePaired v d → ArePaired v' d'
paired_by None v d v' d' q p = paired_queues v d v' d' q p
paired_by (Some c) v d v' d' q p = subst (λ (x : DriverView × DeviceView). ArePaired x.0 x.1) (λ i. (sym q.0 i, sym q.1 i)) p

pub paired_settled : (v : DriverView) (d : DeviceView) (v' : DriverView) (d' : DeviceView) → QueuesSettled v.calls.asked v d v' d' → ArePaired v d → ArePaired v' d'
paired_settled v d v' d' q p = paired_by v.calls.asked v d v' d' q p

-- where a command is outstanding nothing happens, and else the queues are passed
pub settled_none : (v : DriverView) (d : DeviceView) (v' : DriverView) (d' : DeviceView) → v.calls.asked ≡ None → QueuesPassed v d v' d' → QueuesSettled v.calls.asked v d v' d'
settled_none v d v' d' none q = subst (λ (o : Option CommandView). QueuesSettled o v d v' d') (sym none) q

pub none_by : (o : Option CommandView) → is_some o ≡ false → o ≡ None
none_by None e = refl
none_by (Some c) e = absurd (true≢false e)

pub some_by : (o : Option CommandView) → is_some o ≡ true → o ≡ None → ⊥
some_by None e n = absurd (true≢false (sym e))
some_by (Some c) e n = absurd (cc n)

pub settled_some : (v : DriverView) (d : DeviceView) (o : Option CommandView) → (o ≡ None → ⊥) → QueuesSettled o v d v d
settled_some v d None some = absurd (some refl)
settled_some v d (Some c) some = (refl, refl)

-- ------------------------------------------------------------ counts

entries_by : (o : Option ActiveView) (v : DriverView) (d : DeviceView) (v' : DriverView) (d' : DeviceView) → QueuesPassedBy o v d v' d' → (d'.entries ≡ d.entries) × (d'.calls.served ≡ d.calls.served)
entries_by None v d v' d' q = (ap (λ (x : DeviceView). x.entries) q.1, ap (λ (x : DeviceView). x.calls.served) q.1)
entries_by (Some a) v d v' d' q = let p = q.0 in (
  ap (λ (x : DeviceView). x.entries) p.rx.device ∙ ap (λ (x : DeviceView). x.entries) p.tx.device,
  ap (λ (x : DeviceView). x.calls.served) p.rx.device ∙ ap (λ (x : DeviceView). x.calls.served) p.tx.device,
)

entries_settled : (o : Option CommandView) (v : DriverView) (d : DeviceView) (v' : DriverView) (d' : DeviceView) → QueuesSettled o v d v' d' → (d'.entries ≡ d.entries) × (d'.calls.served ≡ d.calls.served)
entries_settled None v d v' d' q = entries_by d.machine.active v d v' d' q
entries_settled (Some c) v d v' d' q = (ap (λ (x : DeviceView). x.entries) q.1, ap (λ (x : DeviceView). x.calls.served) q.1)

pub entries_passed : (v : DriverView) (d : DeviceView) (v' : DriverView) (d' : DeviceView) → QueuesPassed v d v' d' → (d'.entries ≡ d.entries) × (d'.calls.served ≡ d.calls.served)
entries_passed v d v' d' q = entries_by d.machine.active v d v' d' q

-- no note adds an entry or a command
pub entries_stay : (v : DriverView) (d : DeviceView) (v' : DriverView) (d' : DeviceView) → Settles v d v' d' → (d'.entries ≡ d.entries) × (d'.calls.served ≡ d.calls.served)
entries_stay v d v' d' s = let q = entries_settled s.told_v.calls.asked s.told_v s.told_d v' d' s.queues in (
  q.0 ∙ ap (λ (x : DeviceView). x.entries) s.regs.device,
  q.1 ∙ ap (λ (c : Calls). c.served) s.regs.regs.device,
)
