-- Notes of a guest's registers and queues leave what is kept of its device.
use Rattle.std.proofs.Common.{◌≡◌, refl, sym, ap, ◌∙◌, subst, Option, Some, None}
use Rattle.vmx_device_state.specs.declared.turn.CommandView.{CommandView}
use Rattle.vmx_regs.specs.declared.known.Calls.{Calls}
use Rattle.vmx_machine_state.specs.Views.{ActiveView, MachineView}
use Rattle.vmx_device_laws.specs.Views.{DeviceView}
use Rattle.vmx_driver_steps.specs.Driver.{DriverView}
use Rattle.vmx_trusted_turns.specs.Trusted.{IsTrusted}
use Rattle.vmx_actor_laws.specs.Joint.{AreCaughtUp}
use Rattle.vmx_replay_guests.specs.Passing.{RegsPassed, QueuesPassed, QueuesPassedBy}
use Rattle.vmx_replay_settled.specs.Settled.{QueuesSettled, Settles}
use Rattle.vmx_replay_calls.proofs.Notes.{regs_asked, regs_turns, regs_served, regs_caught_up, queue_notes, queue_trusted}
use Rattle.vmx_replay_kept.specs.Sound.{IsSound}
use Rattle.vmx_replay_kept.proofs.Turns.{HoldsTrusted, sound_same}

-- ------------------------------------------------------------ queues

passed_by : (o : Option ActiveView) (v : DriverView) (d : DeviceView) (v' : DriverView) (d' : DeviceView) → QueuesPassedBy o v d v' d' → IsSound d → IsSound d'
passed_by None v d v' d' q h = subst IsSound (sym q.1) h
passed_by (Some a) v d v' d' q h =
    let p = q.0 in
    let mid = sound_same d p.mid_d (ap (λ (x : DeviceView). x.out) p.tx.device) (ap (λ (x : DeviceView). x.input) p.tx.device) (ap (λ (x : DeviceView). x.calls.served) p.tx.device) h in
    sound_same p.mid_d d' (ap (λ (x : DeviceView). x.out) p.rx.device) (ap (λ (x : DeviceView). x.input) p.rx.device) (ap (λ (x : DeviceView). x.calls.served) p.rx.device) mid

pub queues_sound : (v : DriverView) (d : DeviceView) (v' : DriverView) (d' : DeviceView) → QueuesPassed v d v' d' → IsSound d → IsSound d'
queues_sound v d v' d' q h = passed_by d.machine.active v d v' d' q h

-- a device that holds no ends holds none behind them
pub queues_idle : (v : DriverView) (d : DeviceView) (v' : DriverView) (d' : DeviceView) → QueuesPassed v d v' d' → d.machine.active ≡ None → d' ≡ d
queues_idle v d v' d' q none = (subst (λ (o : Option ActiveView). QueuesPassedBy o v d v' d') none q).1

-- ------------------------------------------------------------ registers, and then the queues

regs_sound : (v : DriverView) (d : DeviceView) (v' : DriverView) (d' : DeviceView) → RegsPassed v d v' d' → IsSound d → IsSound d'
regs_sound v d v' d' p h = sound_same d d' (ap (λ (x : DeviceView). x.out) p.device) (ap (λ (x : DeviceView). x.input) p.device) (regs_served v d v' d' p) h

settled_by : (o : Option CommandView) (v : DriverView) (d : DeviceView) (v' : DriverView) (d' : DeviceView) → QueuesSettled o v d v' d' → IsSound d → IsSound d'
settled_by None v d v' d' q h = queues_sound v d v' d' q h
settled_by (Some c) v d v' d' q h = subst IsSound (sym q.1) h

pub settles_sound : (v : DriverView) (d : DeviceView) (v' : DriverView) (d' : DeviceView) → Settles v d v' d' → IsSound d → IsSound d'
settles_sound v d v' d' s h = settled_by s.told_v.calls.asked s.told_v s.told_d v' d' s.queues (regs_sound v d s.told_v s.told_d s.regs h)

idle_by : (o : Option CommandView) (v : DriverView) (d : DeviceView) (v' : DriverView) (d' : DeviceView) → QueuesSettled o v d v' d' → d.machine.active ≡ None → d'.machine.active ≡ None
idle_by None v d v' d' q none = ap (λ (x : DeviceView). x.machine.active) (queues_idle v d v' d' q none) ∙ none
idle_by (Some c) v d v' d' q none = ap (λ (x : DeviceView). x.machine.active) q.1 ∙ none

pub settles_idle : (v : DriverView) (d : DeviceView) (v' : DriverView) (d' : DeviceView) → Settles v d v' d' → d.machine.active ≡ None → d'.machine.active ≡ None
settles_idle v d v' d' s none = idle_by s.told_v.calls.asked s.told_v s.told_d v' d' s.queues (ap (λ (x : DeviceView). x.machine.active) s.regs.device ∙ none)

-- ------------------------------------------------------------ ends without given words

pub idle_holds : (m : MachineView) → m.active ≡ None → HoldsTrusted m
idle_holds m none = subst (λ (o : Option ActiveView). HoldsTrusted (record m { active = o })) (sym none) (record { tx = tt; rx = tt })

holds : (m : MachineView) → IsTrusted m → HoldsTrusted m
holds m t = record { tx = t.tx; rx = t.rx }

pub queues_hold : (v : DriverView) (d : DeviceView) (v' : DriverView) (d' : DeviceView) → QueuesPassed v d v' d' → IsTrusted d.machine → HoldsTrusted d'.machine
queues_hold v d v' d' q t = by_active d.machine.active refl
  where
    by_active : (a : Option ActiveView) → d.machine.active ≡ a → HoldsTrusted d'.machine
    by_active None e = subst (λ (x : DeviceView). HoldsTrusted x.machine) (sym (queues_idle v d v' d' q e)) (holds d.machine t)
    by_active (Some a) e = holds d'.machine (queue_trusted v d v' d' (queue_notes v d v' d' q (λ n. absurd (let both : Some a ≡ None = sym e ∙ n in cc both))) t)

hold_by : (o : Option CommandView) (v : DriverView) (d : DeviceView) (v' : DriverView) (d' : DeviceView) → QueuesSettled o v d v' d' → IsTrusted d.machine → HoldsTrusted d'.machine
hold_by None v d v' d' q t = queues_hold v d v' d' q t
hold_by (Some c) v d v' d' q t = subst (λ (x : DeviceView). HoldsTrusted x.machine) (sym q.1) (holds d.machine t)

pub settles_hold : (v : DriverView) (d : DeviceView) (v' : DriverView) (d' : DeviceView) → Settles v d v' d' → IsTrusted d.machine → HoldsTrusted d'.machine
settles_hold v d v' d' s t =
    hold_by s.told_v.calls.asked s.told_v s.told_d v' d' s.queues (subst (λ (m : MachineView). IsTrusted m) (sym (ap (λ (x : DeviceView). x.machine) s.regs.device)) t)

-- ------------------------------------------------------------ what both know

calls_passed : (o : Option ActiveView) (v : DriverView) (d : DeviceView) (v' : DriverView) (d' : DeviceView) → QueuesPassedBy o v d v' d' → (v'.calls ≡ v.calls) × (d'.calls ≡ d.calls)
calls_passed None v d v' d' q = (ap (λ (x : DriverView). x.calls) q.0, ap (λ (x : DeviceView). x.calls) q.1)
calls_passed (Some a) v d v' d' q =
    let p = q.0 in (ap (λ (x : DriverView). x.calls) p.rx.driver ∙ ap (λ (x : DriverView). x.calls) p.tx.driver, ap (λ (x : DeviceView). x.calls) p.rx.device ∙ ap (λ (x : DeviceView). x.calls) p.tx.device)

calls_settled : (o : Option CommandView) (v : DriverView) (d : DeviceView) (v' : DriverView) (d' : DeviceView) → QueuesSettled o v d v' d' → (v'.calls ≡ v.calls) × (d'.calls ≡ d.calls)
calls_settled None v d v' d' q = calls_passed d.machine.active v d v' d' q
calls_settled (Some c) v d v' d' q = (ap (λ (x : DriverView). x.calls) q.0, ap (λ (x : DeviceView). x.calls) q.1)

-- where no command is out both know the same ones behind notes
pub settles_caught_up : (v : DriverView) (d : DeviceView) (v' : DriverView) (d' : DeviceView) → Settles v d v' d' → v'.calls.asked ≡ None → AreCaughtUp v' d'
settles_caught_up v d v' d' s none =
    let same = calls_settled s.told_v.calls.asked s.told_v s.told_d v' d' s.queues in
    let before : v.calls.asked ≡ None = sym (regs_asked v d s.told_v s.told_d s.regs) ∙ sym (ap (λ (x : Calls). x.asked) same.0) ∙ none in
    let up = regs_caught_up v d s.told_v s.told_d s.regs before in record {
      none = none;
      same = ap (λ (x : Calls). x.turns) same.0 ∙ regs_turns v d s.told_v s.told_d s.regs ∙ up.same ∙ sym (regs_served v d s.told_v s.told_d s.regs) ∙ sym (ap (λ (x : Calls). x.served) same.1);
    }
