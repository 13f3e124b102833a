-- Notes of a guest's registers and of all queues that its device holds, whether it holds any.
use Rattle.std.proofs.Common.{◌≡◌, ap, ◌∙◌, subst, Some, None, Option}
use Rattle.vmx_regs.specs.declared.known.Calls.{Calls}
use Rattle.vmx_machine_state.specs.Views.{ActiveView}
use Rattle.vmx_device_laws.specs.Views.{DeviceView}
use Rattle.vmx_driver_steps.specs.Driver.{DriverView}
use Rattle.vmx_replay_worlds.specs.Guests.{GuestView}
use Rattle.vmx_replay_worlds.specs.Moves.{IsSameGuest}
use Rattle.vmx_replay_guests.specs.Passing.{QueuesPassed, QueuesPassedBy}
use Rattle.vmx_replay_calls.specs.Selves.{IsOneDevice, IsOneDriver}
use Rattle.vmx_replay_calls.specs.Resting.{guest_of}
use Rattle.vmx_replay_calls.proofs.Steps.{GuestPassed}
use Rattle.vmx_replay_calls.proofs.Selves.{one_device, one_driver}
use Rattle.vmx_replay_calls.proofs.Notes.{same_trans, regs_same, regs_asked, regs_turns, regs_served, device_same, driver_same}

pub record QueuesKeep (v : DriverView) (d : DeviceView) (v' : DriverView) (d' : DeviceView) : Type 0 where
  pub driver : IsOneDriver v v'
  pub device : IsOneDevice d d'
  pub at : v'.at ≡ v.at
  pub calls : v'.calls ≡ v.calls
  pub served : d'.calls ≡ d.calls
  pub out : d'.out ≡ d.out
  pub input : d'.input ≡ d.input

pub queues_keep : (v : DriverView) (d : DeviceView) (v' : DriverView) (d' : DeviceView) → QueuesPassed v d v' d' → QueuesKeep v d v' d'
queues_keep v d v' d' q = by_active d.machine.active q
  where
    by_active : (o : Option ActiveView) → QueuesPassedBy o v d v' d' → QueuesKeep v d v' d'
    by_active None h = record {
      driver = record { guest = ap (λ (x : DriverView). x.guest) h.0; plan = ap (λ (x : DriverView). x.plan) h.0; key = ap (λ (x : DriverView). x.key) h.0 };
      device = record { port = ap (λ (x : DeviceView). x.port) h.1; table = ap (λ (x : DeviceView). x.table) h.1; key = ap (λ (x : DeviceView). x.key) h.1; mac = ap (λ (x : DeviceView). x.machine.mac) h.1 };
      at = ap (λ (x : DriverView). x.at) h.0;
      calls = ap (λ (x : DriverView). x.calls) h.0;
      served = ap (λ (x : DeviceView). x.calls) h.1;
      out = ap (λ (x : DeviceView). x.out) h.1;
      input = ap (λ (x : DeviceView). x.input) h.1;
    }
    by_active (Some a) h = record {
      driver = record {
        guest = ap (λ (x : DriverView). x.guest) h.0.rx.driver ∙ ap (λ (x : DriverView). x.guest) h.0.tx.driver;
        plan = ap (λ (x : DriverView). x.plan) h.0.rx.driver ∙ ap (λ (x : DriverView). x.plan) h.0.tx.driver;
        key = ap (λ (x : DriverView). x.key) h.0.rx.driver ∙ ap (λ (x : DriverView). x.key) h.0.tx.driver;
      };
      device = record {
        port = ap (λ (x : DeviceView). x.port) h.0.rx.device ∙ ap (λ (x : DeviceView). x.port) h.0.tx.device;
        table = ap (λ (x : DeviceView). x.table) h.0.rx.device ∙ ap (λ (x : DeviceView). x.table) h.0.tx.device;
        key = ap (λ (x : DeviceView). x.key) h.0.rx.device ∙ ap (λ (x : DeviceView). x.key) h.0.tx.device;
        mac = ap (λ (x : DeviceView). x.machine.mac) h.0.rx.device ∙ ap (λ (x : DeviceView). x.machine.mac) h.0.tx.device;
      };
      at = ap (λ (x : DriverView). x.at) h.0.rx.driver ∙ ap (λ (x : DriverView). x.at) h.0.tx.driver;
      calls = ap (λ (x : DriverView). x.calls) h.0.rx.driver ∙ ap (λ (x : DriverView). x.calls) h.0.tx.driver;
      served = ap (λ (x : DeviceView). x.calls) h.0.rx.device ∙ ap (λ (x : DeviceView). x.calls) h.0.tx.device;
      out = ap (λ (x : DeviceView). x.out) h.0.rx.device ∙ ap (λ (x : DeviceView). x.out) h.0.tx.device;
      input = ap (λ (x : DeviceView). x.input) h.0.rx.device ∙ ap (λ (x : DeviceView). x.input) h.0.tx.device;
    }

-- what notes leave as it was
pub record GuestKeeps (r r' : GuestView) : Type 0 where
  pub driver : IsOneDriver r.driver r'.driver
  pub device : IsOneDevice r.device r'.device
  pub at : r'.driver.at ≡ r.driver.at
  pub asked : r'.driver.calls.asked ≡ r.driver.calls.asked
  pub turns : r'.driver.calls.turns ≡ r.driver.calls.turns
  pub served : r'.device.calls.served ≡ r.device.calls.served
  pub out : r'.device.out ≡ r.device.out
  pub input : r'.device.input ≡ r.device.input
  pub same : IsSameGuest r r'

pub guest_keeps : (r r' : GuestView) → GuestPassed r r' → GuestKeeps r r'
guest_keeps r r' p =
    let q = queues_keep p.mid.driver p.mid.device r'.driver r'.device p.queues in record {
      driver = one_driver r.driver p.mid.driver r'.driver (record { guest = ap (λ (x : DriverView). x.guest) p.regs.driver; plan = ap (λ (x : DriverView). x.plan) p.regs.driver; key = ap (λ (x : DriverView). x.key) p.regs.driver }) q.driver;
      device = one_device r.device p.mid.device r'.device
          (record { port = ap (λ (x : DeviceView). x.port) p.regs.device; table = ap (λ (x : DeviceView). x.table) p.regs.device; key = ap (λ (x : DeviceView). x.key) p.regs.device; mac = ap (λ (x : DeviceView). x.machine.mac) p.regs.device }) q.device;
      at = q.at ∙ ap (λ (x : DriverView). x.at) p.regs.driver;
      asked = ap (λ (c : Calls). c.asked) q.calls ∙ regs_asked r.driver r.device p.mid.driver p.mid.device p.regs;
      turns = ap (λ (c : Calls). c.turns) q.calls ∙ regs_turns r.driver r.device p.mid.driver p.mid.device p.regs;
      served = ap (λ (c : Calls). c.served) q.served ∙ regs_served r.driver r.device p.mid.driver p.mid.device p.regs;
      out = q.out ∙ ap (λ (x : DeviceView). x.out) p.regs.device;
      input = q.input ∙ ap (λ (x : DeviceView). x.input) p.regs.device;
      same = same_trans r p.mid r' (regs_same r.driver r.device p.mid.driver p.mid.device p.regs)
          (same_trans p.mid (guest_of p.mid.driver r'.device) r' (device_same p.mid.driver p.mid.device r'.driver r'.device p.queues p.mid.driver) (driver_same p.mid.driver p.mid.device r'.driver r'.device p.queues r'.device));
    }

-- a device that holds no queue is as it was behind notes of the registers
pub idle_pass : (r r' : GuestView) (p : GuestPassed r r') → r.device.machine.active ≡ None → (r'.driver ≡ p.mid.driver) × (r'.device ≡ p.mid.device)
idle_pass r r' p e = subst (λ (o : Option ActiveView). QueuesPassedBy o p.mid.driver p.mid.device r'.driver r'.device) (ap (λ (x : DeviceView). x.machine.active) p.regs.device ∙ e) p.queues
