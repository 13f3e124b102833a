-- What a device is stays over its turns, and what holds of it at all times tells where its links are.
use Rattle.std.proofs.Common.{◌≡◌, ℕ, zero, suc, Bool, true, false, List, length, sym, ap, ◌∙◌, subst, inl, inr}
use Rattle.vmx_regs.specs.declared.known.Masks.{Masks}
use Rattle.vmx_machine_state.specs.Views.{MachineView}
use Rattle.vmx_model.specs.declared.plan.Plan.{Plan}
use Rattle.vmx_model.specs.declared.journal.Fate.{Fate}
use Rattle.vmx_model.specs.Bags.{EachQueue}
use Rattle.vmx_model.specs.Totals.{wiring}
use Rattle.vmx_model.proofs.Copies.{guests_count}
use Rattle.vmx_switch.specs.Ports.{Wiring}
use Rattle.vmx_device_looks.specs.Arrivals.{Handles}
use Rattle.vmx_device_laws.specs.Views.{DeviceView, tx_held}
use Rattle.vmx_device_laws.specs.Keeps.{Keeps, OutSays, InSays}
use Rattle.vmx_device_laws.specs.Steps.{CommandStep, InStep, InSteps, TurnsOnce}
use Rattle.vmx_device_laws.proofs.Pairwise.{turn_pairs}
use Rattle.vmx_driver_steps.specs.Driver.{DriverView}
use Rattle.vmx_driver_steps.specs.Each.{each_map}
use Rattle.vmx_replay_worlds.specs.Guests.{GuestView}
use Rattle.vmx_replay_worlds.specs.Ports.{IsOutOf, IsInTo}
use Rattle.vmx_replay_steps.proofs.Left.{left_steps}
use Rattle.vmx_replay_calls.specs.Selves.{IsOneDevice, IsOneDriver}
use Rattle.vmx_replay_calls.specs.Resting.{IsGuestAt}

-- ------------------------------------------------------------ turns

command_self : (b : Bool) (d d' : DeviceView) → CommandStep b d d' → IsOneDevice d d'
command_self false d d' c = record { port = ap (λ (x : DeviceView). x.port) c.is; table = ap (λ (x : DeviceView). x.table) c.is; key = ap (λ (x : DeviceView). x.key) c.is; mac = ap (λ (x : DeviceView). x.machine.mac) c.is }
command_self true d d' c = record { port = ap (λ (x : DeviceView). x.port) c.is; table = ap (λ (x : DeviceView). x.table) c.is; key = ap (λ (x : DeviceView). x.key) c.is; mac = ap (λ (x : DeviceView). x.machine.mac) c.is ∙ c.answers.applied.stays.mac }

handled_mac : (a : ℕ) (frame : List ℕ) (interrupts : ℕ) (f : Fate) (m : MachineView) (was : Masks) (m' : MachineView) (now : Masks) → Handles a frame interrupts f m was m' now → m'.mac ≡ m.mac
handled_mac a frame interrupts f m was m' now h = elim h [
  | inl i ↦ ap (λ (x : MachineView). x.mac) i.is
  | inr h1 ↦ elim h1 [
    | inl r ↦ ap (λ (x : MachineView). x.mac) r.is
    | inr h2 ↦ elim h2 [
      | inl s ↦ ap (λ (x : MachineView). x.mac) s.is
      | inr g ↦ elim (g.delivers) [
        | inl u ↦ ap (λ (x : MachineView). x.mac) u.is ∙ ap (λ (x : MachineView). x.mac) u.gives.is
        | inr d ↦ elim d [
          | inl l ↦ ap (λ (x : MachineView). x.mac) l.is ∙ ap (λ (x : MachineView). x.mac) l.gives.is
          | inr b ↦ ap (λ (x : MachineView). x.mac) b.is ∙ ap (λ (x : MachineView). x.mac) b.gives.is
        ]
      ]
    ]
  ]
]

in_mac : (k : ℕ) (found : Bool) (d d' : DeviceView) → InStep k found d d' → d'.machine.mac ≡ d.machine.mac
in_mac k false d d' s = ap (λ (x : DeviceView). x.machine.mac) s.is
in_mac k true d d' s = ap (λ (x : DeviceView). x.machine.mac) s.is ∙ handled_mac _ s.packet.frame d.calls.interrupts s.fate d.machine d.masks s.machine s.masks s.handles

ins_mac : (k : ℕ) (found : Bool) (d d' : DeviceView) → InSteps k found d d' → d'.machine.mac ≡ d.machine.mac
ins_mac zero found d d' s = ap (λ (x : DeviceView). x.machine.mac) s.1
ins_mac (suc k) found d d' (before, here, (mid, is, step, steps)) = in_mac k here mid d' step ∙ ins_mac k before d mid steps

pub turn_self : (worked : Bool) (d d' : DeviceView) → TurnsOnce worked d d' → IsOneDevice d d'
turn_self worked d d' t =
    let c = command_self t.answered d t.asked t.command in let p = turn_pairs worked d d' t in record {
      port = p.same.0 ∙ c.port;
      table = p.same.1 ∙ c.table;
      key = p.same.2 ∙ c.key;
      mac = ins_mac (length t.sent.input) t.pulled t.sent d' t.pulls ∙ (left_steps (tx_held t.asked.machine.active) t.taken t.rung t.sent t.takes).machine.mac ∙ ap (λ (x : DeviceView). x.machine.mac) t.bells.2 ∙ c.mac;
    }

pub one_device : (d m d' : DeviceView) → IsOneDevice d m → IsOneDevice m d' → IsOneDevice d d'
one_device d m d' a b = record { port = b.port ∙ a.port; table = b.table ∙ a.table; key = b.key ∙ a.key; mac = b.mac ∙ a.mac }

pub one_driver : (v w v' : DriverView) → IsOneDriver v w → IsOneDriver w v' → IsOneDriver v v'
one_driver v w v' a b = record { guest = b.guest ∙ a.guest; plan = b.plan ∙ a.plan; key = b.key ∙ a.key }

-- ------------------------------------------------------------ links

pub outs_at : (port : ℕ) (d : DeviceView) → d.port ≡ port → Keeps d → EachQueue (IsOutOf port) 0 d.out
outs_at port d e k = each_map (OutSays d.port d.entries) (IsOutOf port) 0 d.out (λ n o h. subst (λ (p : ℕ). IsOutOf p n o) e (h.from, h.to)) k.out

pub ins_at : (port : ℕ) (d : DeviceView) → d.port ≡ port → Keeps d → EachQueue (IsInTo port) 0 d.input
ins_at port d e k = each_map (InSays d.port d.entries) (IsInTo port) 0 d.input (λ n i h. subst (λ (p : ℕ). IsInTo p n i) e (h.to, h.from)) k.input

-- a guest stays itself
pub stays_itself : (plan : Plan) (port : ℕ) (r r' : GuestView) → IsGuestAt plan port r → IsOneDriver r.driver r'.driver → IsOneDevice r.device r'.device → Keeps r'.device → IsGuestAt plan port r'
stays_itself plan port r r' g v d k =
    let here : r'.device.port ≡ port = d.port ∙ g.at.device in
    let table : r'.device.table ≡ wiring plan.guests = d.table ∙ g.table in
    let macs : length r'.device.table.macs ≡ length plan.guests = ap (λ (w : Wiring). length w.macs) table ∙ guests_count plan.guests in record {
      guest = g.guest;
      there_ = g.there_;
      number = v.guest ∙ g.number;
      planned = v.plan ∙ g.planned;
      key = d.key ∙ g.key ∙ sym v.key;
      table = table;
      mac = d.mac ∙ g.mac;
      at = record { device = here; out = outs_at port r'.device here k; input = ins_at port r'.device here k };
      all = record { out = k.ports.1 ∙ macs; input = ap suc k.ports.2 ∙ k.ports.1 ∙ macs };
    }
