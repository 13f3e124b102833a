-- New guests of a plan, one by one and all together.
use Rattle.std.proofs.Common.{◌≡◌, ℕ, suc, ◌+◌, ◌<◌, ◌≤◌, List, [], ◌++◌, length, refl, sym, ap, ◌∙◌, subst, arith, lit<, lit≤}
use Rattle.std.specs.List.{AllByRecursion}
use Rattle.std.proofs.lemmas.List.{length-map}
use mathlib.Core.List.{IsPrefix}
use Rattle.vmx_ends.specs.declared.packet.Packet.{Packet}
use Rattle.vmx_switch.specs.Ports.{Wiring}
use Rattle.vmx_link.specs.Views.{LinkOutView, LinkInView}
use Rattle.vmx_regs.specs.Ends as regs
use Rattle.vmx_model.specs.declared.guest.GuestPlan.{GuestPlan}
use Rattle.vmx_model.specs.declared.plan.Plan.{Plan}
use Rattle.vmx_model.specs.Bags.{EachQueue}
use Rattle.vmx_model.specs.Totals.{macs_of, wiring}
use Rattle.vmx_plan_bounds.proofs.Few.{guests_few}
use Rattle.vmx_device_looks.specs.Queues.{each_map, each_all, get_lt}
use Rattle.vmx_device_laws.specs.Views.{DeviceView}
use Rattle.vmx_device_laws.specs.New.{IsNewOut, IsNewIn, new_device}
use Rattle.vmx_device_laws.proofs.News.{keeps_new}
use Rattle.vmx_driver_steps.specs.Driver.{DriverView}
use Rattle.vmx_driver_steps.specs.Driving.{new_driver}
use Rattle.vmx_driver_steps.specs.Starting.{short_enough, starts}
use Rattle.vmx_replay_worlds.specs.Guests.{GuestView}
use Rattle.vmx_replay_worlds.specs.Ports.{IsOutOf, IsInTo, IsAtPort, Lies}
use Rattle.vmx_replay_worlds.proofs.Lists.{each_there}
use Rattle.vmx_replay_settled.specs.Settled.{ArePaired, BothKeep}
use Rattle.vmx_replay_calls.specs.Resting.{IsGuestAt, Rests, IsKnown, RunRests}
use Rattle.vmx_replay_start.specs.declared.guests.TheConstants.{INTERRUPTS}
use Rattle.vmx_replay_start.specs.Made.{IsMadeAt, AreMade}

-- ------------------------------------------------------------ one guest

-- with nothing done
abbrev new_guest : ℕ → GuestPlan → Wiring → List ℕ → List LinkOutView → List LinkInView → GuestView
new_guest port g table key outs ins = record {
  driver = new_driver port g key (regs.new_driver INTERRUPTS) regs.new_driver_masks;
  device = new_device port g.mac table key (regs.new_device INTERRUPTS) regs.new_device_masks outs ins;
}

module _ (port : ℕ) (g : GuestPlan) (table : Wiring) (key : List ℕ) (outs : List LinkOutView) (ins : List LinkInView) where
  rests_new : Rests (new_guest port g table key outs ins)
  rests_new = record {
    caught_up = record { none = refl; same = refl };
    trusted = record { tx = tt; rx = tt; tx_stopped = refl; rx_stopped = refl };
    through_ = tt;
    told_tx = tt;
    told_rx = tt;
  }

  paired_new : ArePaired (new_guest port g table key outs ins).driver (new_guest port g table key outs ins).device
  paired_new = record { key = refl; even = record { tx = tt; rx = tt }; whole = tt }

  keep_new : length g.capture.records ≤ 262144 → EachQueue (IsNewOut port) 0 outs → EachQueue (IsNewIn port) 0 ins
      → (port < length table.macs) × (suc (length outs) ≡ length table.macs) × (length ins ≡ length outs) × (length table.macs ≤ 16)
      → BothKeep (new_guest port g table key outs ins).driver (new_guest port g table key outs ins).device
  keep_new short new_outs new_ins ports =
      let runs = starts port g key (regs.new_driver INTERRUPTS) regs.new_driver_masks refl refl short (lit< tt) in record {
        driver = runs.keeps;
        settled = runs.settled;
        few = lit< tt;
        device = keeps_new port g.mac table key (regs.new_device INTERRUPTS) regs.new_device_masks outs ins refl refl (lit≤ tt) new_outs new_ins ports;
      }

module _ (plan : Plan) (port : ℕ) (r : GuestView) (h : IsMadeAt plan port r) where
  is_new : r ≡ new_guest port h.guest (wiring plan.guests) h.key r.device.out r.device.input
  is_new = λ i. record { driver = h.driver i; device = h.device i }

  pub rests_made : Rests r
  rests_made = subst Rests (sym is_new) (rests_new port h.guest (wiring plan.guests) h.key r.device.out r.device.input)

  pub paired_made : ArePaired r.driver r.device
  paired_made = subst (λ (x : GuestView). ArePaired x.driver x.device) (sym is_new) (paired_new port h.guest (wiring plan.guests) h.key r.device.out r.device.input)

  pub keep_made : BothKeep r.driver r.device
  keep_made =
      let short = short_enough plan.guests port h.guest h.there_ in let records = plan.records in
      let many : length (macs_of plan.guests) ≡ length plan.guests = length-map plan.guests (λ (g : GuestPlan). g.mac) in
      let low = get_lt plan.guests port h.guest h.there_ in let few = guests_few plan in let outs = h.outs in let ins = h.ins in
      subst (λ (x : GuestView). BothKeep x.driver x.device) (sym is_new) (keep_new port h.guest (wiring plan.guests) h.key r.device.out r.device.input (omega (arith, short, records)) h.out h.input
      (omega (arith, low, many), h.outs ∙ sym many, omega (arith, outs, ins), omega (arith, many, few)))

  at_port : IsAtPort port r
  at_port = record {
    device = ap (λ (d : DeviceView). d.port) h.device;
    out = each_map (IsNewOut port) (IsOutOf port) 0 r.device.out (λ k o le lt e. (ap (λ (x : LinkOutView). x.from) e, ap (λ (x : LinkOutView). x.to) e)) h.out;
    input = each_map (IsNewIn port) (IsInTo port) 0 r.device.input (λ k i le lt e. (ap (λ (x : LinkInView). x.to) e, ap (λ (x : LinkInView). x.from) e)) h.input;
  }

  pub guest_made : IsGuestAt plan port r
  guest_made = record {
    guest = h.guest;
    there_ = h.there_;
    number = ap (λ (v : DriverView). v.guest) h.driver;
    planned = ap (λ (v : DriverView). v.plan) h.driver;
    key = ap (λ (d : DeviceView). d.key) h.device ∙ sym (ap (λ (v : DriverView). v.key) h.driver);
    table = ap (λ (d : DeviceView). d.table) h.device;
    mac = ap (λ (d : DeviceView). d.machine.mac) h.device;
    at = at_port;
    all = record { out = h.outs; input = h.ins };
  }

-- ------------------------------------------------------------ all guests

module _ (plan : Plan) (rs : List GuestView) (h : AreMade plan rs) where
  known : (from to : ℕ) (l : Lies rs from to) → IsKnown l.link l.end
  known from to l =
      let sender : IsMadeAt plan from l.sender = each_there (IsMadeAt plan) 0 from from rs l.sender (omega arith) h.guests l.sender_at in
      let receiver : IsMadeAt plan to l.receiver = each_there (IsMadeAt plan) 0 to to rs l.receiver (omega arith) h.guests l.receiver_at in
      let o : IsNewOut from l.j l.link = each_there (IsNewOut from) 0 l.j l.j l.sender.device.out l.link (omega arith) sender.out l.link_at in
      let i : IsNewIn to l.k l.end = each_there (IsNewIn to) 0 l.k l.k l.receiver.device.input l.end (omega arith) receiver.input l.end_at in
      let pushed : l.link.pushed ≡ [] = ap (λ (x : LinkOutView). x.pushed) o in
      let pulled : l.end.pulled ≡ [] = ap (λ (x : LinkInView). x.pulled) i in
      let none : length l.end.pulled ≡ 0 = ap length pulled in record {
        key = h.keys from to l;
        pulled = omega (arith, none);
        within = ([], ap (λ (xs : List Packet). xs ++ []) pulled ∙ sym pushed);
      }

  pub rest_all : RunRests plan rs
  rest_all = record {
    guests = each_map (IsMadeAt plan) (IsGuestAt plan) 0 rs (λ port r le lt m. guest_made plan port r m) h.guests;
    count = h.count;
    rest = each_all (IsMadeAt plan) Rests 0 rs (rests_made plan) h.guests;
    links = known;
  }

  pub paired_all : AllByRecursion (λ (r : GuestView). ArePaired r.driver r.device) rs
  paired_all = each_all (IsMadeAt plan) (λ (r : GuestView). ArePaired r.driver r.device) 0 rs (paired_made plan) h.guests

  pub keep_all : AllByRecursion (λ (r : GuestView). BothKeep r.driver r.device) rs
  keep_all = each_all (IsMadeAt plan) (λ (r : GuestView). BothKeep r.driver r.device) 0 rs (keep_made plan) h.guests
