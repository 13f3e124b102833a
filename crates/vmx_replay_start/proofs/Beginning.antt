-- A guest as it is made, and all of them as the worlds of a run see them.
use Rattle.std.proofs.Common.{◌≡◌, ℕ, suc, ◌+◌, ◌<◌, ◌≤◌, List, [], ◌∷◌, length, sym, ap, ◌∙◌, subst, arith, Some}
use Rattle.std.specs.List.{slice_get}
use Rattle.std.proofs.lemmas.List.{length-map}
use Rattle.vmx_switch.specs.declared.answer.TheConstants.{MAX_PORTS}
use Rattle.vmx_switch.specs.Ports.{Wiring}
use Rattle.vmx_link.specs.declared.ends.LinkOut.{LinkOut}
use Rattle.vmx_link.specs.declared.ends.LinkIn.{LinkIn}
use Rattle.vmx_link.specs.Views.{LinkOutView, LinkInView}
use Rattle.vmx_link.specs.Ends.{out_view, in_view}
use Rattle.vmx_regs.specs.declared.known.Calls.{Calls}
use Rattle.vmx_regs.specs.declared.known.Masks.{Masks}
use Rattle.vmx_regs.specs.Ends as regs
use Rattle.vmx_model.specs.declared.guest.GuestPlan.{GuestPlan}
use Rattle.vmx_model.specs.declared.plan.Plan.{Plan}
use Rattle.vmx_model.specs.Bags.{EachQueue}
use Rattle.vmx_model.specs.Totals.{wiring}
use Rattle.vmx_plan_bounds.proofs.Few.{guests_few}
use Rattle.vmx_device_laws.specs.Views.{DeviceView}
use Rattle.vmx_device_laws.specs.New.{IsNewOut, IsNewIn, new_device}
use Rattle.vmx_device_laws.proofs.PairingIn.{some_same}
use Rattle.vmx_driver_steps.specs.Driver.{DriverView}
use Rattle.vmx_driver_steps.specs.Driving.{new_driver}
use Rattle.vmx_replay_worlds.specs.Guests.{GuestView}
use Rattle.vmx_replay_worlds.specs.Starts.{IsNewGuest, AreNewGuests}
use Rattle.vmx_replay_start.specs.Linking.{IsRow, IsColumn, outs_view, ins_view}
use Rattle.vmx_replay_start.specs.Made.{IsMadeAt, AreMade}
use Rattle.vmx_replay_start.specs.declared.guests.TheConstants.{INTERRUPTS}

-- ------------------------------------------------------------ what a device asks of its table and its links

module _ (plan : Plan) (port : ℕ) (table : Wiring) (os : List LinkOut) (is : List LinkIn) (table_is : table ≡ wiring plan.guests) where
  ports : length table.macs ≡ length plan.guests
  ports = ap (λ (w : Wiring). length w.macs) table_is ∙ length-map plan.guests (λ (g : GuestPlan). g.mac)

  pub has_port : port < length plan.guests → port < length table.macs
  has_port low = let n = ports in omega (arith, low, n)

  pub has_links : IsRow (length plan.guests) port (outs_view os) → IsColumn (length plan.guests) port (ins_view is) → (suc (length os) ≡ length table.macs) × (length is ≡ length os)
  has_links row column =
      let n = ports in let a = length-map os out_view in let b = length-map is in_view in let outs = row.many in let ins = column.many in (omega (arith, n, a, outs), omega (arith, a, b, outs, ins))

  pub has_few : length table.macs ≤ MAX_PORTS
  has_few = let n = ports in let few = guests_few plan in omega (arith, n, few)

-- ------------------------------------------------------------ one guest

module _ (plan : Plan) (port : ℕ) (g : GuestPlan) (at : slice_get plan.guests port ≡ Some g) (mac : List ℕ) (table : Wiring) (key other : List ℕ) (calls served : Calls) (masks shown : Masks) (outs : List LinkOutView) (ins : List LinkInView) (v : DriverView) (d : DeviceView)
    (mac_is : mac ≡ g.mac) (table_is : table ≡ wiring plan.guests) (key_is : key ≡ other) (calls_are : calls ≡ regs.new_driver INTERRUPTS) (served_are : served ≡ regs.new_device INTERRUPTS) (masks_are : masks ≡ regs.new_driver_masks) (shown_are : shown ≡ regs.new_device_masks)
    (driver : v ≡ new_driver port g key calls masks) (device : d ≡ new_device port mac table other served shown outs ins) (row : IsRow (length plan.guests) port outs) (column : IsColumn (length plan.guests) port ins) where
  out_is : d.out ≡ outs
  out_is = ap (λ (x : DeviceView). x.out) device

  input_is : d.input ≡ ins
  input_is = ap (λ (x : DeviceView). x.input) device

  pub made_at : IsMadeAt plan port (record { driver = v; device = d })
  made_at = record {
    guest = g;
    there_ = at;
    key = key;
    driver = driver ∙ (λ i. new_driver port g key (calls_are i) (masks_are i));
    device = device ∙ (λ i. new_device port (mac_is i) (table_is i) (sym key_is i) (served_are i) (shown_are i) (sym out_is i) (sym input_is i));
    out = subst (λ (os : List LinkOutView). EachQueue (IsNewOut port) 0 os) (sym out_is) row.new;
    input = subst (λ (is : List LinkInView). EachQueue (IsNewIn port) 0 is) (sym input_is) column.new;
    outs = ap (λ (os : List LinkOutView). suc (length os)) out_is ∙ row.many;
    ins = ap (λ (is : List LinkInView). suc (length is)) input_is ∙ column.many;
  }

  pub links_at : (d.out ≡ outs) × (d.input ≡ ins)
  links_at = (out_is, input_is)

-- ------------------------------------------------------------ all guests

new_guest : (plan : Plan) (port : ℕ) (p : GuestPlan) (r : GuestView) → slice_get plan.guests port ≡ Some p → IsMadeAt plan port r → IsNewGuest (length plan.guests) port p r
new_guest plan port p r at h =
    let same : h.guest ≡ p = some_same (slice_get plan.guests port) h.guest p h.there_ at in record {
      key = h.key;
      calls = regs.new_driver INTERRUPTS;
      masks = regs.new_driver_masks;
      driver = h.driver ∙ ap (λ (g : GuestPlan). new_driver port g h.key (regs.new_driver INTERRUPTS) regs.new_driver_masks) same;
      idle = ap (λ (d : DeviceView). d.machine.active) h.device;
      entries = ap (λ (d : DeviceView). d.entries) h.device;
      setups = ap (λ (d : DeviceView). d.setups) h.device;
      out = h.out;
      input = h.input;
      many = h.outs;
    }

new_from : (plan : Plan) (port : ℕ) (ps : List GuestPlan) (rs : List GuestView) → ((k : ℕ) → slice_get plan.guests (port + k) ≡ slice_get ps k) → length rs ≡ length ps → EachQueue (IsMadeAt plan) port rs → AreNewGuests (length plan.guests) port ps rs
new_from plan port [] [] at many h = tt
new_from plan port [] (r ∷ rs) at many h = absurd (omega (arith, many))
new_from plan port (p ∷ ps) [] at many h = absurd (omega (arith, many))
new_from plan port (p ∷ ps) (r ∷ rs) at many h =
    let z : port ≡ port + 0 = omega arith in (
      new_guest plan port p r (ap (slice_get plan.guests) z ∙ at 0) h.0,
      new_from plan (suc port) ps rs (λ k. (let s : suc port + k ≡ port + suc k = omega arith in ap (slice_get plan.guests) s ∙ at (suc k))) (omega (arith, many)) h.1,
    )

pub new_all : (plan : Plan) (rs : List GuestView) → AreMade plan rs → AreNewGuests (length plan.guests) 0 plan.guests rs
new_all plan rs h = new_from plan 0 plan.guests rs (λ k. (let s : 0 + k ≡ k = omega arith in ap (slice_get plan.guests) s)) h.count h.guests
