-- The guests of a plan before the first step of any.
use Rattle.std.specs.Prelude.{◌≡◌, ℕ, suc, List, length, Some, slice_get}
use Rattle.vmx_regs.specs.Ends.{new_driver_masks, new_device_masks}
use Rattle.vmx_regs.specs.Ends as regs
use Rattle.vmx_model.specs.declared.guest.GuestPlan.{GuestPlan}
use Rattle.vmx_model.specs.declared.plan.Plan.{Plan}
use Rattle.vmx_model.specs.Bags.{EachQueue}
use Rattle.vmx_model.specs.Totals.{wiring}
use Rattle.vmx_device_laws.specs.New.{IsNewOut, IsNewIn, new_device}
use Rattle.vmx_driver_steps.specs.Driving.{new_driver}
use Rattle.vmx_replay_worlds.specs.Guests.{GuestView}
use Rattle.vmx_replay_worlds.specs.Ports.{Lies}
use Rattle.vmx_replay_start.specs.declared.guests.TheConstants.{INTERRUPTS}

-- a new driver and a new device of the plan's guest at a port, with new registers between them, and new links to and from all other ports
pub record IsMadeAt (plan : Plan) (port : ℕ) (r : GuestView) : Type 0 where
  pub guest : GuestPlan
  pub there_ : slice_get plan.guests port ≡ Some guest
  pub key : List ℕ
  pub driver : r.driver ≡ new_driver port guest key (regs.new_driver INTERRUPTS) new_driver_masks
  pub device : r.device ≡ new_device port guest.mac (wiring plan.guests) key (regs.new_device INTERRUPTS) new_device_masks r.device.out r.device.input
  pub out : EachQueue (IsNewOut port) 0 r.device.out
  pub input : EachQueue (IsNewIn port) 0 r.device.input
  pub outs : suc (length r.device.out) ≡ length plan.guests
  pub ins : suc (length r.device.input) ≡ length plan.guests

-- all guests by port; both ends of each link have one key
pub record AreMade (plan : Plan) (rs : List GuestView) : Type 0 where
  pub guests : EachQueue (IsMadeAt plan) 0 rs
  pub count : length rs ≡ length plan.guests
  pub keys : (from to : ℕ) (l : Lies rs from to) → l.link.key ≡ l.end.key
