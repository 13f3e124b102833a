-- The plan of the generator (own to this project).
use Rattle.std.specs.Prelude.{◌≡◌, ℕ, ◌==◌, [], ◌++◌, codes, None}
use Rattle.std.specs.List.{AllZip, range_with_len}
use Rattle.std.specs.Fmt.{decimal}
use Rattle.vmx_device_state.specs.SetupView.{setup_view}
use Rattle.vmx_model.specs.declared.guest.GuestPlan.{GuestPlan}
use Rattle.vmx_model.specs.declared.plan.Plan.{Plan}
use Rattle.vmx_generator.specs.Frames.{address_of, first_frames}
use Rattle.vmx_generator.specs.Setups.{setup_of}

-- guest g: a name, an address, 2,000 frames; guest 7 is a sniffer; all else as a configuration has it by default
pub record IsGuest (number g : ℕ) (guest : GuestPlan) : Type 0 where
  pub name : guest.name ≡ codes "g" ++ decimal g
  pub mac : guest.mac ≡ address_of g
  pub sniffer : guest.sniffer ≡ (g == 7)
  pub vlan : guest.vlan ≡ None
  pub piece : guest.piece ≡ 4096
  pub bodies : guest.bodies ≡ 0
  pub setup : setup_view guest.setup ≡ setup_of g
  pub records : guest.capture.records ≡ first_frames number g 2000
  pub tail : guest.capture.tail ≡ 0
  pub script : guest.script ≡ []

-- the plan that the generator makes of a number: eight guests, whose drivers poll after each fourth copy
pub record IsGenerated (number : ℕ) (plan : Plan) : Type 0 where
  pub prefix : plan.prefix ≡ codes "out"
  pub poll_every : plan.poll_every ≡ 4
  pub guests : AllZip (IsGuest number) (range_with_len 0 8) plan.guests
