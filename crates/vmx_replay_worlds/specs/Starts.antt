-- New guests of a plan, and the world before its first number.
use Rattle.std.specs.Prelude.{◌≡◌, ◌+◌, ⊤, ℕ, zero, suc, List, [], ◌∷◌, length, map, None}
use Rattle.vmx_regs.specs.declared.known.Calls.{Calls}
use Rattle.vmx_regs.specs.declared.known.Masks.{Masks}
use Rattle.vmx_model.specs.declared.guest.GuestPlan.{GuestPlan}
use Rattle.vmx_model.specs.declared.plan.Plan.{Plan}
use Rattle.vmx_model.specs.Bags.{EachQueue}
use Rattle.vmx_model.specs.Serial.{Seat, World, activated, fresh, start}
use Rattle.vmx_device_laws.specs.New.{IsNewOut, IsNewIn}
use Rattle.vmx_driver_steps.specs.Driving.{new_driver}
use Rattle.vmx_replay_worlds.specs.Guests.{GuestView}

-- a guest before its first act, one of n
pub record IsNewGuest (n port : ℕ) (p : GuestPlan) (r : GuestView) : Type 0 where
  pub key : List ℕ
  pub calls : Calls
  pub masks : Masks
  pub driver : r.driver ≡ new_driver port p key calls masks
  pub idle : r.device.machine.active ≡ None
  pub entries : r.device.entries ≡ []
  pub setups : r.device.setups ≡ []
  pub out : EachQueue (IsNewOut port) 0 r.device.out
  pub input : EachQueue (IsNewIn port) 0 r.device.input
  pub many : suc (length r.device.out) ≡ n

-- guest by guest, the first at this port
abbrev pub AreNewGuests : ℕ → ℕ → List GuestPlan → List GuestView → Type 0
AreNewGuests n port [] [] = ⊤
AreNewGuests n port (p ∷ ps) (r ∷ rs) = IsNewGuest n port p r × AreNewGuests n (suc port) ps rs
AreNewGuests n port [] (r ∷ rs) = ⊥
AreNewGuests n port (p ∷ ps) [] = ⊥

-- the seats where the first k guests from a port on are activated
abbrev pub seats_to : ℕ → ℕ → List GuestPlan → List Seat
seats_to port zero gs = map fresh gs
seats_to port (suc k) [] = []
seats_to port (suc k) (g ∷ gs) = activated port g (fresh g) ∷ seats_to (port + 1) k gs

-- the world where the first k guests are activated
abbrev pub started : ℕ → Plan → World
started k plan = record (start plan) { seats = seats_to 0 k plan.guests }
