-- What the rule says of a seat of a transmit queue, in the seat's own words.
use Rattle.std.proofs.Common.{◌≡◌, ℕ, ◌+◌, List, length, Bool, true, sym, ◌∙◌, subst}
use mathlib.Core.Option.{some}
use lib.ListN.{get_elem?}
use Rattle.atomic_table.specs.Table.{State}
use Rattle.vmx_ring_laws.specs.Views.{total}
use Rattle.vmx_ring_laws.specs.Views as seats
use Rattle.vmx_ends.specs.declared.made.TxMade.{TxMade}
use Rattle.vmx_ends.specs.declared.frames.Sent.{Sent}
use Rattle.vmx_ends.specs.declared.frames.Taken.{Taken}
use Rattle.vmx_lists.specs.declared.tx.log.TxLog.{TxLog}
use Rattle.vmx_lists.specs.declared.tx.log.TxParcel.{TxParcel}
use Rattle.vmx_lists.specs.TxRing.{Ring, Story, Fits, Drivers, Devices, Queue, by_driver, by_device}

-- the rule of the state s, where all that was done is y
pub record Told (s : State TxParcel TxLog) (y : Story) : Type 0 where
  pub ring : Ring y.made y.slots s.words s.homes y.sent y.taken y.completed y.reaped y.filling y.emptying
  pub each : seats.All (Fits y) s.views
  pub driver_notes : total by_driver s.views + y.device_heard ≡ y.driver_given
  pub device_notes : total by_device s.views + y.driver_heard ≡ y.device_given

told : (s : State TxParcel TxLog) (l : Queue s) → Told s l.story
told s l = record { ring = l.ring; each = l.each; driver_notes = l.driver_notes; device_notes = l.device_notes }

-- the story as the driver knows it, and as the device does
abbrev pub driver's : Story → ℕ → ℕ → TxLog → Bool → Story
driver's y n id v busy = record y { made = v.made; slots = n; driver = id; sent = v.sent; reaped = v.reaped; filling = busy; driver_given = v.driver_given; driver_heard = v.driver_heard }

abbrev pub device's : Story → ℕ → ℕ → TxLog → Bool → Story
device's y n id v busy = record y { made = v.made; slots = n; device = id; taken = v.taken; completed = v.completed; emptying = busy; device_given = v.device_given; device_heard = v.device_heard }

pub driver_sees : (s : State TxParcel TxLog) (l : Queue s) (n id : ℕ) (v : TxLog) (busy : Bool) → length s.homes ≡ n → get_elem? s.views id ≡ some v → v.sends ≡ true → v.filling ≡ busy → Told s (driver's l.story n id v busy)
driver_sees s l n id v busy wide at may state = let own = (l.each id v at).driver's may in
    subst (λ (z : TxMade × ℕ × ℕ × List Sent × ℕ × Bool × ℕ × ℕ). Told s (record l.story { made = z.0; slots = z.1; driver = z.2; sent = z.3; reaped = z.4; filling = z.5; driver_given = z.6; driver_heard = z.7 }))
    (λ i. (sym own.made_is i, (sym l.ring.as_many_slots ∙ wide) i, sym own.seat_is i, sym own.sent_is i, sym own.reaped_is i, (sym own.busy_is ∙ state) i, sym own.given_is i, sym own.heard_is i)) (told s l)

pub device_sees : (s : State TxParcel TxLog) (l : Queue s) (n id : ℕ) (v : TxLog) (busy : Bool) → length s.homes ≡ n → get_elem? s.views id ≡ some v → v.takes ≡ true → v.emptying ≡ busy → Told s (device's l.story n id v busy)
device_sees s l n id v busy wide at may state = let own = (l.each id v at).device's may in
    subst (λ (z : TxMade × ℕ × ℕ × List Taken × ℕ × Bool × ℕ × ℕ). Told s (record l.story { made = z.0; slots = z.1; device = z.2; taken = z.3; completed = z.4; emptying = z.5; device_given = z.6; device_heard = z.7 }))
    (λ i. (sym own.made_is i, (sym l.ring.as_many_slots ∙ wide) i, sym own.seat_is i, sym own.taken_is i, sym own.completed_is i, (sym own.busy_is ∙ state) i, sym own.given_is i, sym own.heard_is i)) (told s l)

-- the parts of a seat, where the other end's numbers change
pub same_driver : (y : Story) (taken : List Taken) (completed : ℕ) (emptying : Bool) (device dg dh : ℕ) (seat : ℕ) (v : TxLog) → Drivers y seat v → Drivers (record y { device = device; taken = taken; completed = completed; emptying = emptying; device_given = dg; device_heard = dh }) seat v
same_driver y taken completed emptying device dg dh seat v o = record { seat_is = o.seat_is; made_is = o.made_is; told_is = o.told_is; sent_is = o.sent_is; reaped_is = o.reaped_is; busy_is = o.busy_is; given_is = o.given_is; heard_is = o.heard_is }

pub same_device : (y : Story) (sent : List Sent) (reaped : ℕ) (filling : Bool) (driver vg vh : ℕ) (seat : ℕ) (v : TxLog) → Devices y seat v → Devices (record y { driver = driver; sent = sent; reaped = reaped; filling = filling; driver_given = vg; driver_heard = vh }) seat v
same_device y sent reaped filling driver vg vh seat v o = record { seat_is = o.seat_is; made_is = o.made_is; told_is = o.told_is; taken_is = o.taken_is; completed_is = o.completed_is; busy_is = o.busy_is; given_is = o.given_is; heard_is = o.heard_is }
