-- What the rule says of the views, before and after a step.
use Rattle.std.proofs.Common.{◌≡◌, ℕ, ◌+◌, ◌<◌, ◌≤◌, List, length, take, Bool, true, false, sym, refl, ap, ◌∙◌, subst, arith, length-take-le}
use mathlib.Core.Option.{some}
use lib.ListN.{get_elem?}
use Rattle.atomic_table.specs.Table.{State}
use Rattle.vmx_ends.specs.declared.made.RxMade.{RxMade}
use Rattle.vmx_ends.specs.declared.frames.Delivery.{Delivery}
use Rattle.vmx_lists.specs.declared.rx.log.RxLog.{RxLog}
use Rattle.vmx_lists.specs.declared.rx.log.RxParcel.{RxParcel}
use Rattle.vmx_lists.specs.RxRing.{Ring, Story, Fits, Queue, ahead, by_device, by_driver}
use Rattle.vmx_ring_laws.specs.Views.{total}
use Rattle.vmx_ring_laws.specs.Views as seats

-- the rule of the state s, where all that was done is y
pub record Told (s : State RxParcel RxLog) (y : Story) : Type 0 where
  pub ring : Ring y.made y.slots s.words s.homes y.delivered y.taken y.writing y.reading
  pub each : seats.All (Fits y) s.views
  pub device_notes : total by_device s.views + y.driver_heard ≡ y.device_given
  pub driver_notes : total by_driver s.views + y.device_heard ≡ y.driver_given

told : (s : State RxParcel RxLog) (l : Queue s) → Told s l.story
told s l = record { ring = l.ring; each = l.each; device_notes = l.device_notes; driver_notes = l.driver_notes }

-- the story as the device knows it, and as the driver does
abbrev pub device's : Story → ℕ → ℕ → RxLog → Bool → Story
device's y n id v busy = record y { made = v.made; slots = n; device = id; delivered = v.delivered; writing = busy; device_given = v.device_given; device_heard = v.device_heard }

abbrev pub driver's : Story → ℕ → ℕ → ℕ → RxLog → Bool → Story
driver's y n id t v busy = record y { made = v.made; slots = n; driver = id; taken = t; reading = busy; driver_given = v.driver_given; driver_heard = v.driver_heard }

pub device_sees : (s : State RxParcel RxLog) (l : Queue s) (n id : ℕ) (v : RxLog) (busy : Bool) → length s.homes ≡ n → get_elem? s.views id ≡ some v → v.delivers ≡ true → v.busy ≡ busy → Told s (device's l.story n id v busy)
device_sees s l n id v busy wide at may state = let own = (l.each id v at).device's may in
    subst (λ (z : RxMade × ℕ × ℕ × List Delivery × Bool × ℕ × ℕ). Told s (record l.story { made = z.0; slots = z.1; device = z.2; delivered = z.3; writing = z.4; device_given = z.5; device_heard = z.6 }))
    (λ i. (sym own.made_is i, (sym l.ring.as_many_slots ∙ wide) i, sym own.seat_is i, sym own.delivered_is i, (sym own.busy_is ∙ state) i, sym own.given_is i, sym own.heard_is i)) (told s l)

pub driver_sees : (s : State RxParcel RxLog) (l : Queue s) (n id t : ℕ) (v : RxLog) (busy : Bool) → length s.homes ≡ n → get_elem? s.views id ≡ some v → v.receives ≡ true → v.busy ≡ busy → length v.received ≡ ahead busy t
    → Told s (driver's l.story n id t v busy)
driver_sees s l n id t v busy wide at may state count = let own = (l.each id v at).driver's may in
    subst (λ (z : RxMade × ℕ × ℕ × ℕ × Bool × ℕ × ℕ). Told s (record l.story { made = z.0; slots = z.1; driver = z.2; taken = z.3; reading = z.4; driver_given = z.5; driver_heard = z.6 }))
    (λ i. (sym own.made_is i, (sym l.ring.as_many_slots ∙ wide) i, sym own.seat_is i, count_is own.received_is i, (sym own.busy_is ∙ state) i, sym own.given_is i, sym own.heard_is i)) (told s l)
  where
    y : Story
    y = l.story

    step_down : (r : Bool) (a b : ℕ) → ahead r a ≡ ahead r b → a ≡ b
    step_down false a b e = e
    step_down true a b e = omega arith

    reached : (r : Bool) → (r ≡ true → y.taken < length y.delivered) → ahead r y.taken ≤ length y.delivered
    reached false f = l.ring.behind
    reached true f = let a = f refl in omega arith

    count_is : v.received ≡ take (ahead y.reading y.taken) y.delivered → y.taken ≡ t
    count_is e = step_down y.reading y.taken t
        (sym (length-take-le (ahead y.reading y.taken) y.delivered (reached y.reading l.ring.there)) ∙ (sym (ap length e) ∙ (count ∙ ap (λ b. ahead b t) (sym state ∙ ((l.each id v at).driver's may).busy_is))))
