-- Each frame of a tag is a captured one, and so has a record of its guest's capture, whose stamp is its own.
use Rattle.std.proofs.Common.{◌≡◌, ℕ, ◌+◌, List, [], ◌∷◌, ◌++◌, length, refl, ap, sym, ◌∙◌, Option, Some, None, append_assoc, length-append}
use Rattle.std.specs.Option.{option_map}
use Rattle.std.specs.List.{slice_get, AllByRecursion}
use Rattle.vmx_model.specs.Types.{Plan, GuestPlan, Stamped, Tag}
use Rattle.vmx_model.specs.Wire.{posted_form, wire_form}
use Rattle.vmx_model.specs.Plan.{Captured, captured, numbered, goes_on, sent_on, frame_of, guest_captured, wire, record_of, stamped_of, HasStamp}
use Rattle.vmx_model.specs.Views.{GuestView, RecordView}
use Rattle.vmx_model.specs.Order.{CameUp, came_up}
use Rattle.vmx_model.specs.Account.{Accounts}
use Rattle.vmx_model.proofs.Lists.{all_weaker}
use Rattle.vmx_model.proofs.Folds.{all_kept}
use Rattle.vmx_model.proofs.Copies.{all_at}

-- a captured frame is a record of its number
abbrev IsRecord : GuestPlan → Captured → Type 0
IsRecord g c = (r : Stamped) × (slice_get g.capture.records c.number ≡ Some r) × (c.posted ≡ posted_form g r.frame)

here : {X : Type 0} (before : List X) (x : X) (after : List X) → slice_get (before ++ x ∷ after) (length before) ≡ Some x
here [] x after = refl
here (y ∷ before) x after = here before x after

numbered_are : (g : GuestPlan) (before rs : List Stamped) → g.capture.records ≡ before ++ rs → AllByRecursion (IsRecord g) (numbered g (length before) rs)
numbered_are g before [] e = tt
numbered_are g before (r ∷ rs) e =
    let rest : AllByRecursion (IsRecord g) (numbered g (length (before ++ r ∷ [])) rs) = numbered_are g (before ++ r ∷ []) rs (e ∙ sym (append_assoc before (r ∷ []) rs)) in
    let long : length (before ++ r ∷ []) ≡ length before + 1 = length-append before (r ∷ []) in
    ((r, ap (λ (xs : List Stamped). slice_get xs (length before)) e ∙ here before r rs, refl), rw long at rest)

all_are : (g : GuestPlan) → AllByRecursion (IsRecord g) (captured g)
all_are g = numbered_are g [] g.capture.records refl

one_inside : {X : Type 0} (x y : X) → Some x ≡ Some y → x ≡ y
one_inside x y e = cc e

none_inside : {X : Type 0} (x : X) → None ≡ Some x → ⊥
none_inside x e = cc e

frame_stamped : (t : Tag) (f : List ℕ) (o : Option GuestPlan) (c : Option Captured) → guest_captured o t ≡ c → option_map wire c ≡ Some f → HasStamp o (record_of o c) f
frame_stamped t f None None e h = absurd (none_inside f h)
frame_stamped t f None (Some c) e h = absurd (none_inside c e)
frame_stamped t f (Some g) None e h = absurd (none_inside f h)
frame_stamped t f (Some g) (Some c) e h =
    let r = all_at (IsRecord g) (sent_on g t.activation t.queue) t.place c e (all_kept (IsRecord g) (goes_on g t.activation t.queue) (captured g) (all_are g)) in
    record { guest = g; guest_is = refl; captured = r.0; captured_is = r.1; frame_is = sym (one_inside (wire c) f h) ∙ ap wire_form r.2 }

-- the frame of a tag is the wire form of the record that the tag names
pub has_stamp : (plan : Plan) (t : Tag) (f : List ℕ) → frame_of plan t ≡ Some f → HasStamp (slice_get plan.guests t.guest) (stamped_of plan t) f
has_stamp plan t f h = frame_stamped t f (slice_get plan.guests t.guest) (guest_captured (slice_get plan.guests t.guest) t) refl h

-- each packet that came up in a record that accounts has one
pub came_up_stamped : (plan : Plan) (r : RecordView) → Accounts plan r → (g : ℕ) (p : GuestPlan) (v : GuestView) → slice_get plan.guests g ≡ Some p → slice_get r.guests g ≡ Some v
    → AllByRecursion (λ (u : CameUp). HasStamp (slice_get plan.guests u.packet.tag.guest) (stamped_of plan u.packet.tag) u.packet.frame) (came_up r.links g v.entries)
came_up_stamped plan r h g p v planned here =
    all_weaker (λ (u : CameUp). frame_of plan u.packet.tag ≡ Some u.packet.frame) (λ (u : CameUp). HasStamp (slice_get plan.guests u.packet.tag.guest) (stamped_of plan u.packet.tag) u.packet.frame) (λ u e. has_stamp plan u.packet.tag u.packet.frame e)
    (came_up r.links g v.entries) (h.each g p v planned here).order.frames
