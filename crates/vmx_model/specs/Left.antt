-- Nothing is left on its way: what was pushed is pulled, what was sent is taken, completed and reaped, what was delivered is received.
use Rattle.std.specs.Prelude.{◌≡◌, ◌<◌, ℕ, length, map, filter, filter_map, List, [], true, Some, slice_get, ⊤}
use Rattle.std.specs.List.{AllByRecursion}
use Rattle.vmx_ends.specs.Frames.{sent_of}
use Rattle.vmx_ends.specs.LinkView.{LinkView}
use Rattle.vmx_ends.specs.Transmit.{TxView}
use Rattle.vmx_ends.specs.Receive.{RxView}
use Rattle.vmx_model.specs.declared.journal.Entry.TheVariants as entry
use Rattle.vmx_model.specs.declared.journal.Way.TheVariants as way
use Rattle.vmx_model.specs.Types.{Plan, GuestPlan, Entry}
use Rattle.vmx_model.specs.Lists.{count, EachAfter}
use Rattle.vmx_model.specs.Plan.{closes, commands, is_set}
use Rattle.vmx_model.specs.Account.{asked, is_set_entry, IsTraffic}
use Rattle.vmx_model.specs.Views.{GuestView, RecordView}

-- a transmit queue whose frames were all taken, completed and reaped
pub record IsSentWhole (f : TxView) : Type 0 where
  pub taken : sent_of f.taken ≡ f.sent
  pub completed : f.completed ≡ length f.taken
  pub reaped : f.reaped ≡ length f.taken

-- of a record
pub record NothingIsLeft (r : RecordView) : Type 0 where
  pub links : AllByRecursion (λ (l : LinkView). length l.pulled ≡ length l.pushed) r.links
  pub tx : AllByRecursion (λ (v : GuestView). AllByRecursion IsSentWhole v.tx) r.guests
  pub rx : AllByRecursion (λ (v : GuestView). AllByRecursion (λ (f : RxView). f.received ≡ f.delivered) v.rx) r.guests

-- a set command stands before each entry about a frame
abbrev pub OpensWithCommand : List Entry → Entry → Type 0
OpensWithCommand before e = IsTraffic e → 0 < count is_set_entry before

-- no frame found its link full
abbrev pub IsNotFull : Entry → Type 0
IsNotFull (entry.Out tag target (way.Full look)) = ⊥
IsNotFull (entry.Out tag target (way.Link place)) = ⊤
IsNotFull (entry.Setting number answer setup) = ⊤
IsNotFull (entry.Lost tag) = ⊤
IsNotFull (entry.In from place f) = ⊤

-- each entry about a frame stands before the last of the guest's set commands
abbrev pub EndsWithCommand : GuestPlan → List Entry → Entry → Type 0
EndsWithCommand p before e = IsTraffic e → count is_set_entry before < length (commands p)

-- the set commands in each guest's journal are its plan's; the first stands before all traffic, and the last behind it where the plan closes with a quiesce; no journal shows a full link
pub record RunsInOrder (plan : Plan) (r : RecordView) : Type 0 where
  pub settings : (g : ℕ) (p : GuestPlan) (v : GuestView) → slice_get plan.guests g ≡ Some p → slice_get r.guests g ≡ Some v → filter (λ (x : ℕ × ℕ). is_set x.0) (filter_map asked v.entries) ≡ map (λ c. (c, 0)) (commands p)
  pub opens : AllByRecursion (λ (v : GuestView). EachAfter OpensWithCommand [] v.entries) r.guests
  pub ends : (g : ℕ) (p : GuestPlan) (v : GuestView) → slice_get plan.guests g ≡ Some p → slice_get r.guests g ≡ Some v → closes p ≡ true → EachAfter (EndsWithCommand p) [] v.entries
  pub no_link_full : AllByRecursion (λ (v : GuestView). AllByRecursion IsNotFull v.entries) r.guests
