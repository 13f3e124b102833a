use Rattle.std.proofs.Common.{◌≡◌, map, take}
use Rattle.vmx_model.specs.Views.{GuestView}
use Rattle.vmx_record.proofs.whole.RecordOf.journals.Given as goal

abbrev pub invariant-loop-guest : goal.invariant-loop-guest
invariant-loop-guest g l = map (λ j. j.now) l.journals.items ≡ map (λ (v : GuestView). v.entries) (take l.guest-index l.guest-items)
