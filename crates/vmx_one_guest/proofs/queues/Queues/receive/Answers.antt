use Rattle.std.proofs.Common.{ap, refl}
use Rattle.vmx_ends.specs.Receive.{RxDriverView}
use Rattle.vmx_one_guest.proofs.queues.Queues.receive.Goals as goal

-- what was received goes last in the list
pub returns-in-Frame : goal.returns-in-Frame
returns-in-Frame c =
    let r = c.in-Frame.ensures.receives in
    record { up = (record { frame = c.receive.new.into.items; meta = c.in-Frame.meta; passed = r.passed; chain = r.chain }, ap (λ (v : RxDriverView). v.received) r.is, refl, refl) }
