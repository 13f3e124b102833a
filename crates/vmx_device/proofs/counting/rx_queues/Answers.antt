use Rattle.std.proofs.Common.{◌≡◌, length, sym, ◌∙◌, arith}
use Rattle.std.proofs.lemmas.List.{length-map}
use Rattle.vmx_device_laws.specs.Views.{rx_held}
use Rattle.vmx_device.proofs.HeldEnds.{rx_count, no_rx}
use Rattle.vmx_device.proofs.counting.rx_queues.Goals as goal

pub returns-in-None : goal.returns-in-None
returns-in-None g c = record { count = no_rx c.args.machine.now.active c.in-None.ensures.ends }

pub overflow_cast-result : goal.overflow_cast-result
overflow_cast-result g c =
    let many : length c.in-Some.ends.now.rx ≡ rx_held c.args.machine.now.active = sym (length-map c.in-Some.ends.now.rx g.F.RxDevice.RxDevice.view) ∙ rx_count c.args.machine.now.active _ c.in-Some.ensures.ends in
    omega (arith, many, c.len.ensures.len, c.requires.few)

pub returns-in-Some : goal.returns-in-Some
returns-in-Some g c =
    let many : length c.in-Some.ends.now.rx ≡ rx_held c.args.machine.now.active = sym (length-map c.in-Some.ends.now.rx g.F.RxDevice.RxDevice.view) ∙ rx_count c.args.machine.now.active _ c.in-Some.ensures.ends in
    record { count = c.len.ensures.len ∙ many }
