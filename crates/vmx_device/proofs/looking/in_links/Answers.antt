use Rattle.std.proofs.Common.{arith}
use Rattle.std.proofs.lemmas.List.{length-map}
use Rattle.vmx_link.specs.Ends.{in_view}
use Rattle.vmx_device.proofs.looking.in_links.Goals as goal

pub returns-clause-few : goal.returns-clause-few
returns-clause-few g c =
    let p = c.requires.holds.keeps.ports in
    omega (arith, c.len.ensures.len, p.1, p.2, p.3, length-map c.args.inner.now.input in_view)
