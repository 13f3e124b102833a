use Rattle.std.proofs.Common.{◌∙◌, sym}
use Rattle.vmx_model.specs.SetupLaws.{admits_agrees}
use Rattle.vmx_device_looks.proofs.arrivals.admitted.Goals as goal

pub returns : goal.returns
returns c = record { verdict = c.admits.ensures.verdict ∙ sym (admits_agrees c.args.setup.now c.args.mac.now c.args.frame.now) }
