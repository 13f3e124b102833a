use Rattle.vmx_regs.specs.Ends.{driver_view, note_view}
use Rattle.vmx_driver_steps.specs.Regs.{heard_same}
use Rattle.vmx_driver.specs.Holding.{regs_hold}
use Rattle.vmx_driver.proofs.driver.Driver.hear_regs.Goals as goal

pub invariant_of-self : goal.invariant_of-self
invariant_of-self g c = regs_hold _ _ _ _ _ _ c.self.invariant _ _ _ (heard_same (driver_view c.self.inside.regs) (driver_view c.hear.new.self) (note_view c.args.note) c.hear.ensures.view)
