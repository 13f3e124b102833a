use Rattle.vmx_driver_steps.specs.Regs.{told_same}
use Rattle.vmx_driver.specs.Holding.{regs_hold}
use Rattle.vmx_driver.proofs.driver.Driver.note_regs.Goals as goal

pub invariant_of-self : goal.invariant_of-self
invariant_of-self g c = regs_hold _ _ _ _ _ _ c.self.invariant _ _ _ (told_same _ _ c.note.ensures.view)
