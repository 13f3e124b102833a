use Rattle.std.proofs.Common.{◌∙◌, None, refl, ap, sym}
use Rattle.vmx_layout.specs.Command.{number_of}
use Rattle.vmx_driver_steps.specs.Answering.{few_turns}
use Rattle.vmx_driver.specs.Stocked.{Stocked}
use Rattle.vmx_driver.specs.Beginning.{under_then, told_hold, told_so}
use Rattle.vmx_driver.proofs.driver.Driver.update.Goals as goal

pub command-requires-clause-few : goal.command-requires-clause-few
command-requires-clause-few g c κs within = few_turns _ _ c.self.invariant.runs

pub settle-requires-clause-under : goal.settle-requires-clause-under
settle-requires-clause-under g c = under_then _ _ _ c.args.setup _ _ _ _ c.self.invariant c.args.action.now (ap (λ (x : Stocked). x.driver) c.self.view_is) c.requires.waits c.requires.none c.requires.due c.requires.deed c.requires.setup

pub invariant_of-self : goal.invariant_of-self
invariant_of-self g c = told_hold _ _ _ c.args.setup _ _ _ _ c.self.invariant c.args.action.now (ap (λ (x : Stocked). x.driver) c.self.view_is) c.requires.waits c.requires.none c.requires.due c.requires.deed c.requires.setup
    (record { number = c.number.result; image = c.args.image; ends = None }) _ _ _ _ (c.number.ensures.value ∙ c.requires.number) c.requires.image refl c.command.ensures.view c.settle.ensures.kept c.settle.ensures.under c.settle.ensures.settled c.settle.ensures.frames

pub returns-clause-updates : goal.returns-clause-updates
returns-clause-updates g c = told_so _ _ _ c.args.setup _ _ _ _ c.self.invariant c.args.action.now (ap (λ (x : Stocked). x.driver) c.self.view_is) c.requires.waits c.requires.none c.requires.due c.requires.deed c.requires.setup
    (record { number = c.number.result; image = c.args.image; ends = None }) _ _ _ _ (c.number.ensures.value ∙ c.requires.number) c.requires.image refl c.command.ensures.view c.settle.ensures.kept (number_of c.args.command) (sym c.requires.number) c.settle.ensures.up c.settle.ensures.frames c.command.ensures.key c.command.ensures.masks
