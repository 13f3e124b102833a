use Rattle.vmx_model.specs.QueueSteps.{planned_push, sent_before_here, sent_before_other}
use Rattle.vmx_model.proofs.steps.frames_add.Goals as goal

pub returns : goal.returns
returns c = record { planned = planned_push; here = sent_before_here; other = sent_before_other }
