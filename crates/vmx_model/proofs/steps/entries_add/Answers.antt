use Rattle.std.proofs.Common.{[]}
use Rattle.vmx_model.specs.DeliverySteps.{came_up_push, deliveries_push, needs_push}
use Rattle.vmx_model.specs.QueueSteps.{sends_on_more}
use Rattle.vmx_model.proofs.steps.entries_add.Goals as goal

pub returns : goal.returns
returns c = record { came_up = came_up_push; delivered = λ b a q es e. deliveries_push b a q [] es e; refused = needs_push; sends = sends_on_more }
