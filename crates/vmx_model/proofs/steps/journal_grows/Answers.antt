use Rattle.std.proofs.Common.{[]}
use Rattle.vmx_model.specs.JournalSteps.{journal_push, stays}
use Rattle.vmx_model.specs.DeliverySteps.{came_up_grows, deliveries_grow}
use Rattle.vmx_model.proofs.steps.journal_grows.Goals as goal

pub returns : goal.returns
returns c = record { lawful = journal_push; stays = stays; came_up = λ old new more setups es each. came_up_grows old new more setups [] es each; delivered = λ old new more setups a q es few each. deliveries_grow old new more setups a q [] es few each }
