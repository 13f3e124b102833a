use Rattle.vmx_model.proofs.Captures.{has_stamp, came_up_stamped}
use Rattle.vmx_model.proofs.laws.frames_have_stamps.Goals as goal

pub returns : goal.returns
returns c = record { tags = has_stamp; came_up = came_up_stamped }
