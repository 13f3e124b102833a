use Rattle.vmx_actor_laws.proofs.Joint.{leads_its_device}
use Rattle.vmx_actor_laws.proofs.laws.a_device_has_ends_while_its_driver_is_active.Goals as goal

pub returns : goal.returns
returns c = record { law = leads_its_device }
