use Rattle.vmx_device_laws.proofs.Parting.{leaves, links_say}
use Rattle.vmx_device_laws.proofs.laws.ended_device_leaves.Goals as goal

pub returns : goal.returns
returns c = record { leaves = λ d k b e v of. leaves d b k e v of; links = links_say }
