use Rattle.std.proofs.Common.{subst}
use Rattle.vmx_device_laws.specs.Keeps.{Keeps}
use Rattle.vmx_device_laws.proofs.Parting.{leaves, links_say}
use Rattle.vmx_device.proofs.device.Device.into_parts.Goals as goal

pub returns-clause-keeps : goal.returns-clause-keeps
returns-clause-keeps g c = subst Keeps c.self.view_is c.self.invariant.keeps

pub returns-clause-leaves : goal.returns-clause-leaves
returns-clause-leaves g c b v ended of = leaves c.args.self b (subst Keeps c.self.view_is c.self.invariant.keeps) ended v of

pub returns-clause-say : goal.returns-clause-say
returns-clause-say g c = links_say c.args.self (subst Keeps c.self.view_is c.self.invariant.keeps)
