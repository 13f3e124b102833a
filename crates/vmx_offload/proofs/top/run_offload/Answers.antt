use Rattle.vmx_offload.proofs.Only.{complete}
use Rattle.vmx_offload.proofs.top.run_offload.Goals as goal

pub returns-clause-complete : goal.returns-clause-complete
returns-clause-complete g c = complete c.run_fill.result.status _ _ _ _ c.run_fill.ensures.ends
