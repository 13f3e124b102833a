use Rattle.vmx_ring_laws.specs.Rows.{read_right, set_right}
use Rattle.vmx_ring_laws.proofs.laws.rows_cut.Goals as goal

pub returns : goal.returns
returns c = record { law = λ n a b i x wide. (read_right n a b wide i x, set_right n a b wide i x) }
