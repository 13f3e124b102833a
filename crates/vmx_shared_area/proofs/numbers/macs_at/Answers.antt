use Rattle.std.proofs.Common.{refl, arith}
use Rattle.vmx_shared_area.specs.Macs.{zero_mac}
use Rattle.vmx_shared_area.specs.Places.{get_or-replicate_same}
use Rattle.vmx_shared_area.proofs.numbers.macs_at.Goals as goal
use Rattle.vmx_shared_area.specs.declared.offsets.TheConstants.{MAX_MACS}

pub loop-i-init : goal.loop-i-init
loop-i-init c = record { len = refl; read = λ i lt. absurd (omega arith); rest = λ i h. get_or-replicate_same MAX_MACS i zero_mac }
