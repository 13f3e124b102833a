-- What a receive buffer may hold, as a bit.
use Rattle.std.specs.Prelude.{◌≡◌, ℕ, ◌<◌, ◌^◌, refl}
use Rattle.std.proofs.Common.{arith}
use Rattle.vmx_layout.specs.declared.rx_desc.BufferType.{BufferType}
use Rattle.vmx_layout.specs.declared.rx_desc.BufferType.TheVariants.{Head, Body}

abbrev pub btype_bit : BufferType → ℕ
btype_bit Head = 0
btype_bit Body = 1

pub btype_same : (x y : BufferType) → btype_bit x ≡ btype_bit y → x ≡ y
btype_same Head Head e = refl
btype_same Head Body e = absurd (omega arith)
btype_same Body Head e = absurd (omega arith)
btype_same Body Body e = refl

pub btype_below : (x : BufferType) → btype_bit x < 2 ^ 1
btype_below Head = omega arith
btype_below Body = omega arith
