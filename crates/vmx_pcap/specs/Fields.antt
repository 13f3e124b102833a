-- The fields of the pcap format. Each is opaque on purpose: opened, it is a sum over bytes.
use Rattle.std.specs.Prelude.{ℕ, ◌/◌, List, drop}
use Rattle.byteorder.specs.Endian.{little_number, big_number, little_bytes}
use Rattle.vmx_pcap.specs.declared.kinds.Endian.{Endian}
use Rattle.vmx_pcap.specs.declared.kinds.Endian.TheVariants.{Little, Big}
use Rattle.vmx_pcap.specs.declared.kinds.TimeUnit.{TimeUnit}
use Rattle.vmx_pcap.specs.declared.kinds.TimeUnit.TheVariants.{Micros, Nanos}
use Rattle.vmx_pcap.specs.declared.format.TheConstants.{NANOS_PER_MICRO}

-- the number in the two bytes from place i
unfoldable pub u16_at : Endian → ℕ → List ℕ → ℕ
u16_at Little i bytes = little_number 2 (drop i bytes)
u16_at Big i bytes = big_number 2 (drop i bytes)

-- the number in the four bytes from place i
unfoldable pub u32_at : Endian → ℕ → List ℕ → ℕ
u32_at Little i bytes = little_number 4 (drop i bytes)
u32_at Big i bytes = big_number 4 (drop i bytes)

-- the four bytes of a number, the lowest first
unfoldable pub u32_bytes : ℕ → List ℕ
u32_bytes n = little_bytes 4 n

-- a fraction of a second in whole microseconds, rounded down
abbrev pub micros_of : TimeUnit → ℕ → ℕ
micros_of Micros fraction = fraction
micros_of Nanos fraction = fraction / NANOS_PER_MICRO
