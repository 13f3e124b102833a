-- The encoding that a magic number says: byte order, and the unit of fractions.
use Rattle.std.specs.Prelude.{ℕ, ◌==◌, Option, Some, None, if◌then◌else◌}
use Rattle.vmx_pcap.specs.declared.kinds.Encoding.{Encoding}
use Rattle.vmx_pcap.specs.declared.kinds.Endian.TheVariants.{Little, Big}
use Rattle.vmx_pcap.specs.declared.kinds.TimeUnit.TheVariants.{Micros, Nanos}
use Rattle.vmx_pcap.specs.declared.format.TheConstants.{MAGIC_LITTLE_MICROS, MAGIC_BIG_MICROS, MAGIC_LITTLE_NANOS, MAGIC_BIG_NANOS}

-- the first four bytes, read big-endian, are one of pcap's four magic numbers
abbrev pub encoding_of : ℕ → Option Encoding
encoding_of magic =
    if magic == MAGIC_LITTLE_MICROS then Some (record { endian = Little; unit = Micros })
    else if magic == MAGIC_BIG_MICROS then Some (record { endian = Big; unit = Micros })
    else if magic == MAGIC_LITTLE_NANOS then Some (record { endian = Little; unit = Nanos })
    else if magic == MAGIC_BIG_NANOS then Some (record { endian = Big; unit = Nanos })
    else None
