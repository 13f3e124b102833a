-- What reading to the end and writing whole say, where the bytes of the stream are told.
use Rattle.std.specs.Prelude.{◌≡◌, ℕ, ◌<◌, ◌≤◌, List, length, Option}
use Rattle.std.specs.Io.KnownBytes.{Consumes}
use Rattle.vmx_io.specs.declared.outside.Load.{Load}
use Rattle.vmx_io.specs.declared.outside.Load.TheVariants as load
use Rattle.vmx_io.specs.Outside.{WhereTold}

-- what a load from a stream says of the bytes that were left in it
abbrev pub Drains : Load → Option (List ℕ) → ℕ → Type 0
Drains (load.Bytes bytes) left limit = (length bytes ≤ limit) × WhereTold left (λ rest. bytes ≡ rest)
Drains load.TooLong left limit = WhereTold left (λ rest. limit < length rest)
Drains load.Failed left limit = Unit {0}
Drains load.NoMemory left limit = Unit {0}

-- at most so many bytes were taken from a stream
abbrev pub TakesAtMost : Option (List ℕ) → Option (List ℕ) → ℕ → Type 0
TakesAtMost old new most = (bytes : List ℕ) × Consumes old new bytes × (length bytes ≤ most)
