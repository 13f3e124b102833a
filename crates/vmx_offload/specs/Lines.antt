-- The line of what was filled, and those of faults.
use Rattle.std.specs.Prelude.{ℕ, ◌-◌, ◌^◌, false, List, [], ◌++◌, codes}
use Rattle.std.specs.Fmt.{decimal, digits, padded_integral, format_spec}
use Rattle.vmx_pcap.specs.declared.fault.CaptureFault.{CaptureFault}
use Rattle.vmx_pcap.specs.declared.fault.CaptureFault.TheVariants.{Header, Magic, Version, Link, Long, Many, Memory}
use Rattle.vmx_offload_queue.specs.declared.counts.Counts.{Counts}
use Rattle.vmx_offload.specs.declared.load.Stop.{Stop}
use Rattle.vmx_offload.specs.declared.load.Stop.TheVariants as stop

-- what has a meaning, told where the words have none
unfoldable pub usage_lines : List ℕ
usage_lines = codes "usage: vmxoffload fill IN OUT\n       vmxoffload segment IN OUT MSS\n"

-- how many records had which fate, and the bytes of a cut last record
unfoldable pub filled_line : Counts → ℕ → List ℕ
filled_line counts tail =
    codes "filled " ++ (decimal counts.filled ++ (codes " left " ++ (decimal counts.left ++ (codes " long " ++ (decimal counts.long ++ (codes " tail " ++ (decimal tail ++ codes "\n")))))))

-- a file of so many bytes, fewer than a header has
unfoldable pub header_line : ℕ → List ℕ → List ℕ
header_line len name = codes "capture " ++ (name ++ (codes ": header " ++ (decimal len ++ codes "\n")))

-- eight hex digits, lower-case
abbrev pub hex8 : ℕ → List ℕ
hex8 n = padded_integral (format_spec 32 0 4 8 (2 ^ 64 - 1)) false [] (digits 16 false n)

-- a file whose first four bytes, read big-endian, are no magic number
unfoldable pub magic_line : ℕ → List ℕ → List ℕ
magic_line found name = codes "capture " ++ (name ++ (codes ": magic 0x" ++ (hex8 found ++ codes "\n")))

-- a capture of another version
unfoldable pub version_line : ℕ → ℕ → List ℕ → List ℕ
version_line major minor name = codes "capture " ++ (name ++ (codes ": version " ++ (decimal major ++ (codes " " ++ (decimal minor ++ codes "\n")))))

-- a capture of another link type
unfoldable pub link_line : ℕ → List ℕ → List ℕ
link_line found name = codes "capture " ++ (name ++ (codes ": link " ++ (decimal found ++ codes "\n")))

-- a record whose captured length is above the limit
unfoldable pub long_line : ℕ → ℕ → List ℕ → List ℕ
long_line index found name = codes "capture " ++ (name ++ (codes ": record " ++ (decimal index ++ (codes " length " ++ (decimal found ++ codes "\n")))))

-- a whole record past those that are taken
unfoldable pub many_line : ℕ → List ℕ → List ℕ
many_line index name = codes "capture " ++ (name ++ (codes ": record " ++ (decimal index ++ codes " too many\n")))

-- a file past the limit
unfoldable pub too_long_line : List ℕ → List ℕ
too_long_line name = codes "too long: " ++ (name ++ codes "\n")

-- a file that the shelf failed to read
unfoldable pub read_line : List ℕ → List ℕ
read_line name = codes "read fault: " ++ (name ++ codes "\n")

-- a file, or the console, that could not be written
unfoldable pub write_line : List ℕ → List ℕ
write_line name = codes "write fault: " ++ (name ++ codes "\n")

-- no memory was found
unfoldable pub memory_line : List ℕ
memory_line = codes "no memory\n"

-- the line of bytes that are no capture
abbrev pub capture_line : CaptureFault → List ℕ → List ℕ
capture_line (Header len) name = header_line len name
capture_line (Magic found) name = magic_line found name
capture_line (Version major minor) name = version_line major minor name
capture_line (Link found) name = link_line found name
capture_line (Long index found) name = long_line index found name
capture_line (Many index) name = many_line index name
capture_line Memory name = memory_line

-- the line of a capture that is not there, by why
abbrev pub line_of : Stop → List ℕ → List ℕ
line_of stop.Failed name = read_line name
line_of stop.TooLong name = too_long_line name
line_of (stop.Capture fault) name = capture_line fault name
line_of stop.NoMemory name = memory_line
