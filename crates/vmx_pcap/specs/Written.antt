-- The bytes of a capture that is written: the file header, and each record in order.
use Rattle.std.specs.Prelude.{ℕ, ◌<◌, ◌≤◌, ◌^◌, List, ◌++◌, length}
use Rattle.std.specs.List.{flat_map}
use Rattle.vmx_pcap.specs.declared.format.TheConstants.{FILE_HEADER, MAX_CAPTURED}
use Rattle.vmx_pcap.specs.declared.records.Stamped.{Stamped}
use Rattle.vmx_pcap.specs.Fields.{u32_bytes}

-- magic number (little-endian, microseconds), version 2.4, time zone and accuracy 0, snap length 65,535, Ethernet
unfoldable pub header_bytes : List ℕ
header_bytes = FILE_HEADER

-- a record: seconds, microseconds, captured and original length, the frame
abbrev pub record_bytes : Stamped → List ℕ
record_bytes r = u32_bytes r.seconds ++ u32_bytes r.micros ++ u32_bytes (length r.frame) ++ u32_bytes (length r.frame) ++ r.frame

-- the capture of these records
abbrev pub capture_bytes : List Stamped → List ℕ
capture_bytes records = header_bytes ++ flat_map record_bytes records

-- the stamp fits its fields, and the frame the limit of the reader
pub record Fits (r : Stamped) : Type 0 where
  pub seconds : r.seconds < 2 ^ 32
  pub micros : r.micros < 2 ^ 32
  pub frame : length r.frame ≤ MAX_CAPTURED
