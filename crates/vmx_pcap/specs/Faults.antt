-- What bytes read as: a capture with at most so many records, or the first check that fails.
use Rattle.std.specs.Prelude.{◌≡◌, ◌⊎◌, ℕ, zero, suc, ◌+◌, ◌≤◌, ◌==◌, ◌&&◌, Bool, not, nat_lt, nat_le, if◌then◌else◌, List, length, drop, Option, Some, None, Result, Ok, Err}
use Rattle.vmx_pcap.specs.declared.records.Capture.{Capture}
use Rattle.vmx_pcap.specs.declared.kinds.Encoding.{Encoding}
use Rattle.vmx_pcap.specs.declared.fault.CaptureFault.{CaptureFault}
use Rattle.vmx_pcap.specs.declared.fault.CaptureFault.TheVariants.{Header, Magic, Version, Link, Long, Many, Memory}
use Rattle.vmx_pcap.specs.declared.format.TheConstants.{VERSION_MAJOR, VERSION_MINOR, LINK_ETHERNET, MAJOR_OFFSET, MINOR_OFFSET, LINK_OFFSET, FILE_HEADER_SIZE, RECORD_HEADER_SIZE, MAX_CAPTURED}
use Rattle.vmx_pcap.specs.Encodings.{encoding_of}
use Rattle.vmx_pcap.specs.Fields.{u16_at, u32_at}
use Rattle.vmx_pcap.specs.Capture.{magic_at, captured_length, after_record, IsCapture}

-- the fault where a check fails, else what comes next
abbrev pub unless : Bool → CaptureFault → Option CaptureFault → Option CaptureFault
unless holds fault next = if holds then next else Some fault

-- a record's header is there, and its captured length is above the limit
abbrev pub is_long : Encoding → List ℕ → Bool
is_long e bytes = nat_le RECORD_HEADER_SIZE (length bytes) && nat_lt MAX_CAPTURED (captured_length e bytes)

-- a record's header and its captured bytes are there
abbrev pub is_whole : Encoding → List ℕ → Bool
is_whole e bytes = nat_le RECORD_HEADER_SIZE (length bytes) && nat_le (RECORD_HEADER_SIZE + captured_length e bytes) (length bytes)

-- record by record, from this index on: a captured length above the limit, or a whole record after the last one wanted
unfoldable pub record_fault : Encoding → ℕ → ℕ → List ℕ → Option CaptureFault
record_fault e index zero bytes =
    unless (not (is_long e bytes)) (Long index (captured_length e bytes)) (unless (not (is_whole e bytes)) (Many index) None)
record_fault e index (suc most) bytes =
    unless (not (is_long e bytes)) (Long index (captured_length e bytes)) (if is_whole e bytes then record_fault e (index + 1) most (after_record e bytes) else None)

-- in a capture of this encoding: the version, the link type, and then the records
abbrev pub encoded_fault : Encoding → List ℕ → ℕ → Option CaptureFault
encoded_fault e bytes most =
    unless (u16_at e.endian MAJOR_OFFSET bytes == VERSION_MAJOR && u16_at e.endian MINOR_OFFSET bytes == VERSION_MINOR) (Version (u16_at e.endian MAJOR_OFFSET bytes) (u16_at e.endian MINOR_OFFSET bytes))
    (unless (u32_at e.endian LINK_OFFSET bytes == LINK_ETHERNET) (Link (u32_at e.endian LINK_OFFSET bytes))
    (record_fault e 0 most (drop FILE_HEADER_SIZE bytes)))

-- the magic number, and then what its encoding asks for
abbrev pub magic_fault : Option Encoding → List ℕ → ℕ → Option CaptureFault
magic_fault None bytes most = Some (Magic (magic_at bytes))
magic_fault (Some e) bytes most = encoded_fault e bytes most

-- the first check that fails: 24 bytes, magic number, version, link type, records
unfoldable pub fault_at : List ℕ → ℕ → Option CaptureFault
fault_at bytes most = unless (nat_le FILE_HEADER_SIZE (length bytes)) (Header (length bytes)) (magic_fault (encoding_of (magic_at bytes)) bytes most)

-- the first check that fails, or want of memory
abbrev pub HasFault : CaptureFault → List ℕ → ℕ → Type 0
HasFault e bytes most = (e ≡ Memory) ⊎ (fault_at bytes most ≡ Some e)

-- what an answer of the reader says of the bytes
abbrev pub Reads : Result Capture CaptureFault → List ℕ → ℕ → Type 0
Reads (Ok c) bytes most = IsCapture bytes c.records c.tail × (length c.records ≤ most)
Reads (Err e) bytes most = HasFault e bytes most

-- this answer, or want of memory
abbrev pub Answers : Result Capture CaptureFault → Result Capture CaptureFault → Type 0
Answers answer wanted = (answer ≡ wanted) ⊎ (answer ≡ Err Memory)
