-- Captures in the classic pcap format: a header, whole records, and a tail shorter than the record that it begins.
use Rattle.std.specs.Prelude.{◌≡◌, ◌⊎◌, ℕ, ◌+◌, ◌<◌, ◌≤◌, List, [], ◌∷◌, length, take, drop, Some}
use Rattle.vmx_pcap.specs.declared.format.TheConstants.{VERSION_MAJOR, VERSION_MINOR, LINK_ETHERNET, MAGIC_OFFSET, MAJOR_OFFSET, MINOR_OFFSET, LINK_OFFSET, FILE_HEADER_SIZE, SECONDS_OFFSET, FRACTION_OFFSET, CAPTURED_OFFSET, RECORD_HEADER_SIZE, MAX_CAPTURED}
use Rattle.vmx_pcap.specs.declared.records.Stamped.{Stamped}
use Rattle.vmx_pcap.specs.declared.kinds.Encoding.{Encoding}
use Rattle.vmx_pcap.specs.declared.kinds.Endian.TheVariants.{Big}
use Rattle.vmx_pcap.specs.Encodings.{encoding_of}
use Rattle.vmx_pcap.specs.Fields.{u16_at, u32_at, micros_of}

-- the first four bytes, read big-endian
abbrev pub magic_at : List ℕ → ℕ
magic_at bytes = u32_at Big MAGIC_OFFSET bytes

-- the file header of 24 bytes in this encoding: magic number, version 2.4, time zone, accuracy and snap length, which
-- are free, and link type 1, Ethernet
pub record IsHeader (e : Encoding) (bytes : List ℕ) : Type 0 where
  pub whole : FILE_HEADER_SIZE ≤ length bytes
  pub magic : encoding_of (magic_at bytes) ≡ Some e
  pub major : u16_at e.endian MAJOR_OFFSET bytes ≡ VERSION_MAJOR
  pub minor : u16_at e.endian MINOR_OFFSET bytes ≡ VERSION_MINOR
  pub link : u32_at e.endian LINK_OFFSET bytes ≡ LINK_ETHERNET

-- the captured length in a record's header: seconds, fraction, captured length, original length
abbrev pub captured_length : Encoding → List ℕ → ℕ
captured_length e bytes = u32_at e.endian CAPTURED_OFFSET bytes

-- the record that bytes begin with
abbrev pub record_at : Encoding → List ℕ → Stamped
record_at e bytes = record { seconds = u32_at e.endian SECONDS_OFFSET bytes; micros = micros_of e.unit (u32_at e.endian FRACTION_OFFSET bytes); frame = take (captured_length e bytes) (drop RECORD_HEADER_SIZE bytes) }

-- the bytes after it
abbrev pub after_record : Encoding → List ℕ → List ℕ
after_record e bytes = drop (RECORD_HEADER_SIZE + captured_length e bytes) bytes

-- bytes begin with a whole record
pub record IsWhole (e : Encoding) (bytes : List ℕ) : Type 0 where
  pub header : RECORD_HEADER_SIZE ≤ length bytes
  pub limit : captured_length e bytes ≤ MAX_CAPTURED
  pub frame : RECORD_HEADER_SIZE + captured_length e bytes ≤ length bytes

-- bytes are these whole records and then the rest
abbrev pub AreRecords : Encoding → List ℕ → List Stamped → List ℕ → Type 0
AreRecords e bytes [] rest = bytes ≡ rest
AreRecords e bytes (r ∷ rs) rest = IsWhole e bytes × (r ≡ record_at e bytes) × AreRecords e (after_record e bytes) rs rest

-- bytes are shorter than the record that they begin
abbrev pub IsTail : Encoding → List ℕ → Type 0
IsTail e bytes = (length bytes < RECORD_HEADER_SIZE) ⊎ ((captured_length e bytes ≤ MAX_CAPTURED) × (length bytes < RECORD_HEADER_SIZE + captured_length e bytes))

-- bytes begin with a record's header whose captured length is above the limit
pub record IsLong (e : Encoding) (bytes : List ℕ) : Type 0 where
  pub header : RECORD_HEADER_SIZE ≤ length bytes
  pub limit : MAX_CAPTURED < captured_length e bytes

-- bytes are a capture with these records and a tail of that many bytes
pub record IsCapture (bytes : List ℕ) (records : List Stamped) (tail : ℕ) : Type 0 where
  pub encoding : Encoding
  pub header : IsHeader encoding bytes
  pub rest : List ℕ
  pub body : AreRecords encoding (drop FILE_HEADER_SIZE bytes) records rest
  pub ends : IsTail encoding rest
  pub count : tail ≡ length rest
