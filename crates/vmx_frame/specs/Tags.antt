-- A tag put into a frame, and taken out of it (IEEE 802.1Q).
use Rattle.std.specs.Prelude.{ℕ, ◌/◌, ◌%◌, ◌<◌, ◌^◌, Bool, true, false, List, [], ◌∷◌, ◌++◌, take, drop, slice_index, Option, Some, None}
use Rattle.vmx_frame.specs.Bytes.{u16_at}
use Rattle.vmx_frame.specs.Ethernet.{is_tagged}
use Rattle.vmx_frame.specs.declared.ethernet.TheConstants.{TYPE_AT, TCI_AT, TAGGED_TYPE_AT, TAG_TYPE}

-- each element is a byte
abbrev pub AreOctets : List ℕ → Type 0
AreOctets bytes = (i : ℕ) → slice_index bytes i < 2 ^ 8

-- a tag: its type, then its two control bytes, big-endian
abbrev pub tag_bytes : ℕ → List ℕ
tag_bytes tci = TAG_TYPE / 256 ∷ TAG_TYPE % 256 ∷ tci / 256 ∷ tci % 256 ∷ []

-- the frame with a tag behind its addresses
unfoldable pub put_of : List ℕ → ℕ → List ℕ
put_of frame tci = take TYPE_AT frame ++ (tag_bytes tci ++ drop TYPE_AT frame)

-- a frame without its tag, and the tag's control bytes
pub record Stripped : Type 0 where
  pub frame : List ℕ
  pub tci : Option ℕ

-- the bytes before and behind a tag
abbrev pub without_tag : List ℕ → List ℕ
without_tag frame = take TYPE_AT frame ++ drop TAGGED_TYPE_AT frame

-- the tag taken out, where there is one
abbrev pub strip_if : Bool → List ℕ → Stripped
strip_if true frame = record { frame = without_tag frame; tci = Some (u16_at frame TCI_AT) }
strip_if false frame = record { frame = frame; tci = None }

-- the same of a frame
unfoldable pub strip_of : List ℕ → Stripped
strip_of frame = strip_if (is_tagged frame) frame

-- the frame with a tag put in, where there is one to put in
abbrev pub with_tag : Option ℕ → List ℕ → List ℕ
with_tag None frame = frame
with_tag (Some tci) frame = put_of frame tci
