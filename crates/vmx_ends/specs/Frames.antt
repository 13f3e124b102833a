-- Lists of frames, and how two lists of one queue stand to each other.
use Rattle.std.specs.Prelude.{ℕ, ◌≤◌, ◌⊎◌, List, length, map, if◌then◌else◌, nat_lt, Option, Some, None}
use mathlib.Core.List.{IsPrefix}
use Rattle.vmx_io.specs.declared.buffer.TheConstants.{MIN_FRAME, MAX_FRAME}
use Rattle.vmx_ends.specs.declared.limits.TheConstants.{MAX_TAGLESS_FRAME}
use Rattle.vmx_ends.specs.declared.meta.TxMark.{TxMark}
use Rattle.vmx_ends.specs.declared.frames.Sent.{Sent}
use Rattle.vmx_ends.specs.declared.frames.Taken.{Taken}

-- a frame without its checksum has 14 to 9,022 bytes
abbrev pub IsFrame : List ℕ → Type 0
IsFrame bytes = (MIN_FRAME ≤ length bytes) × (length bytes ≤ MAX_FRAME)

-- there is one
abbrev pub IsSome : Option ℕ → Type 0
IsSome None = ⊥
IsSome (Some x) = Unit {0}

-- with a tag to be put in, at most 9,018
abbrev pub IsMarked : List ℕ → TxMark → Type 0
IsMarked bytes mark = IsFrame bytes × (IsSome mark.tci → length bytes ≤ MAX_TAGLESS_FRAME)

-- a frame with its mark
abbrev pub sent_as : List ℕ → TxMark → Sent
sent_as frame mark = record { frame = frame; mark = mark }

-- one of the two begins the other
abbrev pub IsComparable : {X : Type 0} → List X → List X → Type 0
IsComparable xs ys = IsPrefix xs ys ⊎ IsPrefix ys xs

-- the longer of two lists
abbrev pub longer : {X : Type 0} → List X → List X → List X
longer xs ys = if nat_lt (length xs) (length ys) then ys else xs

abbrev pub larger : ℕ → ℕ → ℕ
larger a b = if nat_lt a b then b else a

-- what was sent, of the frames that a device took
abbrev pub sent_of : List Taken → List Sent
sent_of ts = map (λ t. t.sent) ts
