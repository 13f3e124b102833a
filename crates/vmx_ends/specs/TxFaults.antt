-- What is wrong with the descriptors of a transmit ring that was given with its words, and how the words of an answer show it.
use Rattle.std.specs.Prelude.{ℕ, ◌≡◌, ◌<◌, ◌≤◌, ◌⊎◌, ◌==◌, List, Bool, true, false, if◌then◌else◌, Option, Some, None, slice_index}
use Rattle.vmx_io.specs.declared.buffer.TheConstants.{MIN_FRAME}
use Rattle.vmx_layout.specs.Addresses.{tx_buffer}
use Rattle.vmx_layout.specs.Bits.{field}
use Rattle.vmx_layout.specs.TxDesc.{fault}
use Rattle.vmx_layout.specs.declared.fault.FieldFault.{FieldFault}
use Rattle.vmx_ends.specs.declared.limits.TheConstants.{MAX_DESCRIPTORS, MAX_TAGLESS_FRAME, ZERO_LENGTH}
use Rattle.vmx_ends.specs.declared.meta.TheConstants.{OM_UNLAWFUL}
use Rattle.vmx_ends.specs.declared.answers.EndFault.{EndFault}
use Rattle.vmx_ends.specs.declared.answers.EndFault.TheVariants.{Field, Address, Offload, Chain, Size}

-- a bit without a name comes first
abbrev pub field_or : Option FieldFault → Option EndFault → Option EndFault
field_or (Some f) otherwise = Some (Field f)
field_or None otherwise = otherwise

-- what is wrong with one descriptor: a bit without a name, else another address than its buffer's, else an om of 1
abbrev pub desc_fault : ℕ → ℕ → List ℕ → Option EndFault
desc_fault queue index words = field_or (fault words) (
    if slice_index words 0 == tx_buffer queue index
    then (if field (slice_index words 1) 42 2 == OM_UNLAWFUL then Some (Offload OM_UNLAWFUL) else None)
    else Some (Address (slice_index words 0))
    )

-- the bytes of a descriptor, where 0 stands for 16,384
abbrev pub len_in : List ℕ → ℕ
len_in words = let n = field (slice_index words 1) 0 14 in if n == 0 then ZERO_LENGTH else n

-- its end of packet
abbrev pub is_last : List ℕ → Bool
is_last words = field (slice_index words 1) 44 1 == 1

-- A fault of one descriptor is what its words show. The words of Chain and Size are those of a descriptor without fault: one without end of packet, or the last one, whose length is part of the sum.
abbrev pub Tells : ℕ → ℕ → List ℕ → EndFault → Type 0
Tells queue index words (Chain count) = (desc_fault queue index words ≡ None) × (is_last words ≡ false) × (count ≡ MAX_DESCRIPTORS)
Tells queue index words (Size bytes) = (desc_fault queue index words ≡ None) × (is_last words ≡ true) × (len_in words ≤ bytes) × ((bytes < MIN_FRAME) ⊎ (MAX_TAGLESS_FRAME < bytes))
Tells queue index words (Field fault) = desc_fault queue index words ≡ Some (Field fault)
Tells queue index words (Address found) = desc_fault queue index words ≡ Some (Address found)
Tells queue index words (Offload om) = desc_fault queue index words ≡ Some (Offload om)
