-- What is wrong with a descriptor of a receive ring that was given with its words.
use Rattle.std.specs.Prelude.{ℕ, ◌==◌, List, if◌then◌else◌, Option, Some, None, slice_index}
use Rattle.vmx_layout.specs.Addresses.{rx_buffer}
use Rattle.vmx_layout.specs.RxDesc.{fault}
use Rattle.vmx_ends.specs.TxFaults.{field_or, len_in}
use Rattle.vmx_ends.specs.declared.answers.EndFault.{EndFault}
use Rattle.vmx_ends.specs.declared.answers.EndFault.TheVariants.{Address, Size}

-- what is wrong with one descriptor whose buffer must have so many bytes: a bit without a name, else another address than its buffer's, else another length
abbrev pub desc_fault : ℕ → ℕ → ℕ → ℕ → List ℕ → Option EndFault
desc_fault queue ring index bytes words = field_or (fault words) (
    if slice_index words 0 == rx_buffer queue ring index
    then (if len_in words == bytes then None else Some (Size (len_in words)))
    else Some (Address (slice_index words 0))
    )
