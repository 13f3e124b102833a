-- Which frames the receive filter lets in, by mode bits, class and VLAN.
use Rattle.std.specs.Prelude.{ℕ, ◌/◌, ◌%◌, ◌==◌, Bool, false, not, ◌&&◌, ◌||◌, if◌then◌else◌, List, take, slice_index, Option, Some, None, bytes_eq}
use Rattle.std.specs.List.{list_any}
use Rattle.std.specs.Int.{bit_at}
use Rattle.vmx_frame.specs.Ethernet.{destination, class_of, tag_of}
use Rattle.vmx_frame.specs.declared.kinds.Class.{Class}
use Rattle.vmx_frame.specs.declared.kinds.Class.TheVariants.{Broadcast, Multicast, Unicast}
use Rattle.vmx_shared_area.specs.declared.filter.Filter.{Filter}
use Rattle.vmx_shared_area.specs.declared.filter.MacTable.{MacTable}
use Rattle.vmx_shared_area.specs.declared.offsets.TheConstants.{RX_MODE_UCAST, RX_MODE_MCAST, RX_MODE_BCAST, RX_MODE_ALL_MULTI, RX_MODE_PROMISC}
use Rattle.vmx_filters.specs.declared.filtering.TheConstants.{VLANS_PER_WORD}
use Rattle.vmx_filters.specs.declared.answer.Verdict.{Verdict}
use Rattle.vmx_filters.specs.declared.answer.Verdict.TheVariants.{Yes, No}
use Rattle.vmx_filters.specs.declared.answer.Rule.{Rule}
use Rattle.vmx_filters.specs.declared.answer.Rule.TheVariants as rule

-- the bit of a receive mode is set (Linux vmxnet3_defs.h, VMXNET3_RXM)
abbrev pub has_mode : ℕ → ℕ → Bool
has_mode mode mask = mode / mask % 2 == 1

-- VLAN v is bit v % 32 of word v / 32 (Linux vmxnet3_defs.h, VMXNET3_SET_VFTABLE_ENTRY)
abbrev pub is_allowed : List ℕ → ℕ → Bool
is_allowed vlans vlan = bit_at (slice_index vlans (vlan / VLANS_PER_WORD)) (vlan % VLANS_PER_WORD) == 1

-- a tag with another VLAN than 0 that is not in the table
abbrev pub is_foreign : List ℕ → Option ℕ → Bool
is_foreign vlans None = false
is_foreign vlans (Some vlan) = not (vlan == 0) && not (is_allowed vlans vlan)

-- one of the table's first `count` addresses
abbrev pub is_listed : MacTable → List ℕ → Bool
is_listed table address = list_any (λ mac. bytes_eq mac address) (take table.count table.macs)

-- let in, or refused by a rule
abbrev pub pass_or : Bool → Rule → Verdict
pass_or passes rule = if passes then Yes else No rule

-- what a frame of this class needs
abbrev pub class_verdict : Class → Filter → List ℕ → List ℕ → Verdict
class_verdict Unicast f mac to = pass_or (has_mode f.mode RX_MODE_UCAST && bytes_eq to mac) rule.Unicast
class_verdict Broadcast f mac to = pass_or (has_mode f.mode RX_MODE_BCAST) rule.Broadcast
class_verdict Multicast f mac to = pass_or (has_mode f.mode RX_MODE_ALL_MULTI || has_mode f.mode RX_MODE_MCAST && is_listed f.multicast to) rule.Multicast

-- PROMISC, then the VLAN, then the class
unfoldable pub verdict_of : Filter → List ℕ → List ℕ → Verdict
verdict_of f mac frame =
    if has_mode f.mode RX_MODE_PROMISC then Yes
    else if is_foreign f.vlans (tag_of frame) then No rule.Vlan
    else class_verdict (class_of frame) f mac (destination frame)
