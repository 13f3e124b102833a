-- What a setup in force, as plain data, makes of a frame: whether its filter lets the frame in, and the receive queue of its flow.
use Rattle.std.specs.Prelude.{ℕ, ◌%◌, ◌==◌, ◌&&◌, ◌||◌, if◌then◌else◌, List, slice_index, bytes_eq, Option, Some, None}
use Rattle.std.specs.List.{list_any}
use Rattle.vmx_frame.specs.Ethernet.{destination, class_of, tag_of}
use Rattle.vmx_frame.specs.declared.kinds.Class.{Class}
use Rattle.vmx_frame.specs.declared.kinds.Class.TheVariants.{Broadcast, Multicast, Unicast}
use Rattle.vmx_frame.specs.declared.kinds.Flow.{Flow}
use Rattle.vmx_device_state.specs.SetupView.{RssView, SetupView}
use Rattle.vmx_shared_area.specs.declared.offsets.TheConstants.{RX_MODE_UCAST, RX_MODE_MCAST, RX_MODE_BCAST, RX_MODE_ALL_MULTI, RX_MODE_PROMISC}
use Rattle.vmx_filters.specs.Admission.{has_mode, is_foreign, pass_or}
use Rattle.vmx_filters.specs.declared.answer.Verdict.{Verdict}
use Rattle.vmx_filters.specs.declared.answer.Verdict.TheVariants.{Yes, No}
use Rattle.vmx_filters.specs.declared.answer.Rule.TheVariants as rule
use Rattle.vmx_rss.specs.Queues.{kind_of, flow_hash, no_choice}
use Rattle.vmx_rss.specs.declared.answer.Choice.{Choice}

-- what a frame of this class needs (mode bits: Linux vmxnet3_defs.h, VMXNET3_RXM)
abbrev pub class_admits : Class → SetupView → List ℕ → List ℕ → Verdict
class_admits Unicast s mac to = pass_or (has_mode s.mode RX_MODE_UCAST && bytes_eq to mac) rule.Unicast
class_admits Broadcast s mac to = pass_or (has_mode s.mode RX_MODE_BCAST) rule.Broadcast
class_admits Multicast s mac to = pass_or (has_mode s.mode RX_MODE_ALL_MULTI || has_mode s.mode RX_MODE_MCAST && list_any (λ m. bytes_eq m to) s.macs) rule.Multicast

-- whether a setup's filter lets a frame in, or the rule that refuses it: PROMISC, then the VLAN, then the class
unfoldable pub admits : SetupView → List ℕ → List ℕ → Verdict
admits s mac frame =
    if has_mode s.mode RX_MODE_PROMISC then Yes
    else if is_foreign s.vlans (tag_of frame) then No rule.Vlan
    else class_admits (class_of frame) s mac (destination frame)

-- the entry of the table at the hash modulo its size
abbrev pub choice_in : RssView → Flow → ℕ → Choice
choice_in r flow kind =
    if kind == 0 then no_choice
    else record { queue = slice_index r.table (flow_hash r.key kind flow % r.size); hash = flow_hash r.key kind flow; kind = kind }

-- the receive queue of a flow, with its hash and kind (Microsoft, "RSS Hashing Functions")
abbrev pub choice : Option RssView → Flow → Choice
choice None flow = no_choice
choice (Some r) flow = choice_in r flow (kind_of r.types flow)
