-- What a device tells of a received frame's checksum (Linux vmxnet3_defs.h, Vmxnet3_RxCompDesc).
use Rattle.std.specs.Prelude.{ℕ, Bool, true, false, List, is_some}
use Rattle.vmx_frame.specs.Internet.{flow_of}
use Rattle.vmx_frame.specs.declared.kinds.Flow.{Flow}
use Rattle.vmx_frame.specs.declared.kinds.Flow.TheVariants.{NonIp, V4, V6}
use Rattle.vmx_checksum.specs.declared.answer.Flags.{Flags}
use Rattle.vmx_checksum.specs.Segment.{segment}
use Rattle.vmx_checksum.specs.Checksum.{is_right_at}

-- the family
abbrev pub is_v4 : Flow → Bool
is_v4 NonIp = false
is_v4 (V4 source target ports) = true
is_v4 (V6 source target ports) = false

abbrev pub is_v6 : Flow → Bool
is_v6 NonIp = false
is_v6 (V4 source target ports) = false
is_v6 (V6 source target ports) = true

-- nothing where no checksum was asked for; else the family, whether there is a segment, and whether its checksum is right
abbrev pub flags_of : Bool → List ℕ → Flags
flags_of false frame = record { v4 = false; v6 = false; tcp = false; tuc = false }
flags_of true frame = record { v4 = is_v4 (flow_of frame); v6 = is_v6 (flow_of frame); tcp = is_some (segment frame); tuc = is_right_at frame (segment frame) }
