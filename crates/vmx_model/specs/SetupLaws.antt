-- What a setup's plain data makes of a frame is what the setup makes of it: filter and choice of queue agree. That an image which holds a setup has its plain data is a law of vmx_device_state (`setup_agrees`).
use Rattle.std.proofs.Common.{◌≡◌, List, ℕ, refl, ap, Option, Some, None, if◌then◌else◌}
use Rattle.std.specs.Prelude.{option_map}
use Rattle.vmx_frame.specs.Ethernet.{destination, class_of, tag_of}
use Rattle.vmx_frame.specs.declared.kinds.Class.{Class}
use Rattle.vmx_frame.specs.declared.kinds.Class.TheVariants.{Broadcast, Multicast, Unicast}
use Rattle.vmx_frame.specs.declared.kinds.Flow.{Flow}
use Rattle.vmx_shared_area.specs.declared.rss.Rss.{Rss}
use Rattle.vmx_shared_area.specs.declared.setup.Setup.{Setup}
use Rattle.vmx_device_state.specs.SetupView.{rss_view, setup_view}
use Rattle.vmx_shared_area.specs.declared.offsets.TheConstants.{RX_MODE_PROMISC}
use Rattle.vmx_filters.specs.Admission.{has_mode, is_foreign, class_verdict, verdict_of}
use Rattle.vmx_filters.specs.declared.answer.Verdict.{Verdict}
use Rattle.vmx_filters.specs.declared.answer.Verdict.TheVariants.{Yes, No}
use Rattle.vmx_filters.specs.declared.answer.Rule.TheVariants as rule
use Rattle.vmx_rss.specs.Queues.{choice_of}
use Rattle.vmx_model.specs.Setups.{class_admits, admits, choice}

class_agrees : (c : Class) (s : Setup) (mac to : List ℕ) → class_admits c (setup_view s) mac to ≡ class_verdict c s.filter mac to
class_agrees Unicast s mac to = refl
class_agrees Broadcast s mac to = refl
class_agrees Multicast s mac to = refl

-- the filter's answer is that of its setup's plain data
pub admits_agrees : (s : Setup) (mac frame : List ℕ) → admits (setup_view s) mac frame ≡ verdict_of s.filter mac frame
unfolding admits verdict_of
admits_agrees s mac frame = ap (λ (v : Verdict). if has_mode s.filter.mode RX_MODE_PROMISC then Yes else if is_foreign s.filter.vlans (tag_of frame) then No rule.Vlan else v) (class_agrees (class_of frame) s mac (destination frame))

-- the choice of queue is that of its setting's plain data
pub choice_agrees : (o : Option Rss) (flow : Flow) → choice (option_map rss_view o) flow ≡ choice_of o flow
choice_agrees None flow = refl
choice_agrees (Some r) flow = refl
