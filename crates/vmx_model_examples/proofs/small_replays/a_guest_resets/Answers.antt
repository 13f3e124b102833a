use Rattle.std.proofs.Common.{refl}
use Rattle.vmx_frame.specs.Ethernet.{class_of, is_tagged, tag_of}
use Rattle.vmx_frame.specs.Internet.{flow_of, payload_flow}
use Rattle.vmx_switch.specs.Ports.{target_ports, is_target}
use Rattle.vmx_model.specs.Setups.{admits}
use Rattle.vmx_model.specs.Serial.{serial_run, rounds, turns, emptied, drained, tried}
use Rattle.vmx_model_examples.proofs.small_replays.a_guest_resets.Goals as goal

pub returns : goal.returns
unfolding serial_run rounds turns emptied drained tried admits class_of is_tagged tag_of flow_of payload_flow target_ports is_target
returns c = record { fates = refl; journals = refl }
