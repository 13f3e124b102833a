-- The types of plans and journals under one roof. Declares nothing.
pub use Rattle.vmx_pcap.specs.declared.records.Stamped.{Stamped}
pub use Rattle.vmx_ends.specs.declared.packet.Tag.{Tag}
pub use Rattle.vmx_ends.specs.declared.packet.Packet.{Packet}
pub use Rattle.vmx_ends.specs.declared.packet.QueueName.{QueueName}
pub use Rattle.vmx_shared_area.specs.declared.setup.Setup.{Setup}
pub use Rattle.vmx_filters.specs.declared.answer.Verdict.{Verdict}
pub use Rattle.vmx_filters.specs.declared.answer.Rule.{Rule}
pub use Rattle.vmx_model.specs.declared.deeds.Deed.{Deed}
pub use Rattle.vmx_model.specs.declared.deeds.Action.{Action}
pub use Rattle.vmx_model.specs.declared.guest.GuestPlan.{GuestPlan}
pub use Rattle.vmx_model.specs.declared.plan.Plan.{Plan}
pub use Rattle.vmx_model.specs.declared.sending.Sending.{Sending}
pub use Rattle.vmx_model.specs.declared.journal.Fate.{Fate}
pub use Rattle.vmx_model.specs.declared.journal.Way.{Way}
pub use Rattle.vmx_model.specs.declared.journal.Entry.{Entry}
pub use Rattle.vmx_model.specs.declared.journal.Journal.{Journal}
pub use Rattle.vmx_model.specs.declared.journal.Received.{Received}
