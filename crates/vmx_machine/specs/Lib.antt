pub use Rattle.vmx_machine_state.specs.Views
pub use Rattle.vmx_machine_state.specs.States
pub use Rattle.vmx_machine_state.specs.Stopped
pub use Rattle.vmx_machine_state.specs.Statistics
pub use Rattle.vmx_machine_state.specs.Sums
pub use Rattle.vmx_machine_state.specs.Images
pub use Rattle.vmx_machine_state.specs.Ends
pub use Rattle.vmx_machine_state.specs.Readings
