use Rattle.std.specs.Prelude.{option_map}
use Rattle.vmx_device_state.specs.Deals.{IsWhole}
use Rattle.vmx_machine_state.specs.Views.{ends_view, handed_of, ends_of}
use Rattle.vmx_machine_cases.proofs.asks_all.Given as goal

abbrev pub invariant-loop-number : goal.invariant-loop-number
invariant-loop-number g l = record { held : IsWhole (option_map handed_of (ends_of l.machine)); given : IsWhole (option_map handed_of (option_map (ends_view g.F.TxDevice.TxDevice.view g.F.RxDevice.RxDevice.view) l.bag.ends)) }
