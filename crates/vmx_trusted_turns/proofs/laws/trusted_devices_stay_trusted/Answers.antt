use Rattle.std.proofs.Common.{ℕ, Bool, sym, ap, subst}
use Rattle.vmx_device_laws.specs.Views.{DeviceView, tx_held}
use Rattle.vmx_device_laws.specs.Steps.{TxSteps, TurnsOnce}
use Rattle.vmx_trusted_turns.specs.Trusted.{IsTrusted}
use Rattle.vmx_trusted_turns.proofs.Trust.{trusts_new, trusts_no_command, trusts_obeying, trusts_bells, trusts_packets}
use Rattle.vmx_trusted_turns.proofs.Looked.{looks_tx}
use Rattle.vmx_trusted_turns.proofs.laws.trusted_devices_stay_trusted.Goals as goal

turns : (worked : Bool) (d d' : DeviceView) (t : TurnsOnce worked d d') → IsTrusted t.asked.machine → IsTrusted d'.machine
turns worked d d' t h =
    let rung = trusts_bells t.asked t.rung t.bells h in
    let takes = subst (λ (n : ℕ). TxSteps n t.taken t.rung t.sent) (ap (λ (x : DeviceView). tx_held x.machine.active) (sym t.bells.2)) t.takes in
    trusts_packets _ t.pulled t.sent d' t.pulls (looks_tx t.taken t.rung t.sent takes rung).1

pub returns : goal.returns
returns c = record {
  new = trusts_new;
  none = trusts_no_command;
  obeys = trusts_obeying;
  bells = trusts_bells;
  frames = λ found d d' s t. (looks_tx found d d' s t).1;
  packets = trusts_packets;
  turn = turns;
}
