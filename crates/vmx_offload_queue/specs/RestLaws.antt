-- Two new ends of a queue are at rest.
use Rattle.std.proofs.Common.{ℕ, List, refl, sym, subst, arith}
use Rattle.vmx_ends.specs.declared.made.TxMade.{TxMade}
use Rattle.vmx_ends.specs.Transmit.{TxDriverView, TxDeviceView}
use Rattle.vmx_ends.specs.TransmitClauses.{new_driver, new_device, AreNew}
use Rattle.vmx_offload_queue.specs.Rest.{AreAtRest}

at_rest : (key : List ℕ) (m : TxMade) → AreAtRest (new_driver key m) (new_device key m)
at_rest key m = record { one = refl; caught_up = (refl, refl, refl); even = (refl, refl); posted_few = omega arith; found_few = omega arith }

pub new_at_rest : (m : TxMade) (d : TxDriverView) (e : TxDeviceView) → AreNew m d e → AreAtRest d e
new_at_rest m d e new =
    subst (λ (x : TxDriverView). AreAtRest x e) (sym new.0) (subst (λ (y : TxDeviceView). AreAtRest (new_driver e.key m) y) (sym new.1) (at_rest e.key m))
