-- A frame that is sent may be posted.
use Rattle.std.proofs.Common.{◌≡◌, ℕ, ◌+◌, ◌≤◌, Bool, true, false, ◌&&◌, not, List, length, arith, if◌then◌else◌}
use Rattle.std.proofs.lemmas.Bool.{and_parts, leb-true}
use Rattle.std.specs.Prelude.{is_some}
use Rattle.vmx_frame.specs.Ethernet.{is_tagged}
use Rattle.vmx_ends.specs.declared.meta.TxMark.{TxMark}
use Rattle.vmx_ends.specs.Frames.{IsMarked}
use Rattle.vmx_model.specs.declared.guest.GuestPlan.{GuestPlan}
use Rattle.vmx_model.specs.Wire.{wire_length}
use Rattle.vmx_driver_steps.specs.Progress.{is_sendable}

longer_wire : (b : Bool) (n : ℕ) → n ≤ n + (if b then 4 else 0)
longer_wire true n = omega arith
longer_wire false n = omega arith

pub may_post : (p : GuestPlan) (frame : List ℕ) (mark : TxMark) → is_sendable p frame ≡ true → IsMarked frame mark
may_post p frame mark e =
    let two = and_parts _ _ e in let low = leb-true _ _ two.0 in let high = leb-true _ _ two.1 in
    let wire = wire_length p frame low in let more = longer_wire (is_some p.vlan && not (is_tagged frame)) (length frame) in let mtu = p.setup.mtu_high in
    ((low, omega (arith, high, wire, more, mtu)), λ _. omega (arith, high, wire, more, mtu))
