use Rattle.std.proofs.Common.{◌≡◌, ℕ, length, arith, sym, ◌∙◌, length-set}
use Rattle.vmx_switch.specs.Ports.{is_target as is_target_of}
use Rattle.vmx_switch.specs.Ports.{target_ports}
use Rattle.vmx_switch.proofs.Steps.{passed_more, missed_more, rest_more, found_len}
use Rattle.vmx_switch.proofs.forwarding.targets.Goals as goal
use Rattle.vmx_switch.proofs.forwarding.targets.Goals.{then-is_target, else-is_target}

pub loop-port-preserved : goal.loop-port-preserved
loop-port-preserved c =
    let test : ℕ → _ = is_target_of c.args.table.now c.args.from c.args.frame.now in
    elim c.if-is_target.branch [
      | then-is_target w ↦ rw (w.ports-is, w.count-is) (record {
        long = length-set c.loop-port.ports c.loop-port.count c.loop-port.port ∙ c.loop-port.invariant.long;
        behind = omega arith;
        found = passed_more test c.loop-port.ports c.loop-port.count c.loop-port.port (omega arith) c.loop-port.invariant.found (sym c.is_target.ensures.target ∙ w.if-is_target.true);
        rest = rest_more c.loop-port.ports c.loop-port.count c.loop-port.port 16 c.loop-port.invariant.rest;
      })
      | else-is_target w ↦ rw (w.ports-is, w.count-is) (record {
        long = c.loop-port.invariant.long;
        behind = omega arith;
        found = c.loop-port.invariant.found ∙ sym (missed_more test c.loop-port.port (sym c.is_target.ensures.target ∙ w.if-is_target.false));
        rest = c.loop-port.invariant.rest;
      })
    ]

pub returns-clause-count : goal.returns-clause-count
unfolding target_ports
returns-clause-count c =
    let all : c.loop-port.port ≡ length c.args.table.now.macs = omega arith in
    found_len c.loop-port.ports _ c.loop-port.count (omega arith) (rw all at c.loop-port.invariant.found)
