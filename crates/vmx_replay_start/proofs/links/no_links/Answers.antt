use Rattle.std.proofs.Common.{◌≡◌, ℕ, arith, subst}
use Rattle.vmx_replay_start.specs.Linking.{AreNone, links_view}
use Rattle.vmx_replay_start.proofs.Ends.{none_first, none_next}
use Rattle.vmx_replay_start.proofs.links.no_links.Goals as goal

pub loop-port-init : goal.loop-port-init
loop-port-init c = none_first c.new-out.result c.new-input.result c.new-out.ensures.empty c.new-input.ensures.empty

pub loop-port-preserved : goal.loop-port-preserved
loop-port-preserved c = let l = c.loop-port in
    none_next l._port l.out c.push.new.self l.input c.push-in-loop-port.new.self c.new.result c.new-in-loop-port.result l.invariant c.new.ensures.empty c.new-in-loop-port.ensures.empty c.in_ok-push.ensures.ok c.in_ok-push-2.ensures.ok

pub returns : goal.returns
returns c = let l = c.loop-port in let last : l._port ≡ c.args.ports = omega arith in record {
  none = subst (λ (n : ℕ). AreNone n (links_view (record { out = l.out; input = l.input }))) last l.invariant;
}
