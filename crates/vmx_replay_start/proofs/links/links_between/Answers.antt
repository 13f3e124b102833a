use Rattle.std.proofs.Common.{◌≡◌, ℕ, arith, subst}
use Rattle.std.proofs.lemmas.List.{length-map}
use Rattle.vmx_replay_start.specs.Linking.{links_view, outs_view, ins_view}
use Rattle.vmx_replay_start.proofs.Joining.{LinkedTo, linked_none, linked_step, linked_next, linked_all}
use Rattle.vmx_replay_start.proofs.links.links_between.Goals as goal

pub loop-from-init : goal.loop-from-init
loop-from-init c = linked_none c.args.ports (links_view c.in_ok-links.links) c.in_ok-links.ensures.none

pub join_if_other-requires : goal.join_if_other-requires
join_if_other-requires c =
    let l = c.loop-to in let outs = l.invariant.count.0 in let ins = l.invariant.count.1 in let out = length-map l.links.out outs_view in let input = length-map l.links.input ins_view in
    let from = c.loop-from-test.true in let to = c.loop-to-test.true in record { from = omega (arith, from, outs, out); to = omega (arith, to, ins, input) }

pub loop-to-preserved : goal.loop-to-preserved
loop-to-preserved c = linked_step c.args.ports c.loop-from.from c.loop-to.to (links_view c.loop-to.links) (links_view c.join_if_other.new.links) c.loop-to.invariant c.in_ok-join_if_other.ensures.joined

pub loop-from-preserved : goal.loop-from-preserved
loop-from-preserved c =
    let n = c.args.ports in let l = c.loop-to in let last : l.to ≡ n = omega arith in
    linked_next n c.loop-from.from (links_view l.links) (subst (λ (t : ℕ). LinkedTo n c.loop-from.from t (links_view l.links)) last l.invariant)

pub returns : goal.returns
returns c =
    let n = c.args.ports in let l = c.loop-from in let last : l.from ≡ n = omega arith in
    record { linked = linked_all n (links_view l.links) (subst (λ (f : ℕ). LinkedTo n f 0 (links_view l.links)) last l.invariant) }
