use Rattle.std.proofs.Common.{refl, sym, ◌∙◌, arith}
use Rattle.std.proofs.lemmas.List.{length-map}
use Rattle.vmx_replay_settled.proofs.LinkByLink.{links_after, long_after, one_port_more}
use Rattle.vmx_replay_settled.proofs.links.pass_links_to.Goals as goal

pub loop-from-init : goal.loop-from-init
loop-from-init g c = record { count = c.len-count.ensures.len; passed = refl; links = c.requires.links; long = refl; drivers = refl }

pub pass_if_other-requires-clause-link : goal.pass_if_other-requires-clause-link
pass_if_other-requires-clause-link g c κs within ne =
    let inv = c.loop-from.invariant in let below = c.loop-from-test.true in let count = inv.count in let long = inv.long in let many = length-map c.loop-from.guests (λ x. x.device) in
    inv.links c.loop-from.from (omega (arith, below, count, long, many)) ne

pub loop-from-preserved : goal.loop-from-preserved
loop-from-preserved g c =
    let inv = c.loop-from.invariant in let more = c.pass_if_other.ensures in let n = c.loop-from.from in let to = c.args.to in record {
      count = inv.count;
      passed = one_port_more n to _ _ _ inv.passed more.passed;
      links = links_after n to _ _ more.passed inv.links;
      long = sym (length-map c.pass_if_other.new.guests (λ x. x.device)) ∙ long_after n to _ _ more.passed ∙ length-map c.loop-from.guests (λ x. x.device) ∙ inv.long;
      drivers = more.drivers ∙ inv.drivers;
    }
