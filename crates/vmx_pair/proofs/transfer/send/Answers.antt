use Rattle.std.proofs.Common.{◌≡◌, [], ◌∙◌, arith}
use Rattle.std.proofs.lemmas.Grind.{common_steps}
use Rattle.vmx_pair_plan.proofs.Verdicts.{fates_by_length, sent_by_length}
use Rattle.vmx_pair.proofs.Fates.{all_told, all_sent}
use Rattle.vmx_pair.proofs.transfer.send.Goals as goal

pub returns-clause-fates : goal.returns-clause-fates
returns-clause-fates c =
    let done : c.loop-stamped.waiting.items ≡ [] = grind (arith, common_steps) in
    all_told c.args.sender.setup.mtu c.loop-stamped.place c.loop-stamped.waiting.items c.loop-stamped.fates.items _ c.loop-stamped.invariant.0 done
    ∙ fates_by_length c.args.sender c.requires.plain

pub returns-clause-queue : goal.returns-clause-queue
returns-clause-queue c =
    let done : c.loop-stamped.waiting.items ≡ [] = grind (arith, common_steps) in
    all_sent c.args.sender.setup.mtu c.loop-stamped.waiting.items c.loop-stamped.queue.items _ c.loop-stamped.invariant.1 done
    ∙ sent_by_length c.args.sender c.requires.plain
