use Rattle.std.proofs.Common.{◌≡◌, true, [], ◌∷◌, ◌++◌, refl, sym, ap, ◌∙◌}
use Rattle.vmx_replay_settled.proofs.Keys.{acts_key}
use Rattle.vmx_replay_chains.specs.Chains.{is_meeting, due_now}
use Rattle.vmx_replay_chains.proofs.Following.{more_met, acts_less}
use Rattle.vmx_replay_chains.proofs.commands.meet_all.Goals as goal

pub loop-guest-init : goal.loop-guest-init
loop-guest-init g c = record { meets = ([], refl); few = c.keep.ensures.keeps.few; paired = c.requires.pair; device = refl }

pub act-requires-clause-even : goal.act-requires-clause-even
act-requires-clause-even g c κs within = c.loop-guest.invariant.paired.even

pub loop-guest-preserved : goal.loop-guest-preserved
loop-guest-preserved g c =
    let inv = c.loop-guest.invariant in let m = c.loop-guest.guest.driver.driver in let w = c.act.new.self.driver in let acts = c.in_ok-act.ensures.acts in let keeps = c.keep-in-loop-guest.ensures.keeps in
    let on : is_meeting (due_now m) ≡ true = ap is_meeting (sym c.due.ensures.due) ∙ sym c.is_meeting.ensures.meeting ∙ c.loop-guest-test.true in record {
      meets = (inv.meets.0 ++ w ∷ [], more_met c.args.guest.now.driver.driver inv.meets.0 m w inv.meets.1 on _ acts keeps.driver);
      few = keeps.few;
      paired = record { key = acts_key m _ w acts ∙ inv.paired.key; even = c.act.ensures.even; whole = inv.paired.whole };
      device = inv.device;
    }

pub loop-guest-smaller : goal.loop-guest-smaller
loop-guest-smaller g c =
    let inv = c.loop-guest.invariant in let m = c.loop-guest.guest.driver.driver in let w = c.act.new.self.driver in
    let on : is_meeting (due_now m) ≡ true = ap is_meeting (sym c.due.ensures.due) ∙ sym c.is_meeting.ensures.meeting ∙ c.loop-guest-test.true in
    acts_less m w inv.few c.keep-in-loop-guest.ensures.keeps.few _ on c.in_ok-act.ensures.acts
