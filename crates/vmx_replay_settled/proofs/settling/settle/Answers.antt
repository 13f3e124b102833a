use Rattle.vmx_replay_settled.proofs.Noted.{caught_up, paired_regs, paired_settled}
use Rattle.vmx_replay_settled.proofs.settling.settle.Goals as goal

pub pass_regs-requires-clause-pair : goal.pass_regs-requires-clause-pair
pass_regs-requires-clause-pair g c κs within = c.requires.pair.key

pub pass_where_alike-requires-clause-alike : goal.pass_where_alike-requires-clause-alike
pass_where_alike-requires-clause-alike g c κs within =
    caught_up c.args.guest.now.driver.driver c.args.guest.now.device c.pass_regs.new.guest.driver.driver c.pass_regs.new.guest.device c.pass_regs.ensures.passed

pub returns : goal.returns
returns g c =
    let v = c.args.guest.now.driver.driver in let d = c.args.guest.now.device in
    let told_v = c.pass_regs.new.guest.driver.driver in let told_d = c.pass_regs.new.guest.device in
    let regs = c.pass_regs.ensures.passed in let queues = c.pass_where_alike.ensures.passed in record {
      settles = record { told_v = told_v; told_d = told_d; regs = regs; queues = queues };
      pair = paired_settled told_v told_d c.pass_where_alike.new.guest.driver.driver c.pass_where_alike.new.guest.device queues (paired_regs v d told_v told_d regs c.requires.pair);
      keeps = c.keep.ensures.keeps;
    }
