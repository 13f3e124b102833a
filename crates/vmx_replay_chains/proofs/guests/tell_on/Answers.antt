use Rattle.vmx_replay_chains.proofs.Beside.{link_here, told_on}
use Rattle.vmx_replay_chains.proofs.guests.tell_on.Goals as goal

pub pass_link_on-requires-clause-link : goal.pass_link_on-requires-clause-link
pass_link_on-requires-clause-link g c κs within = link_here (λ x. x.driver) (λ x. x.device) c.args.from c.args.to c.args.guests.now c.requires.link

pub returns : goal.returns
returns g c = record { tells = told_on (λ x. x.driver) (λ x. x.device) c.args.from c.args.to c.args.guests.now c.pass_link_on.new.guests c.pass_link_on.ensures.passed c.pass_link_on.ensures.drivers }
