use Rattle.vmx_replay_chains.proofs.Beside.{links_here, told_all}
use Rattle.vmx_replay_chains.proofs.guests.tell_all.Goals as goal

pub pass_links_to-requires-clause-links : goal.pass_links_to-requires-clause-links
pass_links_to-requires-clause-links g c κs within = links_here (λ x. x.driver) (λ x. x.device) c.args.to c.args.guests.now c.requires.links

pub returns : goal.returns
returns g c = record { tells = told_all (λ x. x.driver) (λ x. x.device) c.args.to c.args.guests.now c.pass_links_to.new.guests c.pass_links_to.ensures.passed c.pass_links_to.ensures.drivers }
