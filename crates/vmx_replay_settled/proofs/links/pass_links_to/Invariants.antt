use Rattle.std.proofs.Common.{◌≡◌, length, map}
use Rattle.vmx_replay_settled.specs.Linked.{HasLinksIn, LinksPassedFrom}
use Rattle.vmx_replay_settled.proofs.links.pass_links_to.Given as goal

abbrev pub invariant-loop-from : goal.invariant-loop-from
invariant-loop-from g l = record {
  count : l.count ≡ length l.fn.guests;
  passed : LinksPassedFrom l.from l.to (map (λ x. x.device) l.fn.guests) (map (λ x. x.device) l.guests);
  links : HasLinksIn l.to (map (λ x. x.device) l.guests);
  long : length l.guests ≡ length l.fn.guests;
  drivers : map (λ x. x.driver) l.guests ≡ map (λ x. x.driver) l.fn.guests;
}
