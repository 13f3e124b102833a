use Rattle.vmx_replay_worlds.proofs.Linked.{has_links, links_bare, lies_between, link_is, others_are}
use Rattle.vmx_replay_worlds.proofs.laws.a_guest_has_its_links.Goals as goal

pub returns : goal.returns
returns c = record { links = has_links; bare = links_bare; between = lies_between; number = link_is; others = others_are }
