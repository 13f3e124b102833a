use Rattle.vmx_replay_calls.proofs.Wired.{link_on, links_in}
use Rattle.vmx_replay_calls.proofs.laws.a_run_has_its_links.Goals as goal

pub returns : goal.returns
returns c = record { link = link_on; links = links_in }
