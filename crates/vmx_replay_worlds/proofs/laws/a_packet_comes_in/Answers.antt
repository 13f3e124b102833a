use Rattle.vmx_replay_worlds.proofs.In.{next_is, none_is, takes_is}
use Rattle.vmx_replay_worlds.proofs.laws.a_packet_comes_in.Goals as goal

pub returns : goal.returns
returns c = record { next = next_is; none = none_is; takes = takes_is }
