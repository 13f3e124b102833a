use Rattle.vmx_replay_calls.proofs.Followed.{stop_was, update_was, activation_was}
use Rattle.vmx_replay_calls.proofs.laws.a_command_is_done.Goals as goal

pub returns : goal.returns
returns c = record {
  stops = λ plan port number t rs ms rs' run keeps empty acts answers s. stop_was plan port rs ms rs' run keeps empty acts answers number t s;
  updates = λ plan port number rs ms rs' run keeps empty acts answers s. update_was plan port rs ms rs' run keeps empty acts answers number s;
  activates = activation_was;
}
