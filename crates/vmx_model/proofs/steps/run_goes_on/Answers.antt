use Rattle.vmx_model.specs.SerialSteps.{turns_more, rounds_more}
use Rattle.vmx_model.specs.PollSteps.{emptied_poll, emptied_stays, drained_poll, poll_less}
use Rattle.vmx_model.proofs.steps.run_goes_on.Goals as goal

pub returns : goal.returns
returns c = record { turns = turns_more; rounds = rounds_more; emptied = emptied_poll; emptied_stays = emptied_stays; less = λ a s. poll_less a s.rx; polls = drained_poll }
