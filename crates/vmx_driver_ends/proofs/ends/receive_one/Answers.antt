use Rattle.std.proofs.Common.{◌∙◌}
use Rattle.vmx_driver_ends.specs.PollOne.{found_frame, found_nothing}
use Rattle.vmx_driver_ends.proofs.ends.receive_one.Goals as goal

pub returns-in-Frame : goal.returns-in-Frame
returns-in-Frame g c = record {
  found = found_frame c.args.activation c.args.queue _ _ _ _ _ _ _ (c.of-in-Frame.ensures.bytes ∙ c.into_vec.ensures.bytes ∙ c.of.ensures.bytes) c.requires.full c.in-Frame.ensures.receives c.receive.ensures.grows;
}

pub returns-in-NotYet : goal.returns-in-NotYet
returns-in-NotYet g c = record { found = found_nothing _ _ c.in-NotYet.word c.in-NotYet.ensures.receives.1 }
