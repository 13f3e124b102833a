use Rattle.std.proofs.Common.{refl, ◌∙◌}
use Rattle.vmx_replay_start.proofs.Ends.{taken_ends}
use Rattle.vmx_replay_start.proofs.links.take_ends.Goals as goal

pub returns : goal.returns
returns c = let a = c.args in record {
  taken = taken_ends a.links.now a.port a.port c.at_mut.result.now c.replace-out.new.dest c.at_mut-2.result.now c.replace-input.new.dest c.requires.out c.requires.input c.at_mut.ensures.value c.at_mut-2.ensures.value c.replace-out.result c.replace-input.result refl c.replace-out.ensures.value c.replace-input.ensures.value (c.replace-out.ensures.after ∙ c.new.ensures.empty) (c.replace-input.ensures.after ∙ c.new-2.ensures.empty);
}
