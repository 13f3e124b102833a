use Rattle.std.proofs.Common.{ℕ, ◌+◌, ◌∷◌, [], true, false, arith, ap, sym, ◌∙◌}
use Rattle.vmx_regs.specs.Ends.{device_key, device_view, device_masks}
use Rattle.vmx_model.specs.declared.journal.Entry.{Entry}
use Rattle.vmx_model.specs.declared.journal.Entry.TheVariants as entry
use Rattle.vmx_model.specs.Lists.{count}
use Rattle.vmx_model.specs.Journal.{is_activation}
use Rattle.vmx_device.specs.Holds.{inner_view}
use Rattle.vmx_device_laws.proofs.CommandKeeps.{keeps_obeyed, few_setups, few_begun}
use Rattle.vmx_device_laws.proofs.Looked.{begun_more}
use Rattle.vmx_device_laws.proofs.Said.{sees_no_command, obeys}
use Rattle.vmx_device.proofs.looking.look_command.Goals as goal

pub answer_next-requires-clause-tracks : goal.answer_next-requires-clause-tracks
answer_next-requires-clause-tracks g c κs within = c.requires.holds.keeps.tracks

pub answer_next-requires-clause-none : goal.answer_next-requires-clause-none
answer_next-requires-clause-none g c κs within = c.requires.holds.keeps.serving

pub show_setup-setup-requires-clause-few : goal.show_setup-setup-requires-clause-few
show_setup-setup-requires-clause-few g c κs within = omega (arith, few_setups (inner_view c.args.inner.now) c.requires.holds.keeps, c.requires.few)

pub counted_on-inner-requires : goal.counted_on-inner-requires
counted_on-inner-requires g c = record { few = omega (arith, few_begun (inner_view c.args.inner.now) c.requires.holds.keeps, c.requires.holds.begun, c.requires.few) }

pub returns-in-None-clause-step : goal.returns-in-None-clause-step
returns-in-None-clause-step g c =
    sees_no_command (inner_view c.args.inner.now) c.answer_next.new.machine (device_key c.answer_next.new.regs) (device_view c.answer_next.new.regs) (device_masks c.answer_next.new.regs) c.in-None.ensures.answered c.answer_next.ensures.key c.answer_next.ensures.masks

pub returns-in-None-clause-holds : goal.returns-in-None-clause-holds
returns-in-None-clause-holds g c = record {
  keeps = keeps_obeyed (inner_view c.args.inner.now) _ c.requires.holds.keeps false
      (sees_no_command (inner_view c.args.inner.now) c.answer_next.new.machine (device_key c.answer_next.new.regs) (device_view c.answer_next.new.regs) (device_masks c.answer_next.new.regs) c.in-None.ensures.answered c.answer_next.ensures.key c.answer_next.ensures.masks);
  rooms = c.requires.holds.rooms;
  begun = c.requires.holds.begun;
}

pub returns-in-Some-clause-step : goal.returns-in-Some-clause-step
returns-in-Some-clause-step g c =
    obeys (inner_view c.args.inner.now) c.answer_next.new.machine (device_key c.answer_next.new.regs) (device_view c.answer_next.new.regs) (device_masks c.answer_next.new.regs) c.in-Some.answered.number c.in-Some.answered.value c.show_setup-setup.result c.show_setup-setup.new.setups.0 c.push.new.self.0
    c.in-Some.ensures.answered c.answer_next.ensures.tracks c.show_setup-setup.ensures.shows c.answer_next.ensures.key c.answer_next.ensures.masks c.push.ensures.items

pub returns-in-Some-clause-holds : goal.returns-in-Some-clause-holds
returns-in-Some-clause-holds g c =
    let told : Entry = entry.Setting c.in-Some.answered.number c.in-Some.answered.value c.show_setup-setup.result in record {
      keeps = keeps_obeyed (inner_view c.args.inner.now) _ c.requires.holds.keeps true
          (obeys (inner_view c.args.inner.now) c.answer_next.new.machine (device_key c.answer_next.new.regs) (device_view c.answer_next.new.regs) (device_masks c.answer_next.new.regs) c.in-Some.answered.number c.in-Some.answered.value c.show_setup-setup.result c.show_setup-setup.new.setups.0 c.push.new.self.0
          c.in-Some.ensures.answered c.answer_next.ensures.tracks c.show_setup-setup.ensures.shows c.answer_next.ensures.key c.answer_next.ensures.masks c.push.ensures.items);
      rooms = c.requires.holds.rooms;
      begun = c.counted_on-inner.ensures.counted c.show_setup-setup.result ∙ ap (λ (n : ℕ). n + count is_activation (told ∷ [])) c.requires.holds.begun ∙ sym (begun_more c.args.inner.now.journal.entries.0 told) ∙ ap (count is_activation) (sym c.push.ensures.items);
    }
