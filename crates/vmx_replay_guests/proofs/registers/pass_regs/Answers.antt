use Rattle.std.proofs.Common.{ap, sym, ◌∙◌}
use Rattle.vmx_regs.specs.declared.known.Calls.{Calls}
use Rattle.vmx_regs.specs.Ends.{note_view, note_masks}
use Rattle.vmx_device_laws.specs.Views.{DeviceView}
use Rattle.vmx_driver_steps.specs.Driver.{DriverView}
use Rattle.vmx_replay_guests.proofs.PassRegs.{regs_passed}
use Rattle.vmx_replay_guests.proofs.registers.pass_regs.Goals as goal

pub hear_regs-requires-clause-pair : goal.hear_regs-requires-clause-pair
hear_regs-requires-clause-pair g c κs within = c.note_regs-sent.ensures.key ∙ c.requires.pair

pub hear_regs-requires-clause-driver : goal.hear_regs-requires-clause-driver
hear_regs-requires-clause-driver g c κs within = (ap (λ (v : Calls). v.tells_commands) c.note_regs-sent.ensures.told, ap (λ (v : Calls). v.tells_served) c.note_regs-sent.ensures.told)

pub hear_regs-requires-2-clause-pair : goal.hear_regs-requires-2-clause-pair
hear_regs-requires-2-clause-pair g c κs within =
    c.note_regs-served.ensures.key ∙ ap (λ (d : DeviceView). d.key) c.hear_regs.ensures.heard ∙ sym c.requires.pair ∙ sym (ap (λ (v : DriverView). v.key) c.note_regs-sent.ensures.notes)

pub hear_regs-requires-2-clause-device : goal.hear_regs-requires-2-clause-device
hear_regs-requires-2-clause-device g c κs within = (ap (λ (v : Calls). v.tells_served) c.note_regs-served.ensures.told, ap (λ (v : Calls). v.tells_commands) c.note_regs-served.ensures.told)

pub returns : goal.returns
returns g c = let a = c.note_regs-sent.ensures.room in let b = c.hear_regs-2.ensures.room in record {
  passed = regs_passed c.args.guest.now.driver.driver c.note_regs-sent.new.self.driver c.hear_regs-2.new.self.driver c.args.guest.now.device c.hear_regs.new.self c.note_regs-served.new.self
      (note_view c.note_regs-sent.result) (note_view c.note_regs-served.result) (note_masks c.note_regs-sent.result)
      c.note_regs-sent.ensures.notes c.note_regs-sent.ensures.told c.note_regs-sent.ensures.told_masks c.hear_regs.ensures.heard c.hear_regs.ensures.knows
      c.note_regs-served.ensures.note c.note_regs-served.ensures.told c.hear_regs-2.ensures.hears c.hear_regs-2.ensures.knows;
  room = (b.0 ∙ a.0, b.1 ∙ a.1, b.2 ∙ a.2, b.3 ∙ a.3);
}
