use Rattle.std.proofs.Common.{◌∙◌}
use Rattle.vmx_replay_guests.proofs.Ends.{below_length}
use Rattle.vmx_replay_guests.proofs.PassRx.{fits_device, heard_there, still_below, fits_driver, passed_rx}
use Rattle.vmx_replay_guests.proofs.queues.pass_rx.Goals as goal

pub note_rx-received-requires-clause-queue : goal.note_rx-received-requires-clause-queue
note_rx-received-requires-clause-queue g c κs within = below_length c.args.guest.now.driver.driver.rx c.args.queue c.requires.there.end c.requires.there.at

pub hear_rx-requires-clause-fits : goal.hear_rx-requires-clause-fits
hear_rx-requires-clause-fits g c κs within =
    fits_device c.args.queue c.args.guest.now.driver.driver c.args.guest.now.device c.requires.there (g.F.RxNote.RxNote.view c.note_rx-received.result) c.note_rx-received.new.self.driver c.note_rx-received.ensures.notes

pub note_rx-delivered-requires-clause-here : goal.note_rx-delivered-requires-clause-here
note_rx-delivered-requires-clause-here g c κs within =
    heard_there c.args.queue c.args.guest.now.driver.driver c.args.guest.now.device c.requires.there (g.F.RxNote.RxNote.view c.note_rx-received.result) c.note_rx-received.new.self.driver c.note_rx-received.ensures.notes c.hear_rx.new.self c.hear_rx.ensures.hears

pub hear_rx-requires-2-clause-queue : goal.hear_rx-requires-2-clause-queue
hear_rx-requires-2-clause-queue g c κs within =
    still_below c.args.queue c.args.guest.now.driver.driver c.args.guest.now.device c.requires.there (g.F.RxNote.RxNote.view c.note_rx-received.result) c.note_rx-received.new.self.driver c.note_rx-received.ensures.notes

pub hear_rx-requires-2-clause-fits : goal.hear_rx-requires-2-clause-fits
hear_rx-requires-2-clause-fits g c κs within =
    fits_driver c.args.queue c.args.guest.now.driver.driver c.args.guest.now.device c.requires.there (g.F.RxNote.RxNote.view c.note_rx-received.result) c.note_rx-received.new.self.driver c.note_rx-received.ensures.notes c.hear_rx.new.self c.hear_rx.ensures.hears
    (g.F.RxNote.RxNote.view c.note_rx-delivered.result) c.note_rx-delivered.new.self c.note_rx-delivered.ensures.notes

pub returns : goal.returns
returns g c = let a = c.note_rx-received.ensures.room in let b = c.hear_rx-2.ensures.room in record {
  passed = passed_rx c.args.queue c.args.guest.now.driver.driver c.args.guest.now.device c.requires.there (g.F.RxNote.RxNote.view c.note_rx-received.result) c.note_rx-received.new.self.driver c.note_rx-received.ensures.notes c.hear_rx.new.self c.hear_rx.ensures.hears
      (g.F.RxNote.RxNote.view c.note_rx-delivered.result) c.note_rx-delivered.new.self c.note_rx-delivered.ensures.notes c.hear_rx-2.new.self.driver c.hear_rx-2.ensures.hears c.hear_rx.ensures.kept c.note_rx-delivered.ensures.kept;
  room = (b.0 ∙ a.0, b.1 ∙ a.1, b.2 ∙ a.2, b.3 ∙ a.3);
}
