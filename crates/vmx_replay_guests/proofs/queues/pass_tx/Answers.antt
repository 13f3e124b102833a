use Rattle.std.proofs.Common.{◌∙◌}
use Rattle.vmx_replay_guests.proofs.Ends.{below_length}
use Rattle.vmx_replay_guests.proofs.PassTx.{fits_device, heard_there, still_below, fits_driver, passed_tx}
use Rattle.vmx_replay_guests.proofs.queues.pass_tx.Goals as goal

pub note_tx-sent-requires-clause-queue : goal.note_tx-sent-requires-clause-queue
note_tx-sent-requires-clause-queue g c κs within = below_length c.args.guest.now.driver.driver.tx c.args.queue c.requires.there.end c.requires.there.at

pub hear_tx-requires-clause-fits : goal.hear_tx-requires-clause-fits
hear_tx-requires-clause-fits g c κs within =
    fits_device c.args.queue c.args.guest.now.driver.driver c.args.guest.now.device c.requires.there (g.F.TxNote.TxNote.view c.note_tx-sent.result) c.note_tx-sent.new.self.driver c.note_tx-sent.ensures.notes

pub note_tx-taken-requires-clause-here : goal.note_tx-taken-requires-clause-here
note_tx-taken-requires-clause-here g c κs within =
    heard_there c.args.queue c.args.guest.now.driver.driver c.args.guest.now.device c.requires.there (g.F.TxNote.TxNote.view c.note_tx-sent.result) c.note_tx-sent.new.self.driver c.note_tx-sent.ensures.notes c.hear_tx.new.self c.hear_tx.ensures.hears

pub hear_tx-requires-2-clause-queue : goal.hear_tx-requires-2-clause-queue
hear_tx-requires-2-clause-queue g c κs within =
    still_below c.args.queue c.args.guest.now.driver.driver c.args.guest.now.device c.requires.there (g.F.TxNote.TxNote.view c.note_tx-sent.result) c.note_tx-sent.new.self.driver c.note_tx-sent.ensures.notes

pub hear_tx-requires-2-clause-fits : goal.hear_tx-requires-2-clause-fits
hear_tx-requires-2-clause-fits g c κs within =
    fits_driver c.args.queue c.args.guest.now.driver.driver c.args.guest.now.device c.requires.there (g.F.TxNote.TxNote.view c.note_tx-sent.result) c.note_tx-sent.new.self.driver c.note_tx-sent.ensures.notes c.hear_tx.new.self c.hear_tx.ensures.hears
    (g.F.TxNote.TxNote.view c.note_tx-taken.result) c.note_tx-taken.new.self c.note_tx-taken.ensures.notes

pub returns : goal.returns
returns g c = let a = c.note_tx-sent.ensures.room in let b = c.hear_tx-2.ensures.room in record {
  passed = passed_tx c.args.queue c.args.guest.now.driver.driver c.args.guest.now.device c.requires.there (g.F.TxNote.TxNote.view c.note_tx-sent.result) c.note_tx-sent.new.self.driver c.note_tx-sent.ensures.notes c.hear_tx.new.self c.hear_tx.ensures.hears
      (g.F.TxNote.TxNote.view c.note_tx-taken.result) c.note_tx-taken.new.self c.note_tx-taken.ensures.notes c.hear_tx-2.new.self.driver c.hear_tx-2.ensures.hears c.hear_tx.ensures.kept c.note_tx-taken.ensures.kept;
  room = (b.0 ∙ a.0, b.1 ∙ a.1, b.2 ∙ a.2, b.3 ∙ a.3);
}
