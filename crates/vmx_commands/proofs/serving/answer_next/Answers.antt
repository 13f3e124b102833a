use Rattle.vmx_regs.specs.Ends.{device_view}
use Rattle.vmx_machine_state.specs.Views.{ends_view}
use Rattle.vmx_commands.specs.Replies.{reply_is_owed, tracks_on}
use Rattle.vmx_commands.proofs.Served.{was_answered}
use Rattle.vmx_commands.proofs.serving.answer_next.Goals as goal

pub reply-requires-clause-lawful : goal.reply-requires-clause-lawful
reply-requires-clause-lawful g c κs within =
    reply_is_owed (ends_view g.F.TxDevice.TxDevice.view g.F.RxDevice.RxDevice.view) (device_view c.args.regs.now) (device_view c.poll.new.self) c.args.machine.now c.apply-value.new.self
    c.in-Command.number c.in-Command.bag c.apply-value.result.0 c.apply-value.result.1 c.in-Command.ensures.answer.0 c.requires.tracks
    (record { answer = c.apply-value.ensures.answer; state = c.apply-value.ensures.state; held = c.apply-value.ensures.held; ends = c.apply-value.ensures.ends; writes = c.apply-value.ensures.image; stays = c.apply-value.ensures.stays; tx_errors = c.apply-value.ensures.tx_errors; rx_errors = c.apply-value.ensures.rx_errors }) c.requires.whole

pub returns-in-Command-clause-tracks : goal.returns-in-Command-clause-tracks
returns-in-Command-clause-tracks g c =
    tracks_on (ends_view g.F.TxDevice.TxDevice.view g.F.RxDevice.RxDevice.view) (device_view c.args.regs.now) (device_view c.poll.new.self) c.args.machine.now c.apply-value.new.self
    c.in-Command.number c.in-Command.bag c.apply-value.result.0 c.apply-value.result.1 c.in-Command.ensures.answer.0 c.requires.tracks
    (record { answer = c.apply-value.ensures.answer; state = c.apply-value.ensures.state; held = c.apply-value.ensures.held; ends = c.apply-value.ensures.ends; writes = c.apply-value.ensures.image; stays = c.apply-value.ensures.stays; tx_errors = c.apply-value.ensures.tx_errors; rx_errors = c.apply-value.ensures.rx_errors }) (device_view c.reply.new.self) c.reply.ensures.view

pub returns-in-Command-clause-answered : goal.returns-in-Command-clause-answered
returns-in-Command-clause-answered g c =
    was_answered (ends_view g.F.TxDevice.TxDevice.view g.F.RxDevice.RxDevice.view) (device_view c.args.regs.now) (device_view c.poll.new.self) (device_view c.reply.new.self) c.args.machine.now c.apply-value.new.self
    c.in-Command.number c.in-Command.bag c.apply-value.result.0 c.apply-value.result.1 c.in-Command.ensures.answer.0 c.in-Command.ensures.answer.1 c.in-Command.ensures.answer.2 c.reply.ensures.view c.requires.tracks c.requires.whole
    (record { answer = c.apply-value.ensures.answer; state = c.apply-value.ensures.state; held = c.apply-value.ensures.held; ends = c.apply-value.ensures.ends; writes = c.apply-value.ensures.image; stays = c.apply-value.ensures.stays; tx_errors = c.apply-value.ensures.tx_errors; rx_errors = c.apply-value.ensures.rx_errors })

pub returns-in-Quiet-clause-answered : goal.returns-in-Quiet-clause-answered
returns-in-Quiet-clause-answered g c = record { word = c.in-Quiet.word; calls = c.in-Quiet.ensures.answer.0; shows = c.in-Quiet.ensures.answer.1; untold = c.in-Quiet.ensures.answer.2; machine = λ i. c.args.machine.now }
