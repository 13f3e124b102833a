use Rattle.std.proofs.Common.{ℕ, arith, ap, sym, ◌∙◌, subst}
use Rattle.std.specs.Prelude.{◌||◌}
use Rattle.std.proofs.lemmas.List.{length-map}
use Rattle.vmx_link.specs.Ends.{in_view}
use Rattle.vmx_device_laws.specs.Views.{DeviceView, tx_held}
use Rattle.vmx_device_laws.specs.Steps.{TxSteps, InSteps}
use Rattle.vmx_device.specs.Holds.{inner_view}
use Rattle.vmx_device.proofs.Rooms.{room_then}
use Rattle.vmx_device_laws.proofs.Wholes.{whole_bells, whole_tx_steps, whole_in_steps}
use Rattle.vmx_device.proofs.looking.look_at_all.Goals as goal

pub look_at_queues-taken-requires-clause-few : goal.look_at_queues-taken-requires-clause-few
look_at_queues-taken-requires-clause-few g c κs within = omega (arith, c.look_command-answered.ensures.room.most, c.look_at_bells.ensures.room.most, c.requires.few.0)

pub look_at_queues-taken-requires-clause-room : goal.look_at_queues-taken-requires-clause-room
look_at_queues-taken-requires-clause-room g c κs within = (
  omega (arith, c.look_command-answered.ensures.room.entries_, c.look_at_bells.ensures.room.entries_, c.requires.room.0),
  omega (arith, c.look_command-answered.ensures.room.copies_, c.look_at_bells.ensures.room.copies_, c.requires.room.2),
)

pub look_at_links-pulled-requires-clause-few : goal.look_at_links-pulled-requires-clause-few
look_at_links-pulled-requires-clause-few g c κs within =
    omega (arith, c.look_command-answered.ensures.room.most, c.look_at_bells.ensures.room.most, c.look_at_queues-taken.ensures.room.most, c.requires.few.0)

pub look_at_links-pulled-requires-clause-room : goal.look_at_links-pulled-requires-clause-room
look_at_links-pulled-requires-clause-room g c κs within =
    omega (arith, c.look_command-answered.ensures.room.entries_, c.look_at_bells.ensures.room.entries_, c.look_at_queues-taken.ensures.room.entries_, c.requires.room.0)

pub returns-clause-once : goal.returns-clause-once
returns-clause-once g c =
    let asked : DeviceView = inner_view c.look_command-answered.new.inner in
    let rung : DeviceView = inner_view c.look_at_bells.new.inner in
    let sent : DeviceView = inner_view c.look_at_queues-taken.new.inner in record {
      answered = c.look_command-answered.result;
      asked = asked;
      command = c.look_command-answered.ensures.step;
      rung = rung;
      bells = c.look_at_bells.ensures.step;
      taken = c.look_at_queues-taken.result;
      sent = sent;
      takes = subst (λ (n : ℕ). TxSteps n c.look_at_queues-taken.result rung sent) (ap (λ (x : DeviceView). tx_held x.machine.active) c.look_at_bells.ensures.step.2) c.look_at_queues-taken.ensures.steps;
      pulled = c.look_at_links-pulled.result;
      pulls = subst (λ (n : ℕ). InSteps n c.look_at_links-pulled.result sent (inner_view c.look_at_links-pulled.new.inner)) (sym (length-map c.look_at_queues-taken.new.inner.input in_view)) c.look_at_links-pulled.ensures.steps;
      found = c.either-2.ensures.either ∙ ap (λ b. c.look_command-answered.result || b) c.either.ensures.either;
    }

pub returns-clause-whole : goal.returns-clause-whole
returns-clause-whole g c =
    let sent : DeviceView = inner_view c.look_at_queues-taken.new.inner in
    whole_in_steps _ c.look_at_links-pulled.result sent (inner_view c.look_at_links-pulled.new.inner) c.look_at_links-pulled.ensures.steps
    (whole_tx_steps _ c.look_at_queues-taken.result (inner_view c.look_at_bells.new.inner) sent c.look_at_queues-taken.ensures.steps
    (whole_bells (inner_view c.look_command-answered.new.inner) (inner_view c.look_at_bells.new.inner) c.look_at_bells.ensures.step c.look_command-answered.ensures.whole))

pub returns-clause-room : goal.returns-clause-room
returns-clause-room g c =
    let asked = c.look_command-answered.new.inner in
    let rung = c.look_at_bells.new.inner in
    let sent = c.look_at_queues-taken.new.inner in
    room_then 129 1 128 15 0 0 144 1 128 c.args.inner.now sent c.look_at_links-pulled.new.inner
    (room_then 1 1 0 128 0 128 129 1 128 c.args.inner.now rung sent (room_then 1 1 0 0 0 0 1 1 0 c.args.inner.now asked rung c.look_command-answered.ensures.room c.look_at_bells.ensures.room (omega arith) (omega arith) (omega arith)) c.look_at_queues-taken.ensures.room (omega arith) (omega arith) (omega arith))
    c.look_at_links-pulled.ensures.room (omega arith) (omega arith) (omega arith)
