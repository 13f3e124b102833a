use Rattle.std.proofs.Common.{◌^◌, ◌-◌, map, true, false, arith, ap, sym, refl, ◌∙◌, subst, inl, inr}
use Rattle.std.specs.Prelude.{is_some}
use Rattle.vmx_shared_area.specs.declared.stats.Side.TheVariants.{Tx}
use Rattle.vmx_link.specs.Ends.{out_view}
use Rattle.vmx_ends.specs.Frames.{IsFrame}
use Rattle.vmx_regs.specs.Ends.{device_key, device_view, device_masks}
use Rattle.vmx_machine_state.specs.Stopped.{error_on, error_of, after_stop}
use Rattle.vmx_model.specs.Lists.{count}
use Rattle.vmx_model.specs.Journal.{is_activation}
use Rattle.vmx_switch.specs.Ports.{target_ports}
use Rattle.vmx_device.specs.Holds.{inner_view}
use Rattle.vmx_device.proofs.HeldEnds.{in_use}
use Rattle.vmx_device_laws.proofs.Looked.{none_of, there_of}
use Rattle.vmx_device_laws.proofs.Said.{switches, stops}
use Rattle.vmx_device_laws.proofs.Sends.{frame_puts, sending, activations_stay}
use Rattle.vmx_device_laws.proofs.Pushes.{are_few}
use Rattle.vmx_device_laws.proofs.TxKeeps.{keeps_tx, may_take, has_begun, few_tx, tx_low, event_low}
use Rattle.vmx_device.proofs.looking.look_tx.Goals as goal

pub stopped-requires-clause-queue : goal.stopped-requires-clause-queue
stopped-requires-clause-queue g c κs within = few_tx (inner_view c.args.inner.now) c.requires.holds.keeps c.args.queue c.requires.queue

pub take_from-requires-clause-ready : goal.take_from-requires-clause-ready
take_from-requires-clause-ready g c κs within = may_take (inner_view c.args.inner.now) c.requires.holds.keeps c.args.queue c.requires.queue c.requires.few

pub count-requires-clause-queue : goal.count-requires-clause-queue
count-requires-clause-queue g c κs within = few_tx (inner_view c.args.inner.now) c.requires.holds.keeps c.args.queue c.requires.queue

pub stop-requires-clause-queue : goal.stop-requires-clause-queue
stop-requires-clause-queue g c κs within =
    let found = c.in-Bad.ensures.found in in_use (inner_view c.args.inner.now) c.requires.holds.keeps found.here.active found.here.is_active c.args.queue c.requires.queue _ c.take_from.new.machine c.count.new.self found.is c.count.ensures.counted

pub alarm-requires-clause-low : goal.alarm-requires-clause-low
alarm-requires-clause-low g c κs within =
    let here = c.in-Bad.ensures.found.here in
    let low = event_low (inner_view c.args.inner.now) c.requires.holds.keeps here.active here.is_active in
    omega (arith, low, c.event_interrupt-event.ensures.event here.active here.is_active)

pub signal-requires-clause-low : goal.signal-requires-clause-low
signal-requires-clause-low g c κs within = tx_low (inner_view c.args.inner.now) c.requires.holds.keeps c.args.queue c.requires.queue

pub tag_in-requires-clause-frame : goal.tag_in-requires-clause-frame
tag_in-requires-clause-frame g c = c.in-Frame.ensures.found.takes.frame.0

pub tag_in-requires-clause-fits : goal.tag_in-requires-clause-fits
tag_in-requires-clause-fits g c = c.in-Frame.ensures.found.takes.frame.1

pub overflow_sub-tag : goal.overflow_sub-tag
overflow_sub-tag g c = omega (arith, c.requires.holds.begun, has_begun (inner_view c.args.inner.now) c.requires.holds.keeps c.args.queue c.requires.queue)

pub spread-some-requires-clause-frame : goal.spread-some-requires-clause-frame
spread-some-requires-clause-frame g c = subst IsFrame (sym c.as_slice.ensures.value) c.tag_in.ensures.frame

pub spread-some-requires-clause-few : goal.spread-some-requires-clause-few
spread-some-requires-clause-few g c = are_few c.args.inner.now.port c.args.inner.now.journal.entries.0 (map out_view c.args.inner.now.out) (2 ^ 61) (omega (arith, c.requires.few)) c.requires.holds.keeps.out

pub count_taken-requires-clause-queue : goal.count_taken-requires-clause-queue
count_taken-requires-clause-queue g c κs within = few_tx (inner_view c.args.inner.now) c.requires.holds.keeps c.args.queue c.requires.queue

pub count_taken-requires-clause-frame : goal.count_taken-requires-clause-frame
count_taken-requires-clause-frame g c κs within = subst IsFrame (sym c.as_slice-in-Frame.ensures.value) c.tag_in.ensures.frame

pub returns-then-is_some-clause-step : goal.returns-then-is_some-clause-step
returns-then-is_some-clause-step g c =
    let there = there_of (error_on Tx c.args.inner.now.machine c.args.queue) (ap is_some (sym c.stopped.ensures.stopped) ∙ sym c.is_some.ensures ∙ c.if-is_some.true) in inl (record { error = there.0; stopped = there.1; is = refl })

pub returns-in-Nothing-clause-step : goal.returns-in-Nothing-clause-step
returns-in-Nothing-clause-step g c = (inr (record { unstopped = (none_of (error_on Tx c.args.inner.now.machine c.args.queue) (ap is_some (sym c.stopped.ensures.stopped) ∙ sym c.is_some.ensures ∙ c.if-is_some.false)); machine = c.take_from.new.machine; takes = c.in-Nothing.ensures.found; is = refl }))

pub returns-in-Nothing-clause-holds : goal.returns-in-Nothing-clause-holds
returns-in-Nothing-clause-holds g c = record {
  keeps = keeps_tx (inner_view c.args.inner.now) _ c.requires.holds.keeps c.args.queue false c.requires.queue (inr (record { unstopped = (none_of (error_on Tx c.args.inner.now.machine c.args.queue) (ap is_some (sym c.stopped.ensures.stopped) ∙ sym c.is_some.ensures ∙ c.if-is_some.false)); machine = c.take_from.new.machine; takes = c.in-Nothing.ensures.found; is = refl }));
  rooms = (c.take_from.ensures.room, c.requires.holds.rooms.1);
  begun = c.requires.holds.begun;
}

pub returns-in-Bad-clause-step : goal.returns-in-Bad-clause-step
returns-in-Bad-clause-step g c = (inr (stops (inner_view c.args.inner.now) c.stop.new.self (device_key c.alarm.new.regs) (device_view c.alarm.new.regs) (device_masks c.alarm.new.regs) c.args.queue c.in-Bad.fault c.take_from.new.machine c.auto_mask-auto.result c.event_interrupt-event.result
    (none_of (error_on Tx c.args.inner.now.machine c.args.queue) (ap is_some (sym c.stopped.ensures.stopped) ∙ sym c.is_some.ensures ∙ c.if-is_some.false)) c.in-Bad.ensures.found c.auto_mask-auto.ensures.auto c.event_interrupt-event.ensures.event c.alarm.ensures.alarms (c.stop.ensures.stopped ∙ ap (after_stop Tx c.args.queue (error_of c.in-Bad.fault)) c.count.ensures.counted) c.alarm.ensures.key c.alarm.ensures.calls))

pub returns-in-Bad-clause-holds : goal.returns-in-Bad-clause-holds
returns-in-Bad-clause-holds g c = record {
  keeps = keeps_tx (inner_view c.args.inner.now) _ c.requires.holds.keeps c.args.queue true c.requires.queue (inr (stops (inner_view c.args.inner.now) c.stop.new.self (device_key c.alarm.new.regs) (device_view c.alarm.new.regs) (device_masks c.alarm.new.regs) c.args.queue c.in-Bad.fault c.take_from.new.machine c.auto_mask-auto.result c.event_interrupt-event.result
      (none_of (error_on Tx c.args.inner.now.machine c.args.queue) (ap is_some (sym c.stopped.ensures.stopped) ∙ sym c.is_some.ensures ∙ c.if-is_some.false)) c.in-Bad.ensures.found c.auto_mask-auto.ensures.auto c.event_interrupt-event.ensures.event c.alarm.ensures.alarms (c.stop.ensures.stopped ∙ ap (after_stop Tx c.args.queue (error_of c.in-Bad.fault)) c.count.ensures.counted) c.alarm.ensures.key c.alarm.ensures.calls));
  rooms = (c.take_from.ensures.room, c.requires.holds.rooms.1);
  begun = c.requires.holds.begun;
}

pub returns-in-Frame-clause-step : goal.returns-in-Frame-clause-step
returns-in-Frame-clause-step g c = (inl (switches (inner_view c.args.inner.now) c.count_taken.new.machine (device_key c.signal.new.regs) (device_view c.signal.new.regs) (device_masks c.signal.new.regs) c.args.queue c.in-Frame.place c.take_from.new.into.items c.as_slice.result.now c.as_slice-in-Frame.result.now c.in-Frame.mark c.take_from.new.machine c.auto_mask-auto.result c.spread-some.result (record { guest = c.args.inner.now.port; activation = c.args.inner.now.begun - 1; queue = c.args.queue; place = c.in-Frame.place })
    c.spread-some.ensures.puts.0 c.spread-some.new.entries.0 (map out_view c.spread-some.new.out) (none_of (error_on Tx c.args.inner.now.machine c.args.queue) (ap is_some (sym c.stopped.ensures.stopped) ∙ sym c.is_some.ensures ∙ c.if-is_some.false)) c.in-Frame.ensures.found c.auto_mask-auto.ensures.auto c.signal.ensures.signals (c.as_slice.ensures.value ∙ c.tag_in.ensures.bytes) (c.as_slice-in-Frame.ensures.value ∙ sym c.as_slice.ensures.value)
    (λ i. record { guest = c.args.inner.now.port; activation = c.requires.holds.begun i - 1; queue = c.args.queue; place = c.in-Frame.place }) c.spread-some.ensures.puts.1 c.spread-some.ensures.puts.2 c.spread-some.ensures.some c.count_taken.ensures.counted c.signal.ensures.key c.signal.ensures.calls))

pub returns-in-Frame-clause-holds : goal.returns-in-Frame-clause-holds
returns-in-Frame-clause-holds g c =
    let puts = c.spread-some.ensures.puts in
    let tos = target_ports c.args.inner.now.table c.args.inner.now.port c.as_slice.result.now in
    let sends = frame_puts c.args.inner.now.port (record { guest = c.args.inner.now.port; activation = c.args.inner.now.begun - 1; queue = c.args.queue; place = c.in-Frame.place }) c.as_slice.result.now tos puts.0 (map out_view c.args.inner.now.out) (map out_view c.spread-some.new.out) puts.1 in record {
      keeps = keeps_tx (inner_view c.args.inner.now) _ c.requires.holds.keeps c.args.queue true c.requires.queue (inl (switches (inner_view c.args.inner.now) c.count_taken.new.machine (device_key c.signal.new.regs) (device_view c.signal.new.regs) (device_masks c.signal.new.regs) c.args.queue c.in-Frame.place c.take_from.new.into.items c.as_slice.result.now c.as_slice-in-Frame.result.now c.in-Frame.mark c.take_from.new.machine c.auto_mask-auto.result c.spread-some.result (record { guest = c.args.inner.now.port; activation = c.args.inner.now.begun - 1; queue = c.args.queue; place = c.in-Frame.place })
          c.spread-some.ensures.puts.0 c.spread-some.new.entries.0 (map out_view c.spread-some.new.out) (none_of (error_on Tx c.args.inner.now.machine c.args.queue) (ap is_some (sym c.stopped.ensures.stopped) ∙ sym c.is_some.ensures ∙ c.if-is_some.false)) c.in-Frame.ensures.found c.auto_mask-auto.ensures.auto c.signal.ensures.signals (c.as_slice.ensures.value ∙ c.tag_in.ensures.bytes) (c.as_slice-in-Frame.ensures.value ∙ sym c.as_slice.ensures.value)
          (λ i. record { guest = c.args.inner.now.port; activation = c.requires.holds.begun i - 1; queue = c.args.queue; place = c.in-Frame.place }) c.spread-some.ensures.puts.1 c.spread-some.ensures.puts.2 c.spread-some.ensures.some c.count_taken.ensures.counted c.signal.ensures.key c.signal.ensures.calls));
      rooms = c.tag_in.ensures.rooms;
      begun = c.requires.holds.begun ∙ sym (activations_stay (record { guest = c.args.inner.now.port; activation = c.args.inner.now.begun - 1; queue = c.args.queue; place = c.in-Frame.place }) c.args.inner.now.journal.entries.0 puts.0 (sending (record { guest = c.args.inner.now.port; activation = c.args.inner.now.begun - 1; queue = c.args.queue; place = c.in-Frame.place }) tos puts.0 sends)) ∙ ap (count is_activation) (sym puts.2);
    }
