use Rattle.std.proofs.Common.{ℕ, Bool, subst, arith, refl, inl, inr}
use Rattle.vmx_regs.specs.Ends.{device_masks, device_interrupts}
use Rattle.vmx_device_looks.specs.Interrupts.{Signals, Alarms}
use Rattle.vmx_device_looks.specs.declared.events.TheConstants.{RX_ERROR_EVENT}
use Rattle.vmx_device_looks.proofs.Forms.{some_of, kind_low, in_use}
use Rattle.vmx_device_looks.proofs.arrivals.deliver.Goals as goal

pub deliver_form-requires-clause-ready : goal.deliver_form-requires-clause-ready
deliver_form-requires-clause-ready g c κs within =
    let a = some_of c.args.machine.now.active c.requires.active in (c.requires.ready a.0 a.1).ready c.args.terms.now.queue (c.requires.terms a.0 a.1).below

pub deliver_form-requires-clause-kind : goal.deliver_form-requires-clause-kind
deliver_form-requires-clause-kind g c κs within =
    let a = some_of c.args.machine.now.active c.requires.active in kind_low a.0.setup c.args.frame.now c.args.terms.now (c.requires.terms a.0 a.1)

pub count_up-requires-clause-queue : goal.count_up-requires-clause-queue
count_up-requires-clause-queue g c κs within =
    let a = some_of c.args.machine.now.active c.requires.active in omega (arith, (c.requires.terms a.0 a.1).below, (c.requires.ready a.0 a.1).queues)

pub signal-requires-clause-low : goal.signal-requires-clause-low
signal-requires-clause-low g c κs within =
    let a = some_of c.args.machine.now.active c.requires.active in
    let t = c.requires.terms a.0 a.1 in omega (arith, t.below, t.interrupt, (c.requires.ready a.0 a.1).few)

pub count-requires-clause-queue : goal.count-requires-clause-queue
count-requires-clause-queue g c κs within =
    let a = some_of c.args.machine.now.active c.requires.active in omega (arith, (c.requires.terms a.0 a.1).below, (c.requires.ready a.0 a.1).queues)

pub stop_queue-requires-clause-queue : goal.stop_queue-requires-clause-queue
stop_queue-requires-clause-queue g c κs within =
    let a = some_of c.args.machine.now.active c.requires.active in omega (arith, (c.requires.terms a.0 a.1).below, (c.requires.ready a.0 a.1).queues)

pub stop_queue-requires-clause-used : goal.stop_queue-requires-clause-used
stop_queue-requires-clause-used g c κs within =
    let a = some_of c.args.machine.now.active c.requires.active in
    let t = c.requires.terms a.0 a.1 in
    let d = c.in-Bad.ensures.delivers a.0.setup t in
    in_use c.args.machine.now c.deliver_form.new.machine a.0 _ c.args.terms.now.queue a.1 d.is t.below

pub alarm-requires-clause-low : goal.alarm-requires-clause-low
alarm-requires-clause-low g c κs within =
    let a = some_of c.args.machine.now.active c.requires.active in
    let t = c.requires.terms a.0 a.1 in omega (arith, t.event, (c.requires.ready a.0 a.1).few)

pub returns-in-Done-clause-delivers : goal.returns-in-Done-clause-delivers
returns-in-Done-clause-delivers g c a act =
    let t = c.requires.terms a act in inl (record {
      place = c.in-Done.place;
      mid = c.deliver_form.new.machine;
      gives = c.in-Done.ensures.delivers a.setup t;
      is_fate = refl;
      is = c.count_up.ensures.counted;
      signals = subst (λ (x : ℕ × Bool). Signals (device_masks c.args.regs.now) x.0 x.1 (device_masks c.signal.new.regs)) (λ i. (t.interrupt i, t.auto i)) c.signal.ensures.signals;
    })

pub returns-in-NoBuffer-clause-delivers : goal.returns-in-NoBuffer-clause-delivers
returns-in-NoBuffer-clause-delivers g c a act =
    let t = c.requires.terms a act in inr (inl (record {
      ring = c.in-NoBuffer.ring;
      position = c.in-NoBuffer.position;
      word = c.in-NoBuffer.word;
      look = c.in-NoBuffer.look;
      mid = c.deliver_form.new.machine;
      gives = c.in-NoBuffer.ensures.delivers a.setup t;
      is_fate = refl;
      is = c.count.ensures.counted;
      masks = refl;
    }))

pub returns-in-Bad-clause-delivers : goal.returns-in-Bad-clause-delivers
returns-in-Bad-clause-delivers g c a act =
    let t = c.requires.terms a act in inr (inr (record {
      words = c.in-Bad.words;
      fault = c.in-Bad.fault;
      mid = c.deliver_form.new.machine;
      gives = c.in-Bad.ensures.delivers a.setup t;
      is_fate = refl;
      is = c.stop_queue.ensures.stopped;
      alarms = subst (λ (x : ℕ × Bool). Alarms (device_interrupts c.args.regs.now) RX_ERROR_EVENT x.0 x.1 (device_masks c.args.regs.now) (device_masks c.alarm.new.regs)) (λ i. (t.event i, t.auto i)) c.alarm.ensures.alarms;
    }))
