use Rattle.std.proofs.Common.{rules, ◌≡◌, ◌<◌, ◌^◌, ℕ, true, length, map, sym, refl, ap, ◌∙◌, subst, arith}
use Rattle.std.proofs.lemmas.List.{length-set, length-map}
use Rattle.vmx_ends.specs.Receive.{RxDriverView, used, pieces_of}
use Rattle.vmx_regs.specs.Ends.{driver_interrupts, driver_masks}
use Rattle.vmx_regs.specs.declared.known.Calls.{Calls}
use Rattle.vmx_driver_ends.specs.Founds.{PollsSo}
use Rattle.vmx_driver_ends.specs.PollUpTo.{still_so, polls_none, polls_more, polls_all, keeps_none, keeps_more, one_at_most}
use Rattle.vmx_driver_ends.proofs.ends.poll_all.Goals as goal

pub loop-q-init : goal.loop-q-init
loop-q-init g c = let view = g.F.RxDriver.RxDriver.view in record {
  many = refl;
  polls = polls_none (driver_interrupts c.args.regs.now) c.args.first c.args.activation (map view c.args.rx.now) c.args.received.now.0 (driver_masks c.args.regs.now);
  keeps = keeps_none c.args.activation (map view c.args.rx.now) c.args.received.now.0;
  regs = (refl, refl);
  room = (omega arith, omega arith);
  low = omega arith;
}

pub poll_one-up-requires-clause-full : goal.poll_one-up-requires-clause-full
poll_one-up-requires-clause-full g c κs within = let view = g.F.RxDriver.RxDriver.view in
    still_so _ _ _ view (λ (d : RxDriverView). d.made.full ≡ true) c.loop-q.q (map view c.args.rx.now) c.loop-q.rx _ _ _ c.at_mut.result.now c.loop-q.invariant.polls.polls (search rules) c.at_mut.ensures.value c.requires.full

pub poll_one-up-requires-clause-small : goal.poll_one-up-requires-clause-small
poll_one-up-requires-clause-small g c κs within = let view = g.F.RxDriver.RxDriver.view in
    still_so _ _ _ view (λ (d : RxDriverView). (length d.received < 2 ^ 58) × (used pieces_of d.received < 2 ^ 62)) c.loop-q.q (map view c.args.rx.now) c.loop-q.rx _ _ _ c.at_mut.result.now c.loop-q.invariant.polls.polls (search rules) c.at_mut.ensures.value c.requires.small

pub poll_one-up-requires-clause-interrupt : goal.poll_one-up-requires-clause-interrupt
poll_one-up-requires-clause-interrupt g c κs within = let i = ap (λ (x : Calls). x.interrupts) c.loop-q.invariant.regs.1 in let f = c.requires.first in let few = c.requires.queues in
    let lt : c.loop-q.q < length c.loop-q.rx = search rules in let many = c.loop-q.invariant.many in omega (arith, i, f, few, lt, many)

pub poll_one-up-requires-clause-room : goal.poll_one-up-requires-clause-room
poll_one-up-requires-clause-room g c κs within = let a = c.loop-q.invariant.room.0 in let b = c.loop-q.invariant.room.1 in let r = c.requires.room.0 in let s = c.requires.room.1 in
    let lt : c.loop-q.q < length c.loop-q.rx = search rules in let many = c.loop-q.invariant.many in (omega (arith, a, r, lt, many), omega (arith, b, s, lt, many))

pub loop-q-preserved : goal.loop-q-preserved
loop-q-preserved g c = let view = g.F.RxDriver.RxDriver.view in let inv = c.loop-q.invariant in
    let lt : c.loop-q.q < length c.loop-q.rx = search rules in
    let one = subst (λ (n : ℕ). PollsSo n c.args.first c.args.activation c.loop-q.q (view c.at_mut.result.now) (view c.poll_one-up.new.end) c.loop-q.received.0 c.poll_one-up.new.received.0 (driver_masks c.loop-q.regs) (driver_masks c.poll_one-up.new.regs) c.poll_one-up.result) (ap (λ (x : Calls). x.interrupts) inv.regs.1) c.poll_one-up.ensures.polled in
    let room = c.poll_one-up.ensures.room in let a = room.0 in let b = room.1 in let was = inv.room.0 in let had = inv.room.1 in record {
      many = length-set c.loop-q.rx c.loop-q.q c.poll_one-up.new.end ∙ inv.many;
      polls = polls_more view (driver_interrupts c.args.regs.now) c.args.first c.args.activation c.loop-q.q (map view c.args.rx.now) c.loop-q.rx c.args.received.now.0 c.loop-q.received.0 c.poll_one-up.new.received.0 (driver_masks c.args.regs.now) (driver_masks c.loop-q.regs) (driver_masks c.poll_one-up.new.regs) c.at_mut.result.now c.poll_one-up.new.end c.loop-q.up c.poll_one-up.result inv.polls lt c.at_mut.ensures.value one;
      keeps = keeps_more view (driver_interrupts c.args.regs.now) c.args.first c.args.activation c.loop-q.q (map view c.args.rx.now) c.loop-q.rx c.args.received.now.0 c.loop-q.received.0 c.poll_one-up.new.received.0 (driver_masks c.loop-q.regs) (driver_masks c.poll_one-up.new.regs) c.poll_one-up.result c.at_mut.result.now c.poll_one-up.new.end inv.keeps (inv.many ∙ sym (length-map c.args.rx.now view)) lt c.at_mut.ensures.value one;
      regs = (c.poll_one-up.ensures.regs.0 ∙ inv.regs.0, c.poll_one-up.ensures.regs.1 ∙ inv.regs.1);
      room = (omega (arith, a, was), omega (arith, b, had));
      low = let few = one_at_most _ _ _ _ _ _ _ _ _ _ _ one in let l = inv.low in omega (arith, few, l);
    }

pub returns : goal.returns
returns g c = let view = g.F.RxDriver.RxDriver.view in let inv = c.loop-q.invariant in
    let low = c.loop-q-test.false in let high = c.loop-q.auto.q-end in let len = c.len-q-end.ensures.len in let many = inv.many in
    let all : length c.loop-q.rx ≡ c.loop-q.q = omega (arith, low, high, len, many) in let a = inv.room.0 in let b = inv.room.1 in record {
      polls = polls_all (driver_interrupts c.args.regs.now) c.args.first c.args.activation c.loop-q.q (map view c.args.rx.now) (map view c.loop-q.rx) c.args.received.now.0 c.loop-q.received.0 (driver_masks c.args.regs.now) (driver_masks c.loop-q.regs) c.loop-q.up (length-map c.loop-q.rx view ∙ all) inv.polls;
      keeps = inv.keeps;
      regs = inv.regs;
      room = (omega (arith, a, all, many), omega (arith, b, all, many));
      count = inv.many;
    }
