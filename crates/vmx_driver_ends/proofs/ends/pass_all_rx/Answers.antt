use Rattle.std.proofs.Common.{rules, ◌≡◌, length, map, sym, refl, ◌∙◌, arith}
use Rattle.std.proofs.lemmas.List.{length-set, length-map}
use Rattle.vmx_driver_steps.specs.Driver.{AreOneRx}
use Rattle.vmx_driver_steps.specs.Each.{pair_length}
use Rattle.vmx_driver_ends.specs.PassUpToRx.{one_more, still_one, all_passed}
use Rattle.vmx_driver_ends.proofs.ends.pass_all_rx.Goals as goal

pub loop-q-init : goal.loop-q-init
loop-q-init g c = let d = g.F.RxDriver.RxDriver.view in let e = g.F.RxDevice.RxDevice.view in record {
  count = refl;
  others = sym (length-map c.args.held.now e) ∙ pair_length AreOneRx (map d c.args.rx.now) (map e c.args.held.now) c.requires.pairs ∙ length-map c.args.rx.now d;
  passed = (refl, refl, c.requires.pairs);
}

pub pass_rx-requires-clause-one : goal.pass_rx-requires-clause-one
pass_rx-requires-clause-one g c κs within = let d = g.F.RxDriver.RxDriver.view in let e = g.F.RxDevice.RxDevice.view in
    (still_one d e c.loop-q.q (map d c.args.rx.now) (map e c.args.held.now) c.loop-q.rx c.loop-q.held c.at_mut.result.now c.at_mut-in-loop-q.result.now c.loop-q.invariant.passed (search rules) (search rules) c.at_mut.ensures.value c.at_mut-in-loop-q.ensures.value).key

pub loop-q-preserved : goal.loop-q-preserved
loop-q-preserved g c = let d = g.F.RxDriver.RxDriver.view in let e = g.F.RxDevice.RxDevice.view in record {
  count = length-set c.loop-q.rx c.loop-q.q c.pass_rx.new.driver ∙ c.loop-q.invariant.count;
  others = length-set c.loop-q.held c.loop-q.q c.pass_rx.new.device ∙ c.loop-q.invariant.others ∙ sym (length-set c.loop-q.rx c.loop-q.q c.pass_rx.new.driver);
  passed = one_more d e c.loop-q.q (map d c.args.rx.now) (map e c.args.held.now) c.loop-q.rx c.loop-q.held c.at_mut.result.now c.pass_rx.new.driver c.at_mut-in-loop-q.result.now c.pass_rx.new.device c.loop-q.invariant.passed (search rules) (search rules) c.at_mut.ensures.value c.at_mut-in-loop-q.ensures.value (record { driver = c.pass_rx.ensures.driver; device = c.pass_rx.ensures.device; heard = c.pass_rx.ensures.driver_heard });
}

pub returns : goal.returns
returns g c = let d = g.F.RxDriver.RxDriver.view in let e = g.F.RxDevice.RxDevice.view in
    let low = c.loop-q-test.false in let high = c.loop-q.auto.q-end in let len = c.len-q-end.ensures.len in let count = c.loop-q.invariant.count in
    let all : length c.loop-q.rx ≡ c.loop-q.q = omega (arith, low, high, len, count) in
    record { passed = all_passed c.loop-q.q (map d c.args.rx.now) (map e c.args.held.now) (map d c.loop-q.rx) (map e c.loop-q.held) (length-map c.loop-q.rx d ∙ all) c.loop-q.invariant.passed }
