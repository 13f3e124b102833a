use Rattle.std.proofs.Common.{rules, ◌≡◌, length, map, sym, refl, ◌∙◌, arith}
use Rattle.std.proofs.lemmas.List.{length-set, length-map}
use Rattle.vmx_driver_steps.specs.Driver.{AreOneTx}
use Rattle.vmx_driver_steps.specs.Each.{pair_length}
use Rattle.vmx_driver_ends.specs.PassUpTo.{one_more, still_one, all_passed}
use Rattle.vmx_driver_ends.proofs.ends.pass_all_tx.Goals as goal

pub loop-q-init : goal.loop-q-init
loop-q-init g c = let d = g.F.TxDriver.TxDriver.view in let e = g.F.TxDevice.TxDevice.view in record {
  count = refl;
  others = sym (length-map c.args.held.now e) ∙ pair_length AreOneTx (map d c.args.tx.now) (map e c.args.held.now) c.requires.pairs ∙ length-map c.args.tx.now d;
  passed = (refl, refl, c.requires.pairs);
}

pub pass-requires-clause-one : goal.pass-requires-clause-one
pass-requires-clause-one g c κs within = let d = g.F.TxDriver.TxDriver.view in let e = g.F.TxDevice.TxDevice.view in
    (still_one d e c.loop-q.q (map d c.args.tx.now) (map e c.args.held.now) c.loop-q.tx c.loop-q.held c.at_mut.result.now c.at_mut-in-loop-q.result.now c.loop-q.invariant.passed (search rules) (search rules) c.at_mut.ensures.value c.at_mut-in-loop-q.ensures.value).key

pub loop-q-preserved : goal.loop-q-preserved
loop-q-preserved g c = let d = g.F.TxDriver.TxDriver.view in let e = g.F.TxDevice.TxDevice.view in record {
  count = length-set c.loop-q.tx c.loop-q.q c.pass.new.driver ∙ c.loop-q.invariant.count;
  others = length-set c.loop-q.held c.loop-q.q c.pass.new.device ∙ c.loop-q.invariant.others ∙ sym (length-set c.loop-q.tx c.loop-q.q c.pass.new.driver);
  passed = one_more d e c.loop-q.q (map d c.args.tx.now) (map e c.args.held.now) c.loop-q.tx c.loop-q.held c.at_mut.result.now c.pass.new.driver c.at_mut-in-loop-q.result.now c.pass.new.device c.loop-q.invariant.passed (search rules) (search rules) c.at_mut.ensures.value c.at_mut-in-loop-q.ensures.value (record { driver = c.pass.ensures.driver; device = c.pass.ensures.device; heard = c.pass.ensures.driver_heard });
}

pub returns : goal.returns
returns g c = let d = g.F.TxDriver.TxDriver.view in let e = g.F.TxDevice.TxDevice.view in
    let low = c.loop-q-test.false in let high = c.loop-q.auto.q-end in let len = c.len-q-end.ensures.len in let count = c.loop-q.invariant.count in
    let all : length c.loop-q.tx ≡ c.loop-q.q = omega (arith, low, high, len, count) in
    record { passed = all_passed c.loop-q.q (map d c.args.tx.now) (map e c.args.held.now) (map d c.loop-q.tx) (map e c.loop-q.held) (length-map c.loop-q.tx d ∙ all) c.loop-q.invariant.passed }
