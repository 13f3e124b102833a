use Rattle.std.proofs.Common.{◌≡◌, ◌<◌, ◌∙◌, ◌+◌, ℕ, suc, cond, sym, refl, ap, arith, length}
use Rattle.std.proofs.lemmas.Bool.{lt-ltb}
use Rattle.vmx_ends.specs.ReceiveCore.{RxCore}
use Rattle.vmx_queue_reference.specs.PlainReceive.{rx_core}
use Rattle.vmx_queue_reference.specs.PlainSupplies.{deliveries}
use Rattle.vmx_queue_reference.proofs.SupplyLaws.{long_deliveries}
use Rattle.vmx_queue_reference.proofs.RxSteps.{receives_}
use Rattle.vmx_queue_reference.proofs.rx.PlainRx.receive.Goals as goal

pub invariant_of-self-2 : goal.invariant_of-self-2
invariant_of-self-2 c = let me = c.args.self.now in let l = c.len.ensures.len in let t = c.if-self-len.false in let less : me.received < length me.delivered = omega arith in let x = c.at-frame.result.now in
    let f = receives_ me x x c.in_ok-one.one c.in_ok-two.two less c.at-frame.ensures.value c.in_ok-one.ensures.all c.in_ok-two.ensures.all in
    record { sizes = me.sizes; order = f.order; supply1 = f.supply1; supply2 = f.supply2; left1 = f.left1_is; left2 = f.left2_is; ends1 = f.ends1; ends2 = f.ends2; kept = f.kept }

pub returns-clause-receives : goal.returns-clause-receives
returns-clause-receives c = let me = c.args.self.now in let l = c.len.ensures.len in let t = c.if-self-len.false in let less : me.received < length me.delivered = omega arith in
    let old : RxCore = rx_core me in let e : me.received + 1 ≡ suc me.received = omega arith in let long = long_deliveries me.delivered in let low : me.received < length (deliveries me.delivered) = omega arith in (
      less,
      record {
        next = refl;
        frame = c.at-frame.result.now;
        there = c.at-frame.ensures.value;
        bytes = c.put.ensures.frame;
        meta = refl;
        count = ap (λ (z : ℕ). c.at-frame.result.now.passed + z) c.len-2.ensures.len;
        one = c.in_ok-one.ensures.all;
        two = c.in_ok-two.ensures.all;
        core = ap (λ (z : ℕ). record old { received = z }) e ∙ sym (ap (λ b. cond b (record old { received = suc me.received }) old) (lt-ltb me.received (length (deliveries me.delivered)) low));
      },
    )
