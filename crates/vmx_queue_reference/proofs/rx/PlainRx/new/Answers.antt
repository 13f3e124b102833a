use Rattle.std.proofs.Common.{◌∙◌, ℕ, List, length, sym, ap, arith}
use Rattle.vmx_ends.specs.Receive.{used, took1, took2}
use Rattle.vmx_ends.specs.ReceiveClauses.{made_of}
use Rattle.vmx_queue_reference.specs.declared.rx.RxFrame.{RxFrame}
use Rattle.vmx_queue_reference.specs.PlainSupplies.{buffer1, buffer2, run_of, deliveries}
use Rattle.vmx_queue_reference.proofs.SupplyLaws.{run_long}
use Rattle.vmx_queue_reference.proofs.rx.PlainRx.new.Goals as goal

pub invariant_of-result : goal.invariant_of-result
invariant_of-result c = let m = made_of c.args.shape in let a = c.in_ok-heads_and_bodies.ensures.all in let b = c.in_ok-bodies.ensures.all in let none = c.new.ensures.empty in
    let n1 = ap length a ∙ run_long (buffer1 m) 0 m.size1 in let n2 = ap length b ∙ run_long (buffer2 m) 0 m.size2 in record {
      sizes = c.requires.sizes;
      order = omega arith;
      supply1 = a ∙ ap (λ (z : ℕ). run_of (buffer1 m) 0 z) (sym n1);
      supply2 = b ∙ ap (λ (z : ℕ). run_of (buffer2 m) 0 z) (sym n2);
      left1 = sym (ap (λ (l : List RxFrame). used took1 (deliveries l)) none);
      left2 = sym (ap (λ (l : List RxFrame). used took2 (deliveries l)) none);
      ends1 = omega arith;
      ends2 = omega arith;
      kept = λ i d less. let long = ap length none in absurd (omega arith);
    }
