use Rattle.std.proofs.Common.{rules, ◌≡◌, ◌<◌, ◌+◌, ◌∙◌, ℕ, suc, length, refl, ap, sym, arith}
use Rattle.std.proofs.lemmas.List.{length-map}
use Rattle.vmx_queue_reference.specs.PlainFrames.{as_sent, all_sent}
use Rattle.vmx_queue_reference.specs.PlainTransmit.{tx_core}
use Rattle.vmx_queue_reference.proofs.TxEvents.{takes_one}
use Rattle.vmx_queue_reference.proofs.tx.PlainTx.take.Goals as goal

pub returns-clause-takes : goal.returns-clause-takes
returns-clause-takes c = let me = c.args.self.now in let l = c.len.ensures.len in let t = c.if-self-len.false in let same : me.taken ≡ me.completed = search rules in
    let long = length-map me.sent as_sent in let less : me.taken < length (all_sent me.sent) = omega arith in let one = takes_one (tx_core me) same less in let e : me.taken + 1 ≡ suc me.taken = omega arith in
    record {
      allowed = one.0;
      place = refl;
      next = c.at-next.result.now;
      there = c.at-next.ensures.value;
      bytes = c.put.ensures.frame;
      mark = refl;
      core = ap (λ (z : ℕ). record (tx_core me) { taken = z }) e ∙ sym one.1;
    }
