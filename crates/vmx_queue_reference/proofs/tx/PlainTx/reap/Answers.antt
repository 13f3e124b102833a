use Rattle.std.proofs.Common.{◌≡◌, ◌<◌, ◌+◌, ◌∙◌, ℕ, suc, refl, ap, sym, arith}
use Rattle.vmx_ends.specs.Transmit.{need}
use Rattle.vmx_queue_reference.specs.PlainTransmit.{tx_core}
use Rattle.vmx_queue_reference.proofs.TxEvents.{reaps_one}
use Rattle.vmx_queue_reference.proofs.tx.PlainTx.reap.Goals as goal

pub returns : goal.returns
returns c = let me = c.args.self.now in let less : me.reaped < me.completed = c.if-self.false in let one = reaps_one (tx_core me) less in let e : me.reaped + 1 ≡ suc me.reaped = omega arith in
    record {
      reaps = record {
        allowed = one.0;
        place = refl;
        next = c.at.result.now;
        there = c.at.ensures.value;
        count = c.need_of-descriptors.ensures.need ∙ ap (need me.made) c.len.ensures.len;
        core = ap (λ (z : ℕ). record (tx_core me) { reaped = z }) e ∙ sym one.1;
      };
    }
