use Rattle.std.proofs.Common.{◌∙◌, ◌+◌, ◌<◌, ◌&&◌, sym, ap, length, get_or, arith}
use Rattle.std.proofs.lemmas.Bool.{lt-ltb}
use Rattle.vmx_ends.specs.Receive.{is_body}
use Rattle.vmx_ends.specs.ReceiveClauses.{made_of}
use Rattle.vmx_queue_reference.specs.declared.rx.Buffer.{Buffer}
use Rattle.vmx_queue_reference.specs.PlainSupplies.{buffer1}
use Rattle.vmx_queue_reference.proofs.SupplyLaws.{run_at}
use Rattle.vmx_queue_reference.proofs.rx.PlainRx.has_body.Goals as goal

pub returns : goal.returns
returns c = let me = c.args.self.now in let m = made_of me.shape in let k = c.args.behind in let l = c.len.ensures.len in let f = c.if-behind-len.false in
    let less : k < length me.one.buffers = omega arith in let far : me.one.left + k < me.one.left + length me.one.buffers = omega arith in
    record {
      body = ap (λ (b : Buffer). b.body) (c.at.ensures.value ∙ ap (λ l. get_or l k c.at.result.now) me.supply1 ∙ run_at (buffer1 m) me.one.left (length me.one.buffers) k c.at.result.now less)
          ∙ sym (ap (λ t. t && is_body m (me.one.left + k)) (lt-ltb (me.one.left + k) (me.one.left + length me.one.buffers) far));
    }
