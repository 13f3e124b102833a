use Rattle.std.proofs.Common.{◌≡◌, ◌∙◌, arith, ap, List, map, take}
use Rattle.std.proofs.lemmas.Result.{IfOk-weaker}
use Rattle.vmx_ends.specs.Receive.{used, took1, took2}
use Rattle.vmx_serial_queues.specs.declared.rx.Delivered.{Delivered}
use Rattle.vmx_serial_queues.specs.Queues.{delivery_of}
use Rattle.vmx_serial_queues.proofs.Walks.{same_outcome}
use Rattle.vmx_serial_queues.proofs.rx.RxQueue.comes_to.Goals as goal

pub returns : goal.returns
returns c = let a = c.args in let q = a.self.now in let items = c.as_slice-delivered.ensures.items in
    let back1 : c.used1-2.result ≡ used took1 (map delivery_of (take q.received q.delivered)) = c.used1-2.ensures.sum ∙ ap (λ (ds : List Delivered). used took1 (map delivery_of (take q.received ds))) items in
    let back2 : c.used2-2.result ≡ used took2 (map delivery_of (take q.received q.delivered)) = c.used2-2.ensures.sum ∙ ap (λ (ds : List Delivered). used took2 (map delivery_of (take q.received ds))) items in
    record {
      outcome = IfOk-weaker c.walked.result _ _ (λ x e. e ∙ same_outcome a.self.now _ _ _ _ _ a.bytes
          (c.used1.ensures.sum ∙ ap (λ (ds : List Delivered). used took1 (map delivery_of ds)) items)
          (c.used2.ensures.sum ∙ ap (λ (ds : List Delivered). used took2 (map delivery_of ds)) items)
          (let f = c.from.ensures in omega arith) (let f = c.from-2.ensures in omega arith) (omega arith)) c.walked.ensures.outcome;
    }
