use Rattle.std.proofs.Common.{rules, ◌≡◌, ◌∙◌, ℕ, List, subst}
use Rattle.std.proofs.lemmas.List.{length-map}
use Rattle.vmx_ends.specs.Receive.{RxDriverView, RxDeviceView}
use Rattle.vmx_ends.specs.ReceiveClauses.{made_rx}
use Rattle.vmx_ends.specs.Queues.{queue_name, AreNewRxQueues}
use Rattle.vmx_model.specs.declared.guest.GuestPlan.{GuestPlan}
use Rattle.vmx_driver_steps.specs.Making.{NewRxs, new_txs, new_rxs}
use Rattle.vmx_driver_ends.proofs.fresh.prepare.Goals as goal

-- receive queues made for as many as the plan has
new_rxs_of : (g : ℕ) (p : GuestPlan) (a n : ℕ) (ds : List RxDriverView) (es : List RxDeviceView) → n ≡ p.setup.rx_queues → AreNewRxQueues (λ (q : ℕ). made_rx (queue_name g a q) p.setup.rx_ring1 p.setup.rx_ring2 p.bodies n p.setup.rx_data) 0 ds es → NewRxs g p a 0 ds es
new_rxs_of g p a n ds es e h = new_rxs g p a 0 ds es (subst (λ (m : ℕ). AreNewRxQueues (λ (q : ℕ). made_rx (queue_name g a q) p.setup.rx_ring1 p.setup.rx_ring2 p.bodies m p.setup.rx_data) 0 ds es) e h)

pub returns-clause-queues : goal.returns-clause-queues
returns-clause-queues g c = record {
  tx_new = new_txs c.args.guest c.args.plan.now c.args.activation 0 _ _ c.in_ok-tx.ensures.queues;
  rx_new = new_rxs_of c.args.guest c.args.plan.now c.args.activation c.from-2.result _ _ c.from-2.ensures c.in_ok-rx.ensures.queues;
  tx_count = length-map c.in_ok-tx.tx.drivers g.F.TxDriver.TxDriver.view ∙ c.in_ok-tx.ensures.count ∙ (search rules);
  rx_count = length-map c.in_ok-rx.rx.drivers g.F.RxDriver.RxDriver.view ∙ c.in_ok-rx.ensures.count ∙ (search rules);
}
