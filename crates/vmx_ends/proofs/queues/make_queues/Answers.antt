use Rattle.std.proofs.Common.{◌≡◌, ◌+◌, ℕ, suc, List, [], ◌∷◌, ◌++◌, length, map, ap, ◌∙◌, subst, append_assoc, append-nil, refl, arith, length-append}
use Rattle.std.proofs.lemmas.List.{map-append}
use Rattle.vmx_ends.specs.declared.made.TxMade.{TxMade}
use Rattle.vmx_ends.specs.Transmit.{TxDriverView, TxDeviceView}
use Rattle.vmx_ends.specs.TransmitClauses.{AreNew}
use Rattle.vmx_ends.specs.Queues.{queue_name, made_tx, AreNewQueues}
use Rattle.vmx_ends.proofs.queues.make_queues.Goals as goal

module _ {D E : Type 0} (d : D → TxDriverView) (e : E → TxDeviceView) (made : ℕ → TxMade) where
  -- one more queue is made
  pub step : (q next : ℕ) (ds ds' : List D) (es es' : List E) (x : D) (y : E) → next ≡ q + 1 → ds' ≡ ds ++ x ∷ [] → es' ≡ es ++ y ∷ [] → AreNew (made q) (d x) (e y)
      → ((us : List TxDriverView) (vs : List TxDeviceView) → AreNewQueues made q us vs → AreNewQueues made 0 (map d ds ++ us) (map e es ++ vs))
      → (us : List TxDriverView) (vs : List TxDeviceView) → AreNewQueues made next us vs → AreNewQueues made 0 (map d ds' ++ us) (map e es' ++ vs)
  step q next ds ds' es es' x y on pd pe new k us vs h =
      let on' : next ≡ suc q = omega arith in
      let more = k (d x ∷ us) (e y ∷ vs) (new, subst (λ (n : ℕ). AreNewQueues made n us vs) on' h) in
      rw (pd, pe, map-append d ds (x ∷ []), map-append e es (y ∷ []), append_assoc (map d ds) (d x ∷ []) us, append_assoc (map e es) (e y ∷ []) vs) more

  pub done : (q : ℕ) (ds : List D) (es : List E) → ((us : List TxDriverView) (vs : List TxDeviceView) → AreNewQueues made q us vs → AreNewQueues made 0 (map d ds ++ us) (map e es ++ vs)) → AreNewQueues made 0 (map d ds) (map e es)
  done q ds es k = rw (append-nil (map d ds), append-nil (map e es)) at (k [] [] tt)

pub loop-queue-preserved : goal.loop-queue-preserved
loop-queue-preserved g c = let n = c.loop-queue.invariant.count in let long = ap length (c.in_ok-push.ensures.ok) ∙ length-append c.loop-queue.drivers (c.in_ok-driver.driver ∷ []) in record {
  count = omega arith;
  goes_on = step g.F.TxDriver.TxDriver.view g.F.TxDevice.TxDevice.view (λ (q : ℕ). made_tx (queue_name c.args.guest c.args.activation q) c.args.size c.args.piece c.args.with_data) c.loop-queue.queue _ c.loop-queue.drivers c.push.new.self c.loop-queue.devices c.push-in-loop-queue.new.self c.in_ok-driver.driver c.in_ok-driver.device refl c.in_ok-push.ensures.ok c.in_ok-push-2.ensures.ok c.in_ok-driver.ensures.made c.loop-queue.invariant.goes_on;
}

pub returns-clause-queues : goal.returns-clause-queues
returns-clause-queues g c = done g.F.TxDriver.TxDriver.view g.F.TxDevice.TxDevice.view (λ (q : ℕ). made_tx (queue_name c.args.guest c.args.activation q) c.args.size c.args.piece c.args.with_data) c.loop-queue.queue c.loop-queue.drivers c.loop-queue.devices c.loop-queue.invariant.goes_on
