use Rattle.std.proofs.Common.{rules, ◌≡◌, ◌<◌, ℕ, ◌%◌, List, length, get_or, drop, sym, ap, ◌∙◌, arith, subst, mod-lt}
use lib.ListN.{get_elem?}
use Rattle.vmx_ring_laws.specs.Lists.{there_below}
use Rattle.vmx_ring_laws.specs.Keys.{key_of}
use Rattle.vmx_ends.specs.declared.frames.Sent.{Sent}
use Rattle.vmx_ends.specs.declared.made.TxMade.{TxMade}
use Rattle.vmx_ends.specs.Transmit.{need, descriptors}
use Rattle.vmx_lists.specs.declared.tx.log.TxLog.{TxLog}
use Rattle.vmx_lists.specs.TxNeeds.{AreNeeds}
use Rattle.vmx_lists.specs.TxEnds.{driver_seen}
use Rattle.vmx_ends.specs.TransmitCounts.{drop_one}
use Rattle.vmx_lists.proofs.TxCounts.{same_default}
use Rattle.vmx_lists.proofs.TxSteps.{driver_looks}
use Rattle.vmx_lists.proofs.tx.driver.ListTxDriverTxDriver.reap.Goals as goal

pub load-completed-requires : goal.load-completed-requires
load-completed-requires c = let me = c.args.self.now in (search rules, search rules, driver_looks _ _ _ me.rests.0 me.rests.1 me.rests.2)

pub overflow_sub-self : goal.overflow_sub-self
overflow_sub-self c = let me = c.args.self.now in let v = me.seat.me.0 in let p1 = me.counts.1 in let u = me.counts.2 in let f = c.if-completed-self.false in
    let less : v.reaped < c.load-completed.result = omega arith in let told = c.load-completed.ensures.2.0 less in let item = there_below v.sent v.reaped told.1 in
    let one = drop_one me.made v.sent v.reaped item.0 item.1 in let low = mod-lt me.reaped me.sized.2 in let wide : length me.needs.items ≡ me.made.size = search rules in
    let read = c.index-descriptors.ensures ∙ same_default me.needs.items (me.reaped % me.made.size) c.index-descriptors.result.now 0 (omega arith) ∙ ap (λ (z : ℕ). get_or me.needs.items (z % me.made.size) 0) p1 in
    let is = me.kept v.reaped item.0 (omega arith) item.1 in omega arith

pub invariant_of-self-2 : goal.invariant_of-self-2
invariant_of-self-2 c = let me = c.args.self.now in let v = me.seat.me.0 in let p1 = me.counts.1 in let u = me.counts.2 in let f = c.if-completed-self.false in
    let less : v.reaped < c.load-completed.result = omega arith in let told = c.load-completed.ensures.2.0 less in let item = there_below v.sent v.reaped told.1 in
    let one = drop_one me.made v.sent v.reaped item.0 item.1 in let low = mod-lt me.reaped me.sized.2 in let wide : length me.needs.items ≡ me.made.size = search rules in
    let read = c.index-descriptors.ensures ∙ same_default me.needs.items (me.reaped % me.made.size) c.index-descriptors.result.now 0 (omega arith) ∙ ap (λ (z : ℕ). get_or me.needs.items (z % me.made.size) 0) p1 in
    let is = me.kept v.reaped item.0 (omega arith) item.1 in let now = ap (λ m. m.0) told.0 in
    let p0 = me.counts.0 in let some_in = told.1 in let here = ap (λ (z : TxLog). z.reaped) now in let sum = ap (λ (z : TxLog). descriptors me.made (drop z.reaped z.sent)) now in let w = me.within.0 in record {
      seated = search rules;
      sized = search rules;
      rests = (ap (λ (z : TxLog). z.sends) now ∙ me.rests.0, ap (λ (z : TxLog). z.takes) now ∙ me.rests.1, ap (λ (z : TxLog). z.filling) now ∙ me.rests.2, ap (λ m. m.1) told.0 ∙ me.rests.3);
      made_is = ap (λ (z : TxLog). z.made) now ∙ me.made_is;
      counts = (p0 ∙ ap (λ (z : TxLog). length z.sent) (sym now), omega arith, omega arith);
      within = (omega arith, me.within.1, omega arith);
      kept = subst (λ (z : List Sent × ℕ). AreNeeds me.made z.0 z.1 me.needs.items) (λ i. (ap (λ (z : TxLog). z.sent) (sym now) i, sym here i)) (λ p s le at. me.kept p s (omega arith) at);
      tells = (ap (λ (z : TxLog). z.tells_sent) now ∙ me.tells.0, ap (λ (z : TxLog). z.tells_taken) now ∙ me.tells.1);
    }

pub returns-clause-reaps : goal.returns-clause-reaps
returns-clause-reaps c = let me = c.args.self.now in let v = me.seat.me.0 in let p1 = me.counts.1 in let u = me.counts.2 in let f = c.if-completed-self.false in
    let less : v.reaped < c.load-completed.result = omega arith in let told = c.load-completed.ensures.2.0 less in let item = there_below v.sent v.reaped told.1 in
    let low = mod-lt me.reaped me.sized.2 in let wide : length me.needs.items ≡ me.made.size = search rules in
    let read = c.index-descriptors.ensures ∙ same_default me.needs.items (me.reaped % me.made.size) c.index-descriptors.result.now 0 (omega arith) ∙ ap (λ (z : ℕ). get_or me.needs.items (z % me.made.size) 0) p1 in
    let is = me.kept v.reaped item.0 (omega arith) item.1 in
    (p1, item.0, ap (λ (z : ℕ). get_elem? v.sent z) p1 ∙ item.1, read ∙ is ∙ ap (λ (z : TxMade). need z (length item.0.frame)) (sym me.made_is), (λ i. driver_seen (key_of (c.load-completed.ensures.0 i)) ((told.0 i).0)))
