-- A driver that was told of all that its device did waits for nothing: its rings have room, all is reaped, the answer is there.
use Rattle.std.proofs.Common.{◌≡◌, ℕ, zero, suc, ◌+◌, ◌<◌, ◌≤◌, List, [], ◌∷◌, length, drop, get_or, refl, sym, ap, ◌∙◌, subst, arith, Some}
use Rattle.std.specs.Prelude.{nat_le}
use Rattle.std.specs.List.{slice_get, AllByRecursion}
use Rattle.std.proofs.lemmas.Bool.{and_parts}
use Rattle.std.proofs.Math.Seq.{drop-length}
use Rattle.std.proofs.lemmas.Bool.Decides.{nat_tests}
use Rattle.vmx_pcap.specs.declared.records.Stamped.{Stamped}
use Rattle.vmx_ends.specs.declared.made.TxMade.{TxMade}
use Rattle.vmx_ends.specs.Transmit.{TxDriverView, used, need, descriptors}
use Rattle.vmx_ends.specs.TransmitCounts.{need_few}
use Rattle.vmx_model.specs.Account.{tx_made}
use Rattle.vmx_model.specs.Bags.{Pairwise}
use Rattle.vmx_model.specs.Wire.{posted_form, wire_form, wire_length, tx_queue}
use Rattle.vmx_model.proofs.Copies.{tx_queue_below}
use Rattle.vmx_device_looks.specs.Queues.{get_at}
use Rattle.vmx_driver_steps.specs.declared.progress.Stage.{Stage}
use Rattle.vmx_driver_steps.specs.Progress.{count_in}
use Rattle.vmx_driver_steps.specs.Driver.{DriverView, Keeps, SendsPlan, name_of}
use Rattle.vmx_driver_steps.specs.Driving.{ReapsAll, FindsFull, WaitsForRoom, LooksOnce, unreaped}
use Rattle.vmx_driver_steps.specs.Dues.{FrameDue}
use Rattle.vmx_driver_steps.specs.Queues.{IsReaped}
use Rattle.vmx_driver_steps.specs.Each.{each_at, pair_length}
use Rattle.vmx_replay_steps.specs.Waits.{KnowsCompleted, KnowsAnswer}

-- ------------------------------------------------------------ reaping

-- an end of which all is known to be completed is reaped whole
reaped_whole : (d d' : TxDriverView) → IsReaped d d' → length d.sent ≤ d.heard → d'.reaped ≡ length d'.sent
reaped_whole d d' r told =
    let h = r.heard in let w = r.within in let s = ap (λ (z : TxDriverView). length z.sent) r.is in let k = ap (λ (z : TxDriverView). z.heard) r.is in omega (arith, h, w, s, k, told)

pub none_unreaped : (ds ds' : List TxDriverView) → Pairwise IsReaped ds ds' → AllByRecursion (λ (d : TxDriverView). length d.sent ≤ d.heard) ds → unreaped ds' ≡ 0
none_unreaped [] [] r t = refl
none_unreaped [] (d' ∷ ds') r t = absurd r
none_unreaped (d ∷ ds) [] r t = absurd r
none_unreaped (d ∷ ds) (d' ∷ ds') r t = let e = reaped_whole d d' r.0 t.0 in let ih = none_unreaped ds ds' r.1 t.1 in omega (arith, e, ih)

pub reaps_whole : (v w : DriverView) → KnowsCompleted v → ReapsAll v w → unreaped w.tx ≡ 0
reaps_whole v w told r = none_unreaped v.tx w.tx r.tx told

-- ------------------------------------------------------------ room

pair_get : (ds ds' : List TxDriverView) (q : ℕ) (e : TxDriverView) → Pairwise IsReaped ds ds' → AllByRecursion (λ (d : TxDriverView). length d.sent ≤ d.heard) ds → slice_get ds' q ≡ Some e → IsReaped (get_or ds q e) e × (length (get_or ds q e).sent ≤ (get_or ds q e).heard)
pair_get [] [] q e h t at = absurd (cc at)
pair_get [] (d' ∷ ds') q e h t at = absurd h
pair_get (d ∷ ds) [] q e h t at = absurd h
pair_get (d ∷ ds) (d' ∷ ds') zero e h t at = let same : d' ≡ e = cc at in (subst (IsReaped d) same h.0, t.0)
pair_get (d ∷ ds) (d' ∷ ds') (suc q) e h t at = pair_get ds ds' q e h.1 t.1 at

-- with nothing to be reaped a frame finds room
module _ (v w : DriverView) (k : Keeps v) (due : FrameDue v.plan v.at) (told : KnowsCompleted v) (x : WaitsForRoom v w) where
  p : FindsFull (record v { tx = x.mid.tx }) w
  p = subst (λ (m : DriverView). FindsFull m w) x.reaps.is x.full

  many : length x.mid.tx ≡ v.plan.setup.tx_queues
  many = pair_length IsReaped v.tx x.mid.tx x.reaps.tx ∙ k.tx_count ∙ ap (λ (g : Stage). count_in g v.plan.setup.tx_queues) due.active

  below : tx_queue p.frame.frame v.plan.setup.tx_queues < length x.mid.tx
  below = let low = v.plan.setup.tx_queues_low in let lt = tx_queue_below p.frame.frame v.plan.setup.tx_queues (omega (arith, low)) in let m = many in omega (arith, lt, m)

  ends : IsReaped (get_or v.tx (tx_queue p.frame.frame v.plan.setup.tx_queues) p.end) p.end × (length (get_or v.tx (tx_queue p.frame.frame v.plan.setup.tx_queues) p.end).sent ≤ (get_or v.tx (tx_queue p.frame.frame v.plan.setup.tx_queues) p.end).heard)
  ends = pair_get v.tx x.mid.tx (tx_queue p.frame.frame v.plan.setup.tx_queues) p.end x.reaps.tx told (get_at x.mid.tx (tx_queue p.frame.frame v.plan.setup.tx_queues) p.end below p.at)

  none_used : used p.end ≡ 0
  none_used = ap (λ (n : ℕ). descriptors p.end.made (drop n p.end.sent)) (reaped_whole (get_or v.tx (tx_queue p.frame.frame v.plan.setup.tx_queues) p.end) p.end ends.0 ends.1) ∙ ap (descriptors p.end.made) (drop-length p.end.sent)

  made : p.end.made ≡ tx_made v.plan (name_of v.guest v.at.ended (0 + tx_queue p.frame.frame v.plan.setup.tx_queues))
  made =
      let lt : tx_queue p.frame.frame v.plan.setup.tx_queues < length v.tx = (let m = pair_length IsReaped v.tx x.mid.tx x.reaps.tx in let b = below in omega (arith, m, b)) in
      ap (λ (z : TxDriverView). z.made) ends.0.is ∙ (each_at (SendsPlan v.guest v.plan v.at.ended v.at.next) 0 v.tx (tx_queue p.frame.frame v.plan.setup.tx_queues) p.end lt k.tx).made

  short : length p.frame.frame ≤ 9022
  short =
      let same : p.frame ≡ due.record_ = (let both : Some p.frame ≡ Some due.record_ = sym p.there ∙ due.there in cc both) in
      let fit = and_parts (nat_le 14 (length due.record_.frame)) (nat_le (length (wire_form (posted_form v.plan due.record_.frame))) (v.plan.setup.mtu + 18)) due.fit in
      let low : 14 ≤ length due.record_.frame = grind (arith, nat_tests, fit.0) in
      let most : length (wire_form (posted_form v.plan due.record_.frame)) ≤ v.plan.setup.mtu + 18 = grind (arith, nat_tests, fit.1) in
      let long = wire_length v.plan due.record_.frame low in let high = v.plan.setup.mtu_high in let e = ap (λ (r : Stamped). length r.frame) same in omega (arith, most, long, high, e)

  need_is : need p.end.made (length p.frame.frame) ≤ 16
  need_is = subst (λ (m : TxMade). need m (length p.frame.frame) ≤ 16) (sym made) (need_few (tx_made v.plan (name_of v.guest v.at.ended (0 + tx_queue p.frame.frame v.plan.setup.tx_queues))) (length p.frame.frame) short v.plan.piece_low)

  pub has_room : ⊥
  has_room = absurd (
      let f = p.full in let u = none_used in let n = need_is in let s = ap (λ (m : TxMade). m.size) made in let low = v.plan.setup.tx_ring_low in
      omega (arith, f, u, n, s, low)
      )

pub has_answer : (v w : DriverView) → KnowsAnswer v → LooksOnce v w → ⊥
has_answer v w told l = absurd (let u = l.unheard in omega (arith, u, told))
