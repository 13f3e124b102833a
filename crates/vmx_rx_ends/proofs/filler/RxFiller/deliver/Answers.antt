use Rattle.std.proofs.Common.{ℕ, ◌∷◌, [], length, ap, sym, ◌∙◌, refl, subst, arith, length-append}
use Rattle.vmx_ring_laws.specs.Keys.{key_of}
use Rattle.vmx_ends.specs.ReceiveClauses.{made_of, DeliversFrame, GrowsDelivered, Refuses}
use Rattle.vmx_ends.specs.Receive.{used, pieces_of}
use Rattle.vmx_ends.specs.Walk.{further_pieces}
use Rattle.vmx_rx_ring.specs.Tells.{Seated}
use Rattle.vmx_rx_walk.specs.Walking.{AreInBodies, Planned}
use Rattle.vmx_rx_ends.specs.Views.{device_seen}
use Rattle.vmx_rx_ends.proofs.Delivers as d
use Rattle.vmx_rx_ends.proofs.filler.RxFiller.deliver.Goals as goal

pub stage_frame-requires-clause-reach : goal.stage_frame-requires-clause-reach
stage_frame-requires-clause-reach g c = let pl = subst (λ r. Planned c.args.self.now.seat.me (further_pieces (length c.args.frame.now)) r c.walk_on.new.seat.me) c.in-Goes.is c.walk_on.ensures.planned in
    d.reach c.args.self.now.shape c.args.self.now.seated.1 c.args.self.now.seat.me c.walk_on.new.seat.me (further_pieces (length c.args.frame.now)) c.in-Goes.first c.in-Goes.second c.in-Goes.third c.in-Goes.next1 c.in-Goes.next2 c.args.frame.now c.args.meta.now c.args.self.now.device c.args.self.now.rests pl.0 pl.1 refl c.requires.frame c.args.self.now.gone.0 c.args.self.now.gone.1

pub stage_frame-requires-clause-rooms : goal.stage_frame-requires-clause-rooms
stage_frame-requires-clause-rooms g c = let pl = subst (λ r. Planned c.args.self.now.seat.me (further_pieces (length c.args.frame.now)) r c.walk_on.new.seat.me) c.in-Goes.is c.walk_on.ensures.planned in
    d.fitting c.args.self.now.shape c.args.self.now.seated.1 c.args.self.now.seat.me c.walk_on.new.seat.me (further_pieces (length c.args.frame.now)) c.in-Goes.first c.in-Goes.second c.in-Goes.third c.in-Goes.next1 c.in-Goes.next2 c.args.frame.now c.args.meta.now c.args.self.now.device c.args.self.now.rests pl.0 pl.1 refl c.requires.frame c.args.self.now.gone.0 c.args.self.now.gone.1 (subst (λ r. AreInBodies (made_of c.args.self.now.shape) (further_pieces (length c.args.frame.now)) r) c.in-Goes.is c.walk_on.ensures.bodies)

pub stage_frame-requires-clause-at : goal.stage_frame-requires-clause-at
stage_frame-requires-clause-at g c = let pl = subst (λ r. Planned c.args.self.now.seat.me (further_pieces (length c.args.frame.now)) r c.walk_on.new.seat.me) c.in-Goes.is c.walk_on.ensures.planned in
    d.published1 c.args.self.now.shape c.args.self.now.seated.1 c.args.self.now.seat.me c.walk_on.new.seat.me (further_pieces (length c.args.frame.now)) c.in-Goes.first c.in-Goes.second c.in-Goes.third c.in-Goes.next1 c.in-Goes.next2 c.args.frame.now c.args.meta.now c.args.self.now.device c.args.self.now.rests pl.0 pl.1 refl c.requires.frame c.args.self.now.gone.0 c.args.self.now.gone.1 _ c.args.self.now.counts.2

pub publish-requires-clause-at : goal.publish-requires-clause-at
publish-requires-clause-at g c = let pl = subst (λ r. Planned c.args.self.now.seat.me (further_pieces (length c.args.frame.now)) r c.walk_on.new.seat.me) c.in-Goes.is c.walk_on.ensures.planned in
    d.published2 c.args.self.now.shape c.args.self.now.seated.1 c.args.self.now.seat.me c.walk_on.new.seat.me (further_pieces (length c.args.frame.now)) c.in-Goes.first c.in-Goes.second c.in-Goes.third c.in-Goes.next1 c.in-Goes.next2 c.args.frame.now c.args.meta.now c.args.self.now.device c.args.self.now.rests pl.0 pl.1 refl c.requires.frame c.args.self.now.gone.0 c.args.self.now.gone.1 _ c.stage_frame.new.seat.me c.stage_frame.ensures.staged c.args.self.now.counts.2

pub publish-requires-clause-frame : goal.publish-requires-clause-frame
publish-requires-clause-frame g c = let pl = subst (λ r. Planned c.args.self.now.seat.me (further_pieces (length c.args.frame.now)) r c.walk_on.new.seat.me) c.in-Goes.is c.walk_on.ensures.planned in
    d.will c.args.self.now.shape c.args.self.now.seated.1 c.args.self.now.seat.me c.walk_on.new.seat.me (further_pieces (length c.args.frame.now)) c.in-Goes.first c.in-Goes.second c.in-Goes.third c.in-Goes.next1 c.in-Goes.next2 c.args.frame.now c.args.meta.now c.args.self.now.device c.args.self.now.rests pl.0 pl.1 refl c.requires.frame c.args.self.now.gone.0 c.args.self.now.gone.1 c.stage_frame.new.seat.me _ c.stage_frame.ensures.staged c.first_body.ensures.one c.first_body.ensures.more c.first_body.ensures.tag

pub returns-in-Missing-clause-delivers : goal.returns-in-Missing-clause-delivers
returns-in-Missing-clause-delivers g c = let n : ℕ = further_pieces (length c.args.frame.now) in let me = c.args.self.now in
    let pl = subst (λ r. Planned me.seat.me n r c.walk_on.new.seat.me) c.in-Missing.is c.walk_on.ensures.planned in
    subst (λ (id : _). Refuses (device_seen (key_of me.seat.table_id) me.seat.me.0) (length c.args.frame.now) c.in-Missing.ring c.in-Missing.position c.in-Missing.word me.refusals (device_seen (key_of id) c.walk_on.new.seat.me.0)) (sym c.walk_on.ensures.same.0)
    (d.refuses me.shape me.seat.me c.walk_on.new.seat.me (key_of me.seat.table_id) n (length c.args.frame.now) c.in-Missing.ring c.in-Missing.position c.in-Missing.word me.refusals refl me.rests me.gone.0 me.gone.1 me.counts.1 pl)

pub returns-in-Goes-clause-delivers : goal.returns-in-Goes-clause-delivers
returns-in-Goes-clause-delivers g c = let pl = subst (λ r. Planned c.args.self.now.seat.me (further_pieces (length c.args.frame.now)) r c.walk_on.new.seat.me) c.in-Goes.is c.walk_on.ensures.planned in let me = c.args.self.now in
    let final = d.delivered c.args.self.now.shape c.args.self.now.seated.1 c.args.self.now.seat.me c.walk_on.new.seat.me (further_pieces (length c.args.frame.now)) c.in-Goes.first c.in-Goes.second c.in-Goes.third c.in-Goes.next1 c.in-Goes.next2 c.args.frame.now c.args.meta.now c.args.self.now.device c.args.self.now.rests pl.0 pl.1 refl c.requires.frame c.args.self.now.gone.0 c.args.self.now.gone.1 c.stage_frame.new.seat.me c.publish.new.seat.me c.stage_frame.ensures.staged c.publish.ensures.published in (
      me.counts.0,
      subst (λ (id : _). DeliversFrame (device_seen (key_of me.seat.table_id) me.seat.me.0) c.args.frame.now c.args.meta.now (device_seen (key_of id) c.publish.new.seat.me.0)) (sym (c.publish.ensures.same.0 ∙ c.stage_frame.ensures.same.0 ∙ c.walk_on.ensures.same.0))
          (d.clause c.args.self.now.shape c.args.self.now.seated.1 c.args.self.now.seat.me c.walk_on.new.seat.me (further_pieces (length c.args.frame.now)) c.in-Goes.first c.in-Goes.second c.in-Goes.third c.in-Goes.next1 c.in-Goes.next2 c.args.frame.now c.args.meta.now c.args.self.now.device c.args.self.now.rests pl.0 pl.1 refl c.requires.frame c.args.self.now.gone.0 c.args.self.now.gone.1 (key_of me.seat.table_id) c.publish.new.seat.me.0 (ap (λ (z : Seated). z.0) final)),
    )

pub returns-in-Goes-clause-grows : goal.returns-in-Goes-clause-grows
returns-in-Goes-clause-grows g c = let pl = subst (λ r. Planned c.args.self.now.seat.me (further_pieces (length c.args.frame.now)) r c.walk_on.new.seat.me) c.in-Goes.is c.walk_on.ensures.planned in let me = c.args.self.now in
    let final = d.delivered c.args.self.now.shape c.args.self.now.seated.1 c.args.self.now.seat.me c.walk_on.new.seat.me (further_pieces (length c.args.frame.now)) c.in-Goes.first c.in-Goes.second c.in-Goes.third c.in-Goes.next1 c.in-Goes.next2 c.args.frame.now c.args.meta.now c.args.self.now.device c.args.self.now.rests pl.0 pl.1 refl c.requires.frame c.args.self.now.gone.0 c.args.self.now.gone.1 c.stage_frame.new.seat.me c.publish.new.seat.me c.stage_frame.ensures.staged c.publish.ensures.published in
    subst (λ (id : _). GrowsDelivered (device_seen (key_of me.seat.table_id) me.seat.me.0) (device_seen (key_of id) c.publish.new.seat.me.0)) (sym (c.publish.ensures.same.0 ∙ c.stage_frame.ensures.same.0 ∙ c.walk_on.ensures.same.0))
    (d.grows c.args.self.now.shape c.args.self.now.seated.1 c.args.self.now.seat.me c.walk_on.new.seat.me (further_pieces (length c.args.frame.now)) c.in-Goes.first c.in-Goes.second c.in-Goes.third c.in-Goes.next1 c.in-Goes.next2 c.args.frame.now c.args.meta.now c.args.self.now.device c.args.self.now.rests pl.0 pl.1 refl c.requires.frame c.args.self.now.gone.0 c.args.self.now.gone.1 (key_of me.seat.table_id) c.publish.new.seat.me.0 (ap (λ (z : Seated). z.0) final))

pub invariant_of-self-in-Goes : goal.invariant_of-self-in-Goes
invariant_of-self-in-Goes g c = let pl = subst (λ r. Planned c.args.self.now.seat.me (further_pieces (length c.args.frame.now)) r c.walk_on.new.seat.me) c.in-Goes.is c.walk_on.ensures.planned in let me = c.args.self.now in
    let final = d.delivered c.args.self.now.shape c.args.self.now.seated.1 c.args.self.now.seat.me c.walk_on.new.seat.me (further_pieces (length c.args.frame.now)) c.in-Goes.first c.in-Goes.second c.in-Goes.third c.in-Goes.next1 c.in-Goes.next2 c.args.frame.now c.args.meta.now c.args.self.now.device c.args.self.now.rests pl.0 pl.1 refl c.requires.frame c.args.self.now.gone.0 c.args.self.now.gone.1 c.stage_frame.new.seat.me c.publish.new.seat.me c.stage_frame.ensures.staged c.publish.ensures.published in
    let k = subst (λ e. d.Keeps c.args.self.now.shape c.args.self.now.seated.1 c.args.self.now.seat.me c.walk_on.new.seat.me (further_pieces (length c.args.frame.now)) c.in-Goes.first c.in-Goes.second c.in-Goes.third c.in-Goes.next1 c.in-Goes.next2 c.args.frame.now c.args.meta.now c.args.self.now.device c.args.self.now.rests pl.0 pl.1 refl c.requires.frame c.args.self.now.gone.0 c.args.self.now.gone.1 e) (sym (ap (λ (z : Seated). z.0.device) final)) (d.keeps c.args.self.now.shape c.args.self.now.seated.1 c.args.self.now.seat.me c.walk_on.new.seat.me (further_pieces (length c.args.frame.now)) c.in-Goes.first c.in-Goes.second c.in-Goes.third c.in-Goes.next1 c.in-Goes.next2 c.args.frame.now c.args.meta.now c.args.self.now.device c.args.self.now.rests pl.0 pl.1 refl c.requires.frame c.args.self.now.gone.0 c.args.self.now.gone.1) in
    let id = c.publish.ensures.same.0 ∙ c.stage_frame.ensures.same.0 ∙ c.walk_on.ensures.same.0 in
    let longer = length-append me.seat.me.0.device.delivered (d.the_frame c.args.self.now.shape c.args.self.now.seated.1 c.args.self.now.seat.me c.walk_on.new.seat.me (further_pieces (length c.args.frame.now)) c.in-Goes.first c.in-Goes.second c.in-Goes.third c.in-Goes.next1 c.in-Goes.next2 c.args.frame.now c.args.meta.now c.args.self.now.device c.args.self.now.rests pl.0 pl.1 refl c.requires.frame c.args.self.now.gone.0 c.args.self.now.gone.1 ∷ []) in let pm = d.pieces_more c.args.self.now.shape c.args.self.now.seated.1 c.args.self.now.seat.me c.walk_on.new.seat.me (further_pieces (length c.args.frame.now)) c.in-Goes.first c.in-Goes.second c.in-Goes.third c.in-Goes.next1 c.in-Goes.next2 c.args.frame.now c.args.meta.now c.args.self.now.device c.args.self.now.rests pl.0 pl.1 refl c.requires.frame c.args.self.now.gone.0 c.args.self.now.gone.1 in let ds = k.delivered_is in let sums = d.sums c.args.self.now.shape c.args.self.now.seated.1 c.args.self.now.seat.me c.walk_on.new.seat.me (further_pieces (length c.args.frame.now)) c.in-Goes.first c.in-Goes.second c.in-Goes.third c.in-Goes.next1 c.in-Goes.next2 c.args.frame.now c.args.meta.now c.args.self.now.device c.args.self.now.rests pl.0 pl.1 refl c.requires.frame c.args.self.now.gone.0 c.args.self.now.gone.1 in let nexts = pl.1.ends.nexts in let n1 = nexts.0 in let n2 = nexts.1 in
    let len = ap length ds in let used_now = ap (used pieces_of) ds in let rf = ap length k.refused_is in let c0 = me.counts.0 in let c1 = me.counts.1 in let c2 = me.counts.2 in let few = me.few in let x1 = me.nexts.0 in let x2 = me.nexts.1 in let s0 = sums.0 in let s1 = sums.1 in
    record {
      seated = (id ∙ me.seated.0, me.seated.1);
      device = (ap (λ (z : Seated). z.0.delivers) final ∙ me.device.0, ap (λ (z : Seated). z.0.receives) final ∙ me.device.1, ap (λ (z : Seated). z.1) final, ap (λ (z : Seated). z.0.made) final ∙ me.device.3);
      still = (k.filling, k.opened);
      rests = (k.next1_is ∙ sym k.gone1_is, k.next2_is ∙ sym k.gone2_is, (let g = k.gone1_is in let t = k.seen.0 in omega arith), (let g = k.gone2_is in let t = k.seen.1 in omega arith));
      none = k.staged;
      counts = (omega arith, omega arith, omega arith);
      nexts = (sym k.gone1_is, sym k.gone2_is);
      few = omega arith;
      tells = (ap (λ (z : Seated). z.0.of_device) final ∙ me.tells.0, ap (λ (z : Seated). z.0.of_driver) final ∙ me.tells.1);
      gone = (k.gone1_is ∙ k.used1, k.gone2_is ∙ k.used2);
    }
