use Rattle.std.proofs.Common.{ℕ, ◌+◌, ◌<◌, ◌^◌, [], ◌∷◌, length, ap, sym, ◌∙◌, refl, arith, subst}
use Rattle.atomic_table.specs.Table.{rest}
use Rattle.vmx_ends.specs.declared.made.RxMade.{RxMade}
use Rattle.vmx_ends.specs.ReceiveClauses.{made_of}
use Rattle.vmx_rx_ring.specs.Words.{count, slot, room_at, with_bit, shown_in}
use Rattle.vmx_rx_ring.specs.Tells.{Seated, with_device, fills, opens, stages, new_entry}
use Rattle.vmx_rx_walk.specs.Staging.{log_of}
use Rattle.vmx_rx_ring.proofs.DeviceStores.{opens_completion, stages_completion}
use Rattle.vmx_rx_walk.proofs.Stagings.{room_in, room_most, new_word, made_entry, index_two, index_three, two_below, three_below}
use Rattle.vmx_rx_walk.proofs.staging.stage_piece.Goals as goal

pub slot_mut-requires : goal.slot_mut-requires
slot_mut-requires g c = let t = c.take_buffer.ensures.took in let at = c.slot_at-slot.ensures.slot ∙ ap (λ (m : RxMade). slot m c.args.spot.ring c.args.spot.position) (sym c.requires.device.3) in
    (c.take_buffer.ensures.same.0 ∙ c.requires.table.0, (t.0, ap (λ (m : Seated). m.1) t.1 ∙ (λ i. (sym at i, t.0) ∷ rest (sym t.1 i).1)))

pub pour-requires-clause-short : goal.pour-requires-clause-short
pour-requires-clause-short g c = let t = c.take_buffer.ensures.took in let short = c.requires.short in let is = ap room_in (sym c.slot_mut.ensures.value ∙ ap (λ (z : Seated). z.1) t.1) ∙ t.2 ∙ (λ i. room_at (c.requires.device.3 i) (slot (c.requires.device.3 i) c.args.spot.ring c.args.spot.position)) in omega arith

pub body_for-body-requires : goal.body_for-body-requires
body_for-body-requires g c = let most = room_most (made_of c.args.shape.now) (slot (made_of c.args.shape.now) c.args.spot.ring c.args.spot.position) in let short = c.requires.short in record { short = omega arith }

pub store-requires : goal.store-requires
store-requires g c = let t = c.take_buffer.ensures.took in let d = c.requires.device in let n = c.count_of-n.ensures.count in let now = t.1 in (
  c.take_buffer.ensures.same.0 ∙ c.requires.table.0,
  three_below _ _ _ c.args.shape.now c.count_of-n.result c.args.at c.requires.table n,
  opens_completion g.C.TellsVisible.counted _ _ _ _ _ c.args.spot.ring c.args.spot.position (ap (λ (m : Seated). m.0.delivers) now ∙ d.0) (ap (λ (m : Seated). m.0.receives) now ∙ d.1) (ap (λ (m : Seated). m.0.device.filling) now)
      (index_three c.count_of-n.result _ c.args.at _ (n ∙ ap count (sym d.3) ∙ ap (λ (m : Seated). count m.0.made) (sym now)) (c.requires.at.0 ∙ ap (λ (m : Seated). length (log_of m.0)) (sym now))),
)

pub store-requires-2 : goal.store-requires-2
store-requires-2 g c = let t = c.take_buffer.ensures.took in let d = c.requires.device in let n = c.count_of-n.ensures.count in let m = c.args.seat.now.me in let e = m.0.device in let x = c.pour.new.buffer in let w0 = c.first_word_for-first.result in
    let at = c.slot_at-slot.ensures.slot ∙ ap (λ (m : RxMade). slot m c.args.spot.ring c.args.spot.position) (sym d.3) in
    let here = c.store.ensures.2 ∙ (λ i. (with_device (t.1 i).0 (opens (t.1 i).0.device w0), (at i, x) ∷ rest (t.1 i).1)) in let count_is = n ∙ ap count (sym d.3) in (
      c.store.ensures.0 ∙ c.take_buffer.ensures.same.0 ∙ c.requires.table.0,
      two_below _ _ _ c.args.shape.now c.count_of-n.result c.args.at c.requires.table n,
      stages_completion g.C.TellsVisible.counted _ _ _ (with_device m.0 (opens (fills e c.args.spot.ring c.args.spot.position c.is_short-in_entry.result) w0)) x c.args.spot.ring c.args.spot.position w0 c.body_for-body.result _ _ here d.0 d.1 refl refl c.body_for-body.ensures.low (c.pour.ensures.room ∙ ap room_in (sym c.slot_mut.ensures.value ∙ ap (λ (z : Seated). z.1) t.1) ∙ t.2)
          (index_two c.count_of-n.result _ c.args.at _ count_is c.requires.at.0)
          (new_word _ _ _ (c.generation_part.ensures.part ∙ ap (with_bit 63 0) (c.shown-generation.ensures.shown ∙ (λ i. shown_in g.C.TellsVisible.counted (count_is i) (c.requires.at.1 i) (c.requires.at.0 i))))),
    )

pub returns-clause-staged : goal.returns-clause-staged
returns-clause-staged g c = let t = c.take_buffer.ensures.took in let d = c.requires.device in let m = c.args.seat.now.me in let e = m.0.device in let x = c.pour.new.buffer in let w0 = c.first_word_for-first.result in let in_entry = c.is_short-in_entry.result in
    let at = c.slot_at-slot.ensures.slot ∙ ap (λ (m : RxMade). slot m c.args.spot.ring c.args.spot.position) (sym d.3) in
    let here = c.store.ensures.2 ∙ (λ i. (with_device (t.1 i).0 (opens (t.1 i).0.device w0), (at i, x) ∷ rest (t.1 i).1)) in
    let body = c.body_for-body.ensures.body in let low = c.body_for-body.ensures.low in
    let r : ℕ = c.body_for-body.result + c.generation_part.result in
    let a = made_entry (made_of c.args.shape.now) e c.args.spot.ring c.args.spot.position in_entry w0 r (slot m.0.made c.args.spot.ring c.args.spot.position) x c.args.sop c.args.eop c.args.meta.now c.args.bytes.now c.shown-generation.result c.first_word_for-first.ensures.word c.is_short-in_entry.ensures.in_entry
    (new_word _ _ _ c.generation_part.ensures.part ∙ ap (λ (w : ℕ). with_bit 63 w c.shown-generation.result) body) (subst (λ (w : ℕ). w < 2 ^ 63) body low) (let most = room_most (made_of c.args.shape.now) (slot (made_of c.args.shape.now) c.args.spot.ring c.args.spot.position) in let short = c.requires.short in omega arith) c.pour.ensures.bytes in
    c.store-2.ensures.2 ∙ (λ i. (with_device (here i).0 (stages (here i).0.device (new_entry (here i).0.device r (here i).1)), [])) ∙ (λ i. (with_device m.0 (stages (opens (fills e c.args.spot.ring c.args.spot.position in_entry) w0) (a i)), []))
