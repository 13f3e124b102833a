use Rattle.std.proofs.Common.{rules, ℕ, ◌%◌, [], ◌∷◌, false, sym, refl, ap, ap₂, ◌∙◌, subst, arith, mod-lt}
use Rattle.vmx_tx_ring.specs.declared.known.TxKnown.{TxKnown}
use Rattle.vmx_tx_ring.specs.Tells.{Found}
use Rattle.vmx_tx_ring.proofs.Driving.{closes_next, head_in_data}
use Rattle.vmx_tx_ring.proofs.Moves.{device_goes_on}
use Rattle.vmx_tx_ring.proofs.reader.TxReader.next.Goals as goal

pub load-word-requires : goal.load-word-requires
load-word-requires g c = let me = c.args.self.now in let id_is = me.seated ∙ sym (ap (λ q. q.shared.table_id) c.deref.ensures) in let size = ap (λ z. z.size) (sym me.made_is) in let many = ap (λ z. z.words) id_is in let enough = me.words in let low = mod-lt me.read me.size.0 in
    let next = closes_next false me.seat.me.0.device.at.ahead refl c.requires.closes in (
      search rules,
      omega arith,
      device_goes_on g.C.TellsCompletions.told _ _ _ next.0 next.1 _ me.rests.0 me.rests.1 me.rests.2 next.2 me.rests.4 (ap₂ (λ (a b : ℕ). a % b) me.places.0 size),
    )

pub empty_slot-last-requires-clause-out : goal.empty_slot-last-requires-clause-out
empty_slot-last-requires-clause-out g c = let me = c.args.self.now in let size = ap (λ z. z.size) (sym me.made_is) in let at = ap₂ (λ (a b : ℕ). a % b) me.places.0 size in let told = c.load-word.ensures.2 in let f = told.5 in
    (told.2, ap (λ m. m.1) told.3 ∙ (λ i. (sym at i, told.2) ∷ []), subst (λ (z : TxKnown). Found z c.load-word.result z.device.at.at_hand told.2) (sym (ap (λ m. m.0) told.3)) (record { word = f.word; bytes = f.bytes; numbers = f.numbers }))

pub empty_slot-last-requires-clause-lies : goal.empty_slot-last-requires-clause-lies
empty_slot-last-requires-clause-lies g c = let me = c.args.self.now in let told = c.load-word.ensures.2 in let next = closes_next false me.seat.me.0.device.at.ahead refl c.requires.closes in
    sym (ap (λ m. m.0.device.at.at_hand.in_data) told.3 ∙ head_in_data _ _ _ _ (sym told.4 ∙ next.2) ∙ next.3)
