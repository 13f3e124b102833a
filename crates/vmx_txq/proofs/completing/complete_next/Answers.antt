use Rattle.std.proofs.Common.{rules, ◌≡◌, ℕ, ◌+◌, ◌-◌, ◌%◌, length, get_or, sym, ap, ap₂, ◌∙◌, arith, mod-lt}
use Rattle.vmx_layout.specs.Bits.{bit}
use Rattle.vmx_layout.specs.TxComp.{first_word}
use Rattle.vmx_genring.specs.Rings.{generation_bit}
use Rattle.vmx_tx_ring.proofs.Driving.{bit_generation}
use Rattle.vmx_txq.specs.Completions.{completed_word}
use Rattle.vmx_txq.proofs.CompletionSteps.{device_closes, device_completes}
use Rattle.vmx_txq.proofs.completing.complete_next.Goals as goal

pub store-requires : goal.store-requires
store-requires c = let me = c.args.reader.now in let v = me.seat.me.0 in let id_is = me.seated ∙ sym (ap (λ q. q.shared.table_id) c.deref.ensures) in let size = ap (λ z. z.size) (sym me.made_is) in let many = ap (λ z. z.words) id_is in let wide = c.requires.wide in let low = mod-lt me.completed me.size.0 in
    let at = ap₂ (λ (a b : ℕ). a % b) me.places.2 size in let none = ap length c.requires.none in let sum = me.found.0 in let p0 = me.places.0 in
    (search rules, omega arith, device_closes _ _ _ _ _ me.rests.0 me.rests.1 me.rests.3 c.requires.taken (λ i. size i + (size i + (size i + at i))) (ap (λ l. get_or l 0 0) c.completion_words.ensures.words ∙ ap₂ (λ (a b : ℕ). first_word ((a - 1) % b)) (omega arith) size))

pub store-requires-2 : goal.store-requires-2
store-requires-2 c = let me = c.args.reader.now in let v = me.seat.me.0 in let id_is = me.seated ∙ sym (ap (λ q. q.shared.table_id) c.deref.ensures) in let size = ap (λ z. z.size) (sym me.made_is) in let many = ap (λ z. z.words) id_is in let wide = c.requires.wide in let low = mod-lt me.completed me.size.0 in
    let e = c.store.ensures.2 in let sz = size ∙ ap (λ m. m.0.made.size) (sym e) in let p2 = me.places.2 ∙ ap (λ m. m.0.device.at.completed) (sym e) in let at = ap₂ (λ (a b : ℕ). a % b) p2 sz in
    let gen : bit c.generation.result ≡ generation_bit me.made.size me.completed = ap bit c.generation.ensures.value ∙ bit_generation c.new-ring.result.size me.completed ∙ ap (λ (k : ℕ). generation_bit k me.completed) c.new-ring.ensures.size in (
      search rules,
      omega arith,
      device_completes _ _ _ _ _ (ap (λ m. m.0.serves) e ∙ me.rests.0) (ap (λ m. m.0.drives) e ∙ me.rests.1) (ap (λ m. m.0.device.at.closing) e) (ap (λ m. m.0.device.at.ahead) e ∙ c.requires.none) (ap (λ m. m.0.device.at.emptying) e ∙ me.rests.2) (λ i. sz i + (sz i + at i))
          (ap (λ l. get_or l 1 0) c.completion_words.ensures.words ∙ ap completed_word (gen ∙ ap₂ generation_bit sz p2)),
    )
