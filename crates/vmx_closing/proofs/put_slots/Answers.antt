use Rattle.std.proofs.Common.{rules, ◌≡◌, ℕ, suc, ◌+◌, ◌*◌, ◌<◌, ◌≤◌, ◌++◌, length, take, vec_len, sym, ap, ◌∙◌, arith}
use Rattle.std.proofs.Math.Nat.{mul-le-mul_right}
use Rattle.std.proofs.lemmas.List.{length-take-le}
use Rattle.std.specs.List.{flat_map}
use Rattle.std.specs.Mem.Slots.{slots_items, slots_len, slots_counts}
use Rattle.vmx_closing.proofs.Rows.{bytes_next, bytes_few}
use Rattle.vmx_closing.proofs.put_slots.Goals as goal

pub put-requires : goal.put-requires
put-requires g c = let l = c.loop-index in let row = l.closed.slots in let f = g.W.WritesDown.bytes in let most : ℕ = g.W.WritesDown.most in let i : ℕ = l.index in
    let n : vec_len l.bytes ≡ length l.bytes.items = search rules in let low : i < slots_len row = search rules in let many = (slots_counts row).0 in let long = ap length l.invariant.0 in let room = l.invariant.3 in
    let few = bytes_few f most (take i (slots_items row)) g.met.W.WritesDown.few in let short = length-take-le i (slots_items row) (omega arith) in let one = g.met.W.WritesDown.few c.take-value.result in
    let up : (i + 1) * most ≤ slots_len row * most = mul-le-mul_right most (omega arith) in
    let all : length (take i (slots_items row)) * most ≡ i * most = ap (λ (k : ℕ). k * most) short in
    record { room = omega arith }

pub loop-index-preserved : goal.loop-index-preserved
loop-index-preserved g c = let l = c.loop-index in let row = l.closed.slots in let f = g.W.WritesDown.bytes in let i : ℕ = l.index in let x = c.take-value.result in let more : suc i ≡ i + 1 = omega arith in let o = c.take-value.ensures.others in
    let low : i < slots_len row = search rules in (
      c.put.ensures.put ∙ ap (λ z. z ++ f x) l.invariant.0 ∙ sym (bytes_next f (slots_items row) i x c.take-value.ensures.value) ∙ ap (λ (k : ℕ). flat_map f (take k (slots_items row))) more ∙ ap (λ xs. flat_map f (take (i + 1) xs)) (sym o.0),
      o.0 ∙ l.invariant.1,
      search rules,
      search rules,
      search rules,
      search rules,
      search rules,
    )
