use Rattle.std.proofs.Common.{◌≡◌, ◌+◌, ◌*◌, ◌%◌, ◌^◌, ◌<◌, ℕ, List, ◌-◌, ◌/◌, slice_index, bit_and, arith, subst, sym, ◌∙◌, refl}
use Rattle.std.specs.Int.{bit_at}
use Rattle.std.proofs.lemmas.Nat.Bits.{bit_at-zero, bit_at-lt, shr_and_one}
use Rattle.vmx_rss.specs.Toeplitz.{IsHashOf, left_bit}
use Rattle.vmx_rss.proofs.Windows.{IsWindow, first_window, window_step, hash_taken, hash_left, left_bit-byte}
use Rattle.vmx_rss.proofs.hash.over_windows.Goals as goal
use Rattle.vmx_rss.proofs.hash.over_windows.Goals.{then-byte-k-eq1, else-byte-k-eq1}

pub loop-i-init : goal.loop-i-init
loop-i-init c = record { hash = λ j lt. bit_at-zero (31 - j); window = first_window c.args.key.now _ c.fits-key c.from_be_bytes-window.ensures }

pub loop-k-preserved : goal.loop-k-preserved
loop-k-preserved c =
    let key : List ℕ = c.args.key.now in
    let input : List ℕ = c.args.input.now in
    let i : ℕ = c.loop-i.i in
    let k : ℕ = c.loop-k.k in
    let n : ℕ = 8 * i + k in
    let at : 8 * i + (k + 1) ≡ n + 1 = omega arith in
    let bit : left_bit input n ≡ bit_at (slice_index input i) (7 - k) = left_bit-byte input i k n c.loop-k-test.true refl in
    let tested = shr_and_one (slice_index input i) (7 - k) in
    let next : bit_and (slice_index key (i + 4) / 2 ^ (7 - k)) 1 ≡ left_bit key (n + 32) = shr_and_one (slice_index key (i + 4)) (7 - k) ∙ sym (left_bit-byte key (i + 4) k (n + 32) c.loop-k-test.true (omega arith)) in
    let small : bit_and (slice_index key (i + 4) / 2 ^ (7 - k)) 1 < 2 = rw (shr_and_one (slice_index key (i + 4)) (7 - k)) (bit_at-lt (slice_index key (i + 4)) (7 - k)) in
    let window : IsWindow key (n + 1) c.shifted-window.result = rw c.shifted-window.ensures.window (window_step key n c.loop-k.window _ c.loop-k.invariant.window small next) in
    elim c.if-byte-k-eq1.branch [
      | then-byte-k-eq1 w ↦ record {
        hash = rw (at, w.hash-is) (hash_taken key input n c.loop-k.hash c.loop-k.window c.loop-k.invariant.hash c.loop-k.invariant.window (bit ∙ sym tested ∙ w.if-byte-k-eq1.true));
        window = rw at window;
      }
      | else-byte-k-eq1 w ↦ record {
        hash = rw (at, w.hash-is) (hash_left key input n c.loop-k.hash c.loop-k.invariant.hash (not_one (left_bit input n) (bit_at-lt (slice_index input (n / 8)) (7 - n % 8)) (λ one. w.if-byte-k-eq1.false (tested ∙ sym bit ∙ one))));
        window = rw at window;
      }
    ]
  where
    not_one : (x : ℕ) → x < 2 → (x ≡ 1 → ⊥) → x ≡ 0
    not_one x lt ne = omega arith

pub loop-i-preserved : goal.loop-i-preserved
loop-i-preserved c =
    let place : 8 * c.loop-i.i + c.loop-k.k ≡ 8 * (c.loop-i.i + 1) = omega arith in
    record {
      hash = subst (λ (n : ℕ). IsHashOf c.args.key.now c.args.input.now n c.loop-k.hash) place c.loop-k.invariant.hash;
      window = subst (λ (n : ℕ). IsWindow c.args.key.now n c.loop-k.window) place c.loop-k.invariant.window;
    }
