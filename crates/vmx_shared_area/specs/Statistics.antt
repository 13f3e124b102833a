-- Statistics that are written are read back.
use Rattle.std.proofs.Common.{◌≡◌, ℕ, zero, suc, ◌+◌, ◌*◌, ◌^◌, ◌<◌, ◌≤◌, List, ◌++◌, length, take, drop, slice_index, sym, ◌∙◌, arith}
use Rattle.std.specs.List.{AllByRecursion}
use Rattle.std.proofs.Props.{props}
use Rattle.std.proofs.lemmas.Grind.{same_number_lists}
use Rattle.std.proofs.lemmas.List.{drop_at, length-take}
use mathlib.Core.HLevel.{is_prop→PathP}
use Rattle.vmx_shared_area.specs.Bytes.{number_at}
use Rattle.vmx_shared_area.specs.Layout.{stats_parts, stats_bytes, with_part}
use Rattle.vmx_shared_area.specs.Parts.{Stands, PartFits, stands_part, length-le, number_there}
use Rattle.vmx_shared_area.specs.declared.stats.Stats.{Stats}
use Rattle.vmx_shared_area.specs.declared.offsets.TheConstants.{STATISTICS_COUNT}

pub stands_with_part : (at width : ℕ) (p bs : List ℕ) → at ≤ length bs → Stands at p (with_part at width p bs)
stands_with_part at width p bs room =
    let front : length (take at bs) ≡ at = grind (arith, length-take) in
    (drop (at + width) bs, drop_at (take at bs) (p ++ drop (at + width) bs) at front)

below_ten : (P : ℕ → Type 0) → P 0 → P 1 → P 2 → P 3 → P 4 → P 5 → P 6 → P 7 → P 8 → P 9 → (i : ℕ) → i < STATISTICS_COUNT → P i
below_ten P a b c d e f g h i j zero lt = a
below_ten P a b c d e f g h i j (suc zero) lt = b
below_ten P a b c d e f g h i j (suc (suc zero)) lt = c
below_ten P a b c d e f g h i j (suc (suc (suc zero))) lt = d
below_ten P a b c d e f g h i j (suc (suc (suc (suc zero)))) lt = e
below_ten P a b c d e f g h i j (suc (suc (suc (suc (suc zero))))) lt = f
below_ten P a b c d e f g h i j (suc (suc (suc (suc (suc (suc zero)))))) lt = g
below_ten P a b c d e f g h i j (suc (suc (suc (suc (suc (suc (suc zero))))))) lt = h
below_ten P a b c d e f g h i j (suc (suc (suc (suc (suc (suc (suc (suc zero)))))))) lt = i
below_ten P a b c d e f g h i j (suc (suc (suc (suc (suc (suc (suc (suc (suc zero))))))))) lt = j
below_ten P a b c d e f g h i j (suc (suc (suc (suc (suc (suc (suc (suc (suc (suc k)))))))))) lt = absurd (omega arith)

stats_fit : (counts : List ℕ) → AllByRecursion PartFits (stats_parts counts)
stats_fit counts =
    let l = length-le 8 in
    (l _, (l _, (l _, (l _, (l _, (l _, (l _, (l _, (l _, (l _, tt))))))))))

pub stats_there : (at : ℕ) (s : Stats) (bs : List ℕ) → Stands at (stats_bytes s.counts) bs → (i : ℕ) → i < STATISTICS_COUNT → number_at 8 (at + 8 * i) bs ≡ slice_index s.counts i
stats_there at s bs h =
    let P : ℕ → Type 0 = λ i. number_at 8 (at + 8 * i) bs ≡ slice_index s.counts i in
    let parts = stats_parts s.counts in
    let there = λ (k : ℕ). stands_part k at parts bs (stats_fit s.counts) h in
    below_ten P
    (number_there 8 (at + 0) _ bs (there 0) (s.counts_fit 0)) (number_there 8 (at + 8) _ bs (there 1) (s.counts_fit 1))
    (number_there 8 (at + 16) _ bs (there 2) (s.counts_fit 2)) (number_there 8 (at + 24) _ bs (there 3) (s.counts_fit 3))
    (number_there 8 (at + 32) _ bs (there 4) (s.counts_fit 4)) (number_there 8 (at + 40) _ bs (there 5) (s.counts_fit 5))
    (number_there 8 (at + 48) _ bs (there 6) (s.counts_fit 6)) (number_there 8 (at + 56) _ bs (there 7) (s.counts_fit 7))
    (number_there 8 (at + 64) _ bs (there 8) (s.counts_fit 8)) (number_there 8 (at + 72) _ bs (there 9) (s.counts_fit 9))

pub same_stats : (a b : Stats) → ((i : ℕ) → i < STATISTICS_COUNT → slice_index a.counts i ≡ slice_index b.counts i) → a ≡ b
same_stats a b each =
    let counts : a.counts ≡ b.counts = same_number_lists a.counts b.counts (a.counts_length ∙ sym b.counts_length) (λ k lt. each k (omega (arith, a.counts_length))) in
    λ i. record {
      counts = counts i;
      counts_length = is_prop→PathP (λ j. length (counts j) ≡ STATISTICS_COUNT) (λ j. hlevel props) a.counts_length b.counts_length i;
      counts_fit = is_prop→PathP (λ j. (k : ℕ) → slice_index (counts j) k < 2 ^ 64) (λ j. hlevel props) a.counts_fit b.counts_fit i;
    }
