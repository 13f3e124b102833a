use Rattle.std.proofs.Common.{◌≡◌, ◌+◌, ◌*◌, ◌<◌, ◌≤◌, ℕ, List, length, slice_index, subst, sym, ap, ◌∙◌, arith}
use Rattle.vmx_shared_area.specs.Bytes.{number_at}
use Rattle.vmx_shared_area.specs.Layout.{descriptor_at, stats_bytes}
use Rattle.vmx_shared_area.specs.Parts.{Stands}
use Rattle.vmx_shared_area.specs.Statistics.{stands_with_part, stats_there, same_stats}
use Rattle.vmx_shared_area.proofs.statistics.read_stats.Goals as goal
use Rattle.vmx_shared_area.specs.declared.offsets.TheConstants.{STATISTICS, STATISTICS_COUNT, STATISTICS_SIZE}

pub returns : goal.returns
returns c =
    let place : ℕ = descriptor_at c.args.tx_queues c.args.side c.args.queue + STATISTICS in
    let start : c.descriptor-start.result + STATISTICS ≡ place = ap (λ (n : ℕ). n + STATISTICS) c.descriptor-start.ensures.start in
    let read : (i : ℕ) → i < STATISTICS_COUNT → slice_index c.counts_at.result i ≡ number_at 8 (place + 8 * i) c.args.image.now =
    λ i lt. rw (← start, ← c.bytes.ensures.value) (c.counts_at.ensures.each i lt) in
    record {
      round_trip = λ s old len is.
          let room : place ≤ length old = omega (arith, len, start, c.descriptor-start.ensures.inside) in
          let There : List ℕ → Type 0 = λ bs. Stands place (stats_bytes s.counts) bs in
          let there : Stands place (stats_bytes s.counts) c.args.image.now = subst There (sym is) (stands_with_part place STATISTICS_SIZE (stats_bytes s.counts) old room) in
          same_stats _ s (λ i lt. read i lt ∙ stats_there place s c.args.image.now there i lt);
      told = read;
    }
