use Rattle.std.proofs.Common.{ℕ, zero, suc, ◌≤◌, get_or, replicate, refl, arith}
use Rattle.std.proofs.lemmas.List.{get_or_past}
use Rattle.vmx_shared_area.specs.Bounds.{below_bound}
use Rattle.vmx_shared_area.specs.declared.rss.TheConstants.{MICROSOFT_KEY}
use Rattle.vmx_one_guest.proofs.settings.rss_to.Goals as goal

-- an entry of a table of one queue, or behind it
at_most : (n i q : ℕ) → get_or (replicate n q) i 0 ≤ q
at_most zero i q = omega arith
at_most (suc n) zero q = omega arith
at_most (suc n) (suc i) q = at_most n i q

pub invariant_of-result : goal.invariant_of-result
invariant_of-result c = record {
  types_high = omega arith;
  key_length = refl;
  key_fits = below_bound 256 MICROSOFT_KEY (omega arith) refl;
  size_low = omega arith;
  size_high = omega arith;
  table_length = refl;
  table_fits = λ i. omega (arith, at_most 128 i c.args.queue, c.requires.queue);
  rest = λ i past. get_or_past (replicate 128 c.args.queue) i 0 past;
}

pub returns : goal.returns
returns c = record { entries = λ i. at_most 128 i c.args.queue }
