use Rattle.std.proofs.Common.{◌≡◌, ◌≤◌, ℕ, List, true, ◌&&◌, nat_le, sym, ap, ◌∙◌}
use Rattle.std.proofs.lemmas.Bool.{and_parts, leb-true}
use Rattle.vmx_switch.specs.Ports.{are_distinct}
use Rattle.vmx_model.specs.Types.{GuestPlan}
use Rattle.vmx_model.specs.Ranges.{is_within, is_prefix}
use Rattle.vmx_model.specs.Totals.{names_of, have_ports, descriptors_of, records_of, bytes_of}
use Rattle.vmx_model.specs.Makers.{plan_fits}
use Rattle.vmx_model.proofs.plan.Plan.of.Goals as goal

-- the seven tests of a plan, each by itself
abbrev Tests : List ℕ → ℕ → List GuestPlan → Type 0
Tests prefix poll guests = record {
  prefix : is_prefix prefix ≡ true;
  low : 1 ≤ poll;
  high : poll ≤ 4096;
  names : are_distinct (names_of guests) ≡ true;
  ports : have_ports guests ≡ true;
  descriptors : descriptors_of guests ≤ 65536;
  records : records_of guests ≤ 262144;
  bytes : bytes_of guests ≤ 67108864;
}

tests : (prefix : List ℕ) (poll : ℕ) (guests : List GuestPlan) → plan_fits prefix poll guests ≡ true → Tests prefix poll guests
tests prefix poll guests h =
    let to_bytes = and_parts (is_prefix prefix && is_within 1 4096 poll && are_distinct (names_of guests) && have_ports guests && nat_le (descriptors_of guests) 65536 && nat_le (records_of guests) 262144) (nat_le (bytes_of guests) 67108864) h in
    let to_records = and_parts (is_prefix prefix && is_within 1 4096 poll && are_distinct (names_of guests) && have_ports guests && nat_le (descriptors_of guests) 65536) (nat_le (records_of guests) 262144) to_bytes.0 in
    let to_descriptors = and_parts (is_prefix prefix && is_within 1 4096 poll && are_distinct (names_of guests) && have_ports guests) (nat_le (descriptors_of guests) 65536) to_records.0 in
    let to_ports = and_parts (is_prefix prefix && is_within 1 4096 poll && are_distinct (names_of guests)) (have_ports guests) to_descriptors.0 in
    let to_names = and_parts (is_prefix prefix && is_within 1 4096 poll) (are_distinct (names_of guests)) to_ports.0 in
    let to_poll = and_parts (is_prefix prefix) (is_within 1 4096 poll) to_names.0 in
    let both = and_parts (nat_le 1 poll) (nat_le poll 4096) to_poll.1 in
    record {
      prefix = to_poll.0;
      low = leb-true 1 poll both.0;
      high = leb-true poll 4096 both.1;
      names = to_names.1;
      ports = to_ports.1;
      descriptors = leb-true (descriptors_of guests) 65536 to_descriptors.1;
      records = leb-true (records_of guests) 262144 to_records.1;
      bytes = leb-true (bytes_of guests) 67108864 to_bytes.1;
    }

pub invariant_of-result : goal.invariant_of-result
invariant_of-result c =
    let kept : Tests c.args.prefix c.args.poll_every c.args.guests = tests c.args.prefix c.args.poll_every c.args.guests (ap (plan_fits c.args.prefix c.args.poll_every) (sym c.as_slice.ensures.items) ∙ sym c.fits_plan.ensures.fits ∙ c.if-fits_plan.true) in
    record {
      prefix_fits = kept.prefix;
      poll_low = kept.low;
      poll_high = kept.high;
      names_differ = kept.names;
      ports = kept.ports;
      descriptors = kept.descriptors;
      records = kept.records;
      bytes = kept.bytes;
    }
