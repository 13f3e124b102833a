use Rattle.std.proofs.Common.{◌≡◌, ◌≤◌, ℕ, true, List, sym, subst, arith}
use Rattle.std.specs.List.{AllZip}
use Rattle.vmx_model.specs.declared.limits.TheConstants.{MAX_ALL_DESCRIPTORS, MAX_RECORDS, MAX_BYTES}
use Rattle.vmx_model.specs.Ranges.{is_prefix}
use Rattle.vmx_config.specs.Plans.{IsGuest}
use Rattle.vmx_config.proofs.Plans.{names_differ, ports, descriptors_same, no_records, no_bytes}
use Rattle.vmx_config.proofs.plan.plan_of.Goals as goal

pub invariant_of-result : goal.invariant_of-result
invariant_of-result c =
    let s = c.args.settings.now in
    let range = c.requires.range in
    let guests = c.in_ok-guests.guests in
    let zip : AllZip IsGuest guests s.guests = subst (AllZip IsGuest guests) c.as_slice.ensures.items c.in_ok-guests.ensures.guests in
    record {
      prefix_fits = subst (λ (t : List ℕ). is_prefix t ≡ true) (sym c.in_ok-copy_of.ensures.copy) range.output;
      poll_low = range.poll_low;
      poll_high = range.poll_high;
      names_differ = names_differ guests s.guests zip range.apart;
      ports = ports guests s.guests zip range.apart range.guests range.some range.few;
      descriptors = subst (λ (n : ℕ). n ≤ MAX_ALL_DESCRIPTORS) (sym (descriptors_same guests s.guests zip)) range.total;
      records = subst (λ (n : ℕ). n ≤ MAX_RECORDS) (sym (no_records guests s.guests zip)) (omega arith);
      bytes = subst (λ (n : ℕ). n ≤ MAX_BYTES) (sym (no_bytes guests s.guests zip)) (omega arith);
    }
