use Rattle.std.proofs.Common.{Some, map, sym, ap, ◌∙◌}
use Rattle.std.specs.Prelude.{option_map, string_bytes, not}
use Rattle.vmx_config_rows.specs.Reading.{is_known, all_known}
use Rattle.vmx_config_rows.proofs.Items.{find_view, fault_fails}
use Rattle.vmx_config_rows.proofs.keys.known_keys.Goals as goal

pub returns-in-None : goal.returns-in-None
returns-in-None c =
    let found = find_view (λ k. not (is_known (map (λ n. n.now) c.args.known.now) k)) c.args.table.now.entries in
    record { known = ap (all_known c.args.spot c.args.prefix.now) (sym found ∙ ap (option_map string_bytes) (sym c.in-None.ensures.first)) }

pub returns-in-Some : goal.returns-in-Some
returns-in-Some c =
    let found = find_view (λ k. not (is_known (map (λ n. n.now) c.args.known.now) k)) c.args.table.now.entries in
    record { known = fault_fails _ _ _ c.unknown.ensures.fault (ap (all_known c.args.spot c.args.prefix.now) (sym found ∙ ap (option_map string_bytes) (sym c.in-Some.ensures.first) ∙ ap Some (sym c.as_str.ensures.value))) }
