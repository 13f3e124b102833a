use Rattle.std.proofs.Common.{◌≡◌, ◌≤◌, ℕ, Bool, true, false, List, length, map, ap, sym, ◌∙◌, subst}
use Rattle.std.specs.Prelude.{is_some}
use Rattle.std.specs.List.{All}
use Rattle.std.proofs.lemmas.List.{length-map}
use Rattle.vmx_ends.specs.Queues.{least_piece}
use Rattle.vmx_device_state.specs.SetupView.{SetupView}
use Rattle.vmx_model.specs.declared.limits.TheConstants.{MAX_ACTIONS}
use Rattle.vmx_model.specs.Ranges.{is_name, fits_from}
use Rattle.vmx_config.specs.declared.parts.ActionSettings.{ActionSettings}
use Rattle.vmx_config.specs.Ranges.{ScriptInRange}
use Rattle.vmx_config.specs.Plans.{action_view, HasRoom}
use Rattle.vmx_config.proofs.Plans.{script_fits, script_room, some_same}
use Rattle.vmx_config.proofs.plan.guest_of.Goals as goal

pub script_of-requires : goal.script_of-requires
script_of-requires c =
    let s = c.args.settings.now in
    record { room = subst (λ (xs : List ActionSettings). All (λ (a : ActionSettings). HasRoom a.deed) xs) (sym c.as_slice.ensures.items) (script_room s.rings.rx_queues (is_some s.rss) false 0 s.script c.requires.range.script) }

pub invariant_of-result : goal.invariant_of-result
invariant_of-result c =
    let s = c.args.settings.now in
    let range = c.requires.range in
    let view = c.setup_of-setup.ensures.setup in
    let setup = c.setup_of-setup.result in
    let script = c.in_ok-script.script in
    let actions : map action_view script ≡ s.script = c.in_ok-script.ensures.script ∙ c.as_slice.ensures.items in
    let rss = some_same setup.rss s.rss (ap (λ (v : SetupView). v.rss) view) in
    let queues = ap (λ (v : SetupView). v.rx_queues) view in
    let in_range : ScriptInRange s.rings.rx_queues (is_some s.rss) false 0 (map action_view script) = subst (ScriptInRange s.rings.rx_queues (is_some s.rss) false 0) (sym actions) range.script in
    record {
      name_fits = subst (λ (n : List ℕ). is_name n ≡ true) (sym c.in_ok-name.ensures.copy) range.port.name;
      unicast = range.port.unicast;
      vlan_fits = range.port.vlan;
      piece_low = subst (λ (b : Bool). least_piece b ≤ s.rings.piece) (sym (ap (λ (v : SetupView). v.tx_data) view)) range.rings.piece_low;
      piece_high = range.rings.piece_high;
      bodies_high = range.rings.bodies;
      setup_fits = c.setup_of-setup.ensures.fits;
      script_length = subst (λ (n : ℕ). n ≤ MAX_ACTIONS) (sym (sym (length-map script action_view) ∙ ap length actions)) range.actions;
      script_fits = subst (λ (q : ℕ). fits_from q (is_some setup.rss) false 0 script ≡ true) (sym queues)
          (subst (λ (b : Bool). fits_from s.rings.rx_queues b false 0 script ≡ true) (sym rss) (script_fits s.rings.rx_queues (is_some s.rss) false 0 script in_range));
    }
