use Rattle.std.proofs.Common.{◌≡◌, ◌≤◌, ◌%◌, ℕ, Bool, true, false, List, length, refl, ap, sym, subst, arith, rules}
use Rattle.std.specs.Prelude.{slice_index, is_some}
use Rattle.vmx_ends.specs.Queues.{least_piece}
use Rattle.vmx_device_state.specs.SetupView.{SetupView}
use Rattle.vmx_model.specs.declared.deeds.Action.{Action}
use Rattle.vmx_model.specs.declared.limits.TheConstants.{MAX_ACTIONS}
use Rattle.vmx_model.specs.Ranges.{is_name, fits_script}
use Rattle.vmx_generator.proofs.Guests.{is_named}
use Rattle.vmx_generator.proofs.plan.guest.Goals as goal

pub invariant_of-result : goal.invariant_of-result
invariant_of-result c =
    let setup = c.setup.result in
    let none = c.new.ensures.empty in
    let no_data : setup.tx_data ≡ false = ap (λ (v : SetupView). v.tx_data) c.setup.ensures.setup in
    record {
      name_fits = subst (λ (n : List ℕ). is_name n ≡ true) (sym c.in_ok-name.ensures.name) (is_named c.args.number c.requires.number);
      unicast = ap (λ (mac : List ℕ). slice_index mac 0 % 2) c.address.ensures.address;
      vlan_fits = refl;
      piece_low = subst (λ (b : Bool). least_piece b ≤ 4096) (sym no_data) (omega arith);
      piece_high = omega arith;
      bodies_high = omega arith;
      setup_fits = c.setup.ensures.fits;
      script_length = subst (λ (script : List Action). length script ≤ MAX_ACTIONS) (sym none) (omega arith);
      script_fits = subst (λ (script : List Action). fits_script setup.rx_queues (is_some setup.rss) script ≡ true) (sym none) refl;
    }

pub returns : goal.returns
returns c = record {
  guest = record {
    name = c.in_ok-name.ensures.name;
    mac = c.address.ensures.address;
    sniffer = search rules;
    vlan = refl;
    piece = refl;
    bodies = refl;
    setup = c.setup.ensures.setup;
    records = c.in_ok-capture.ensures.records;
    tail = c.in_ok-capture.ensures.tail;
    script = c.new.ensures.empty;
  };
}
