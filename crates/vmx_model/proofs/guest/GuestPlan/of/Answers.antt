use Rattle.std.proofs.Common.{◌≡◌, ◌≤◌, length, ◌%◌, ◌==◌, ◌&&◌, true, nat_le, sym, ◌∙◌, is_some, slice_index}
use Rattle.std.proofs.lemmas.Bool.{and_parts, leb-true, eqb-true}
use Rattle.vmx_model.specs.declared.guest_parts.GuestParts.{GuestParts}
use Rattle.vmx_ends.specs.declared.limits.TheConstants.{MAX_PIECE, MAX_BODIES}
use Rattle.vmx_ends.specs.Queues.{least_piece}
use Rattle.vmx_model.specs.declared.limits.TheConstants.{MAX_ACTIONS}
use Rattle.vmx_model.specs.Ranges.{is_name, fits_vlan, fits_piece, fits_setup, fits_script}
use Rattle.vmx_model.specs.Makers.{guest_fits}
use Rattle.vmx_model.proofs.guest.GuestPlan.of.Goals as goal

-- the tests of a guest, each by itself
abbrev Tests : GuestParts → Type 0
Tests p = record {
  name : is_name p.name ≡ true;
  unicast : slice_index p.mac 0 % 2 ≡ 0;
  vlan : fits_vlan p.vlan ≡ true;
  low : least_piece p.setup.tx_data ≤ p.piece;
  high : p.piece ≤ MAX_PIECE;
  bodies : p.bodies ≤ MAX_BODIES;
  setup : fits_setup p.setup ≡ true;
  actions : length p.script ≤ MAX_ACTIONS;
  script : fits_script p.setup.rx_queues (is_some p.setup.rss) p.script ≡ true;
}

tests : (p : GuestParts) → guest_fits p ≡ true → Tests p
tests p h =
    let a = and_parts (is_name p.name && slice_index p.mac 0 % 2 == 0 && fits_vlan p.vlan && fits_piece p.setup.tx_data p.piece && nat_le p.bodies MAX_BODIES && fits_setup p.setup && nat_le (length p.script) MAX_ACTIONS) (fits_script p.setup.rx_queues (is_some p.setup.rss) p.script) h in
    let b = and_parts (is_name p.name && slice_index p.mac 0 % 2 == 0 && fits_vlan p.vlan && fits_piece p.setup.tx_data p.piece && nat_le p.bodies MAX_BODIES && fits_setup p.setup) (nat_le (length p.script) MAX_ACTIONS) a.0 in
    let s = and_parts (is_name p.name && slice_index p.mac 0 % 2 == 0 && fits_vlan p.vlan && fits_piece p.setup.tx_data p.piece && nat_le p.bodies MAX_BODIES) (fits_setup p.setup) b.0 in
    let d = and_parts (is_name p.name && slice_index p.mac 0 % 2 == 0 && fits_vlan p.vlan && fits_piece p.setup.tx_data p.piece) (nat_le p.bodies MAX_BODIES) s.0 in
    let e = and_parts (is_name p.name && slice_index p.mac 0 % 2 == 0 && fits_vlan p.vlan) (fits_piece p.setup.tx_data p.piece) d.0 in
    let f = and_parts (is_name p.name && slice_index p.mac 0 % 2 == 0) (fits_vlan p.vlan) e.0 in
    let g = and_parts (is_name p.name) (slice_index p.mac 0 % 2 == 0) f.0 in
    let both = and_parts (nat_le (least_piece p.setup.tx_data) p.piece) (nat_le p.piece MAX_PIECE) e.1 in
    record {
      name = g.0;
      unicast = eqb-true (slice_index p.mac 0 % 2) 0 g.1;
      vlan = f.1;
      low = leb-true (least_piece p.setup.tx_data) p.piece both.0;
      high = leb-true p.piece MAX_PIECE both.1;
      bodies = leb-true p.bodies MAX_BODIES d.1;
      setup = s.1;
      actions = leb-true (length p.script) MAX_ACTIONS b.1;
      script = a.1;
    }

pub invariant_of-result : goal.invariant_of-result
invariant_of-result c =
    let kept : Tests c.args.parts = tests c.args.parts (sym c.fits_guest.ensures.fits ∙ c.if-not-fits_guest.false) in
    record {
      name_fits = kept.name;
      unicast = kept.unicast;
      vlan_fits = kept.vlan;
      piece_low = kept.low;
      piece_high = kept.high;
      bodies_high = kept.bodies;
      setup_fits = kept.setup;
      script_length = kept.actions;
      script_fits = kept.script;
    }
