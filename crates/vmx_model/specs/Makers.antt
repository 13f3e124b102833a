-- What the makers of guests and plans test (own to this project).
use Rattle.std.specs.Prelude.{ℕ, ◌%◌, ◌==◌, Bool, ◌&&◌, nat_le, List, length, slice_index, is_some}
use Rattle.vmx_switch.specs.Ports.{are_distinct}
use Rattle.vmx_model.specs.declared.guest.GuestPlan.{GuestPlan}
use Rattle.vmx_model.specs.declared.guest_parts.GuestParts.{GuestParts}
use Rattle.vmx_ends.specs.declared.limits.TheConstants.{MAX_BODIES}
use Rattle.vmx_model.specs.declared.limits.TheConstants.{MAX_ACTIONS, MAX_COPIES, MAX_ALL_DESCRIPTORS, MAX_RECORDS, MAX_BYTES}
use Rattle.vmx_model.specs.Ranges.{is_within, is_name, is_prefix, fits_vlan, fits_piece, fits_setup, fits_script}
use Rattle.vmx_model.specs.Totals.{names_of, have_ports, descriptors_of, records_of, bytes_of}

-- the parts of a guest
abbrev pub parts_of : GuestPlan → GuestParts
parts_of g = record { name = g.name; mac = g.mac; sniffer = g.sniffer; vlan = g.vlan; piece = g.piece; bodies = g.bodies; setup = g.setup; capture = g.capture; script = g.script }

-- the ranges of a guest: all that its type keeps
abbrev pub guest_fits : GuestParts → Bool
guest_fits p =
    is_name p.name && slice_index p.mac 0 % 2 == 0 && fits_vlan p.vlan && fits_piece p.setup.tx_data p.piece && nat_le p.bodies MAX_BODIES
    && fits_setup p.setup && nat_le (length p.script) MAX_ACTIONS && fits_script p.setup.rx_queues (is_some p.setup.rss) p.script

-- the ranges of a plan: all that its type keeps
abbrev pub plan_fits : List ℕ → ℕ → List GuestPlan → Bool
plan_fits prefix poll_every guests =
    is_prefix prefix && is_within 1 MAX_COPIES poll_every && are_distinct (names_of guests) && have_ports guests
    && nat_le (descriptors_of guests) MAX_ALL_DESCRIPTORS && nat_le (records_of guests) MAX_RECORDS && nat_le (bytes_of guests) MAX_BYTES
