-- The plan of settings (own to this project).
use Rattle.std.specs.Prelude.{◌≡◌, ℕ, ◌≤◌, false, List, [], length, replicate, map, Option, option_map, Result, Ok, Err}
use Rattle.std.specs.List.{AllZip}
use Rattle.vmx_shared_area.specs.declared.offsets.TheConstants.{LEVEL_COUNT, MAX_MACS}
use Rattle.vmx_device_state.specs.SetupView.{SetupView, RssView, mac_list, setup_view}
use Rattle.vmx_model.specs.declared.deeds.Deed.{Deed}
use Rattle.vmx_model.specs.declared.deeds.Deed.TheVariants as told
use Rattle.vmx_model.specs.declared.deeds.Action.{Action}
use Rattle.vmx_model.specs.declared.guest.GuestPlan.{GuestPlan}
use Rattle.vmx_model.specs.declared.plan.Plan.{Plan}
use Rattle.vmx_config_rows.specs.declared.fault.ConfigFault.{ConfigFault}
use Rattle.vmx_config_rows.specs.Reading.{Fails}
use Rattle.vmx_config.specs.declared.parts.RssSettings.{RssSettings}
use Rattle.vmx_config.specs.declared.parts.DeedSettings.{DeedSettings}
use Rattle.vmx_config.specs.declared.parts.DeedSettings.TheVariants as deed
use Rattle.vmx_config.specs.declared.parts.ActionSettings.{ActionSettings}
use Rattle.vmx_config.specs.declared.parts.GuestSettings.{GuestSettings}
use Rattle.vmx_config.specs.declared.parts.Settings.{Settings}
use Rattle.vmx_config.specs.declared.config.Config.{Config}

-- a deed as settings have it: a multicast table by its addresses
abbrev pub deed_view : Deed → DeedSettings
deed_view told.Quiesce = deed.Quiesce
deed_view told.Activate = deed.Activate
deed_view told.Reset = deed.Reset
deed_view (told.Mode m) = deed.Mode m
deed_view (told.Multicast t) = deed.Multicast (mac_list t)
deed_view (told.Vlans t) = deed.Vlans t
deed_view (told.Rss size table) = deed.Rss (record { size = size; table = table })

abbrev pub action_view : Action → ActionSettings
action_view a = record { at = a.at; deed = deed_view a.deed }

-- a table has room for the addresses of a deed
abbrev pub HasRoom : DeedSettings → Type 0
HasRoom deed.Quiesce = Unit {0}
HasRoom deed.Activate = Unit {0}
HasRoom deed.Reset = Unit {0}
HasRoom (deed.Mode m) = Unit {0}
HasRoom (deed.Multicast g) = length g ≤ MAX_MACS
HasRoom (deed.Vlans t) = Unit {0}
HasRoom (deed.Rss e) = Unit {0}

abbrev pub rss_of : RssSettings → RssView
rss_of r = record { types = r.types; key = r.key; size = r.entries.size; table = r.entries.table }

-- the setup of a guest: interrupts mask themselves at level 0, and no checksums are checked
abbrev pub setup_of : GuestSettings → SetupView
setup_of g = record {
  tx_queues = g.rings.tx_queues;
  rx_queues = g.rings.rx_queues;
  tx_ring = g.rings.tx_ring;
  rx_ring1 = g.rings.rx_ring1;
  rx_ring2 = g.rings.rx_ring2;
  mtu = g.port.mtu;
  mode = g.filter.mode;
  macs = g.filter.multicast;
  vlans = g.filter.vlans;
  rss = option_map rss_of g.rss;
  auto_mask = 1;
  levels = replicate LEVEL_COUNT 0;
  tx_data = g.rings.tx_data;
  rx_data = g.rings.rx_data;
  strip = g.port.strip;
  csum = false;
}

-- the guest of a plan that settings ask for, with an empty capture
pub record IsGuest (g : GuestPlan) (s : GuestSettings) : Type 0 where
  pub name : g.name ≡ s.port.name
  pub mac : g.mac ≡ s.port.mac
  pub sniffer : g.sniffer ≡ s.port.sniffer
  pub vlan : g.vlan ≡ s.port.vlan
  pub piece : g.piece ≡ s.rings.piece
  pub bodies : g.bodies ≡ s.rings.bodies
  pub setup : setup_view g.setup ≡ setup_of s
  pub capture : g.capture ≡ record { records = []; tail = 0 }
  pub script : map action_view g.script ≡ s.script

pub record IsPlan (plan : Plan) (s : Settings) : Type 0 where
  pub prefix : plan.prefix ≡ s.output
  pub poll_every : plan.poll_every ≡ s.poll_every
  pub guests : AllZip IsGuest plan.guests s.guests

-- the names of the guests' captures
abbrev pub captures_of : List GuestSettings → List (Option (List ℕ))
captures_of gs = map (λ g. g.port.capture) gs

-- what settings ask for: a plan, and the names of its guests' captures
pub record IsConfig (c : Config) (s : Settings) : Type 0 where
  pub plan : IsPlan c.plan s
  pub captures : c.captures ≡ captures_of s.guests

-- what was answered is what settings that were read ask for, or their fault, unless memory ran out
abbrev pub Reads : Result Config ConfigFault → Result Settings ConfigFault → Type 0
Reads (Ok c) read = (s : Settings) × (read ≡ Ok s) × IsConfig c s
Reads (Err e) read = Fails e read
