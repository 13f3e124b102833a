-- The record that the guests of a run leave.
use Rattle.std.specs.Prelude.{List, map, flat_map, slice_get}
use Rattle.vmx_ends.specs.LinkView.{LinkView}
use Rattle.vmx_link.specs.Views.{LinkOutView, LinkInView}
use Rattle.vmx_model.specs.Views as model
use Rattle.vmx_replay_worlds.specs.Guests.{GuestView}
use Rattle.vmx_replay_worlds.specs.Worlds.{input_by, pulled_by, ins_of}

-- of a guest: its device's journal and statistics; its driver's frames, facts of queues and commands
abbrev pub left_by : GuestView → model.GuestView
left_by r = record { entries = r.device.entries; setups = r.device.setups; received = r.driver.received; tx = r.driver.tx_facts; rx = r.driver.rx_facts; told = r.driver.calls.turns; tx_stats = r.device.machine.tx_stats; rx_stats = r.device.machine.rx_stats }

-- a link by its sender's end, among the links in of all guests by port
abbrev pub link_by : List (List LinkInView) → LinkOutView → LinkView
link_by ins o = record { from = o.from; to = o.to; pushed = o.pushed; pulled = pulled_by (input_by o.from (slice_get ins o.to)); full = o.full }

-- the links out of all guests, by sender and then target
abbrev pub outs_in_order : List GuestView → List LinkOutView
outs_in_order rs = flat_map (λ (r : GuestView). r.device.out) rs

-- of all guests
abbrev pub record_of : List GuestView → model.RecordView
record_of rs = record { guests = map left_by rs; links = map (link_by (ins_of rs)) (outs_in_order rs) }
