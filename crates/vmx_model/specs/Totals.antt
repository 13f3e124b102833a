-- What a plan's guests have together (own to this project).
use Rattle.std.specs.Prelude.{ℕ, ◌+◌, ◌*◌, Bool, List, [], ◌∷◌, length, map}
use Rattle.vmx_pcap.specs.declared.records.Stamped.{Stamped}
use Rattle.vmx_model.specs.declared.limits.TheConstants.{RECORD_HEADER}
use Rattle.vmx_switch.specs.Ports.{Wiring, is_wiring}
use Rattle.vmx_model.specs.declared.guest.GuestPlan.{GuestPlan}

-- the guests' names
abbrev pub names_of : List GuestPlan → List (List ℕ)
names_of guests = map (λ g. g.name) guests

-- the guests' addresses, by port
abbrev pub macs_of : List GuestPlan → List (List ℕ)
macs_of guests = map (λ g. g.mac) guests

-- which ports are given every frame
abbrev pub sniffers_of : List GuestPlan → List Bool
sniffers_of guests = map (λ g. g.sniffer) guests

-- what the switch is made of
abbrev pub wiring : List GuestPlan → Wiring
wiring guests = record { macs = macs_of guests; sniffers = sniffers_of guests }

-- 1 to 16 guests with different addresses that name no group
abbrev pub have_ports : List GuestPlan → Bool
have_ports guests = is_wiring (macs_of guests) (sniffers_of guests)

-- the descriptors of all rings
abbrev pub descriptors_of : List GuestPlan → ℕ
descriptors_of [] = 0
descriptors_of (g ∷ gs) = g.setup.tx_queues * g.setup.tx_ring + g.setup.rx_queues * (g.setup.rx_ring1 + g.setup.rx_ring2) + descriptors_of gs

-- the records of all captures
abbrev pub records_of : List GuestPlan → ℕ
records_of [] = 0
records_of (g ∷ gs) = length g.capture.records + records_of gs

-- a record has 16 bytes before its frame
abbrev pub frame_bytes : List Stamped → ℕ
frame_bytes [] = 0
frame_bytes (r ∷ rs) = RECORD_HEADER + length r.frame + frame_bytes rs

-- the bytes of all captures: records and tails
abbrev pub bytes_of : List GuestPlan → ℕ
bytes_of [] = 0
bytes_of (g ∷ gs) = frame_bytes g.capture.records + g.capture.tail + bytes_of gs
