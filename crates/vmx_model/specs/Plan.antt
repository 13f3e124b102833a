-- What a plan says of each captured frame, and the commands of a guest's driver.
use Rattle.std.specs.Prelude.{◌≡◌, ℕ, ◌+◌, Bool, false, ◌&&◌, not, nat_eq, nat_le, nat_lt, if◌then◌else◌, List, [], ◌∷◌, ◌++◌, length, map, take, filter, Option, Some, None, slice_get, option_map}
use Rattle.vmx_frame.specs.declared.ethernet.TheConstants.{HEADER_LEN}
use Rattle.vmx_model.specs.declared.limits.TheConstants.{ABOVE_MTU}
use Rattle.vmx_layout.specs.Command.{number_of}
use Rattle.vmx_layout.specs.declared.command.Command.TheVariants.{ActivateDev, QuiesceDev, ResetDev, UpdateRxMode, UpdateMacFilters, UpdateVlanFilters, UpdateRssidt}
use Rattle.vmx_ends.specs.declared.frames.Sent.{Sent}
use Rattle.vmx_model.specs.declared.deeds.Deed.TheVariants as deed
use Rattle.vmx_model.specs.declared.sending.Sending.TheVariants as sending
use Rattle.vmx_model.specs.Types.{Stamped, Deed, Action, GuestPlan, Plan, Tag, Sending}
use Rattle.vmx_model.specs.Lists.{count}
use Rattle.vmx_model.specs.Deeds.{begins, is_reset, is_quiet}
use Rattle.vmx_device_state.specs.Orders.{is_get}
use Rattle.vmx_device_state.specs.SetupView.{SetupView, RssView, mac_list, setup_view}
use Rattle.vmx_model.specs.Wire.{posted_form, wire_form, tx_queue}

-- ------------------------------------------------------------ verdicts

-- the actions up to a captured number
abbrev pub past : ℕ → List Action → List Action
past i script = filter (λ a. nat_le a.at i) script

-- whether the guest is quiesced at a captured number
abbrev pub is_down : GuestPlan → ℕ → Bool
is_down g i = is_quiet false (past i g.script)

-- the activation at a captured number: the activates and resets up to there
abbrev pub activation_at : GuestPlan → ℕ → ℕ
activation_at g i = count (λ a. begins a.deed) (past i g.script)

-- a captured frame as it is posted, beside its number
pub record Captured : Type 0 where
  pub number : ℕ
  pub posted : Sent

-- a record of a guest's capture
abbrev pub captured_as : GuestPlan → ℕ → Stamped → Captured
captured_as g i r = record { number = i; posted = posted_form g r.frame }

-- its wire form
abbrev pub wire : Captured → List ℕ
wire c = wire_form c.posted

-- records from number i on
abbrev pub numbered : GuestPlan → ℕ → List Stamped → List Captured
numbered g i [] = []
numbered g i (r ∷ rs) = captured_as g i r ∷ numbered g (i + 1) rs

-- all captured frames of a guest
abbrev pub captured : GuestPlan → List Captured
captured g = numbered g 0 g.capture.records

-- whether the frame is sent on this queue of this activation: at least an Ethernet header of 14 bytes (IEEE 802.3), at most that and a tag above the MTU
abbrev pub goes_on : GuestPlan → ℕ → ℕ → Captured → Bool
goes_on g a q c = not (is_down g c.number) && (nat_le HEADER_LEN (length c.posted.frame) && (nat_le (length (wire c)) (g.setup.mtu + ABOVE_MTU)
    && (nat_eq (activation_at g c.number) a && nat_eq (tx_queue c.posted.frame g.setup.tx_queues) q)))

-- the captured frames that a queue of an activation sends, in their order
abbrev pub sent_on : GuestPlan → ℕ → ℕ → List Captured
sent_on g a q = filter (goes_on g a q) (captured g)

-- their wire forms
abbrev pub frames_of : GuestPlan → ℕ → ℕ → List (List ℕ)
frames_of g a q = map wire (sent_on g a q)

-- and as they are posted
abbrev pub posted_of : GuestPlan → ℕ → ℕ → List Sent
posted_of g a q = map (λ (c : Captured). c.posted) (sent_on g a q)

-- how many frames of that queue were captured before number i
abbrev pub place_of : GuestPlan → ℕ → ℕ → ℕ → ℕ
place_of g a q i = count (goes_on g a q) (take i (captured g))

-- sent, with its place
abbrev pub sent_at : GuestPlan → ℕ → ℕ → ℕ → Sending
sent_at g a q i = sending.Sent a q (place_of g a q i)

-- the verdict on a captured frame
abbrev pub verdict_on : GuestPlan → Captured → Sending
verdict_on g c =
    if is_down g c.number then sending.Down else
    (if nat_lt (length c.posted.frame) HEADER_LEN then sending.Short else
    (if nat_lt (g.setup.mtu + ABOVE_MTU) (length (wire c)) then sending.TooLong else
    sent_at g (activation_at g c.number) (tx_queue c.posted.frame g.setup.tx_queues) c.number))

-- the captured frame at a tag's place among those of its queue
abbrev pub guest_captured : Option GuestPlan → Tag → Option Captured
guest_captured None t = None
guest_captured (Some g) t = slice_get (sent_on g t.activation t.queue) t.place

-- a tag's captured frame
abbrev pub captured_of : Plan → Tag → Option Captured
captured_of plan t = guest_captured (slice_get plan.guests t.guest) t

-- its wire form
abbrev pub frame_of : Plan → Tag → Option (List ℕ)
frame_of plan t = option_map wire (captured_of plan t)

-- the record of a captured frame
abbrev pub record_of : Option GuestPlan → Option Captured → Option Stamped
record_of None c = None
record_of (Some g) None = None
record_of (Some g) (Some c) = slice_get g.capture.records c.number

-- the record of a tag's captured frame: the stamp of a frame that is handed up is this record's
abbrev pub stamped_of : Plan → Tag → Option Stamped
stamped_of plan t = record_of (slice_get plan.guests t.guest) (captured_of plan t)

-- a frame is the wire form of this record of this guest's capture
pub record HasStamp (g : Option GuestPlan) (r : Option Stamped) (frame : List ℕ) : Type 0 where
  pub guest : GuestPlan
  pub guest_is : g ≡ Some guest
  pub captured : Stamped
  pub captured_is : r ≡ Some captured
  pub frame_is : frame ≡ wire_form (posted_form guest captured.frame)

-- the action is there, and is a reset
abbrev pub is_reset_there : Option Action → Bool
is_reset_there None = false
is_reset_there (Some a) = is_reset a.deed

-- whether a scripted reset ended the activation: the deed that begins the next one is a reset
abbrev pub ends_by_reset : GuestPlan → ℕ → Bool
ends_by_reset g a = is_reset_there (slice_get (filter (λ x. begins x.deed) g.script) a)

-- ------------------------------------------------------------ commands (numbers: Linux vmxnet3_defs.h)

-- ACTIVATE_DEV
abbrev pub activate_dev : ℕ
activate_dev = number_of ActivateDev

-- QUIESCE_DEV
abbrev pub quiesce_dev : ℕ
quiesce_dev = number_of QuiesceDev

-- RESET_DEV
abbrev pub reset_dev : ℕ
reset_dev = number_of ResetDev

-- UPDATE_RX_MODE
abbrev pub update_rx_mode : ℕ
update_rx_mode = number_of UpdateRxMode

-- UPDATE_MAC_FILTERS
abbrev pub update_mac_filters : ℕ
update_mac_filters = number_of UpdateMacFilters

-- UPDATE_VLAN_FILTERS
abbrev pub update_vlan_filters : ℕ
update_vlan_filters = number_of UpdateVlanFilters

-- UPDATE_RSSIDT
abbrev pub update_rssidt : ℕ
update_rssidt = number_of UpdateRssidt

-- every number but those of the commands that ask for a value is a set command's
abbrev pub is_set : ℕ → Bool
is_set number = not (is_get number)

-- the commands of a deed
abbrev pub deed_commands : Deed → List ℕ
deed_commands deed.Quiesce = quiesce_dev ∷ []
deed_commands deed.Activate = activate_dev ∷ []
deed_commands deed.Reset = reset_dev ∷ activate_dev ∷ []
deed_commands (deed.Mode m) = update_rx_mode ∷ []
deed_commands (deed.Multicast t) = update_mac_filters ∷ []
deed_commands (deed.Vlans t) = update_vlan_filters ∷ []
deed_commands (deed.Rss n t) = update_rssidt ∷ []

-- whether the plan closes with a quiesce of its own
abbrev pub closes : GuestPlan → Bool
closes g = not (is_quiet false g.script)

-- another indirection table
abbrev pub new_table : ℕ → List ℕ → Option RssView → Option RssView
new_table size table None = None
new_table size table (Some r) = Some (record r { size = size; table = table })

-- the setup after a deed
abbrev pub changed : SetupView → Deed → SetupView
changed s deed.Quiesce = s
changed s deed.Activate = s
changed s deed.Reset = s
changed s (deed.Mode m) = record s { mode = m }
changed s (deed.Multicast t) = record s { macs = mac_list t }
changed s (deed.Vlans t) = record s { vlans = t }
changed s (deed.Rss size table) = record s { rss = new_table size table s.rss }

-- a set command, and what its image says
pub record Ask : Type 0 where
  pub number : ℕ
  pub setup : SetupView

-- the commands of the deeds, each with the setup as the deeds so far left it
abbrev pub deed_asks : SetupView → List Action → List Ask
deed_asks s [] = []
deed_asks s (a ∷ rest) = map (λ number. record { number = number; setup = changed s a.deed }) (deed_commands a.deed) ++ deed_asks (changed s a.deed) rest

-- the setup after all deeds
abbrev pub after_script : SetupView → List Action → SetupView
after_script s [] = s
after_script s (a ∷ rest) = after_script (changed s a.deed) rest

-- the setup of the first activation
abbrev pub first_setup : GuestPlan → SetupView
first_setup g = setup_view g.setup

-- the set commands of a guest's driver, from the first activation to the closing quiesce
abbrev pub asks : GuestPlan → List Ask
asks g = record { number = activate_dev; setup = first_setup g } ∷ (deed_asks (first_setup g) g.script
    ++ (if closes g then record { number = quiesce_dev; setup = after_script (first_setup g) g.script } ∷ [] else []))

-- their numbers
abbrev pub commands : GuestPlan → List ℕ
commands g = map (λ (x : Ask). x.number) (asks g)
