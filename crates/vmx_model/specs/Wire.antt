-- The two forms of a frame, and what the switch and the hash make of it.
use Rattle.std.proofs.Common.{◌≡◌, ◌<◌, ◌≤◌, refl, arith}
use Rattle.std.proofs.lemmas.Bool.Decides.{nat_tests}
use Rattle.std.proofs.lemmas.Bool.{and_parts}
use Rattle.vmx_model.specs.Ranges.{fits_vlan}
use Rattle.std.specs.Prelude.{ℕ, ◌+◌, Bool, true, false, nat_le, ◌&&◌, not, if◌then◌else◌, is_some, List, length, Option, Some, None}
use Rattle.vmx_frame.specs.declared.ethernet.TheConstants.{HEADER_LEN}
use Rattle.vmx_frame.specs.Ethernet.{is_tagged, class_of}
use Rattle.vmx_frame.specs.Tags.{AreOctets, with_tag}
use Rattle.vmx_frame.specs.TagLaws.{put_length, put_class, put_flow, put_octets}
use Rattle.vmx_frame.specs.Internet.{flow_of}
use Rattle.vmx_switch.specs.Ports.{Wiring, target_ports}
use Rattle.vmx_rss.specs.Queues.{tx_queue_of}
use Rattle.vmx_rss.specs.declared.answer.Choice.{Choice}
use Rattle.vmx_ends.specs.Marks.{mark_with}
use Rattle.vmx_ends.specs.declared.frames.Sent.{Sent}
use Rattle.vmx_model.specs.Types.{GuestPlan}
use Rattle.vmx_device_state.specs.SetupView.{RssView}
use Rattle.vmx_model.specs.Setups.{choice}

-- a frame is given a tag where it has an Ethernet header and no tag
abbrev pub takes_tag : List ℕ → Bool
takes_tag frame = nat_le HEADER_LEN (length frame) && not (is_tagged frame)

-- the posted form, which a transmit queue holds: the captured bytes, and as mark the guest's VLAN where a tag is put in
abbrev pub posted_form : GuestPlan → List ℕ → Sent
posted_form g frame = record { frame = frame; mark = mark_with (if takes_tag frame then g.vlan else None) }

-- the wire form, which switch, filter and hash read: with the mark's tag put in
abbrev pub wire_form : Sent → List ℕ
wire_form s = with_tag s.mark.tci s.frame

-- the transmit queue of a frame
abbrev pub tx_queue : List ℕ → ℕ → ℕ
tx_queue frame queues = tx_queue_of (flow_of frame) queues

-- the receive queue of a frame, with hash and kind
abbrev pub rx_choice : Option RssView → List ℕ → Choice
rx_choice h frame = choice h (flow_of frame)

-- the receive queue of a frame
abbrev pub rx_queue : Option RssView → List ℕ → ℕ
rx_queue h frame = (rx_choice h frame).queue

-- the ports to which the switch gives a frame, in port order
abbrev pub targets : Wiring → ℕ → List ℕ → List ℕ
targets w from frame = target_ports w from frame

-- ------------------------------------------------------------ lengths

-- without a VLAN, or with a tag, the wire form is as long as the frame; else it has four bytes more
pub wire_length : (g : GuestPlan) (frame : List ℕ) → 14 ≤ length frame → length (wire_form (posted_form g frame)) ≡ length frame + (if is_some g.vlan && not (is_tagged frame) then 4 else 0)
wire_length g frame h = step (is_tagged frame) g.vlan refl refl
  where
    long : nat_le 14 (length frame) ≡ true
    long = grind (arith, nat_tests, h)

    step : (b : Bool) (o : Option ℕ) → is_tagged frame ≡ b → g.vlan ≡ o → length (wire_form (posted_form g frame)) ≡ length frame + (if is_some g.vlan && not (is_tagged frame) then 4 else 0)
    step true None e k = rw (long, e, k) (omega arith)
    step true (Some x) e k = rw (long, e, k) (omega arith)
    step false None e k = rw (long, e, k) (omega arith)
    step false (Some x) e k = rw (long, e, k) (put_length frame x h)

-- a tag changes neither class nor flow: so a transmit queue is chosen by the captured bytes
pub wire_class : (g : GuestPlan) (frame : List ℕ) → class_of (wire_form (posted_form g frame)) ≡ class_of frame
wire_class g frame = step (nat_le 14 (length frame)) (is_tagged frame) g.vlan refl refl refl
  where
    step : (a b : Bool) (o : Option ℕ) → nat_le 14 (length frame) ≡ a → is_tagged frame ≡ b → g.vlan ≡ o → class_of (wire_form (posted_form g frame)) ≡ class_of frame
    step true true o d e k = rw (d, e) refl
    step true false None d e k = rw (d, e, k) refl
    step true false (Some x) d e k = let h : 14 ≤ length frame = grind (arith, nat_tests, d) in rw (d, e, k) (put_class frame x h)
    step false b o d e k = rw d refl

pub wire_flow : (g : GuestPlan) (frame : List ℕ) → flow_of (wire_form (posted_form g frame)) ≡ flow_of frame
wire_flow g frame = step (nat_le 14 (length frame)) (is_tagged frame) g.vlan refl refl refl
  where
    step : (a b : Bool) (o : Option ℕ) → nat_le 14 (length frame) ≡ a → is_tagged frame ≡ b → g.vlan ≡ o → flow_of (wire_form (posted_form g frame)) ≡ flow_of frame
    step true true o d e k = rw (d, e) refl
    step true false None d e k = rw (d, e, k) refl
    step true false (Some x) d e k = let h : 14 ≤ length frame = grind (arith, nat_tests, d) in rw (d, e, k) (put_flow frame x h e)
    step false b o d e k = rw d refl

vlan_low : (o : Option ℕ) (x : ℕ) → fits_vlan o ≡ true → o ≡ Some x → x < 65536
vlan_low None x h e = absurd (cc e)
vlan_low (Some y) x h e = let same : y ≡ x = cc e in let both = and_parts (nat_le 1 y) (nat_le y 4094) h in grind (arith, nat_tests, both.1, same)

-- the wire form of bytes is bytes
pub wire_octets : (g : GuestPlan) (frame : List ℕ) → AreOctets frame → AreOctets (wire_form (posted_form g frame))
wire_octets g frame octets = step (nat_le 14 (length frame)) (is_tagged frame) g.vlan refl refl refl
  where
    step : (a b : Bool) (o : Option ℕ) → nat_le 14 (length frame) ≡ a → is_tagged frame ≡ b → g.vlan ≡ o → AreOctets (wire_form (posted_form g frame))
    step true true o d e k = rw (d, e) octets
    step true false None d e k = rw (d, e, k) octets
    step true false (Some x) d e k = rw (d, e, k) (put_octets frame x (vlan_low g.vlan x g.vlan_fits k) octets)
    step false b o d e k = rw d octets
