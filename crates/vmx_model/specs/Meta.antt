-- The delivered form of a frame: its bytes, perhaps without their tag, and what a device tells of it.
use Rattle.std.proofs.Common.{◌≡◌, refl, ℕ, ◌≤◌, Bool, true, false, Option, Some, None, List, arith}
use Rattle.std.specs.Prelude.{◌==◌, ◌&&◌, ◌%◌, if◌then◌else◌, is_some, slice_index}
use Rattle.vmx_frame.specs.Internet.{flow_of}
use Rattle.vmx_frame.specs.declared.kinds.Flow.{Flow}
use Rattle.vmx_frame.specs.declared.kinds.Flow.TheVariants.{NonIp, V4, V6}
use Rattle.vmx_rss.specs.Queues.{kind_of, allows, no_choice, flow_hash}
use Rattle.vmx_rss.specs.declared.answer.Choice.{Choice}
use Rattle.vmx_rss.specs.declared.answer.TheConstants.{KIND_IPV4, KIND_TCP_IPV4, KIND_IPV6, KIND_TCP_IPV6}
use Rattle.vmx_rss.specs.declared.queues.TheConstants.{TYPE_IPV4, TYPE_TCP_IPV4, TYPE_IPV6, TYPE_TCP_IPV6}
use Rattle.vmx_ends.specs.declared.meta.RxMeta.{RxMeta}
use Rattle.vmx_frame.specs.Tags.{AreOctets, Stripped, strip_of, with_tag}
use Rattle.vmx_frame.specs.TagLaws.{put_strip}
use Rattle.vmx_ends.specs.declared.frames.Delivery.{Delivery}
use Rattle.vmx_model.specs.Types.{Received}
use Rattle.vmx_device_state.specs.SetupView.{RssView, SetupView}
use Rattle.vmx_model.specs.Setups.{choice}
use Rattle.vmx_model.specs.Wire.{rx_choice}

-- of three kinds one
one_small : (a b : Bool) (m n : ℕ) → m ≤ 4 → n ≤ 4 → (if a then m else if b then n else 0) ≤ 4
one_small true b m n h k = h
one_small false true m n h k = k
one_small false false m n h k = omega arith

kind_small : (types : ℕ) (flow : Flow) → kind_of types flow ≤ 4
kind_small types NonIp = omega arith
kind_small types (V4 s t ports) = one_small (is_some ports && allows types TYPE_TCP_IPV4) (allows types TYPE_IPV4) KIND_TCP_IPV4 KIND_IPV4 (omega arith) (omega arith)
kind_small types (V6 s t ports) = one_small (is_some ports && allows types TYPE_TCP_IPV6) (allows types TYPE_IPV6) KIND_TCP_IPV6 KIND_IPV6 (omega arith) (omega arith)

chosen_small : (b : Bool) (c : Choice) → c.kind ≤ 4 → (if b then no_choice else c).kind ≤ 4
chosen_small true c h = omega arith
chosen_small false c h = h

-- there are four kinds of hash
pub choice_small : (h : Option RssView) (flow : Flow) → (choice h flow).kind ≤ 4
choice_small None flow = omega arith
choice_small (Some h) flow =
    chosen_small (kind_of h.types flow == 0) (record { queue = slice_index h.table (flow_hash h.key (kind_of h.types flow) flow % h.size); hash = flow_hash h.key (kind_of h.types flow) flow; kind = kind_of h.types flow }) (kind_small h.types flow)

-- hash and kind under an RSS setting, with a tag that was taken out
abbrev pub meta_of : Option RssView → Option ℕ → List ℕ → RxMeta
meta_of h tci frame = record { hash = (rx_choice h frame).hash; kind = (rx_choice h frame).kind; tci = tci; kinds = choice_small h (flow_of frame) }

-- a frame with what is told of it
pub record Arrival : Type 0 where
  pub frame : List ℕ
  pub meta : RxMeta

-- a frame with its tag taken out where that is asked for
abbrev pub taken_out : Bool → List ℕ → Stripped
taken_out true frame = strip_of frame
taken_out false frame = record { frame = frame; tci = None }

-- the delivered form of a packet's frame under a setup: hash and kind are those of the frame as it came
abbrev pub delivered_as : SetupView → List ℕ → Arrival
delivered_as s frame = record { frame = (taken_out s.strip frame).frame; meta = meta_of s.rss (taken_out s.strip frame).tci frame }

-- a delivered frame
abbrev pub arrival_of : Delivery → Arrival
arrival_of d = record { frame = d.frame; meta = d.meta }

-- a frame as a driver hands it up, from this place of this queue of this activation
abbrev pub handed_as : ℕ → ℕ → ℕ → Delivery → Received
handed_as a q k d = record { activation = a; queue = q; place = k; frame = d.frame; tci = d.meta.tci }

-- a frame handed up, with its tag put back
abbrev pub whole : Received → List ℕ
whole x = with_tag x.tci x.frame

-- what was taken out and is put back is the packet's frame, where that has bytes
pub put_back : (s : SetupView) (frame : List ℕ) → AreOctets frame → with_tag (delivered_as s frame).meta.tci (delivered_as s frame).frame ≡ frame
put_back s frame octets = step s.strip
  where
    step : (b : Bool) → with_tag (taken_out b frame).tci (taken_out b frame).frame ≡ frame
    step true = put_strip frame octets
    step false = refl
