-- What the functions of the device's staging do to what the device knows.
use Rattle.std.specs.Prelude.{◌≡◌, ℕ, zero, suc, ◌<◌, ◌≤◌, ◌⊎◌, List, [], ◌∷◌, ◌++◌, None, Bool, true, false, ◌==◌, if◌then◌else◌}
use Rattle.vmx_rx_ring.specs.declared.known.Entry.{Entry}
use Rattle.vmx_rx_ring.specs.declared.known.DeviceKnows.{DeviceKnows}
use Rattle.vmx_rx_ring.specs.declared.known.Known.{Known}
use Rattle.vmx_rx_ring.specs.declared.known.Spot.{Spot}
use Rattle.vmx_ends.specs.declared.made.RxMade.{RxMade}
use Rattle.vmx_ends.specs.declared.meta.RxMeta.{RxMeta}
use mathlib.Core.Option.{some}
use lib.ListN.{get_elem?}
use Rattle.vmx_ends.specs.Frames.{IsFrame}
use Rattle.vmx_ends.specs.Receive.{used, took1, took2, is_body}
use Rattle.vmx_ends.specs.declared.frames.Delivery.{Delivery}
use Rattle.vmx_rx_ring.specs.Rule.{IsPlaced}
use Rattle.vmx_rx_ring.specs.Tells.{Seated, with_device, delivers}
use Rattle.vmx_rx_ring.specs.Words.{flat, entries_from, entries, TagFits}
use Rattle.vmx_rx_walk.specs.Walking.{chain_of, IsInBody}

-- the spot of the next piece that is staged: the head that was found, or the next of its ring
abbrev pub IsFor : DeviceKnows → Bool → Spot → Type 0
IsFor e true s = (s.ring ≡ 1) × (s.position ≡ e.head) × (e.gone1 ≤ s.position) × (s.position < e.seen1)
IsFor e false s = ((s.ring ≡ 1) × (s.position ≡ e.gone1) × (s.position < e.seen1)) ⊎ ((s.ring ≡ 2) × (s.position ≡ e.gone2) × (s.position < e.seen2))

abbrev pub log_of : Known → List Entry
log_of v = flat v.made v.device.delivered ++ v.device.staged

-- nothing is out, and no first word is stored
abbrev pub IsStill : DeviceKnows → Type 0
IsStill e = (e.filling ≡ None) × (e.opened ≡ [])

-- one completion more is staged
abbrev pub adds : DeviceKnows → Entry → DeviceKnows
adds e x = record e {
  staged = e.staged ++ x ∷ [];
  opened = [];
  filling = None;
  in_data = false;
  gone1 = if x.ring == 1 then suc x.position else e.gone1;
  gone2 = if x.ring == 1 then e.gone2 else suc x.position;
}

-- how the numbers of buffers gone move with a piece
abbrev pub moves : DeviceKnows → Spot → DeviceKnows
moves e s = record e { gone1 = if s.ring == 1 then suc s.position else e.gone1; gone2 = if s.ring == 1 then e.gone2 else suc s.position }

-- the spots of a frame of n further pieces, one behind the other
abbrev pub AreFor : DeviceKnows → ℕ → Spot → Spot → Spot → Type 0
AreFor e zero a b c = IsFor e true a
AreFor e (suc zero) a b c = IsFor e true a × IsFor (moves e a) false b
AreFor e (suc (suc n)) a b c = IsFor e true a × IsFor (moves e a) false b × IsFor (moves (moves e a) b) false c

-- the first piece goes into a HEAD buffer, further ones into BODY buffers
abbrev pub AreFitting : RxMade → ℕ → Spot → Spot → Spot → Type 0
AreFitting m n a b c = (a.ring ≡ 1) × (is_body m a.position ≡ false) × (1 ≤ n → IsInBody m b) × (2 ≤ n → IsInBody m c)

abbrev pub moved : DeviceKnows → ℕ → Spot → Spot → Spot → DeviceKnows
moved e zero a b c = moves e a
moved e (suc zero) a b c = moves (moves e a) b
moved e (suc (suc n)) a b c = moves (moves (moves e a) b) c

-- all pieces of a frame are staged
abbrev pub has_staged : RxMade → DeviceKnows → ℕ → RxMeta → Spot → Spot → Spot → List ℕ → DeviceKnows
has_staged m e n meta a b c frame = record e {
  staged = entries_from m true meta (chain_of n a b c) frame;
  opened = [];
  filling = None;
  in_data = false;
  gone1 = (moved e n a b c).gone1;
  gone2 = (moved e n a b c).gone2;
}

-- The staged completions are those of a frame that lies where the walk put it; the first has this second word without its generation.
pub record WillDeliver (m : Seated) (body : ℕ) : Type 0 where
  pub frame : Delivery
  pub whole : entries m.0.made frame ≡ m.0.device.staged
  pub first : Entry
  pub first_at : get_elem? m.0.device.staged 0 ≡ some first
  pub body_is : first.body ≡ body
  pub placed : IsPlaced (used took1 m.0.device.delivered) (used took2 m.0.device.delivered) frame
  pub sized : IsFrame frame.frame
  pub tag : TagFits frame.meta.tci

abbrev pub HasDelivered : Seated → Seated → Type 0
HasDelivered m m' = (d : Delivery) × (entries m.0.made d ≡ m.0.device.staged) × IsPlaced (used took1 m.0.device.delivered) (used took2 m.0.device.delivered) d × (m' ≡ (with_device m.0 (delivers m.0.device d), []))
