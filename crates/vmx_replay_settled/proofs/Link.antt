-- Notes both ways over the link between two devices of a list, call by call.
use Rattle.std.proofs.Common.{◌≡◌, ◌≢◌, ◌<◌, ℕ, zero, suc, List, [], ◌∷◌, length, map, set, get_or, sym, ap, ◌∙◌, subst, Some}
use Rattle.std.specs.List.{slice_get}
use Rattle.std.proofs.lemmas.List.{map-set, length-map, set-set, set_comm}
use Rattle.vmx_io.specs.Views.{viewed}
use Rattle.vmx_link.specs.Views.{LinkNoteView}
use Rattle.vmx_device_looks.specs.Ports.{IsOther}
use Rattle.vmx_device_looks.specs.PortLaws.{other_not}
use Rattle.vmx_device_looks.specs.Queues.{get_at, get_lt}
use Rattle.vmx_device_laws.specs.declared.side.LinkSide.{LinkSide}
use Rattle.vmx_device_laws.specs.declared.side.LinkSide.TheVariants as side
use Rattle.vmx_device_laws.specs.LinkNotes.{NotesLink, FitsLink, HearsLink}
use Rattle.vmx_device_laws.specs.Keeps.{Keeps}
use Rattle.vmx_device_laws.specs.Views.{DeviceView}
use Rattle.vmx_device_laws.proofs.Pairing.{get_set_other}
use Rattle.vmx_replay_guests.proofs.Ends.{set_there, one_there}
use Rattle.vmx_replay_guests.proofs.PassLink.{is_target, is_source, fits_in, is_still_source, is_still_target, fits_out, passed_link}
use Rattle.vmx_replay_settled.specs.Linked.{HasLinkAt, NotesAt, FitsAt, HearsAt, IsLinkOn, LinkPassedOn}

-- ------------------------------------------------------------ one element of a list

set_same : {X : Type 0} (xs : List X) (i : ℕ) (x : X) → slice_get xs i ≡ Some x → set xs i x ≡ xs
set_same [] i x h = absurd (cc h)
set_same (y ∷ ys) zero x h = let same : x ≡ y = cc h in ap (λ (z : _). z ∷ ys) same
set_same (y ∷ ys) (suc i) x h = ap (λ (zs : List _). y ∷ zs) (set_same ys i x h)

-- what contracts see of an element is read off at its number
module _ {G V : Type 0} (view : G → V) (gs : List G) (i : ℕ) where
  pub below : (v : V) → slice_get (map view gs) i ≡ Some v → i < length gs
  below v at = subst (λ (n : ℕ). i < n) (length-map gs view) (get_lt (map view gs) i v at)

  module _ (x : G) (lt : i < length gs) (is : x ≡ get_or gs i x) where
    pub view_at : slice_get (map view gs) i ≡ Some (view x)
    view_at = get_at (map view gs) i (view x) (rw length-map lt) (sym (viewed view gs i x lt is))

    pub view_is : (v : V) → slice_get (map view gs) i ≡ Some v → v ≡ view x
    view_is v at = one_there (map view gs) i v (view x) at view_at

    pub view_set : (y : G) → map view (set gs i y) ≡ set (map view gs) i (view y)
    view_set y = map-set view gs i y

    pub view_same : (y : G) → view y ≡ view x → map view (set gs i y) ≡ map view gs
    view_same y e = map-set view gs i y ∙ ap (set (map view gs) i) e ∙ set_same (map view gs) i (view x) view_at

-- ------------------------------------------------------------ one end

module _ {G : Type 0} (device : G → DeviceView) (gs : List G) (port : ℕ) (side_ : LinkSide) (to : ℕ) (x : G) (lt : port < length gs) (is : x ≡ get_or gs port x) where
  pub has_other : HasLinkAt port to (map device gs) → IsOther (device x).port (length (device x).out) to
  has_other h = subst (λ (d : DeviceView). IsOther d.port (length d.out) to) (view_is device gs port x lt is h.device h.at) h.other_

  pub noted : (y : G) (note : LinkNoteView) → NotesLink side_ to note (device x) (device y) → Keeps (device y) → NotesAt port side_ to note (map device gs) (map device (set gs port y))
  noted y note n k = record { before = device x; at = view_at device gs port x lt is; after = device y; notes = n; keeps = k; is = map-set device gs port y }

  module _ (note : LinkNoteView) (f : FitsAt port side_ to note (map device gs)) where
    pub fit_other : IsOther (device x).port (length (device x).out) to
    fit_other = subst (λ (d : DeviceView). IsOther d.port (length d.out) to) (view_is device gs port x lt is f.device f.at) f.other_

    pub fit_note : FitsLink side_ to note (device x)
    fit_note = subst (FitsLink side_ to note) (view_is device gs port x lt is f.device f.at) f.fits

  pub heard : (y : G) (note : LinkNoteView) → HearsLink side_ to note (device x) (device y) → Keeps (device y) → HearsAt port side_ to note (map device gs) (map device (set gs port y))
  heard y note n k = record { before = device x; at = view_at device gs port x lt is; after = device y; hears = n; keeps = k; is = map-set device gs port y }

-- ------------------------------------------------------------ the link

pub apart : (from to : ℕ) (ds : List DeviceView) → IsLinkOn from to ds → from ≢ to
apart from to ds k e = other_not k.sender.port k.link.j (sym k.link.to_is ∙ k.receiver_port ∙ sym e ∙ sym k.sender_port)

module _ (from to : ℕ) (ds : List DeviceView) (k : IsLinkOn from to ds) where
  pub sender_has : HasLinkAt from to ds
  sender_has = record { device = k.sender; at = k.sender_at; other_ = is_target k.sender k.receiver k.link from to (sym k.sender_port) (sym k.receiver_port) }

  -- the sender gave a note
  module _ (note : LinkNoteView) (ds1 : List DeviceView) (n : NotesAt from side.Out to note ds ds1) where
    notes : NotesLink side.Out to note k.sender n.after
    notes = subst (λ (d : DeviceView). NotesLink side.Out to note d n.after) (one_there ds from n.before k.sender n.at k.sender_at) n.notes

    receiver_still : slice_get ds1 to ≡ Some k.receiver
    receiver_still = subst (λ (xs : List DeviceView). slice_get xs to ≡ Some k.receiver) (sym n.is) (get_set_other ds from n.after to (λ e. apart from to ds k (sym e)) ∙ k.receiver_at)

    pub receiver_fits : FitsAt to side.In from note ds1
    receiver_fits = record {
      device = k.receiver;
      at = receiver_still;
      other_ = is_source k.sender k.receiver k.link from to (sym k.sender_port) (sym k.receiver_port);
      fits = fits_in k.sender k.receiver k.link from to (sym k.sender_port) (sym k.receiver_port) note n.after notes;
    }

    -- the receiver heard it
    module _ (ds2 : List DeviceView) (h : HearsAt to side.In from note ds1 ds2) where
      hears : HearsLink side.In from note k.receiver h.after
      hears = subst (λ (d : DeviceView). HearsLink side.In from note d h.after) (one_there ds1 to h.before k.receiver h.at receiver_still) h.hears

      heard_at : slice_get ds2 to ≡ Some h.after
      heard_at = subst (λ (xs : List DeviceView). slice_get xs to ≡ Some h.after) (sym h.is) (set_there ds1 to k.receiver h.after receiver_still)

      pub receiver_has : HasLinkAt to from ds2
      receiver_has = record { device = h.after; at = heard_at; other_ = is_still_source k.sender k.receiver k.link from to (sym k.sender_port) (sym k.receiver_port) note n.after notes h.after hears }

      -- it gave one
      module _ (back : LinkNoteView) (ds3 : List DeviceView) (m : NotesAt to side.In from back ds2 ds3) where
        notes2 : NotesLink side.In from back h.after m.after
        notes2 = subst (λ (d : DeviceView). NotesLink side.In from back d m.after) (one_there ds2 to m.before h.after m.at heard_at) m.notes

        sender_there : slice_get ds1 from ≡ Some n.after
        sender_there = subst (λ (xs : List DeviceView). slice_get xs from ≡ Some n.after) (sym n.is) (set_there ds from k.sender n.after k.sender_at)

        sender_still : slice_get ds3 from ≡ Some n.after
        sender_still = subst (λ (xs : List DeviceView). slice_get xs from ≡ Some n.after) (sym m.is)
            (get_set_other ds2 to m.after from (apart from to ds k) ∙ ap (λ (xs : List DeviceView). slice_get xs from) h.is ∙ get_set_other ds1 to h.after from (apart from to ds k) ∙ sender_there)

        pub sender_fits : FitsAt from side.Out to back ds3
        sender_fits = record {
          device = n.after;
          at = sender_still;
          other_ = is_still_target k.sender k.receiver k.link from to (sym k.sender_port) (sym k.receiver_port) note n.after notes h.after hears back m.after notes2;
          fits = fits_out k.sender k.receiver k.link from to (sym k.sender_port) (sym k.receiver_port) note n.after notes h.after hears back m.after notes2;
        }

        -- and the sender heard it
        module _ (ds4 : List DeviceView) (l : HearsAt from side.Out to back ds3 ds4) where
          hears2 : HearsLink side.Out to back n.after l.after
          hears2 = subst (λ (d : DeviceView). HearsLink side.Out to back d l.after) (one_there ds3 from l.before n.after l.at sender_still) l.hears

          ds3_is : ds3 ≡ set (set ds from n.after) to m.after
          ds3_is = m.is ∙ ap (λ (xs : List DeviceView). set xs to m.after) h.is ∙ set-set ds1 to h.after m.after ∙ ap (λ (xs : List DeviceView). set xs to m.after) n.is

          ds4_is : ds4 ≡ set (set ds from l.after) to m.after
          ds4_is = l.is ∙ ap (λ (xs : List DeviceView). set xs from l.after) ds3_is ∙ set_comm (set ds from n.after) to from m.after l.after (λ e. apart from to ds k (sym e))
              ∙ ap (λ (xs : List DeviceView). set xs to m.after) (set-set ds from n.after l.after)

          pub passed_on : LinkPassedOn from to ds ds4
          passed_on = record {
            on = k;
            sender' = l.after;
            receiver' = m.after;
            passed = passed_link k.sender k.receiver k.link from to (sym k.sender_port) (sym k.receiver_port) note n.after notes h.after hears back m.after notes2 l.after hears2;
            sender_keeps = l.keeps;
            receiver_keeps = m.keeps;
            is = ds4_is;
          }
