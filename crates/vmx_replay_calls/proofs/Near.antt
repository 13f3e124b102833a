-- Notes of links move nothing in the world, and leave what is known of guests and links.
use Rattle.std.proofs.Common.{◌≡◌, ◌≢◌, ℕ, zero, suc, ◌<◌, List, [], ◌∷◌, length, set, refl, sym, ap, ap₂, ◌∙◌, subst, arith, Some, inl, inr}
use Rattle.std.specs.List.{slice_get, AllByRecursion}
use Rattle.std.proofs.lemmas.Bool.Decides.{eqb_tells}
use mathlib.Core.List.{IsPrefix}
use Rattle.vmx_ring_laws.specs.Lists.{longer_first}
use Rattle.vmx_link.specs.Views.{LinkOutView, LinkInView}
use Rattle.vmx_model.specs.declared.plan.Plan.{Plan}
use Rattle.vmx_model.specs.Bags.{EachQueue, Pairwise}
use Rattle.vmx_model.specs.Serial.{Seat, Wire}
use Rattle.vmx_device_looks.specs.Ports.{other}
use Rattle.vmx_device_looks.specs.PortLaws.{other_once}
use Rattle.vmx_device_laws.specs.Views.{DeviceView}
use Rattle.vmx_device_laws.specs.Pairs.{tx_of, rx_of}
use Rattle.vmx_device_laws.proofs.Pairing.{get_set_other}
use Rattle.vmx_device_laws.proofs.PairingIn.{some_same}
use Rattle.vmx_driver_steps.specs.Driver.{DriverView}
use Rattle.vmx_note_laws.specs.Links.{PassesLink, IsToldLink}
use Rattle.vmx_note_laws.proofs.Links.{passes_told_link}
use Rattle.vmx_note_laws.specs.Queues.{IsToldTx, IsToldRx}
use Rattle.vmx_trusted_turns.specs.Trusted.{IsTrusted}
use Rattle.vmx_replay_worlds.specs.Guests.{GuestView, seat_of}
use Rattle.vmx_replay_worlds.specs.Worlds.{out_part, in_part, out_parts, in_parts, world_of}
use Rattle.vmx_replay_worlds.specs.Ports.{IsOutOf, IsInTo, IsAtPort, AreAtPorts, HasAll, Lies}
use Rattle.vmx_replay_worlds.proofs.Lists.{get_set, pair_at}
use Rattle.vmx_replay_worlds.proofs.Parts.{wires_in}
use Rattle.vmx_replay_worlds.proofs.Moved.{wires_are, at_port}
use Rattle.vmx_replay_steps.specs.Between.{IsThrough, WasPushed}
use Rattle.vmx_replay_calls.proofs.Steps.{IsNearOut, IsNearIn, IsNearGuest, AreNear, with_device, LinkTold, LinksTold}
use Rattle.vmx_replay_calls.specs.Resting.{IsGuestAt, Rests, IsKnown, AreKnown}
use Rattle.vmx_replay_calls.proofs.Pairs.{pair_refl, pair_trans, pair_set, pair_from, pair_length, pair_map, pair_each}

-- ------------------------------------------------------------ ends

out_refl : (o : LinkOutView) → IsNearOut o o
out_refl o = record { is = refl; more = omega arith }

in_refl : (i : LinkInView) → IsNearIn i i
in_refl i = record { is = refl; more = omega arith }

out_trans : (x y z : LinkOutView) → IsNearOut x y → IsNearOut y z → IsNearOut x z
out_trans x y z a b = record {
  is = b.is ∙ ap (λ (o : LinkOutView). record o { freed = z.freed; notes_given = z.notes_given; notes_heard = z.notes_heard }) a.is;
  more = let l = a.more in let m = b.more in omega (arith, l, m);
}

in_trans : (x y z : LinkInView) → IsNearIn x y → IsNearIn y z → IsNearIn x z
in_trans x y z a b = record {
  is = b.is ∙ ap (λ (i : LinkInView). record i { filled = z.filled; notes_given = z.notes_given; notes_heard = z.notes_heard }) a.is;
  more = let l = a.more in let m = b.more in omega (arith, l, m);
}

-- ends between which notes went
module _ (o : LinkOutView) (i : LinkInView) (o' : LinkOutView) (i' : LinkInView) (p : PassesLink o i o' i') where
  pub sender_near : IsNearOut o o'
  sender_near = record {
    is = p.sender ∙ (λ j. record o { freed = sym (ap (λ (x : LinkOutView). x.freed) p.sender) j; notes_given = sym (ap (λ (x : LinkOutView). x.notes_given) p.sender) j; notes_heard = sym (ap (λ (x : LinkOutView). x.notes_heard) p.sender) j });
    more = let h = ap (λ (x : LinkOutView). length x.freed) p.sender in let low = longer_first o.freed i.pulled in omega (arith, h, low);
  }

  pub receiver_near : IsNearIn i i'
  receiver_near = record {
    is = p.receiver ∙ (λ j. record i { filled = sym (ap (λ (x : LinkInView). x.filled) p.receiver) j; notes_given = sym (ap (λ (x : LinkInView). x.notes_given) p.receiver) j; notes_heard = sym (ap (λ (x : LinkInView). x.notes_heard) p.receiver) j });
    more = let h = ap (λ (x : LinkInView). length x.filled) p.receiver in let low = longer_first i.filled o.pushed in omega (arith, h, low);
  }

-- ------------------------------------------------------------ guests

pub guest_refl : (r : GuestView) → IsNearGuest r r
guest_refl r = record { driver = refl; is = refl; out = pair_refl IsNearOut out_refl r.device.out; input = pair_refl IsNearIn in_refl r.device.input }

guest_trans : (x y z : GuestView) → IsNearGuest x y → IsNearGuest y z → IsNearGuest x z
guest_trans x y z a b = record {
  driver = b.driver ∙ a.driver;
  is = b.is ∙ ap (λ (d : DeviceView). record d { out = z.device.out; input = z.device.input }) a.is;
  out = pair_trans IsNearOut out_trans x.device.out y.device.out z.device.out a.out b.out;
  input = pair_trans IsNearIn in_trans x.device.input y.device.input z.device.input a.input b.input;
}

pub near_refl : (rs : List GuestView) → AreNear rs rs
near_refl rs = pair_refl IsNearGuest guest_refl rs

pub near_trans : (xs ys zs : List GuestView) → AreNear xs ys → AreNear ys zs → AreNear xs zs
near_trans xs ys zs a b = pair_trans IsNearGuest guest_trans xs ys zs a b

-- ------------------------------------------------------------ the world

pub near_seat : (r r' : GuestView) → IsNearGuest r r' → seat_of r' ≡ seat_of r
near_seat r r' n = λ j. seat_of (record { driver = n.driver j; device = n.is j })

pub near_outs : (r r' : GuestView) → IsNearGuest r r' → out_parts r' ≡ out_parts r
near_outs r r' n = pair_map IsNearOut out_part (λ o o' h. ap out_part h.is) r.device.out r'.device.out n.out

pub near_ins : (r r' : GuestView) → IsNearGuest r r' → in_parts r' ≡ in_parts r
near_ins r r' n = pair_map IsNearIn in_part (λ i i' h. ap in_part h.is) r.device.input r'.device.input n.input

pub near_world : (rs rs' : List GuestView) → AreNear rs rs' → world_of rs' ≡ world_of rs
near_world rs rs' n =
    let seats = pair_map IsNearGuest seat_of near_seat rs rs' n in
    let outs = pair_map IsNearGuest out_parts near_outs rs rs' n in
    let ins = pair_map IsNearGuest in_parts near_ins rs rs' n in
    ap₂ (λ (ss : List Seat) (ws : List Wire). record { seats = ss; wires = ws }) seats (wires_are rs' ∙ ap₂ wires_in outs ins ∙ sym (wires_are rs))

-- ------------------------------------------------------------ what stands

near_port : (port : ℕ) (r r' : GuestView) → IsNearGuest r r' → IsAtPort port r → IsAtPort port r'
near_port port r r' n h = record {
  device = ap (λ (d : DeviceView). d.port) n.is ∙ h.device;
  out = pair_each IsNearOut (IsOutOf port) (λ k o o' e p. (ap (λ (x : LinkOutView). x.from) e.is ∙ p.0, ap (λ (x : LinkOutView). x.to) e.is ∙ p.1)) 0 r.device.out r'.device.out n.out h.out;
  input = pair_each IsNearIn (IsInTo port) (λ k i i' e p. (ap (λ (x : LinkInView). x.to) e.is ∙ p.0, ap (λ (x : LinkInView). x.from) e.is ∙ p.1)) 0 r.device.input r'.device.input n.input h.input;
}

near_all : (n : ℕ) (r r' : GuestView) → IsNearGuest r r' → HasAll n r → HasAll n r'
near_all n r r' e h = record { out = ap suc (pair_length IsNearOut r.device.out r'.device.out e.out) ∙ h.out; input = ap suc (pair_length IsNearIn r.device.input r'.device.input e.input) ∙ h.input }

pub near_ports : (rs rs' : List GuestView) → AreNear rs rs' → AreAtPorts rs → AreAtPorts rs'
near_ports rs rs' n h = pair_each IsNearGuest IsAtPort near_port 0 rs rs' n h

near_guest : (plan : Plan) (port : ℕ) (r r' : GuestView) → IsNearGuest r r' → IsGuestAt plan port r → IsGuestAt plan port r'
near_guest plan port r r' n g = record {
  guest = g.guest;
  there_ = g.there_;
  number = ap (λ (v : DriverView). v.guest) n.driver ∙ g.number;
  planned = ap (λ (v : DriverView). v.plan) n.driver ∙ g.planned;
  key = ap (λ (d : DeviceView). d.key) n.is ∙ g.key ∙ sym (ap (λ (v : DriverView). v.key) n.driver);
  table = ap (λ (d : DeviceView). d.table) n.is ∙ g.table;
  mac = ap (λ (d : DeviceView). d.machine.mac) n.is ∙ g.mac;
  at = near_port port r r' n g.at;
  all = near_all (length plan.guests) r r' n g.all;
}

pub near_guests : (plan : Plan) (rs rs' : List GuestView) → AreNear rs rs' → EachQueue (IsGuestAt plan) 0 rs → EachQueue (IsGuestAt plan) 0 rs'
near_guests plan rs rs' n h = pair_each IsNearGuest (IsGuestAt plan) (near_guest plan) 0 rs rs' n h

pub near_rests : (r r' : GuestView) → IsNearGuest r r' → Rests r → Rests r'
near_rests r r' n h = record {
  caught_up = record { none = ap (λ (v : DriverView). v.calls.asked) n.driver ∙ h.caught_up.none; same = ap (λ (v : DriverView). v.calls.turns) n.driver ∙ h.caught_up.same ∙ sym (ap (λ (d : DeviceView). d.calls.served) n.is) };
  trusted = subst (λ (d : DeviceView). IsTrusted d.machine) (sym n.is) h.trusted;
  through_ = subst (λ (x : DriverView × DeviceView). Pairwise IsThrough x.0.tx (tx_of x.1.machine.active)) (λ j. (sym n.driver j, sym n.is j)) h.through_;
  told_tx = subst (λ (x : DriverView × DeviceView). Pairwise IsToldTx x.0.tx (tx_of x.1.machine.active)) (λ j. (sym n.driver j, sym n.is j)) h.told_tx;
  told_rx = subst (λ (x : DriverView × DeviceView). Pairwise IsToldRx x.0.rx (rx_of x.1.machine.active)) (λ j. (sym n.driver j, sym n.is j)) h.told_rx;
}

pub near_rest : (rs rs' : List GuestView) → AreNear rs rs' → AllByRecursion Rests rs → AllByRecursion Rests rs'
near_rest [] [] n h = tt
near_rest [] (r' ∷ rs') n h = absurd n
near_rest (r ∷ rs) [] n h = absurd n
near_rest (r ∷ rs) (r' ∷ rs') n h = (near_rests r r' n.0 h.0, near_rest rs rs' n.1 h.1)

-- ------------------------------------------------------------ one link

-- the same link before notes, and its ends then
pub record WasLink (rs rs' : List GuestView) (from to : ℕ) (l : Lies rs' from to) : Type 0 where
  pub was : Lies rs from to
  pub out : IsNearOut was.link l.link
  pub input : IsNearIn was.end l.end

pub was_link : (rs rs' : List GuestView) (from to : ℕ) (l : Lies rs' from to) → AreNear rs rs' → WasLink rs rs' from to l
was_link rs rs' from to l n =
    let s = pair_at IsNearGuest rs rs' from l.sender n l.sender_at in
    let r = pair_at IsNearGuest rs rs' to l.receiver n l.receiver_at in
    let o = pair_at IsNearOut s.0.device.out l.sender.device.out l.j l.link s.2.out l.link_at in
    let i = pair_at IsNearIn r.0.device.input l.receiver.device.input l.k l.end r.2.input l.end_at in record {
      was = record { sender = s.0; sender_at = s.1; j = l.j; to_is = l.to_is; link = o.0; link_at = o.1; receiver = r.0; receiver_at = r.1; k = l.k; from_is = l.from_is; end = i.0; end_at = i.1 };
      out = o.2;
      input = i.2;
    }

pub known_on : (o o' : LinkOutView) (i i' : LinkInView) → IsNearOut o o' → IsNearIn i i' → IsKnown o i → IsKnown o' i'
known_on o o' i i' n m k = record {
  key = ap (λ (x : LinkOutView). x.key) n.is ∙ k.key ∙ sym (ap (λ (x : LinkInView). x.key) m.is);
  pulled = let a = k.pulled in let b = n.more in let c = ap (λ (x : LinkInView). length x.pulled) m.is in omega (arith, a, b, c);
  within = subst (λ (x : LinkOutView × LinkInView). IsPrefix x.1.pulled x.0.pushed) (λ j. (sym n.is j, sym m.is j)) k.within;
}

pub near_known : (rs rs' : List GuestView) → AreNear rs rs' → AreKnown rs → AreKnown rs'
near_known rs rs' n k from to l = let w = was_link rs rs' from to l n in known_on w.was.link l.link w.was.end l.end w.out w.input (k from to w.was)

-- ------------------------------------------------------------ notes of one link

module _ (from to : ℕ) (rs rs' : List GuestView) (t : LinkTold from to rs rs') where
  sender_is : IsNearGuest t.sender (with_device t.sender t.sender')
  sender_is = record {
    driver = refl;
    is = t.passed.sender ∙ ap (λ (os : List LinkOutView). record t.sender.device { out = os }) (sym (ap (λ (d : DeviceView). d.out) t.passed.sender))
        ∙ ap (λ (is : List LinkInView). record t.sender.device { out = t.sender'.out; input = is }) (sym (ap (λ (d : DeviceView). d.input) t.passed.sender));
    out = subst (Pairwise IsNearOut t.sender.device.out) (sym (ap (λ (d : DeviceView). d.out) t.passed.sender))
        (pair_set IsNearOut t.sender.device.out t.sender.device.out t.passed.link.j t.passed.link.out t.passed.out' (pair_refl IsNearOut out_refl t.sender.device.out) t.passed.link.out_at (sender_near t.passed.link.out t.passed.link.input t.passed.out' t.passed.input' t.passed.passes));
    input = subst (Pairwise IsNearIn t.sender.device.input) (sym (ap (λ (d : DeviceView). d.input) t.passed.sender)) (pair_refl IsNearIn in_refl t.sender.device.input);
  }

  receiver_is : IsNearGuest t.receiver (with_device t.receiver t.receiver')
  receiver_is = record {
    driver = refl;
    is = t.passed.receiver ∙ ap (λ (is : List LinkInView). record t.receiver.device { input = is }) (sym (ap (λ (d : DeviceView). d.input) t.passed.receiver))
        ∙ ap (λ (os : List LinkOutView). record t.receiver.device { out = os; input = t.receiver'.input }) (sym (ap (λ (d : DeviceView). d.out) t.passed.receiver));
    out = subst (Pairwise IsNearOut t.receiver.device.out) (sym (ap (λ (d : DeviceView). d.out) t.passed.receiver)) (pair_refl IsNearOut out_refl t.receiver.device.out);
    input = subst (Pairwise IsNearIn t.receiver.device.input) (sym (ap (λ (d : DeviceView). d.input) t.passed.receiver))
        (pair_set IsNearIn t.receiver.device.input t.receiver.device.input t.passed.link.k t.passed.link.input t.passed.input' (pair_refl IsNearIn in_refl t.receiver.device.input) t.passed.link.input_at (receiver_near t.passed.link.out t.passed.link.input t.passed.out' t.passed.input' t.passed.passes));
  }

  pub told_near : AreNear rs rs'
  told_near = subst (AreNear rs) (sym t.is)
      (pair_set IsNearGuest rs (set rs from (with_device t.sender t.sender')) to t.receiver (with_device t.receiver t.receiver')
      (pair_set IsNearGuest rs rs from t.sender (with_device t.sender t.sender') (near_refl rs) t.sender_at sender_is) t.receiver_at receiver_is)

  module _ (ports : AreAtPorts rs) where
    sender_port : t.sender.device.port ≡ from
    sender_port = (at_port from rs t.sender ports t.sender_at).device

    receiver_port : t.receiver.device.port ≡ to
    receiver_port = (at_port to rs t.receiver ports t.receiver_at).device

    -- its ends before are those of the link that lies there
    module _ (l : Lies rs from to) where
      same_sender : l.sender ≡ t.sender
      same_sender = some_same (slice_get rs from) l.sender t.sender l.sender_at t.sender_at

      same_receiver : l.receiver ≡ t.receiver
      same_receiver = some_same (slice_get rs to) l.receiver t.receiver l.receiver_at t.receiver_at

      same_j : l.j ≡ t.passed.link.j
      same_j = other_once from l.j t.passed.link.j (sym l.to_is ∙ sym receiver_port ∙ t.passed.link.to_is ∙ ap (λ (n : ℕ). other n t.passed.link.j) sender_port)

      same_k : l.k ≡ t.passed.link.k
      same_k = other_once to l.k t.passed.link.k (sym l.from_is ∙ sym sender_port ∙ t.passed.link.from_is ∙ ap (λ (n : ℕ). other n t.passed.link.k) receiver_port)

      pub same_link : l.link ≡ t.passed.link.out
      same_link = some_same (slice_get t.sender.device.out t.passed.link.j) l.link t.passed.link.out (ap₂ (λ (s : GuestView) (n : ℕ). slice_get s.device.out n) (sym same_sender) (sym same_j) ∙ l.link_at) t.passed.link.out_at

      pub same_end : l.end ≡ t.passed.link.input
      same_end = some_same (slice_get t.receiver.device.input t.passed.link.k) l.end t.passed.link.input (ap₂ (λ (s : GuestView) (n : ℕ). slice_get s.device.input n) (sym same_receiver) (sym same_k) ∙ l.end_at) t.passed.link.input_at

      pub was_pushed : WasPushed l.link l.end
      was_pushed = subst (λ (x : LinkOutView × LinkInView). IsPrefix x.1.pulled x.0.pushed) (λ j. (sym same_link j, sym same_end j)) t.passed.passes.within

    -- its ends after were told all of each other
    module _ (apart : to ≢ from) (l : Lies rs' from to) where
      sender_after : l.sender ≡ with_device t.sender t.sender'
      sender_after = some_same (slice_get rs' from) l.sender (with_device t.sender t.sender') l.sender_at
          (ap (λ (xs : List GuestView). slice_get xs from) t.is ∙ get_set_other (set rs from (with_device t.sender t.sender')) to (with_device t.receiver t.receiver') from (λ e. apart (sym e))
          ∙ get_set rs from t.sender (with_device t.sender t.sender') t.sender_at)

      receiver_there : slice_get (set rs from (with_device t.sender t.sender')) to ≡ Some t.receiver
      receiver_there = get_set_other rs from (with_device t.sender t.sender') to apart ∙ t.receiver_at

      receiver_after : l.receiver ≡ with_device t.receiver t.receiver'
      receiver_after = some_same (slice_get rs' to) l.receiver (with_device t.receiver t.receiver') l.receiver_at
          (ap (λ (xs : List GuestView). slice_get xs to) t.is ∙ get_set (set rs from (with_device t.sender t.sender')) to t.receiver (with_device t.receiver t.receiver') receiver_there)

      j_after : l.j ≡ t.passed.link.j
      j_after = other_once from l.j t.passed.link.j (sym l.to_is ∙ sym receiver_port ∙ t.passed.link.to_is ∙ ap (λ (n : ℕ). other n t.passed.link.j) sender_port)

      k_after : l.k ≡ t.passed.link.k
      k_after = other_once to l.k t.passed.link.k (sym l.from_is ∙ sym sender_port ∙ t.passed.link.from_is ∙ ap (λ (n : ℕ). other n t.passed.link.k) receiver_port)

      link_after : l.link ≡ t.passed.out'
      link_after = some_same (slice_get l.sender.device.out l.j) l.link t.passed.out' l.link_at
          (ap₂ (λ (s : GuestView) (n : ℕ). slice_get s.device.out n) sender_after j_after ∙ ap (λ (d : DeviceView). slice_get d.out t.passed.link.j) t.passed.sender
          ∙ get_set t.sender.device.out t.passed.link.j t.passed.link.out t.passed.out' t.passed.link.out_at)

      end_after : l.end ≡ t.passed.input'
      end_after = some_same (slice_get l.receiver.device.input l.k) l.end t.passed.input' l.end_at
          (ap₂ (λ (s : GuestView) (n : ℕ). slice_get s.device.input n) receiver_after k_after ∙ ap (λ (d : DeviceView). slice_get d.input t.passed.link.k) t.passed.receiver
          ∙ get_set t.receiver.device.input t.passed.link.k t.passed.link.input t.passed.input' t.passed.link.input_at)

      pub told_link : IsToldLink l.link l.end
      told_link = subst (λ (x : LinkOutView × LinkInView). IsToldLink x.0 x.1) (λ j. (sym link_after j, sym end_after j)) (passes_told_link t.passed.link.out t.passed.out' t.passed.link.input t.passed.input' t.passed.link.key t.passed.passes)

-- ------------------------------------------------------------ notes of all links to a port

pub links_near : (to k : ℕ) (rs rs' : List GuestView) → LinksTold to k rs rs' → AreNear rs rs'
links_near to zero rs rs' h = subst (AreNear rs) (sym h) (near_refl rs)
links_near to (suc k) rs rs' (mid, before, h) =
    let near = links_near to k rs mid before in elim h [
      | inl e ↦ subst (AreNear rs) (sym e.1) near
      | inr t ↦ near_trans rs mid rs' near (told_near k to mid rs' t)
    ]

-- the other end of a link after notes of others
lies_on : (rs rs' : List GuestView) (from to : ℕ) (l : Lies rs from to) → AreNear rs rs' → (m : Lies rs' from to) × IsNearOut l.link m.link × IsNearIn l.end m.end
lies_on rs rs' from to l n =
    let s = pair_from IsNearGuest rs rs' from l.sender n l.sender_at in
    let r = pair_from IsNearGuest rs rs' to l.receiver n l.receiver_at in
    let o = pair_from IsNearOut l.sender.device.out s.0.device.out l.j l.link s.2.out l.link_at in
    let i = pair_from IsNearIn l.receiver.device.input r.0.device.input l.k l.end r.2.input l.end_at in
    (record { sender = s.0; sender_at = s.1; j = l.j; to_is = l.to_is; link = o.0; link_at = o.1; receiver = r.0; receiver_at = r.1; k = l.k; from_is = l.from_is; end = i.0; end_at = i.1 }, o.2, i.2)

pushed_back : (o o' : LinkOutView) (i i' : LinkInView) → IsNearOut o o' → IsNearIn i i' → WasPushed o' i' → WasPushed o i
pushed_back o o' i i' n m w = subst (λ (x : LinkOutView × LinkInView). IsPrefix x.1.pulled x.0.pushed) (λ j. (n.is j, m.is j)) w

-- they show that the receiver pulled nothing but what was pushed
pub links_pushed : (to k : ℕ) (rs rs' : List GuestView) → AreAtPorts rs → LinksTold to k rs rs' → (from : ℕ) → from < k → from ≢ to → (l : Lies rs from to) → WasPushed l.link l.end
links_pushed to zero rs rs' ports h from lt ne l = absurd (omega (arith, lt))
links_pushed to (suc k) rs rs' ports (mid, before, h) from lt ne l = elim (eqb_tells from k) [
  | inl same ↦ elim h [
    | inl e ↦ absurd (ne (same.1 ∙ e.0))
    | inr t ↦ (
        let near = links_near to k rs mid before in
        let m = lies_on rs mid from to l near in
        let t' : LinkTold from to mid rs' = subst (λ (n : ℕ). LinkTold n to mid rs') (sym same.1) t in
        pushed_back l.link m.0.link l.end m.0.end m.1 m.2 (was_pushed from to mid rs' t' (near_ports rs mid near ports) m.0)
        )
  ]
  | inr away ↦ links_pushed to k rs mid ports before from (let ne' = away.1 in omega (arith, lt, ne')) ne l
]
