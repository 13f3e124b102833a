-- All guests of a run after the turn of one, with the notes after it.
use Rattle.std.proofs.Common.{◌≡◌, ◌≢◌, ℕ, zero, suc, ◌+◌, ◌<◌, Bool, List, [], ◌∷◌, ◌++◌, length, set, sym, ap, ◌∙◌, subst, arith, append_assoc, Some, inl, inr}
use Rattle.std.specs.List.{slice_get, AllByRecursion}
use Rattle.std.proofs.lemmas.Bool.Decides.{eqb_tells}
use Rattle.std.proofs.lemmas.List.{length-set}
use mathlib.Core.List.{IsPrefix}
use Rattle.vmx_ends.specs.declared.packet.Packet.{Packet}
use Rattle.vmx_link.specs.Views.{LinkOutView, LinkInView}
use Rattle.vmx_model.specs.declared.plan.Plan.{Plan}
use Rattle.vmx_model.specs.Bags.{EachQueue, Pairwise}
use Rattle.vmx_device_looks.specs.PortLaws.{other_not}
use Rattle.vmx_device_looks.specs.Queues.{each_all, each_at, each_set, get_lt}
use Rattle.vmx_device_laws.proofs.Pairing.{get_set_other}
use Rattle.vmx_device_laws.proofs.PairingIn.{some_same}
use Rattle.vmx_note_laws.specs.Links.{IsToldLink}
use Rattle.vmx_replay_worlds.specs.Guests.{GuestView}
use Rattle.vmx_replay_worlds.specs.Ports.{IsAtPort, AreAtPorts, HasAll, Lies}
use Rattle.vmx_replay_worlds.proofs.Lists.{get_set, pair_at}
use Rattle.vmx_replay_calls.proofs.Steps.{IsNearOut, IsNearIn, IsNearGuest, AreNear, LinkTold, LinksTold, Turned}
use Rattle.vmx_replay_calls.specs.Resting.{IsGuestAt, Rests, MayTurn, IsKnown, AreKnown, RunRests}
use Rattle.vmx_replay_calls.proofs.Pairs.{pair_length}
use Rattle.vmx_replay_calls.proofs.Goes.{GoesOut, turn_outs}
use Rattle.vmx_replay_calls.proofs.Near.{was_link, told_near, told_link, links_near, near_ports, near_guests, near_rest, near_known, known_on}
use Rattle.vmx_replay_calls.proofs.Selves.{one_device, stays_itself}
use Rattle.vmx_replay_calls.proofs.Turned as turned

-- ------------------------------------------------------------ the guests of a run

pub run_ports : (plan : Plan) (rs : List GuestView) → EachQueue (IsGuestAt plan) 0 rs → AreAtPorts rs
run_ports plan rs h = from 0 rs h
  where
    from : (n : ℕ) (xs : List GuestView) → EachQueue (IsGuestAt plan) n xs → EachQueue IsAtPort n xs
    from n [] h = tt
    from n (x ∷ xs) h = (h.0.at, from (suc n) xs h.1)

pub run_all : (plan : Plan) (rs : List GuestView) → EachQueue (IsGuestAt plan) 0 rs → length rs ≡ length plan.guests → AllByRecursion (HasAll (length rs)) rs
run_all plan rs h e = subst (λ (n : ℕ). AllByRecursion (HasAll n) rs) (sym e) (each_all (IsGuestAt plan) (HasAll (length plan.guests)) 0 rs (λ k x g. g.all) h)

pub guest_at : (plan : Plan) (rs : List GuestView) (port : ℕ) (r : GuestView) → EachQueue (IsGuestAt plan) 0 rs → slice_get rs port ≡ Some r → IsGuestAt plan port r
guest_at plan rs port r h at = let z : 0 + port ≡ port = omega arith in subst (λ (n : ℕ). IsGuestAt plan n r) z (each_at (IsGuestAt plan) 0 rs port r at h)

-- notes of links leave what stands
pub near_run : (plan : Plan) (rs rs' : List GuestView) → AreNear rs rs' → RunRests plan rs → RunRests plan rs'
near_run plan rs rs' n r = record {
  guests = near_guests plan rs rs' n r.guests;
  count = pair_length IsNearGuest rs rs' n ∙ r.count;
  rest = near_rest rs rs' n r.rest;
  links = near_known rs rs' n r.links;
}

-- ------------------------------------------------------------ links to the guest that turned

told_on : (o o' : LinkOutView) (i i' : LinkInView) → IsNearOut o o' → IsNearIn i i' → IsToldLink o i → IsToldLink o' i'
told_on o o' i i' n m t = record {
  key = ap (λ (x : LinkOutView). x.key) n.is ∙ t.key ∙ sym (ap (λ (x : LinkInView). x.key) m.is);
  pushed = let a = t.pushed in let b = m.more in let c = ap (λ (x : LinkOutView). length x.pushed) n.is in omega (arith, a, b, c);
  pulled = let a = t.pulled in let b = n.more in let c = ap (λ (x : LinkInView). length x.pulled) m.is in omega (arith, a, b, c);
  within = subst (λ (x : LinkOutView × LinkInView). IsPrefix x.1.pulled x.0.pushed) (λ j. (sym n.is j, sym m.is j)) t.within;
}

-- after notes of all links to a port both ends of each were told
pub links_told : (to k : ℕ) (rs rs' : List GuestView) → AreAtPorts rs → LinksTold to k rs rs' → (from : ℕ) → from < k → from ≢ to → (l : Lies rs' from to) → IsToldLink l.link l.end
links_told to zero rs rs' ports h from lt ne l = absurd (omega (arith, lt))
links_told to (suc k) rs rs' ports (mid, before, h) from lt ne l = elim (eqb_tells from k) [
  | inl same ↦ elim h [
    | inl e ↦ absurd (ne (same.1 ∙ e.0))
    | inr t ↦ (
        let t' : LinkTold from to mid rs' = subst (λ (n : ℕ). LinkTold n to mid rs') (sym same.1) t in
        told_link from to mid rs' t' (near_ports rs mid (links_near to k rs mid before) ports) (λ e. ne (sym e)) l
        )
  ]
  | inr away ↦ (
      let below : from < k = (let ne' = away.1 in omega (arith, lt, ne')) in elim h [
        | inl e ↦ links_told to k rs rs' ports (subst (LinksTold to k rs) (sym e.1) before) from below ne l
        | inr t ↦ (
            let w = was_link mid rs' from to l (told_near k to mid rs' t) in
            told_on w.was.link l.link w.was.end l.end w.out w.input (links_told to k rs mid ports before from below ne w.was)
            )
      ]
      )
]

-- ------------------------------------------------------------ after a turn

known_out : (o o' : LinkOutView) (i : LinkInView) → GoesOut o o' → IsKnown o i → IsKnown o' i
known_out o o' i g k = record {
  key = g.key ∙ k.key;
  pulled = let a = k.pulled in let b = ap (λ (xs : List Packet). length xs) g.freed in omega (arith, a, b);
  within = (k.within.0 ++ g.pushed.0, sym (append_assoc i.pulled k.within.0 g.pushed.0) ∙ ap (λ (xs : List Packet). xs ++ g.pushed.0) k.within.1 ∙ g.pushed.1);
}

-- the guest at a port made a step, in which its links out went on, and then notes of all links to it went both ways
module _ (rs rs' : List GuestView) (port : ℕ) (guest told : GuestView) (at : slice_get rs port ≡ Some guest) (outs : Pairwise GoesOut guest.device.out told.device.out) (ports : AreAtPorts (set rs port told)) (notes : LinksTold port (length rs) (set rs port told) rs') (links : AreKnown rs) where
  told_at : slice_get (set rs port told) port ≡ Some told
  told_at = get_set rs port guest told at

  -- a link to another port
  known_else : (from to : ℕ) → to ≢ port → (l : Lies (set rs port told) from to) → IsKnown l.link l.end
  known_else from to ne l = elim (eqb_tells from port) [
    | inl same ↦ (
        let sender : l.sender ≡ told = some_same (slice_get (set rs port told) port) l.sender told (ap (slice_get (set rs port told)) (sym same.1) ∙ l.sender_at) told_at in
        let o = pair_at GoesOut guest.device.out told.device.out l.j l.link outs (ap (λ (g : GuestView). slice_get g.device.out l.j) (sym sender) ∙ l.link_at) in
        let was : Lies rs from to = record {
          sender = guest;
          sender_at = ap (slice_get rs) same.1 ∙ at;
          j = l.j;
          to_is = l.to_is;
          link = o.0;
          link_at = o.1;
          receiver = l.receiver;
          receiver_at = sym (get_set_other rs port told to ne) ∙ l.receiver_at;
          k = l.k;
          from_is = l.from_is;
          end = l.end;
          end_at = l.end_at;
        } in
        known_out o.0 l.link l.end o.2 (links from to was)
        )
    | inr away ↦ links from to (record {
      sender = l.sender;
      sender_at = sym (get_set_other rs port told from (away.1)) ∙ l.sender_at;
      j = l.j;
      to_is = l.to_is;
      link = l.link;
      link_at = l.link_at;
      receiver = l.receiver;
      receiver_at = sym (get_set_other rs port told to ne) ∙ l.receiver_at;
      k = l.k;
      from_is = l.from_is;
      end = l.end;
      end_at = l.end_at;
    })
  ]

  -- a link to this one
  known_here : (from : ℕ) (l : Lies rs' from port) → IsKnown l.link l.end
  known_here from l =
      let near = links_near port (length rs) (set rs port told) rs' notes in
      let below = get_lt rs' from l.sender l.sender_at in let long = pair_length IsNearGuest (set rs port told) rs' near in let many = length-set rs port told in
      let heard = links_told port (length rs) (set rs port told) rs' ports notes from (omega (arith, below, long, many)) (λ e. other_not port l.k (sym l.from_is ∙ e)) l in
      record { key = heard.key; pulled = heard.pulled; within = heard.within }

  pub known_after : AreKnown rs'
  known_after from to l = elim (eqb_tells to port) [
    | inl same ↦ subst (λ (n : ℕ). (m : Lies rs' from n) → IsKnown m.link m.end) (sym same.1) (known_here from) l
    | inr away ↦ (
        let w = was_link (set rs port told) rs' from to l (links_near port (length rs) (set rs port told) rs' notes) in
        known_on w.was.link l.link w.was.end l.end w.out w.input (known_else from to (away.1) w.was)
        )
  ]

module _ (plan : Plan) (port : ℕ) (guest : GuestView) (worked : Bool) (rs rs' : List GuestView) (t : Turned port guest worked rs rs') (may : MayTurn guest) (guests : EachQueue (IsGuestAt plan) 0 rs) (count : length rs ≡ length plan.guests) (links : AreKnown rs) where
  pub ports : AreAtPorts rs
  ports = run_ports plan rs guests

  pub all : AllByRecursion (HasAll (length rs)) rs
  all = run_all plan rs guests count

  abbrev after : List GuestView
  after = set rs port t.told

  outs : Pairwise GoesOut guest.device.out t.told.device.out
  outs = subst (Pairwise GoesOut guest.device.out) (sym (turned.told_out port guest worked rs rs' t may)) (turn_outs worked guest.device t.device t.once)

  -- the guest is the same one
  told_self : IsGuestAt plan port t.told
  told_self = stays_itself plan port guest t.told (guest_at plan rs port guest guests t.at) (turned.told_driver port guest worked rs rs' t may)
      (one_device guest.device t.device t.told.device (turned.self port guest worked rs rs' t may) (turned.told_self port guest worked rs rs' t may)) t.kept.device

  -- and so all stand
  pub turned_run : AllByRecursion Rests after → RunRests plan rs'
  turned_run h =
      let near = links_near port (length rs) after rs' t.links in let z : port ≡ 0 + port = omega arith in record {
        guests = near_guests plan after rs' near (each_set (IsGuestAt plan) (IsGuestAt plan) 0 rs port t.told (λ n x ne g. g) (subst (λ (n : ℕ). IsGuestAt plan n t.told) z told_self) guests);
        count = pair_length IsNearGuest after rs' near ∙ length-set rs port t.told ∙ count;
        rest = near_rest after rs' near h;
        links = known_after rs rs' port guest t.told t.at outs (turned.ports_after port guest worked rs rs' t may ports all) t.links links;
      }
