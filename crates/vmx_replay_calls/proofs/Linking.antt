-- The links to the guest of a port over a step of it, where notes of all of them went both ways after it.
use Rattle.std.proofs.Common.{◌≡◌, ◌≢◌, ℕ, suc, ◌+◌, List, [], ◌∷◌, length, set, sym, ap, ◌∙◌, subst, arith, Some}
use Rattle.std.specs.List.{slice_get, AllByRecursion}
use Rattle.std.proofs.lemmas.List.{length-set}
use Rattle.vmx_switch.specs.Ports.{Wiring}
use Rattle.vmx_link.specs.Views.{LinkOutView, LinkInView}
use Rattle.vmx_model.specs.Bags.{EachQueue, Pairwise}
use Rattle.vmx_device_looks.specs.Ports.{other}
use Rattle.vmx_device_looks.specs.PortLaws.{other_not}
use Rattle.vmx_device_looks.specs.Queues.{each_set, get_lt}
use Rattle.vmx_device_laws.specs.Views.{DeviceView}
use Rattle.vmx_device_laws.specs.Keeps.{Keeps as DeviceKeeps}
use Rattle.vmx_device_laws.proofs.Pairing.{get_set_other}
use Rattle.vmx_replay_worlds.specs.Guests.{GuestView}
use Rattle.vmx_replay_worlds.specs.Ports.{IsOutOf, IsInTo, IsAtPort, AreAtPorts, HasAll, Lies, IsLinkOf}
use Rattle.vmx_replay_worlds.proofs.Lists.{get_set}
use Rattle.vmx_replay_worlds.proofs.Moved.{at_port}
use Rattle.vmx_replay_worlds.proofs.Linked.{has_links, each_lies}
use Rattle.vmx_replay_steps.specs.Between.{WasPushed}
use Rattle.vmx_replay_calls.proofs.Steps.{AreNear, LinksTold}
use Rattle.vmx_replay_calls.specs.Selves.{IsOneDevice}
use Rattle.vmx_replay_calls.proofs.Near.{links_near, links_pushed}
use Rattle.vmx_replay_calls.proofs.Selves.{outs_at, ins_at}

-- ------------------------------------------------------------ links to a port, before and after a step of its guest

-- the same senders' ends belong to the links in, whatever was pulled
link_again : (rs rs' : List GuestView) (to : ℕ) → ((n : ℕ) → n ≢ to → slice_get rs' n ≡ slice_get rs n) → (k : ℕ) (links : List LinkOutView) (is is' : List LinkInView) → EachQueue (IsInTo to) k is → EachQueue (IsInTo to) k is' → length is' ≡ length is → Pairwise (IsLinkOf rs to) links is → Pairwise (IsLinkOf rs' to) links is'
link_again rs rs' to same k [] [] [] h h' e p = tt
link_again rs rs' to same k [] [] (i' ∷ is') h h' e p = absurd (omega (arith, e))
link_again rs rs' to same k [] (i ∷ is) is' h h' e p = absurd p
link_again rs rs' to same k (o ∷ links) [] is' h h' e p = absurd p
link_again rs rs' to same k (o ∷ links) (i ∷ is) [] h h' e p = absurd (omega (arith, e))
link_again rs rs' to same k (o ∷ links) (i ∷ is) (i' ∷ is') h h' e p =
    let from : i'.from ≡ i.from = h'.0.1 ∙ sym h.0.1 in
    let away : i.from ≢ to = λ f. other_not to k (sym h.0.1 ∙ f) in
    let one : IsLinkOf rs' to o i' = record {
      sender = p.0.sender;
      sender_at = ap (slice_get rs') from ∙ same i.from away ∙ p.0.sender_at;
      j = p.0.j;
      to_is = p.0.to_is ∙ ap (λ (n : ℕ). other n p.0.j) (sym from);
      link_at = p.0.link_at;
    } in
    (one, link_again rs rs' to same (suc k) links is is' h.1 h'.1 (omega (arith, e)) p.1)

-- ------------------------------------------------------------ among all guests

-- a step of the guest at a port, from its device to another state of it, and to the guest that then was told
pub record Stepped (rs : List GuestView) (port : ℕ) (guest : GuestView) (device : DeviceView) (told : GuestView) : Type 0 where
  pub at : slice_get rs port ≡ Some guest
  pub self : IsOneDevice guest.device device
  pub told_self : IsOneDevice device told.device
  pub input : told.device.input ≡ device.input
  pub out : told.device.out ≡ device.out
  pub was : DeviceKeeps guest.device
  pub keeps : DeviceKeeps device

module _ (rs rs' : List GuestView) (port : ℕ) (guest : GuestView) (device : DeviceView) (told : GuestView) (s : Stepped rs port guest device told) (ports : AreAtPorts rs) (all : AllByRecursion (HasAll (length rs)) rs) (notes : LinksTold port (length rs) (set rs port told) rs') where
  here : IsAtPort port guest
  here = at_port port rs guest ports s.at

  abbrev after : List GuestView
  after = set rs port told

  pub told_at : slice_get after port ≡ Some told
  told_at = get_set rs port guest told s.at

  others_stay : (n : ℕ) → n ≢ port → slice_get after n ≡ slice_get rs n
  others_stay n ne = get_set_other rs port told n ne

  told_port : told.device.port ≡ port
  told_port = s.told_self.port ∙ s.self.port ∙ here.device

  ins_after : EachQueue (IsInTo port) 0 told.device.input
  ins_after = subst (EachQueue (IsInTo port) 0) (sym s.input) (ins_at port device (s.self.port ∙ here.device) s.keeps)

  outs_after : EachQueue (IsOutOf port) 0 told.device.out
  outs_after = subst (EachQueue (IsOutOf port) 0) (sym s.out) (outs_at port device (s.self.port ∙ here.device) s.keeps)

  pub ports_after : AreAtPorts after
  ports_after =
      let z : port ≡ 0 + port = omega arith in
      each_set IsAtPort IsAtPort 0 rs port told (λ n x ne h. h) (subst (λ (n : ℕ). IsAtPort n told) z (record { device = told_port; out = outs_after; input = ins_after })) ports

  as_many : length told.device.input ≡ length guest.device.input
  as_many =
      let a = s.keeps.ports in let b = s.was.ports in let e = ap (λ (w : Wiring). length w.macs) s.self.table in let i = ap length s.input in
      let a1 = a.1 in let a2 = a.2 in let b1 = b.1 in let b2 = b.2 in omega (arith, e, i, a1, a2, b1, b2)

  -- the senders' ends of the links to it
  pub links : (ls : List LinkOutView) × Pairwise (IsLinkOf rs port) ls guest.device.input
  links = has_links rs port guest ports all s.at

  links_after : Pairwise (IsLinkOf after port) links.0 told.device.input
  links_after = link_again rs after port others_stay 0 links.0 guest.device.input told.device.input here.input ins_after as_many links.1

  pushed_each : (from : ℕ) (l : Lies after from port) → WasPushed l.link l.end
  pushed_each from l =
      let below = get_lt after from l.sender l.sender_at in let same = length-set rs port told in
      links_pushed port (length rs) after rs' ports_after notes from (omega (arith, below, same)) (λ e. other_not port l.k (sym l.from_is ∙ e)) l

  pub pushed : Pairwise WasPushed links.0 device.input
  pushed = subst (Pairwise WasPushed links.0) s.input (each_lies after port told ports_after told_at WasPushed pushed_each links.0 links_after)

  pub near_after : AreNear after rs'
  near_after = links_near port (length rs) after rs' notes
