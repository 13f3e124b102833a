-- The links to a device are there after each step of its guest.
use Rattle.std.proofs.Common.{◌≡◌, ℕ, zero, suc, Bool, true, false, List, [], ◌∷◌, length, set, refl, sym, ap, ◌∙◌, subst, arith, Option, Some, None, inl, inr}
use Rattle.std.specs.List.{slice_get}
use Rattle.std.proofs.lemmas.List.{map-set, length-set}
use Rattle.vmx_switch.specs.Ports.{Wiring}
use Rattle.vmx_link.specs.Views.{LinkInView}
use Rattle.vmx_device_state.specs.declared.turn.CommandView.{CommandView}
use Rattle.vmx_machine_state.specs.Views.{ActiveView}
use Rattle.vmx_device_looks.specs.Ports.{other}
use Rattle.vmx_device_laws.specs.Views.{DeviceView}
use Rattle.vmx_device_laws.specs.Keeps.{Keeps as DeviceKeeps}
use Rattle.vmx_device_laws.specs.Steps.{TurnsOnce, CommandStep}
use Rattle.vmx_device_laws.specs.Pairs.{Came, PairsIn}
use Rattle.vmx_device_laws.proofs.Pairwise.{turn_pairs}
use Rattle.vmx_device_laws.proofs.Pairing.{get_set_other}
use Rattle.vmx_model.specs.Bags.{Pairwise}
use Rattle.vmx_driver_steps.specs.Driver.{DriverView}
use Rattle.vmx_replay_guests.specs.Passing.{RegsPassed, QueuesPassedBy, LinkAt}
use Rattle.vmx_replay_guests.proofs.Ends.{set_there, one_there}
use Rattle.vmx_replay_worlds.specs.Guests.{GuestView}
use Rattle.vmx_replay_settled.specs.Settled.{Settles, QueuesSettled}
use Rattle.vmx_replay_settled.specs.Linked.{HasLinksIn}
use Rattle.vmx_replay_chains.specs.Chains.{ChangesOn, ActsOn, TurnsOn, PostsOn, Meets, devices_of}
use Rattle.vmx_replay_chains.proofs.Told.{map_at}

-- ------------------------------------------------------------ one device

-- the key of each link in is as before
abbrev pub SameKey : LinkInView → LinkInView → Type 0
SameKey i n = n.key ≡ i.key

-- a device at its port, with as many links and with the same keys
pub record KeepsItsLinks (d d' : DeviceView) : Type 0 where
  pub port : d'.port ≡ d.port
  pub many : length d'.out ≡ length d.out
  pub keys : Pairwise SameKey d.input d'.input

same_keys : (is : List LinkInView) → Pairwise SameKey is is
same_keys [] = tt
same_keys (i ∷ is) = (refl, same_keys is)

keeps_by : (d d' : DeviceView) → d'.port ≡ d.port → d'.out ≡ d.out → d'.input ≡ d.input → KeepsItsLinks d d'
keeps_by d d' p o i = record { port = p; many = ap length o; keys = subst (Pairwise SameKey d.input) (sym i) (same_keys d.input) }

then_keys : (is js ks : List LinkInView) → Pairwise SameKey is js → Pairwise SameKey js ks → Pairwise SameKey is ks
then_keys [] [] [] p q = tt
then_keys [] [] (k ∷ ks) p q = absurd q
then_keys [] (j ∷ js) ks p q = absurd p
then_keys (i ∷ is) [] ks p q = absurd p
then_keys (i ∷ is) (j ∷ js) [] p q = absurd q
then_keys (i ∷ is) (j ∷ js) (k ∷ ks) p q = (q.0 ∙ p.0, then_keys is js ks p.1 q.1)

pub then_keeps : (d m d' : DeviceView) → KeepsItsLinks d m → KeepsItsLinks m d' → KeepsItsLinks d d'
then_keeps d m d' a b = record { port = b.port ∙ a.port; many = b.many ∙ a.many; keys = then_keys d.input m.input d'.input a.keys b.keys }

-- ------------------------------------------------------------ notes

regs_keep : (v : DriverView) (d : DeviceView) (v' : DriverView) (d' : DeviceView) → RegsPassed v d v' d' → KeepsItsLinks d d'
regs_keep v d v' d' r = keeps_by d d' (ap (λ (x : DeviceView). x.port) r.device) (ap (λ (x : DeviceView). x.out) r.device) (ap (λ (x : DeviceView). x.input) r.device)

queues_keep : (o : Option ActiveView) (v : DriverView) (d : DeviceView) (v' : DriverView) (d' : DeviceView) → QueuesPassedBy o v d v' d' → KeepsItsLinks d d'
queues_keep None v d v' d' q = keeps_by d d' (ap (λ (x : DeviceView). x.port) q.1) (ap (λ (x : DeviceView). x.out) q.1) (ap (λ (x : DeviceView). x.input) q.1)
queues_keep (Some a) v d v' d' q = let p = q.0 in keeps_by d d'
    (ap (λ (x : DeviceView). x.port) p.rx.device ∙ ap (λ (x : DeviceView). x.port) p.tx.device)
    (ap (λ (x : DeviceView). x.out) p.rx.device ∙ ap (λ (x : DeviceView). x.out) p.tx.device)
    (ap (λ (x : DeviceView). x.input) p.rx.device ∙ ap (λ (x : DeviceView). x.input) p.tx.device)

settled_keep : (o : Option CommandView) (v : DriverView) (d : DeviceView) (v' : DriverView) (d' : DeviceView) → QueuesSettled o v d v' d' → KeepsItsLinks d d'
settled_keep None v d v' d' q = queues_keep d.machine.active v d v' d' q
settled_keep (Some c) v d v' d' q = keeps_by d d' (ap (λ (x : DeviceView). x.port) q.1) (ap (λ (x : DeviceView). x.out) q.1) (ap (λ (x : DeviceView). x.input) q.1)

pub settles_keep : (v : DriverView) (d : DeviceView) (v' : DriverView) (d' : DeviceView) → Settles v d v' d' → KeepsItsLinks d d'
settles_keep v d v' d' s = then_keeps d s.told_d d' (regs_keep v d s.told_v s.told_d s.regs) (settled_keep s.told_v.calls.asked s.told_v s.told_d v' d' s.queues)

-- links are as they were
queues_links : (o : Option ActiveView) (v : DriverView) (d : DeviceView) (v' : DriverView) (d' : DeviceView) → QueuesPassedBy o v d v' d' → (d'.out ≡ d.out) × (d'.input ≡ d.input)
queues_links None v d v' d' q = (ap (λ (x : DeviceView). x.out) q.1, ap (λ (x : DeviceView). x.input) q.1)
queues_links (Some a) v d v' d' q = let p = q.0 in (
  ap (λ (x : DeviceView). x.out) p.rx.device ∙ ap (λ (x : DeviceView). x.out) p.tx.device,
  ap (λ (x : DeviceView). x.input) p.rx.device ∙ ap (λ (x : DeviceView). x.input) p.tx.device,
)

settled_links : (o : Option CommandView) (v : DriverView) (d : DeviceView) (v' : DriverView) (d' : DeviceView) → QueuesSettled o v d v' d' → (d'.out ≡ d.out) × (d'.input ≡ d.input)
settled_links None v d v' d' q = queues_links d.machine.active v d v' d' q
settled_links (Some c) v d v' d' q = (ap (λ (x : DeviceView). x.out) q.1, ap (λ (x : DeviceView). x.input) q.1)

pub settles_links : (v : DriverView) (d : DeviceView) (v' : DriverView) (d' : DeviceView) → Settles v d v' d' → (d'.out ≡ d.out) × (d'.input ≡ d.input)
settles_links v d v' d' s = let q = settled_links s.told_v.calls.asked s.told_v s.told_d v' d' s.queues in (
  q.0 ∙ ap (λ (x : DeviceView). x.out) s.regs.device,
  q.1 ∙ ap (λ (x : DeviceView). x.input) s.regs.device,
)

-- ------------------------------------------------------------ a turn

pulled_keys : (port k : ℕ) (is ns : List LinkInView) (came : List Came) → PairsIn port k is ns came → Pairwise SameKey is ns
pulled_keys port k [] [] came p = tt
pulled_keys port k [] (n ∷ ns) came p = absurd p
pulled_keys port k (i ∷ is) [] came p = absurd p
pulled_keys port k (i ∷ is) (n ∷ ns) came (one, rest, is_, look, more) =
    let here : n.key ≡ i.key = elim look [
      | inl x ↦ ap (λ (y : LinkInView). y.key) x.is
      | inr x ↦ ap (λ (y : LinkInView). y.key) x.is
    ] in (here, pulled_keys port (suc k) is ns rest more)

asked_keeps : (answered : Bool) (d asked : DeviceView) → CommandStep answered d asked → (asked.port ≡ d.port) × (asked.table ≡ d.table) × (asked.input ≡ d.input)
asked_keeps true d asked o = (ap (λ (x : DeviceView). x.port) o.is, ap (λ (x : DeviceView). x.table) o.is, ap (λ (x : DeviceView). x.input) o.is)
asked_keeps false d asked s = (ap (λ (x : DeviceView). x.port) s.is, ap (λ (x : DeviceView). x.table) s.is, ap (λ (x : DeviceView). x.input) s.is)

pub turn_keeps : (worked : Bool) (d d' : DeviceView) → DeviceKeeps d → DeviceKeeps d' → TurnsOnce worked d d' → KeepsItsLinks d d'
turn_keeps worked d d' k k' t =
    let p = turn_pairs worked d d' t in let a = asked_keeps t.answered d t.asked t.command in
    let table : d'.table ≡ d.table = p.same.1 ∙ a.1 in let before = k.ports.1 in let after = k'.ports.1 in let macs = ap (λ (w : Wiring). length w.macs) table in record {
      port = p.same.0 ∙ a.0;
      many = omega (arith, before, after, macs);
      keys = subst (λ (is : List LinkInView). Pairwise SameKey is d'.input) a.2 (pulled_keys t.asked.port 0 t.asked.input d'.input p.came p.links);
    }

-- as many links in as before
pub turn_many : (worked : Bool) (d d' : DeviceView) → DeviceKeeps d → DeviceKeeps d' → TurnsOnce worked d d' → length d'.input ≡ length d.input
turn_many worked d d' k k' t =
    let kept = turn_keeps worked d d' k k' t in let many = kept.many in let a = k.ports.2 in let b = k'.ports.2 in omega (arith, many, a, b)

-- ------------------------------------------------------------ all links to a port

keyed : (is ns : List LinkInView) (k : ℕ) (i : LinkInView) → Pairwise SameKey is ns → slice_get is k ≡ Some i → (n : LinkInView) × (slice_get ns k ≡ Some n) × (n.key ≡ i.key)
keyed [] [] k i p e = absurd (cc e)
keyed [] (n ∷ ns) k i p e = absurd p
keyed (j ∷ is) [] k i p e = absurd p
keyed (j ∷ is) (n ∷ ns) zero i p e = let same : j ≡ i = cc e in (n, refl, p.0 ∙ ap (λ (x : LinkInView). x.key) same)
keyed (j ∷ is) (n ∷ ns) (suc k) i p e = keyed is ns k i p.1 e

link_keeps : (s d d' : DeviceView) → KeepsItsLinks d d' → LinkAt s d → LinkAt s d'
link_keeps s d d' k l =
    let i = keyed d.input d'.input l.k l.input k.keys l.input_at in let below = l.k_below in let many = k.many in record {
      j = l.j;
      to_is = k.port ∙ l.to_is;
      out = l.out;
      out_at = l.out_at;
      k = l.k;
      k_below = omega (arith, below, many);
      from_is = l.from_is ∙ ap (λ (port : ℕ). other port l.k) (sym k.port);
      input = i.0;
      input_at = i.1;
      key = l.key ∙ sym i.2;
    }

pub links_keep : (port : ℕ) (ds : List DeviceView) (d d' : DeviceView) → slice_get ds port ≡ Some d → KeepsItsLinks d d' → HasLinksIn port ds → HasLinksIn port (set ds port d')
links_keep port ds d d' at k h from lt ne =
    let long = length-set ds port d' in
    let l = h from (omega (arith, lt, long)) ne in
    let same = one_there ds port l.receiver d l.receiver_at at in
    let link : LinkAt l.sender d = subst (LinkAt l.sender) same l.link in record {
      sender = l.sender;
      sender_at = get_set_other ds port d' from ne ∙ l.sender_at;
      sender_port = l.sender_port;
      receiver = d';
      receiver_at = set_there ds port d d' at;
      receiver_port = k.port ∙ sym (ap (λ (x : DeviceView). x.port) same) ∙ l.receiver_port;
      link = link_keeps l.sender d d' k link;
    }

-- ------------------------------------------------------------ steps of one guest

module _ (port : ℕ) (P : GuestView → GuestView → Type 0) (rs rs' : List GuestView) (c : ChangesOn port P rs rs') where
  pub links_on : KeepsItsLinks c.before.device c.after.device → HasLinksIn port (devices_of rs) → HasLinksIn port (devices_of rs')
  links_on k h = subst (HasLinksIn port) (sym (ap devices_of c.is ∙ map-set (λ (r : GuestView). r.device) rs port c.after)) (links_keep port (devices_of rs) c.before.device c.after.device (map_at (λ (r : GuestView). r.device) rs port c.before c.at) k h)

  pub long_on : length rs' ≡ length rs
  long_on = ap length c.is ∙ length-set rs port c.after

pub acts_links : (port : ℕ) (rs rs' : List GuestView) → ActsOn port rs rs' → HasLinksIn port (devices_of rs) → HasLinksIn port (devices_of rs')
acts_links port rs rs' c h = links_on port _ rs rs' c (let s = c.does.1 in settles_keep s.acted c.before.device c.after.driver c.after.device s.settles) h

pub turns_links : (port : ℕ) (rs rs' : List GuestView) → TurnsOn port rs rs' → HasLinksIn port (devices_of rs) → HasLinksIn port (devices_of rs')
turns_links port rs rs' c h = links_on port _ rs rs' c (let s = c.does in then_keeps c.before.device s.turned c.after.device (turn_keeps s.worked c.before.device s.turned s.was s.keeps s.once) (settles_keep c.before.driver s.turned c.after.driver c.after.device s.settles)) h

pub posts_links : (port : ℕ) (rs rs' : List GuestView) → PostsOn port rs rs' → HasLinksIn port (devices_of rs) → HasLinksIn port (devices_of rs')
posts_links port rs rs' c h = links_on port _ rs rs' c (let s = c.does.1 in queues_keep c.before.device.machine.active s.acted c.before.device c.after.driver c.after.device s.passed) h

-- acts that let ends meet
pub meets_links : (port : ℕ) (rs rs' : List GuestView) → ChangesOn port Meets rs rs' → HasLinksIn port (devices_of rs) → HasLinksIn port (devices_of rs')
meets_links port rs rs' c h = links_on port Meets rs rs' c (settles_keep c.does.last c.before.device c.after.driver c.after.device c.does.settles) h
