-- The links to a guest, each by its two ends, and what the world says of them.
use Rattle.std.proofs.Common.{◌≡◌, ◌≢◌, ℕ, suc, ◌+◌, ◌<◌, List, [], ◌∷◌, length, map, ap, ap₂, sym, ◌∙◌, subst, arith, Some, inl, inr}
use Rattle.std.specs.List.{slice_get, AllByRecursion}
use Rattle.std.proofs.lemmas.List.{length-map}
use Rattle.vmx_link.specs.Views.{LinkOutView, LinkInView}
use Rattle.vmx_model.specs.Bags.{EachQueue, Pairwise}
use Rattle.vmx_model.specs.Record.{carried_of}
use Rattle.vmx_model.specs.Serial.{Wire, is_wire}
use Rattle.vmx_model.specs.Turns.{IsEmptied, AreEmptied}
use Rattle.vmx_model.proofs.Found.{found_holds}
use Rattle.vmx_model.proofs.Sends.{some_there}
use Rattle.vmx_device_looks.specs.Ports.{other, IsOther}
use Rattle.vmx_device_looks.specs.PortLaws.{other_is, other_not, other_once, is_other}
use Rattle.vmx_device_looks.specs.Queues.{all_at, get_lt}
use Rattle.vmx_device_laws.proofs.PairingIn.{some_same}
use Rattle.vmx_replay_worlds.specs.Guests.{GuestView}
use Rattle.vmx_replay_worlds.specs.Worlds.{wire_between, world_of}
use Rattle.vmx_replay_worlds.specs.Ports.{IsInTo, AreAtPorts, HasAll, Lies, IsLinkOf, IsBare}
use Rattle.vmx_replay_worlds.proofs.Lists.{each_there, pair_at}
use Rattle.vmx_replay_worlds.proofs.Moved.{at_port}
use Rattle.vmx_replay_worlds.proofs.In.{wire_here}

-- ------------------------------------------------------------ each has its sender's end

pub other_below : (to k from n : ℕ) → from ≡ other to k → suc k < n → from < n
other_below to k from n e lt = elim (other_is to k) [
  | inl h ↦ (let f = h.1 in omega (arith, e, f, lt))
  | inr h ↦ (let f = h.1 in omega (arith, e, f, lt))
]

module _ (rs : List GuestView) (to : ℕ) (all : AllByRecursion (HasAll (length rs)) rs) (low : to < length rs) where
  link_of : (k : ℕ) (i : LinkInView) → IsInTo to k i → suc k < length rs → (o : LinkOutView) × IsLinkOf rs to o i
  link_of k i at lt =
      let s = some_there rs i.from (other_below to k i.from (length rs) at.1 lt) in
      let many : suc (length s.0.device.out) ≡ length rs = (all_at (HasAll (length rs)) rs i.from s.0 s.1 all).out in
      let below = other_below to k i.from (length rs) at.1 lt in
      let j : IsOther i.from (length s.0.device.out) to = is_other i.from (length s.0.device.out) to (omega (arith, below, many)) (omega (arith, low, many)) (λ e. other_not to k (sym at.1 ∙ sym e)) in
      let o = some_there s.0.device.out j.0 j.1 in
      (o.0, record { sender = s.0; sender_at = s.1; j = j.0; to_is = j.2; link_at = o.1 })

  links_from : (k : ℕ) (is : List LinkInView) → EachQueue (IsInTo to) k is → k + length is < length rs → (links : List LinkOutView) × Pairwise (IsLinkOf rs to) links is
  links_from k [] h lt = ([], tt)
  links_from k (i ∷ is) h lt =
      let one = link_of k i h.0 (omega (arith, lt)) in let more = links_from (suc k) is h.1 (omega (arith, lt)) in
      (one.0 ∷ more.0, (one.1, more.1))

pub has_links : (rs : List GuestView) (to : ℕ) (r : GuestView) → AreAtPorts rs → AllByRecursion (HasAll (length rs)) rs → slice_get rs to ≡ Some r → (links : List LinkOutView) × Pairwise (IsLinkOf rs to) links r.device.input
has_links rs to r ports all at =
    let many : suc (length r.device.input) ≡ length rs = (all_at (HasAll (length rs)) rs to r at all).input in
    links_from rs to all (get_lt rs to r at) 0 r.device.input (at_port to rs r ports at).input (omega (arith, many))

-- the link between two ports lies
pub lies_between : (rs : List GuestView) (from to : ℕ) → AreAtPorts rs → AllByRecursion (HasAll (length rs)) rs → from < length rs → to < length rs → to ≢ from → Lies rs from to
lies_between rs from to ports all low high ne =
    let s = some_there rs from low in let r = some_there rs to high in
    let outs : suc (length s.0.device.out) ≡ length rs = (all_at (HasAll (length rs)) rs from s.0 s.1 all).out in
    let ins : suc (length r.0.device.input) ≡ length rs = (all_at (HasAll (length rs)) rs to r.0 r.1 all).input in
    let j : IsOther from (length s.0.device.out) to = is_other from (length s.0.device.out) to (omega (arith, low, outs)) (omega (arith, high, outs)) ne in
    let k : IsOther to (length r.0.device.input) from = is_other to (length r.0.device.input) from (omega (arith, high, ins)) (omega (arith, low, ins)) (λ e. ne (sym e)) in
    let o = some_there s.0.device.out j.0 j.1 in let i = some_there r.0.device.input k.0 k.1 in
    record { sender = s.0; sender_at = s.1; j = j.0; to_is = j.2; link = o.0; link_at = o.1; receiver = r.0; receiver_at = r.1; k = k.0; from_is = k.2; end = i.0; end_at = i.1 }

-- ------------------------------------------------------------ in the world

module _ (rs : List GuestView) (to : ℕ) (r : GuestView) (ports : AreAtPorts rs) (at : slice_get rs to ≡ Some r) where
  abbrev pub lies_at : (k : ℕ) (o : LinkOutView) (i : LinkInView) → slice_get r.device.input k ≡ Some i → IsLinkOf rs to o i → Lies rs i.from to
  lies_at k o i here h = record {
    sender = h.sender;
    sender_at = h.sender_at;
    j = h.j;
    to_is = h.to_is;
    link = o;
    link_at = h.link_at;
    receiver = r;
    receiver_at = at;
    k = k;
    from_is = (each_there (IsInTo to) 0 k k r.device.input i (omega arith) (at_port to rs r ports at).input here).1;
    end = i;
    end_at = here;
  }

  -- what holds of each link that lies
  module _ (S : LinkOutView → LinkInView → Type 0) (f : (from : ℕ) (l : Lies rs from to) → S l.link l.end) where
    lies_from : (k : ℕ) (links : List LinkOutView) (is : List LinkInView) → ((n : ℕ) → slice_get r.device.input (k + n) ≡ slice_get is n) → Pairwise (IsLinkOf rs to) links is → Pairwise S links is
    lies_from k [] [] same h = tt
    lies_from k [] (i ∷ is) same h = absurd h
    lies_from k (o ∷ links) [] same h = absurd h
    lies_from k (o ∷ links) (i ∷ is) same h =
        let z : k ≡ k + 0 = omega arith in
        let here : slice_get r.device.input k ≡ Some i = ap (slice_get r.device.input) z ∙ same 0 in
        (f i.from (lies_at k o i here h.0), lies_from (suc k) links is (λ n. (let s : suc k + n ≡ k + suc n = omega arith in ap (slice_get r.device.input) s ∙ same (suc n))) h.1)

    pub each_lies : (links : List LinkOutView) → Pairwise (IsLinkOf rs to) links r.device.input → Pairwise S links r.device.input
    each_lies links h = lies_from 0 links r.device.input (λ n. (let s : 0 + n ≡ n = omega arith in ap (slice_get r.device.input) s)) h

  -- what all wires are, links are, each by its two ends
  module _ (P : Wire → Type 0) (S : LinkOutView → LinkInView → Type 0) (f : (o : LinkOutView) (i : LinkInView) → P (wire_between i.from to o i) → S o i) (all : AllByRecursion P (world_of rs).wires) where
    each_from : (k : ℕ) (links : List LinkOutView) (is : List LinkInView) → ((n : ℕ) → slice_get r.device.input (k + n) ≡ slice_get is n) → Pairwise (IsLinkOf rs to) links is → Pairwise S links is
    each_from k [] [] same h = tt
    each_from k [] (i ∷ is) same h = absurd h
    each_from k (o ∷ links) [] same h = absurd h
    each_from k (o ∷ links) (i ∷ is) same h =
        let z : k ≡ k + 0 = omega arith in
        let here : slice_get r.device.input k ≡ Some i = ap (slice_get r.device.input) z ∙ same 0 in
        let wire = found_holds P (is_wire i.from to) (world_of rs).wires (wire_between i.from to o i) (wire_here rs i.from to ports (lies_at k o i here h.0)) all in
        (f o i wire, each_from (suc k) links is (λ n. (let s : suc k + n ≡ k + suc n = omega arith in ap (slice_get r.device.input) s ∙ same (suc n))) h.1)

    each_link : (links : List LinkOutView) → Pairwise (IsLinkOf rs to) links r.device.input → Pairwise S links r.device.input
    each_link links h = each_from 0 links r.device.input (λ n. (let s : 0 + n ≡ n = omega arith in ap (slice_get r.device.input) s)) h

  same_long : (o : LinkOutView) (i : LinkInView) → map carried_of i.pulled ≡ map carried_of o.pushed → IsBare o i
  same_long o i e = sym (length-map i.pulled carried_of) ∙ ap length e ∙ length-map o.pushed carried_of

  pub links_bare : (links : List LinkOutView) → Pairwise (IsLinkOf rs to) links r.device.input → AreEmptied (world_of rs) → Pairwise IsBare links r.device.input
  links_bare links h all = each_link IsEmptied IsBare same_long all links h

  pub others_bare : (links : List LinkOutView) (from : ℕ) → Pairwise (IsLinkOf rs to) links r.device.input → AllByRecursion (λ (l : Wire). l.from ≢ from → IsEmptied l) (world_of rs).wires → Pairwise (λ (o : LinkOutView) (i : LinkInView). i.from ≢ from → IsBare o i) links r.device.input
  others_bare links from h all = each_link (λ (l : Wire). l.from ≢ from → IsEmptied l) (λ (o : LinkOutView) (i : LinkInView). i.from ≢ from → IsBare o i) (λ o i g ne. same_long o i (g ne)) all links h

-- ------------------------------------------------------------ one link among those to its receiver

module _ (rs : List GuestView) (from to : ℕ) (ports : AreAtPorts rs) (l : Lies rs from to) (links : List LinkOutView) (h : Pairwise (IsLinkOf rs to) links l.receiver.device.input) where
  in_from : (n : ℕ) (i : LinkInView) → slice_get l.receiver.device.input n ≡ Some i → i.from ≡ other to n
  in_from n i at = (each_there (IsInTo to) 0 n n l.receiver.device.input i (omega arith) (at_port to rs l.receiver ports l.receiver_at).input at).1

  -- the sender's end has its number
  pub link_there : slice_get links l.k ≡ Some l.link
  link_there =
      let p = pair_at (IsLinkOf rs to) links l.receiver.device.input l.k l.end h l.end_at in
      let from_is : l.end.from ≡ from = in_from l.k l.end l.end_at ∙ sym l.from_is in
      let sender : p.2.sender ≡ l.sender = some_same (slice_get rs from) p.2.sender l.sender (ap (slice_get rs) (sym from_is) ∙ p.2.sender_at) l.sender_at in
      let number : p.2.j ≡ l.j = other_once from p.2.j l.j (ap (λ (n : ℕ). other n p.2.j) (sym from_is) ∙ sym p.2.to_is ∙ l.to_is) in
      let link : p.0 ≡ l.link = some_same (slice_get l.sender.device.out l.j) p.0 l.link (ap₂ (λ (s : GuestView) (n : ℕ). slice_get s.device.out n) (sym sender) (sym number) ∙ p.2.link_at) l.link_at in
      p.1 ∙ ap Some link

  -- and nothing is on the others
  pub others_there : AllByRecursion (λ (w : Wire). w.from ≢ from → IsEmptied w) (world_of rs).wires → (n : ℕ) (o : LinkOutView) (i : LinkInView) → n ≢ l.k → slice_get links n ≡ Some o → slice_get l.receiver.device.input n ≡ Some i → IsBare o i
  others_there all n o i ne at_o at_i =
      let p = pair_at (λ (x : LinkOutView) (y : LinkInView). y.from ≢ from → IsBare x y) links l.receiver.device.input n i (others_bare rs to l.receiver ports l.receiver_at links from h all) at_i in
      subst (λ (x : LinkOutView). IsBare x i) (some_same (slice_get links n) p.0 o p.1 at_o) (p.2 (λ e. ne (other_once to n l.k (sym (in_from n i at_i) ∙ e ∙ l.from_is))))

pub link_is : (rs : List GuestView) (from to : ℕ) (l : Lies rs from to) (links : List LinkOutView) → AreAtPorts rs → Pairwise (IsLinkOf rs to) links l.receiver.device.input → slice_get links l.k ≡ Some l.link
link_is rs from to l links ports h = link_there rs from to ports l links h

pub others_are : (rs : List GuestView) (from to : ℕ) (l : Lies rs from to) (links : List LinkOutView) → AreAtPorts rs → Pairwise (IsLinkOf rs to) links l.receiver.device.input → AllByRecursion (λ (w : Wire). w.from ≢ from → IsEmptied w) (world_of rs).wires
    → (n : ℕ) (o : LinkOutView) (i : LinkInView) → n ≢ l.k → slice_get links n ≡ Some o → slice_get l.receiver.device.input n ≡ Some i → IsBare o i
others_are rs from to l links ports h all = others_there rs from to ports l links h all
