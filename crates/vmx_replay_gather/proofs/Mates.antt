-- Each end of a link out of a guest has its mate at the guest to which it leads; and so the ends of all links may meet.
use Rattle.std.proofs.Common.{◌≡◌, ℕ, zero, suc, ◌<◌, List, [], ◌∷◌, length, map, refl, ap, ap₂, sym, ◌∙◌, arith, Some}
use Rattle.std.specs.Option.{option_map}
use Rattle.std.specs.List.{filter, filter_map, slice_get, AllByRecursion}
use Rattle.std.proofs.lemmas.List.{length-map}
use Rattle.vmx_link.specs.Views.{LinkOutView, LinkInView}
use Rattle.vmx_model.specs.Lists.{upto}
use Rattle.vmx_model.proofs.Tags.{all_append}
use Rattle.vmx_device_looks.specs.Ports.{other}
use Rattle.vmx_device_looks.specs.PortLaws.{other_not, other_once}
use Rattle.vmx_device_looks.specs.Queues.{all_at, get_lt}
use Rattle.vmx_device_laws.proofs.PairingIn.{some_same}
use Rattle.vmx_replay_worlds.specs.Guests.{GuestView}
use Rattle.vmx_replay_worlds.specs.Worlds.{comes_from, goes_to, input_by, ins_of}
use Rattle.vmx_replay_worlds.specs.Ports.{IsOutOf, IsInTo, IsAtPort, AreAtPorts, HasAll, Lies}
use Rattle.vmx_replay_worlds.proofs.Lists.{each_there, get_map}
use Rattle.vmx_replay_worlds.proofs.Queues.{find_only}
use Rattle.vmx_replay_worlds.proofs.Moved.{at_port}
use Rattle.vmx_replay_worlds.proofs.In.{only_in}
use Rattle.vmx_replay_worlds.proofs.Linked.{other_below, lies_between}
use Rattle.vmx_replay_calls.specs.Resting.{AreKnown}
use Rattle.vmx_replay_kept.specs.Sound.{IsEvenOut, IsEvenIn, IsSound, AllSound}
use Rattle.vmx_replay_gather.specs.Records.{outs_in_order}
use Rattle.vmx_replay_gather.specs.Meeting.{ComeInOrder, AreEnds, MeetsOf, AreOfLinks}
use Rattle.vmx_replay_gather.proofs.Rows.{but, but_one, in_names, all_senders}

-- ------------------------------------------------------------ item by item

pub all_from : {X : Type 0} (P : X → Type 0) (xs : List X) → ((i : ℕ) (x : X) → slice_get xs i ≡ Some x → P x) → AllByRecursion P xs
all_from P [] k = tt
all_from P (x ∷ xs) k = (k 0 x refl, all_from P xs (λ i y at. k (suc i) y at))

-- what holds of each end out of each guest
pub all_outs : (Q : LinkOutView → Type 0) (rs : List GuestView) → ((s j : ℕ) (r : GuestView) (o : LinkOutView) → slice_get rs s ≡ Some r → slice_get r.device.out j ≡ Some o → Q o) → AllByRecursion Q (outs_in_order rs)
all_outs Q [] k = tt
all_outs Q (r ∷ rs) k = all_append Q r.device.out (outs_in_order rs) (all_from Q r.device.out (λ j o at. k 0 j r o refl at)) (all_outs Q rs (λ s j x o here at. k (suc s) j x o here at))

-- the guest whose ends in these are
guest_with : (rs : List GuestView) (n : ℕ) (is : List LinkInView) → slice_get (ins_of rs) n ≡ Some is → (r : GuestView) × (slice_get rs n ≡ Some r) × (r.device.input ≡ is)
guest_with [] n is e = absurd (cc e)
guest_with (r ∷ rs) zero is e = (r, refl, cc e)
guest_with (r ∷ rs) (suc n) is e = guest_with rs n is e

-- ------------------------------------------------------------ mates

-- the link of an end out of a port
pub record IsMate (rs : List GuestView) (port : ℕ) (o : LinkOutView) : Type 0 where
  pub from : o.from ≡ port
  pub lies : Lies rs port o.to
  pub link : lies.link ≡ o
  pub input : input_by o.from (slice_get (ins_of rs) o.to) ≡ Some lies.end

module _ (rs : List GuestView) (ports : AreAtPorts rs) (all : AllByRecursion (HasAll (length rs)) rs) where
  pub mate_of : (s j : ℕ) (r : GuestView) (o : LinkOutView) → slice_get rs s ≡ Some r → slice_get r.device.out j ≡ Some o → IsMate rs s o
  mate_of s j r o here at =
      let out : IsOutOf s j o = each_there (IsOutOf s) 0 j j r.device.out o (omega arith) (at_port s rs r ports here).out at in
      let from : o.from ≡ s = out.0 in let to : o.to ≡ other s j = out.1 in
      let many : suc (length r.device.out) ≡ length rs = (all_at (HasAll (length rs)) rs s r here all).out in
      let low : s < length rs = get_lt rs s r here in
      let lt : j < length r.device.out = get_lt r.device.out j o at in
      let high : o.to < length rs = other_below s j o.to (length rs) to (omega (arith, lt, many)) in
      let l : Lies rs s o.to = lies_between rs s o.to ports all low high (λ e. other_not s j (sym to ∙ e)) in
      let sender : l.sender ≡ r = some_same (slice_get rs s) l.sender r l.sender_at here in
      let number : l.j ≡ j = other_once s l.j j (sym l.to_is ∙ to) in
      let receiver : IsAtPort o.to l.receiver = at_port o.to rs l.receiver ports l.receiver_at in
      record {
        from = from;
        lies = l;
        link = some_same (slice_get r.device.out j) l.link o (ap₂ (λ (x : GuestView) (n : ℕ). slice_get x.device.out n) (sym sender) (sym number) ∙ l.link_at) at;
        input = ap (λ (n : ℕ). input_by n (slice_get (ins_of rs) o.to)) from
            ∙ ap (input_by s) (get_map (λ (x : GuestView). x.device.input) rs o.to ∙ ap (option_map (λ (x : GuestView). x.device.input)) l.receiver_at)
            ∙ find_only (comes_from s) l.k l.receiver.device.input l.end (only_in o.to l.k s l.receiver.device.input l.from_is receiver.input) l.end_at;
      }

  -- ------------------------------------------------------------ the ends of all links may meet

  senders_are : (to : ℕ) (is : List LinkInView) → slice_get (ins_of rs) to ≡ Some is → map (λ (i : LinkInView). i.from) is ≡ map (λ (o : LinkOutView). o.from) (filter (goes_to to) (outs_in_order rs))
  senders_are to is at =
      let g = guest_with rs to is at in let r : GuestView = g.0 in
      let low : to < length rs = get_lt rs to r g.1 in
      let many : suc (length r.device.input) ≡ length rs = (all_at (HasAll (length rs)) rs to r g.1 all).input in
      let low' : to < suc (length r.device.input) = omega (arith, low, many) in
      ap (map (λ (i : LinkInView). i.from)) (sym g.2)
      ∙ in_names to 0 r.device.input (at_port to rs r ports g.1).input
      ∙ sym (but_one to (λ (x : ℕ). x) (length r.device.input) low')
      ∙ ap (λ (n : ℕ). filter_map (but to (λ (x : ℕ). x)) (upto 0 n)) many
      ∙ sym (all_senders (length rs) to 0 rs low all ports (omega arith))

  below_all : (s j : ℕ) (r : GuestView) (o : LinkOutView) → slice_get rs s ≡ Some r → slice_get r.device.out j ≡ Some o → o.to < length (ins_of rs)
  below_all s j r o here at =
      let m = mate_of s j r o here at in let lt = get_lt rs o.to m.lies.receiver m.lies.receiver_at in let long = length-map rs (λ (x : GuestView). x.device.input) in omega (arith, lt, long)

  pub in_order : ComeInOrder (outs_in_order rs) (ins_of rs)
  in_order = record {
    within = all_outs (λ (o : LinkOutView). o.to < length (ins_of rs)) rs below_all;
    senders = senders_are;
  }

  module _ (known : AreKnown rs) (sound : AllSound rs) where
    ends_of : (s j : ℕ) (r : GuestView) (o : LinkOutView) → slice_get rs s ≡ Some r → slice_get r.device.out j ≡ Some o → (is : List LinkInView) → slice_get (ins_of rs) o.to ≡ Some is → MeetsOf (ins_of rs) o is
    ends_of s j r o here at is there_ =
        let m = mate_of s j r o here at in let l : Lies rs s o.to = m.lies in
        let g = guest_with rs o.to is there_ in
        let same : g.0 ≡ l.receiver = some_same (slice_get rs o.to) g.0 l.receiver g.1 l.receiver_at in
        let input : is ≡ l.receiver.device.input = sym g.2 ∙ ap (λ (x : GuestView). x.device.input) same in
        all_from (λ (i : LinkInView). i.from ≡ o.from → AreEnds (ins_of rs) o i) is (λ k i i_at from.
        let i_here : slice_get l.receiver.device.input k ≡ Some i = ap (λ (xs : List LinkInView). slice_get xs k) (sym input) ∙ i_at in
        let in_at : i.from ≡ other o.to k = (each_there (IsInTo o.to) 0 k k l.receiver.device.input i (omega arith) (at_port o.to rs l.receiver ports l.receiver_at).input i_here).1 in
        let number : k ≡ l.k = other_once o.to k l.k (sym in_at ∙ from ∙ m.from ∙ l.from_is) in
        let end : i ≡ l.end = some_same (slice_get l.receiver.device.input l.k) i l.end (ap (slice_get l.receiver.device.input) (sym number) ∙ i_here) l.end_at in
        record {
          only = m.input ∙ ap Some (sym end);
          key = ap (λ (x : LinkOutView). x.key) (sym m.link) ∙ (known s o.to l).key ∙ ap (λ (x : LinkInView). x.key) (sym end);
          out_even = all_at IsEvenOut r.device.out j o at (all_at (λ (x : GuestView). IsSound x.device) rs s r here sound).out;
          in_even = all_at IsEvenIn l.receiver.device.input k i i_here (all_at (λ (x : GuestView). IsSound x.device) rs o.to l.receiver l.receiver_at sound).input;
        })

    pub of_links : AreOfLinks (ins_of rs) (outs_in_order rs) (ins_of rs)
    of_links = all_outs (λ (o : LinkOutView). (is : List LinkInView) → slice_get (ins_of rs) o.to ≡ Some is → MeetsOf (ins_of rs) o is) rs ends_of
