-- Where the world has nothing on its wires, a sender knows that its links have room for a frame to all its targets.
use Rattle.std.proofs.Common.{◌≡◌, ℕ, suc, ◌+◌, ◌≤◌, Bool, true, false, List, [], ◌∷◌, length, refl, sym, ap, ap₂, ◌∙◌, arith, Some}
use Rattle.std.specs.List.{filter, slice_get, AllByRecursion, range_with_len}
use Rattle.std.proofs.lemmas.List.{length-map}
use Rattle.std.proofs.lemmas.List.FromFn.{length-range_with_len}
use Rattle.vmx_switch.specs.Ports.{Wiring, is_target, target_ports}
use Rattle.vmx_link.specs.Views.{LinkOutView}
use Rattle.vmx_model.specs.Record.{carried_of}
use Rattle.vmx_model.specs.Serial.{Carried, is_wire}
use Rattle.vmx_model.specs.Turns.{IsEmptied, AreEmptied}
use Rattle.vmx_model.proofs.Found.{found_holds}
use Rattle.vmx_device_looks.specs.Ports.{other}
use Rattle.vmx_device_looks.specs.PortLaws.{other_once, other_not}
use Rattle.vmx_device_looks.specs.Queues.{all_at, each_at, get_lt}
use Rattle.vmx_device_laws.specs.Keeps.{Keeps, OutSays}
use Rattle.vmx_device_laws.proofs.PairingIn.{some_same}
use Rattle.vmx_replay_worlds.specs.Guests.{GuestView}
use Rattle.vmx_replay_worlds.specs.Worlds.{wire_between, world_of}
use Rattle.vmx_replay_worlds.specs.Ports.{AreAtPorts, HasAll, Lies, IsBare, HaveRoom}
use Rattle.vmx_replay_worlds.proofs.In.{wire_here}
use Rattle.vmx_replay_worlds.proofs.Linked.{other_below, lies_between}
use Rattle.vmx_replay_calls.specs.Resting.{AreKnown}

-- ------------------------------------------------------------ targets

filter_short : {X : Type 0} (p : X → Bool) (xs : List X) → length (filter p xs) ≤ length xs
filter_short p [] = omega arith
filter_short p (x ∷ xs) = step (p x) refl (filter_short p xs)
  where
    step : (b : Bool) → p x ≡ b → length (filter p xs) ≤ length xs → length (filter p (x ∷ xs)) ≤ length (x ∷ xs)
    step true e le = rw e (omega (arith, le))
    step false e le = rw e (omega (arith, le))

-- no more targets than ports
pub few_targets : (w : Wiring) (from : ℕ) (frame : List ℕ) → length (target_ports w from frame) ≤ length w.macs
unfolding target_ports
few_targets w from frame = let le = filter_short (is_target w from frame) (range_with_len 0 (length w.macs)) in let l = length-range_with_len 0 (length w.macs) in omega (arith, le, l)

-- ------------------------------------------------------------ links

pub all_by : {X : Type 0} (P : X → Type 0) (xs : List X) → ((n : ℕ) (x : X) → slice_get xs n ≡ Some x → P x) → AllByRecursion P xs
all_by P [] f = tt
all_by P (x ∷ xs) f = (f 0 x refl, all_by P xs (λ n y e. f (suc n) y e))

-- a link on whose wire nothing is
pub bare_lies : (rs : List GuestView) (from to : ℕ) (l : Lies rs from to) → AreAtPorts rs → AreEmptied (world_of rs) → IsBare l.link l.end
bare_lies rs from to l ports all =
    let wire : IsEmptied (wire_between from to l.link l.end) = found_holds IsEmptied (is_wire from to) (world_of rs).wires (wire_between from to l.link l.end) (wire_here rs from to ports l) all in
    sym (length-map l.end.pulled carried_of) ∙ ap (λ (xs : List Carried). length xs) wire ∙ length-map l.link.pushed carried_of

module _ (rs : List GuestView) (guests : AreAtPorts rs) (all : AllByRecursion (HasAll (length rs)) rs) (known : AreKnown rs) (emptied : AreEmptied (world_of rs)) (port : ℕ) (guest : GuestView) (at : slice_get rs port ≡ Some guest) (keeps : Keeps guest.device) where
  -- all that was pushed was pulled, as the sender knows
  pushed_freed : (n : ℕ) (o : LinkOutView) → slice_get guest.device.out n ≡ Some o → length o.pushed ≤ length o.freed
  pushed_freed n o e =
      let many : suc (length guest.device.out) ≡ length rs = (all_at (HasAll (length rs)) rs port guest at all).out in
      let below = get_lt guest.device.out n o e in
      let low = get_lt rs port guest at in
      let l = lies_between rs port (other port n) guests all low (other_below port n (other port n) (length rs) refl (omega (arith, below, many))) (other_not port n) in
      let sender : l.sender ≡ guest = some_same (slice_get rs port) l.sender guest l.sender_at at in
      let number : l.j ≡ n = other_once port l.j n (sym l.to_is) in
      let link : l.link ≡ o = some_same (slice_get guest.device.out n) l.link o (ap₂ (λ (g : GuestView) (k : ℕ). slice_get g.device.out k) (sym sender) (sym number) ∙ l.link_at) e in
      let pulled = (known port (other port n) l).pulled in
      let bare = bare_lies rs port (other port n) l guests emptied in
      let p = ap (λ (x : LinkOutView). length x.pushed) link in let f = ap (λ (x : LinkOutView). length x.freed) link in omega (arith, pulled, bare, p, f)

  capacity : (n : ℕ) (o : LinkOutView) → slice_get guest.device.out n ≡ Some o → o.capacity ≡ 64
  capacity n o e = (each_at (OutSays guest.device.port guest.device.entries) 0 guest.device.out n o e keeps.out).capacity

  pub room : (n : ℕ) → n ≤ 16 → HaveRoom n guest.device.out
  room n few = all_by (λ (o : LinkOutView). length o.pushed + n ≤ length o.freed + o.capacity) guest.device.out (λ k o e. (let p = pushed_freed k o e in let c = capacity k o e in omega (arith, few, p, c)))
