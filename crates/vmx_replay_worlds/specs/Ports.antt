-- The guests of a run stand at their ports, with links to and from all others in port order.
use Rattle.std.specs.Prelude.{◌≡◌, ◌+◌, ◌≤◌, ℕ, suc, List, length, Some, slice_get}
use Rattle.std.specs.List.{AllByRecursion}
use Rattle.vmx_link.specs.Views.{LinkOutView, LinkInView}
use Rattle.vmx_model.specs.Bags.{EachQueue}
use Rattle.vmx_device_looks.specs.Ports.{other}
use Rattle.vmx_replay_worlds.specs.Guests.{GuestView}

-- the k-th link out of a port goes to its k-th other port
abbrev pub IsOutOf : ℕ → ℕ → LinkOutView → Type 0
IsOutOf port k o = (o.from ≡ port) × (o.to ≡ other port k)

-- the k-th link in comes from there
abbrev pub IsInTo : ℕ → ℕ → LinkInView → Type 0
IsInTo port k i = (i.to ≡ port) × (i.from ≡ other port k)

-- a device at a port
pub record IsAtPort (port : ℕ) (r : GuestView) : Type 0 where
  pub device : r.device.port ≡ port
  pub out : EachQueue (IsOutOf port) 0 r.device.out
  pub input : EachQueue (IsInTo port) 0 r.device.input

-- the guests by port
abbrev pub AreAtPorts : List GuestView → Type 0
AreAtPorts rs = EachQueue IsAtPort 0 rs

-- a guest of n with a link to and from each other
pub record HasAll (n : ℕ) (r : GuestView) : Type 0 where
  pub out : suc (length r.device.out) ≡ n
  pub input : suc (length r.device.input) ≡ n

-- the two ends of the link between two ports: the sender's is its j-th, the receiver's its k-th
pub record Lies (rs : List GuestView) (from to : ℕ) : Type 0 where
  pub sender : GuestView
  pub sender_at : slice_get rs from ≡ Some sender
  pub j : ℕ
  pub to_is : to ≡ other from j
  pub link : LinkOutView
  pub link_at : slice_get sender.device.out j ≡ Some link
  pub receiver : GuestView
  pub receiver_at : slice_get rs to ≡ Some receiver
  pub k : ℕ
  pub from_is : from ≡ other to k
  pub end : LinkInView
  pub end_at : slice_get receiver.device.input k ≡ Some end

-- the sender's end of the link that ends here, at a port
pub record IsLinkOf (rs : List GuestView) (to : ℕ) (o : LinkOutView) (i : LinkInView) : Type 0 where
  pub sender : GuestView
  pub sender_at : slice_get rs i.from ≡ Some sender
  pub j : ℕ
  pub to_is : to ≡ other i.from j
  pub link_at : slice_get sender.device.out j ≡ Some o

-- as many packets were pulled as pushed
abbrev pub IsBare : LinkOutView → LinkInView → Type 0
IsBare o i = length i.pulled ≡ length o.pushed

-- each link has room for so many packets, as its sender knows
abbrev pub HaveRoom : ℕ → List LinkOutView → Type 0
HaveRoom n os = AllByRecursion (λ (o : LinkOutView). length o.pushed + n ≤ length o.freed + o.capacity) os
