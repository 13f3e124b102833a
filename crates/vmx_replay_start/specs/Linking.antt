-- The ends of links by port, while the links between all ports are made and after it.
use Rattle.std.specs.Prelude.{◌≡◌, ◌≢◌, ℕ, suc, List, [], ◌∷◌, ◌++◌, length, map, Some, slice_get, slice_set}
use Rattle.std.specs.List.{AllByRecursion}
use Rattle.vmx_link.specs.declared.ends.LinkOut.{LinkOut}
use Rattle.vmx_link.specs.declared.ends.LinkIn.{LinkIn}
use Rattle.vmx_link.specs.Views.{LinkOutView, LinkInView}
use Rattle.vmx_link.specs.Ends.{out_view, in_view, IsNewPair}
use Rattle.vmx_model.specs.declared.limits.TheConstants.{LINK_CAPACITY}
use Rattle.vmx_model.specs.Bags.{EachQueue}
use Rattle.vmx_device_looks.specs.Ports.{other}
use Rattle.vmx_device_laws.specs.New.{IsNewOut, IsNewIn}
use Rattle.vmx_replay_start.specs.declared.links.Links.{Links}

-- the ends of the links from one port, and of those to it
abbrev pub outs_view : List LinkOut → List LinkOutView
outs_view os = map out_view os

abbrev pub ins_view : List LinkIn → List LinkInView
ins_view is = map in_view is

-- by port, the ends of the links from it and of those to it
pub record LinksView : Type 0 where
  pub out : List (List LinkOutView)
  pub input : List (List LinkInView)

abbrev pub links_view : Links → LinksView
links_view l = record { out = map outs_view l.out; input = map ins_view l.input }

-- ------------------------------------------------------------ one link

-- a new link from a port to another was made, and its ends stand last at their ports
pub record IsJoined (from to : ℕ) (old new : LinksView) : Type 0 where
  pub out : LinkOutView
  pub input : LinkInView
  pub pair : IsNewPair from to LINK_CAPACITY out input
  pub outs : List LinkOutView
  pub outs_at : slice_get old.out from ≡ Some outs
  pub ins : List LinkInView
  pub ins_at : slice_get old.input to ≡ Some ins
  pub is : new ≡ record { out = slice_set old.out from (outs ++ out ∷ []); input = slice_set old.input to (ins ++ input ∷ []) }

-- there is none from a port to itself
pub record IsJoinedIfOther (from to : ℕ) (old new : LinksView) : Type 0 where
  pub own : from ≡ to → new ≡ old
  pub another : from ≢ to → IsJoined from to old new

-- the ends at a port are taken out, and those at others stay
pub record IsTaken (port : ℕ) (outs : List LinkOutView) (ins : List LinkInView) (old new : LinksView) : Type 0 where
  pub out : slice_get old.out port ≡ Some outs
  pub input : slice_get old.input port ≡ Some ins
  pub is : new ≡ record { out = slice_set old.out port []; input = slice_set old.input port [] }

-- ------------------------------------------------------------ all links

-- so many ports with no link
pub record AreNone (ports : ℕ) (v : LinksView) : Type 0 where
  pub out : (length v.out ≡ ports) × AllByRecursion (λ (os : List LinkOutView). os ≡ []) v.out
  pub input : (length v.input ≡ ports) × AllByRecursion (λ (is : List LinkInView). is ≡ []) v.input

-- the ends of new links from a port to each other of so many, in port order
pub record IsRow (ports port : ℕ) (os : List LinkOutView) : Type 0 where
  pub new : EachQueue (IsNewOut port) 0 os
  pub many : suc (length os) ≡ ports

-- the same of links to it
pub record IsColumn (ports port : ℕ) (is : List LinkInView) : Type 0 where
  pub new : EachQueue (IsNewIn port) 0 is
  pub many : suc (length is) ≡ ports

-- the two ends of the link from one port to another: the sender's is its j-th, the receiver's the k-th
pub record IsLink (v : LinksView) (from to : ℕ) (o : LinkOutView) (i : LinkInView) : Type 0 where
  pub outs : List LinkOutView
  pub outs_at : slice_get v.out from ≡ Some outs
  pub j : ℕ
  pub to_is : to ≡ other from j
  pub out_at : slice_get outs j ≡ Some o
  pub ins : List LinkInView
  pub ins_at : slice_get v.input to ≡ Some ins
  pub k : ℕ
  pub from_is : from ≡ other to k
  pub in_at : slice_get ins k ≡ Some i

-- each of so many ports has a new link to and from each other, and both ends of a link have one key
pub record AreLinked (ports : ℕ) (v : LinksView) : Type 0 where
  pub count : (length v.out ≡ ports) × (length v.input ≡ ports)
  pub out : EachQueue (IsRow ports) 0 v.out
  pub input : EachQueue (IsColumn ports) 0 v.input
  pub keys : (from to : ℕ) (o : LinkOutView) (i : LinkInView) → IsLink v from to o i → o.key ≡ i.key
