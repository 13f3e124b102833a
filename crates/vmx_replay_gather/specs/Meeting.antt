-- The ends of links before they meet: those that lead out of all ports, by sender and then target, and those that lead in, by port.
use Rattle.std.specs.Prelude.{◌≡◌, ◌<◌, ℕ, List, ◌∷◌, length, map, filter, Some, slice_get, slice_set}
use Rattle.std.specs.List.{AllByRecursion}
use Rattle.vmx_link.specs.Views.{LinkOutView, LinkInView}
use Rattle.vmx_replay_worlds.specs.Worlds.{goes_to, input_by}
use Rattle.vmx_replay_kept.specs.Sound.{IsEvenOut, IsEvenIn}

-- the ends at each port come from the senders that have a link to it, in their order
pub record ComeInOrder (os : List LinkOutView) (ins : List (List LinkInView)) : Type 0 where
  pub within : AllByRecursion (λ (o : LinkOutView). o.to < length ins) os
  pub senders : (to : ℕ) (is : List LinkInView) → slice_get ins to ≡ Some is → map (λ (i : LinkInView). i.from) is ≡ map (λ (o : LinkOutView). o.from) (filter (goes_to to) os)

-- the two ends of a link: the one that comes from there, with the same key; each heard as many notes as it gave
pub record AreEnds (ins : List (List LinkInView)) (o : LinkOutView) (i : LinkInView) : Type 0 where
  pub only : input_by o.from (slice_get ins o.to) ≡ Some i
  pub key : o.key ≡ i.key
  pub out_even : IsEvenOut o
  pub in_even : IsEvenIn i

-- an end in comes from this sender just where both are the ends of a link
abbrev pub MeetsOf : List (List LinkInView) → LinkOutView → List LinkInView → Type 0
MeetsOf all o is = AllByRecursion (λ (i : LinkInView). i.from ≡ o.from → AreEnds all o i) is

-- so it is of each end out and of those that are left at its target
abbrev pub AreOfLinks : List (List LinkInView) → List LinkOutView → List (List LinkInView) → Type 0
AreOfLinks all os ins = AllByRecursion (λ (o : LinkOutView). (is : List LinkInView) → slice_get ins o.to ≡ Some is → MeetsOf all o is) os

-- an end is the first at a port
pub record IsFirstAt (port : ℕ) (i : LinkInView) (rest : List LinkInView) (ins : List (List LinkInView)) : Type 0 where
  pub at : slice_get ins port ≡ Some (i ∷ rest)

-- some end is
abbrev pub HasFirstAt : ℕ → List (List LinkInView) → Type 0
HasFirstAt port ins = (i : LinkInView) × (rest : List LinkInView) × IsFirstAt port i rest ins

-- it was taken out
pub record TakesFirst (port : ℕ) (i : LinkInView) (old new : List (List LinkInView)) : Type 0 where
  pub rest : List LinkInView
  pub first : IsFirstAt port i rest old
  pub is : new ≡ slice_set old port rest
