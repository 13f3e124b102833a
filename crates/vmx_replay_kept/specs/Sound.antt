-- What is kept of every device of a run from call to call, besides what the world tells.
use Rattle.std.specs.Prelude.{◌≡◌, false, List}
use Rattle.std.specs.List.{AllByRecursion}
use Rattle.vmx_io.specs.declared.handed.HandedView.{HandedView}
use Rattle.vmx_link.specs.Views.{LinkOutView, LinkInView}
use Rattle.vmx_model.specs.Bags.{gifts}
use Rattle.vmx_device_laws.specs.Views.{DeviceView}
use Rattle.vmx_replay_worlds.specs.Guests.{GuestView}

-- each end of its links heard as many notes as it gave
abbrev pub IsEvenOut : LinkOutView → Type 0
IsEvenOut o = o.notes_given ≡ o.notes_heard

abbrev pub IsEvenIn : LinkInView → Type 0
IsEvenIn i = i.notes_given ≡ i.notes_heard

-- a driver stood behind the words of the ends that were handed back in this bag
abbrev pub IsTrustedBag : HandedView → Type 0
IsTrustedBag b = b.given ≡ false

pub record IsSound (d : DeviceView) : Type 0 where
  pub out : AllByRecursion IsEvenOut d.out
  pub input : AllByRecursion IsEvenIn d.input
  pub bags : AllByRecursion IsTrustedBag (gifts d.calls.served)

abbrev pub AllSound : List GuestView → Type 0
AllSound rs = AllByRecursion (λ (r : GuestView). IsSound r.device) rs
