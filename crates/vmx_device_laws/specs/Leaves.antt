-- What a device that has ended leaves, in the words of a replay's accounts.
use Rattle.std.specs.Prelude.{◌≡◌, ℕ, None, slice_get, Some, false}
use Rattle.std.specs.List.{AllByRecursion}
use Rattle.vmx_io.specs.declared.handed.HandedView.{HandedView}
use Rattle.vmx_ends.specs.LinkView.{LinkView}
use Rattle.vmx_link.specs.Views.{LinkOutView, LinkInView}
use Rattle.vmx_link.specs.Ends.{met_view}
use Rattle.vmx_model.specs.Journal.{Beside, none_stopped}
use Rattle.vmx_model.specs.JournalSteps.{Extends}
use Rattle.vmx_model.specs.Account.{SendsOnto, PullsFrom}
use Rattle.vmx_model.specs.Bags.{gifts}
use Rattle.vmx_model.specs.Views.{GuestView}
use Rattle.vmx_device_laws.specs.Views.{DeviceView, beside_of}

-- what stands beside the journal as a record has it: no queue is stopped
abbrev pub unstopped : Beside → Beside
unstopped b = record b { stopped = none_stopped }

-- a device that gave all ends back, a driver behind the words of each, and a later state of what stands beside its journal: all its commands, the packets that it pulled and more, and of its own links those that it pushed
pub record HasEnded (d : DeviceView) (b : Beside) : Type 0 where
  pub idle : d.machine.active ≡ None
  pub told : b.told ≡ d.calls.served
  pub trusted : AllByRecursion (λ (v : HandedView). v.given ≡ false) (gifts d.calls.served)
  pub extends : Extends (unstopped (beside_of d)) b
  pub sent : AllByRecursion (λ (l : LinkView). l.from ≡ d.port → (k : ℕ) × ((o : LinkOutView) × (slice_get d.out k ≡ Some o) × (l.pushed ≡ o.pushed))) b.links

-- the guest's part of a record that the device makes
pub record IsOfDevice (d : DeviceView) (v : GuestView) : Type 0 where
  pub entries : v.entries ≡ d.entries
  pub setups : v.setups ≡ d.setups
  pub told : v.told ≡ d.calls.served
  pub tx_stats : v.tx_stats ≡ d.machine.tx_stats
  pub rx_stats : v.rx_stats ≡ d.machine.rx_stats

-- its links say what its journal says, whatever the other end did
pub record LinksSay (d : DeviceView) : Type 0 where
  pub sends : AllByRecursion (λ (o : LinkOutView). (i : LinkInView) → SendsOnto d.entries (met_view o i)) d.out
  pub pulls : AllByRecursion (λ (i : LinkInView). (o : LinkOutView) → o.from ≡ i.from → PullsFrom d.entries (met_view o i)) d.input
