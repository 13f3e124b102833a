-- The numbers of the checks.
use Rattle.std.specs.Prelude.{ℕ}
use Rattle.vmx_shared_area.specs.declared.fault.ImageFault.{ImageFault}
use Rattle.vmx_shared_area.specs.declared.fault.ImageFault.TheVariants.{Magic, Queues, RingSize, CompSize, Address, Mtu, Filter, Rss, Interrupt}

abbrev pub number_of : ImageFault → ℕ
number_of (Magic found) = 1
number_of (Queues found) = 2
number_of (RingSize found) = 3
number_of (CompSize found) = 4
number_of (Address found) = 5
number_of (Mtu found) = 6
number_of (Filter found) = 7
number_of (Rss found) = 8
number_of (Interrupt found) = 9
