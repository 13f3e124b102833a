-- A section that shows a queue where one truth value is true does so where another one is, from which that follows.
use Rattle.std.proofs.Common.{◌≡◌, ℕ, List, Bool, true}
use Rattle.vmx_ring_samples.specs.Rings.{ShowsTx, ShowsRx, AddsTx, AddsRx}

pub less_tx : (with_data done part : Bool) (old new : List ℕ) → (done ≡ true → part ≡ true) → AddsTx with_data part old new → AddsTx with_data done old new
less_tx with_data done part old new whole a = record { words = a.words; buffers = a.buffers; shows = record { driver = a.shows.driver; device = a.shows.device; made = a.shows.made; stands = λ is. a.shows.stands (whole is) }; is = a.is }

pub less_rx : (with_data done part : Bool) (old new : List ℕ) → (done ≡ true → part ≡ true) → AddsRx with_data part old new → AddsRx with_data done old new
less_rx with_data done part old new whole a = record { words = a.words; buffers = a.buffers; shows = record { driver = a.shows.driver; device = a.shows.device; made = a.shows.made; stands = λ is. a.shows.stands (whole is) }; is = a.is }
