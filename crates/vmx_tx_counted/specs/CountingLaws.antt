-- The number of completed frames stays as it is when a further one is sent, and a zero tells of none.
use Rattle.std.proofs.Common.{refl}
use Rattle.vmx_tx_ring.specs.Rule.{IsStable, Begins}
use Rattle.vmx_tx_counted.specs.Counting.{Counted, count_words}

pub counted_stable : IsStable Counted
counted_stable m sent s completed closing reaped words le wait r = record { is = r.is; at_once = r.at_once }

pub counted_begins : Begins Counted count_words
counted_begins m some = record { is = refl; at_once = refl }
