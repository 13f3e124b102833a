use Rattle.vmx_rss.proofs.Windows.{hash_is}
use Rattle.vmx_rss.proofs.hash.toeplitz.Goals as goal

pub returns : goal.returns
returns c = record { hash = hash_is c.args.key.now c.args.input.now _ c.over_windows.type_inv c.over_windows.ensures.parities }
