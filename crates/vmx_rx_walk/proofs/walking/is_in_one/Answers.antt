use Rattle.std.proofs.Common.{ℕ, ◌%◌, ap, ap₂, sym, arith}
use Rattle.vmx_rx_ring.proofs.DeviceLooks.{one_looks}
use Rattle.vmx_rx_walk.proofs.Walks.{word1_below}
use Rattle.vmx_rx_walk.proofs.walking.is_in_one.Goals as goal

pub load-word-requires : goal.load-word-requires
load-word-requires g c = let d = c.requires.device in let tb = c.requires.table in let a = c.requires.at in let size = ap (λ m. m.size1) d.3 in let here = a.0 in let low = a.1 in let high = a.2 in
    (tb.0, word1_below _ _ _ c.args.shape.now c.args.position tb, one_looks g.C.TellsVisible.counted _ _ _ _ d.0 d.1 d.2 (omega arith) (omega arith) (ap₂ (λ (x y : ℕ). x % y) here (sym size)))
