use Rattle.std.proofs.Common.{rules, ◌≡◌, ◌*◌, ◌+◌, ◌∙◌, ℕ, refl}
use Rattle.vmx_tx_ring.proofs.Parts.{zeros, begins, cuts, three_rows}
use Rattle.vmx_tx_ring.proofs.Driving.{some_piece}
use Rattle.vmx_tx_ring.proofs.life.make_ring.Goals as goal

pub split_seat-other-requires : goal.split_seat-other-requires
split_seat-other-requires g c = (search rules, search rules, cuts g.C.TellsCompletions.told _ _ (search rules) (search rules) (search rules) (search rules))

pub new-requires : goal.new-requires
new-requires g c = let n : ℕ = c.args.made.size in let k : ℕ = g.C.TellsCompletions.count n in let is : c.as_slice.result.now ≡ zeros (n * 2 + k) = search rules in
    begins g.C.TellsCompletions.told g.C.TellsCompletions.count c.args.made c.as_slice.result.now c.in_ok-buffers.buffers.items g.met.C.TellsCompletions.begins (is ∙ three_rows n k (n * 2 + k) refl) c.requires.size.0 (some_piece c.args.made c.requires.piece.0) (search rules) c.requires.full
