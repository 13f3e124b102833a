use Rattle.std.proofs.Common.{rules, arith, ap, ◌∙◌, sym, ℕ, [], ◌∷◌, subst, None}
use Rattle.atomic_table.specs.Table.{opening}
use Rattle.vmx_regs.specs.Rule.{Kept, newcomer}
use Rattle.vmx_regs.specs.Masks.{AreFirst}
use Rattle.vmx_regs.specs.Plays.{opened}
use Rattle.vmx_regs.proofs.Seen.{parts_split, load_allows}
use Rattle.vmx_regs.proofs.Steps.{opens}
use Rattle.vmx_regs.proofs.Seats.{begins, parts}
use Rattle.vmx_regs.proofs.MaskSeats.{masks_begin, masks_cut}
use Rattle.vmx_regs.proofs.FirstWords.{begins_zero}
use Rattle.vmx_regs.proofs.ends.life.make.Goals as goal

pub vacant-requires : goal.vacant-requires
vacant-requires g c = let n : ℕ = c.args.interrupts in let f : AreFirst n n c.as_slice.result.now = search rules in let z = begins_zero c.as_slice.result.now (let m = f.many in omega arith) (f.low 0 (omega arith)) (f.low 1 (omega arith)) in
    (subst (λ ws. Kept g.E.Handed.handed (opening ws (None ∷ []) (newcomer n))) (sym z.1) (begins g.E.Handed.handed n z.0), masks_begin n c.as_slice.result.now (None ∷ []) f)

pub split_seat-other-requires : goal.split_seat-other-requires
split_seat-other-requires g c = let is = c.in_ok-table.ensures.4 in (
  search rules,
  search rules,
  parts_split g.E.Handed.handed _ _ _ _ _ (parts _ _ _ (ap (λ m. m.0.calls.drives) is) (ap (λ m. m.0.calls.serves) is) (ap (λ m. m.0.calls.tells_commands) is) (ap (λ m. m.0.calls.tells_served) is))
      (masks_cut _ _ _ (ap (λ m. m.0.masks.drives) is) (ap (λ m. m.0.masks.serves) is)),
)

pub load-requires : goal.load-requires
load-requires g c = let is = c.in_ok-table.ensures.4 in let now = c.split_seat-other.ensures.2 in (
  search rules,
  search rules,
  load_allows g.E.Handed.handed opened _ _ _ _ _ (omega arith)
      (opens _ _ _ _ (ap (λ m. m.0.calls.drives) now ∙ ap (λ m. m.0.calls.drives) is) (ap (λ m. m.0.calls.serves) now) (ap (λ m. m.0.calls.begun) now ∙ ap (λ m. m.0.calls.begun) is) (ap (λ m. m.1) now ∙ ap (λ m. m.1) is)),
)
