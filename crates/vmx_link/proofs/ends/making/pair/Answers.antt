use Rattle.std.proofs.Common.{rules, ap, sym, ◌≡◌, ℕ, subst, None}
use lib.ListN.{replicate}
use Rattle.atomic_table.specs.Table.{opening}
use Rattle.vmx_link.specs.Seats.{newcomer}
use Rattle.vmx_link.specs.Rule.{Link}
use Rattle.vmx_link.proofs.Parts.{begins, parts}
use Rattle.vmx_link.proofs.ends.making.pair.Goals as goal

pub vacant-requires : goal.vacant-requires
vacant-requires c = let z : ℕ = c.args.capacity in let zeros : c.as_slice.result.now ≡ replicate z 0 = search rules in
    subst (λ ws. Link (opening ws (replicate z None) newcomer)) (sym zeros) (begins z c.requires.least)

pub split_seat-other-requires : goal.split_seat-other-requires
split_seat-other-requires c = let is = c.in_ok-table.ensures.4 in
    (search rules, search rules, parts _ _ (ap (λ m. m.0.sends) is) (ap (λ m. m.0.receives) is) (ap (λ m. m.0.tells_pushed) is) (ap (λ m. m.0.tells_pulled) is))
