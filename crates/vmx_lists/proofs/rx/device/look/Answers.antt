use Rattle.std.proofs.Common.{rules, ◌≡◌, ℕ, arith, subst}
use mathlib.Core.Option.{none}
use Rattle.atomic_table.specs.Table.{step}
use Rattle.vmx_lists.specs.RxPlays.{device_looked}
use Rattle.vmx_lists.proofs.RxSteps.{device_looks}
use Rattle.vmx_lists.proofs.rx.device.look.Goals as goal

pub load-requires : goal.load-requires
load-requires c = (search rules, search rules, device_looks 0 _ _ _ c.requires.rests.0 c.requires.rests.1 c.requires.rests.2 c.requires.rests.3)

pub load-requires-then-n-eq1 : goal.load-requires-then-n-eq1
load-requires-then-n-eq1 c = (search rules, search rules, device_looks 1 _ _ _ c.requires.rests.0 c.requires.rests.1 c.requires.rests.2 c.requires.rests.3)

pub load-requires-2 : goal.load-requires-2
load-requires-2 c = (search rules, search rules, device_looks 2 _ _ _ c.requires.rests.0 c.requires.rests.1 c.requires.rests.2 c.requires.rests.3)

pub returns-clause-looked : goal.returns-clause-looked
returns-clause-looked c = let a = c.if-n-eq0.false in let b = c.if-n-eq1.false in let p = c.requires.pieces in let e : 2 ≡ c.args.n = omega arith in
    subst (λ (k : ℕ). device_looked k (step c.args.shared.now.table_id.slots 1 0 0 none) c.args.seat.now.me c.load-2.result c.load-2.new.seat.me) e c.load-2.ensures.2
