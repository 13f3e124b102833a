-- What a call does, where contracts saw the driver as w.
use Rattle.std.proofs.Common.{◌≡◌, ℕ, ◌*◌, ◌^◌, ◌≤◌, List, [], ◌∷◌, length, subst, arith, All}
use Rattle.std.proofs.lemmas.List.Elements.{All-head, All-tail}
use Rattle.vmx_ends.specs.Transmit.{TxDriverView}
use Rattle.vmx_regs.specs.declared.known.Calls.{Calls}
use Rattle.vmx_regs.specs.declared.known.Masks.{Masks}
use Rattle.vmx_model.specs.Bags.{Pairwise}
use Rattle.vmx_driver_steps.specs.declared.progress.Progress.{Progress}
use Rattle.vmx_driver_steps.specs.Driver.{DriverView}
use Rattle.vmx_driver_steps.specs.Dues.{FrameDue}
use Rattle.vmx_driver_steps.specs.Queues.{IsReaped, IsSmallTx, PostsThere}
use Rattle.vmx_driver_steps.specs.Starting.{posts_next}
use Rattle.vmx_driver_steps.specs.Driving.{ReapsAll, PostsNext, unreaped}

pub reaps_so : (v w : DriverView) (tx' : List TxDriverView) → v ≡ w → Pairwise IsReaped v.tx tx' → ReapsAll w (record v { tx = tx' })
reaps_so v w tx' e r = subst (λ (x : DriverView). ReapsAll x (record v { tx = tx' })) e (record { tx = r; is = λ i. record v { tx = tx' } })

pub posts_so : (v w : DriverView) (at' : Progress) (m' : Masks) (tx' : List TxDriverView) (key' : List ℕ) (calls' : Calls) → v ≡ w → FrameDue v.plan v.at → key' ≡ v.key → calls' ≡ v.calls → PostsThere v.plan v.calls.interrupts v.at v.masks v.tx at' m' tx' → PostsNext w (record v { at = at'; key = key'; calls = calls'; masks = m'; tx = tx' })
posts_so v w at' m' tx' key' calls' e due key calls t = subst (λ (x : DriverView). PostsNext x (record v { at = at'; key = key'; calls = calls'; masks = m'; tx = tx' })) e (posts_next v at' m' tx' key' calls' due key calls t)

-- there is room for the number of frames that are not reaped
pub few_unreaped : (tx : List TxDriverView) → All IsSmallTx tx → unreaped tx ≤ length tx * 2 ^ 58
few_unreaped [] h = omega arith
few_unreaped (d ∷ tx) h = let here = (All-head IsSmallTx d tx h).0 in let more = few_unreaped tx (All-tail IsSmallTx d tx h) in omega (arith, here, more)
