-- How many frames are posted and not reaped.
use Rattle.std.proofs.Common.{◌≡◌, ℕ, zero, suc, ◌+◌, ◌<◌, ◌≤◌, List, [], ◌∷◌, ◌++◌, length, length-append, get_or, set, refl, ap, arith}
use Rattle.vmx_ends.specs.declared.frames.Sent.{Sent}
use Rattle.vmx_ends.specs.Transmit.{TxDriverView}
use Rattle.vmx_model.specs.declared.guest.GuestPlan.{GuestPlan}
use Rattle.vmx_model.specs.Bags.{EachQueue, Pairwise}
use Rattle.vmx_driver_steps.specs.Driver.{SendsPlan}
use Rattle.vmx_driver_steps.specs.Noting.{IsNotedTx}
use Rattle.vmx_driver_steps.specs.Near.{IsNearTx}
use Rattle.vmx_driver_steps.specs.Asking.{IsNewTx}
use Rattle.vmx_driver_steps.specs.Driving.{left_on, unreaped, AreReaped}

-- one end is replaced
pub unreaped_set : (tx : List TxDriverView) (q : ℕ) (d d' : TxDriverView) → d ≡ get_or tx q d → q < length tx → unreaped (set tx q d') + left_on d ≡ unreaped tx + left_on d'
unreaped_set [] q d d' at lt = absurd (omega (arith, lt))
unreaped_set (x ∷ tx) zero d d' at lt = let e = ap left_on at in omega (arith, e)
unreaped_set (x ∷ tx) (suc q) d d' at lt = let h = unreaped_set tx q d d' at (omega (arith, lt)) in omega (arith, h)

-- each is replaced by one of which as many are left
pub unreaped_pair : (R : TxDriverView → TxDriverView → Type 0) (xs ys : List TxDriverView) → ((x y : TxDriverView) → R x y → left_on y ≡ left_on x) → Pairwise R xs ys → unreaped ys ≡ unreaped xs
unreaped_pair R [] [] f h = refl
unreaped_pair R [] (y ∷ ys) f h = absurd h
unreaped_pair R (x ∷ xs) [] f h = absurd h
unreaped_pair R (x ∷ xs) (y ∷ ys) f h = let a = f x y h.0 in let b = unreaped_pair R xs ys f h.1 in omega (arith, a, b)

pub noted_left : (x y : TxDriverView) → IsNotedTx x y → left_on y ≡ left_on x
noted_left x y e = ap left_on e

pub near_left : (x y : TxDriverView) → IsNearTx x y → left_on y ≡ left_on x
near_left x y n = ap left_on n.is

-- new ends have none
pub unreaped_new : (g : ℕ) (p : GuestPlan) (a from : ℕ) (tx : List TxDriverView) → EachQueue (IsNewTx g p a) from tx → unreaped tx ≡ 0
unreaped_new g p a from [] h = refl
unreaped_new g p a from (d ∷ tx) h = let l = ap length h.0.1 in let r = h.0.2 in let ih = unreaped_new g p a (suc from) tx h.1 in omega (arith, l, r, ih)

-- where none is left, all are reaped
pub all_reaped : (g : ℕ) (p : GuestPlan) (a next from : ℕ) (tx : List TxDriverView) → EachQueue (SendsPlan g p a next) from tx → unreaped tx ≡ 0 → AreReaped tx
all_reaped g p a next from [] h e = tt
all_reaped g p a next from (d ∷ tx) h e = let low = h.0.reaped in (omega (arith, low, e), all_reaped g p a next (suc from) tx h.1 (omega (arith, e)))

-- one frame more was posted
pub one_posted : (tx : List TxDriverView) (q : ℕ) (d d' : TxDriverView) (x : Sent) → d ≡ get_or tx q d → q < length tx → d' ≡ record d { sent = d.sent ++ x ∷ [] } → d.reaped ≤ length d.sent → unreaped (set tx q d') ≡ unreaped tx + 1
one_posted tx q d d' x at lt is low =
    let h = unreaped_set tx q d d' at lt in let r = ap (λ (z : TxDriverView). z.reaped) is in let l = ap (λ (z : TxDriverView). length z.sent) is in let more = length-append d.sent (x ∷ []) in
    omega (arith, h, r, l, more, low)
