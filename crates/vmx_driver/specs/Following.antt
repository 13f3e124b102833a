-- What holds after reaping, and after a poll that gave nothing.
use Rattle.std.proofs.Common.{◌≡◌, ◌≢◌, ℕ, suc, ◌+◌, ◌≤◌, true, List, [], ◌∷◌, ◌++◌, length, refl, ap, sym, ◌∙◌, subst, arith, inl, inr, ⊎_elim}
use Rattle.std.specs.List.{AllByRecursion}
use Rattle.vmx_ends.specs.Transmit.{TxDriverView}
use Rattle.vmx_ends.specs.Receive.{RxDriverView}
use Rattle.vmx_regs.specs.declared.known.Masks.{Masks}
use Rattle.vmx_model.specs.declared.deeds.Action.{Action}
use Rattle.vmx_model.specs.declared.deeds.Deed.TheVariants as deed
use Rattle.vmx_model.specs.declared.journal.Received.{Received}
use Rattle.vmx_model.specs.Bags.{Pairwise}
use Rattle.vmx_model.specs.Plan.{quiesce_dev, reset_dev}
use Rattle.vmx_driver_steps.specs.declared.progress.Then.{Then}
use Rattle.vmx_driver_steps.specs.declared.progress.Then.TheVariants.{Rest, Renew, End}
use Rattle.vmx_driver_steps.specs.Driver.{DriverView}
use Rattle.vmx_driver_steps.specs.Queues.{IsReaped}
use Rattle.vmx_driver_steps.specs.Ending.{IsDrained}
use Rattle.vmx_driver_steps.specs.Acting.{ActionDue, StopDue}
use Rattle.vmx_driver_steps.specs.Driving.{ReapsAll, AreReaped, PollsAll, Polls, HandsNext, FindsNoFrame, HandsUpSome, MeetsAll, MeetsEmpty, UpdatesBy}
use Rattle.vmx_driver.specs.Stocked.{AreEven}
use Rattle.vmx_driver.specs.Acts.{QuiesceDue, ResetDue, UpdatesAfter}

-- what does not speak of transmit ends
pub along : (P : DriverView → Type 0) (old mid : DriverView) → ReapsAll old mid → P (record old { tx = mid.tx }) → P mid
along P old mid r h = subst P (sym r.is) h

-- a quiesce that was due may be sent, where all is reaped
pub quiesce_due : (old mid : DriverView) (t : Then) (done : ℕ) → QuiesceDue old t done → ReapsAll old mid → AreReaped mid.tx → StopDue mid quiesce_dev t done
quiesce_due old mid t done d r all = along (λ (v : DriverView). StopDue v quiesce_dev t done) old mid r (record {
  active = d.active;
  none = d.none;
  which = ⊎_elim
      (λ (x : (t ≡ End) × (done ≡ old.at.done) × (old.at.closed ≡ true)). inl (refl, x.0, x.1, x.2, all))
      (λ (x : (a : Action) × (t ≡ Rest) × (done ≡ old.at.done + 1) × ActionDue old.plan old.at a × (a.deed ≡ deed.Quiesce)). inr (inl (x.0, refl, x.1, x.2, x.3, x.4, all)))
      d.which;
})

-- a reset that was due may be sent
pub reset_due : (old mid : DriverView) (done : ℕ) → ResetDue old done → ReapsAll old mid → StopDue mid reset_dev Renew done
reset_due old mid done d r = along (λ (v : DriverView). StopDue v reset_dev Renew done) old mid r (record { active = d.active; none = d.none; which = inr (inr (d.action, refl, refl, d.begun, d.due, d.is)) })

even_reaped : (xs ys : List TxDriverView) → Pairwise IsReaped xs ys → AllByRecursion (λ (d : TxDriverView). d.notes_given ≡ d.notes_heard) xs → AllByRecursion (λ (d : TxDriverView). d.notes_given ≡ d.notes_heard) ys × AllByRecursion (λ (d : TxDriverView). d.heard ≤ d.reaped) ys
even_reaped [] [] r e = (tt, tt)
even_reaped [] (y ∷ ys) r e = absurd r
even_reaped (x ∷ xs) [] r e = absurd r
even_reaped (x ∷ xs) (y ∷ ys) r e = let more = even_reaped xs ys r.1 e.1 in
    ((ap (λ (d : TxDriverView). d.notes_given) r.0.is ∙ e.0 ∙ sym (ap (λ (d : TxDriverView). d.notes_heard) r.0.is), more.0), (r.0.heard, more.1))

none_first : {X : Type 0} (xs ys : List X) → xs ++ ys ≡ [] → (xs ≡ []) × (ys ≡ [])
none_first [] ys e = (refl, e)
none_first (x ∷ xs) ys e = absurd (cc e)

emptied : (n tx a q : ℕ) (ds ds' : List RxDriverView) (up : List Received) (m m' : Masks) → Polls n tx a q ds ds' up m m' → up ≡ [] → AllByRecursion (λ (d : RxDriverView). d.notes_given ≡ d.notes_heard) ds
    → AllByRecursion (λ (d : RxDriverView). d.notes_given ≡ d.notes_heard) ds' × AllByRecursion (λ (d : RxDriverView). length d.heard ≤ length d.received) ds'
emptied n tx a q [] [] up m m' p e h = (tt, tt)
emptied n tx a q [] (d' ∷ ds') up m m' p e h = absurd p
emptied n tx a q (d ∷ ds) [] up m m' p e h = absurd p
emptied n tx a q (d ∷ ds) (d' ∷ ds') up m m' p e h =
    let none = none_first p.0 p.1 (sym p.3 ∙ e) in
    let found : FindsNoFrame tx q d d' m p.2 = ⊎_elim
    (λ (x : (x : Received) × (p.0 ≡ x ∷ []) × HandsNext n a q d d' x m p.2). absurd (cc (sym none.0 ∙ x.1)))
    (λ (x : (p.0 ≡ []) × FindsNoFrame tx q d d' m p.2). x.1)
    p.4 in
    let more = emptied n tx a (suc q) ds ds' p.1 p.2 m' p.5 none.1 h.1 in
    ((ap (λ (x : RxDriverView). x.notes_given) found.none.is ∙ h.0 ∙ sym (ap (λ (x : RxDriverView). x.notes_heard) found.none.is), more.0), (found.none.heard, more.1))

no_items : {X : Type 0} (xs : List X) → 0 ≡ length xs → xs ≡ []
no_items [] e = refl
no_items (x ∷ xs) e = absurd (omega (arith, e))

-- nothing is left where all is reaped and a poll gave nothing
pub drained_by : (old mid new : DriverView) → AreEven old → ReapsAll old mid → PollsAll mid 0 new → IsDrained new
drained_by old mid new even r p = subst IsDrained (sym p.is) (
    let t = even_reaped old.tx mid.tx r.tx even.tx in
    let rx_even : AllByRecursion (λ (d : RxDriverView). d.notes_given ≡ d.notes_heard) mid.rx = subst (λ (v : DriverView). AllByRecursion (λ (d : RxDriverView). d.notes_given ≡ d.notes_heard) v.rx) (sym r.is) even.rx in
    let e = emptied mid.calls.interrupts mid.plan.setup.tx_queues mid.at.ended 0 mid.rx new.rx p.up p.mid new.masks p.polls (no_items p.up p.count) rx_even in record {
      tx_even = t.0;
      rx_even = e.0;
      reaped = t.1;
      received = e.1;
    })

-- an update is sent after reaping
pub updates_after : (number k : ℕ) (old mid new : DriverView) → k ≡ number → ReapsAll old mid → UpdatesBy k (mid.at.done + 1) mid new → UpdatesAfter number (old.at.done + 1) old new
updates_after number k old mid new is r u = record { mid = mid; reaps = r; updates = subst (λ (x : ℕ × ℕ). UpdatesBy x.0 (x.1 + 1) mid new) (λ i. (is i, ap (λ (v : DriverView). v.at.done) r.is i)) u }

-- where room was made first
module _ (old roomy mid new : DriverView) (up : ℕ) (same : roomy ≡ old) (r : ReapsAll roomy mid) (p : PollsAll mid up new) where
  reaped : ReapsAll old mid
  reaped = subst (λ (v : DriverView). ReapsAll v mid) same r

  -- a poll gave frames
  pub hands_some : up ≢ 0 → HandsUpSome old new
  hands_some some = record { mid = mid; reaps = reaped; up = up; some = omega (arith, some); polls = p }

  -- or none
  module _ (none : up ≡ 0) where
    empty : PollsAll mid 0 new
    empty = subst (λ (n : ℕ). PollsAll mid n new) none p

    pub drained_now : AreEven old → IsDrained new
    drained_now even = drained_by old mid new even reaped empty

    pub meets_empty : (t : Then) (met : DriverView) → MeetsAll t new met → MeetsEmpty t old met
    meets_empty t met m = record { mid = mid; reaps = reaped; emptied = new; polls = empty; meets = m }
