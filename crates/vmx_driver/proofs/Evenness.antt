-- Every call keeps that the driver's ends heard as many notes as they gave.
use Rattle.std.proofs.Common.{◌≡◌, ℕ, zero, suc, List, [], ◌∷◌, get_or, set, refl, ap, sym, ◌∙◌, subst, Option, ⊎_elim}
use Rattle.std.specs.Prelude.{is_some, Result, Ok, Err, IfOk, OnErr}
use Rattle.std.specs.List.{AllByRecursion}
use Rattle.vmx_io.specs.declared.handed.HandedView.{HandedView}
use Rattle.vmx_ends.specs.Transmit.{TxDriverView, TxDeviceView}
use Rattle.vmx_ends.specs.Receive.{RxDriverView, RxDeviceView}
use Rattle.vmx_regs.specs.declared.known.Masks.{Masks}
use Rattle.vmx_model.specs.declared.deeds.Deed.{Deed}
use Rattle.vmx_model.specs.declared.deeds.Deed.TheVariants as deed
use Rattle.vmx_model.specs.declared.journal.Received.{Received}
use Rattle.vmx_model.specs.Bags.{Pairwise}
use Rattle.vmx_model.specs.Plan.{quiesce_dev, reset_dev}
use Rattle.vmx_driver_steps.specs.declared.progress.Then.{Then}
use Rattle.vmx_driver_steps.specs.declared.progress.Then.TheVariants.{Rest, Renew, End}
use Rattle.vmx_driver_steps.specs.declared.progress.Stage.{Stage}
use Rattle.vmx_driver_steps.specs.declared.progress.Stage.TheVariants.{Fresh, Active, Stopping, Held, Quiet, Ended}
use Rattle.vmx_driver_steps.specs.declared.progress.Due.{Due}
use Rattle.vmx_driver_steps.specs.declared.progress.Due.TheVariants as due
use Rattle.vmx_driver_steps.specs.Progress.{due_of}
use Rattle.vmx_driver_steps.specs.Driver.{DriverView}
use Rattle.vmx_driver_steps.specs.Queues.{IsReaped, PassedAllTx, PassedAllRx}
use Rattle.vmx_driver_steps.specs.Driving.{ReapsAll, PostsNext, KeepsEnds, TakesEnds, StopsBy, UpdatesBy, PollsAll, Polls, HandsNext, FindsNoFrame, HandsUpSome, MeetsAll, MeetsEmpty}
use Rattle.vmx_driver.specs.declared.driver.Act.{Act}
use Rattle.vmx_driver.specs.declared.driver.Act.TheVariants.{Worked, Waiting, Done}
use Rattle.vmx_driver.specs.Stocked.{AreEven}
use Rattle.vmx_driver.specs.Acts.{Acts, ActsSo, ActsAtAnswer, ActsAtActivation, ActsAtMeeting, ActsAtFrame, ActsAtRest, ActsAtQuiesce, ActsAtReset, ActsAtUpdate, ActsAtDeed}

abbrev IsEvenTx : TxDriverView → Type 0
IsEvenTx d = d.notes_given ≡ d.notes_heard

abbrev IsEvenRx : RxDriverView → Type 0
IsEvenRx d = d.notes_given ≡ d.notes_heard

reaped_tx : (xs ys : List TxDriverView) → Pairwise IsReaped xs ys → AllByRecursion IsEvenTx xs → AllByRecursion IsEvenTx ys
reaped_tx [] [] r e = tt
reaped_tx [] (y ∷ ys) r e = absurd r
reaped_tx (x ∷ xs) [] r e = absurd r
reaped_tx (x ∷ xs) (y ∷ ys) r e = (ap (λ (d : TxDriverView). d.notes_given) r.0.is ∙ e.0 ∙ sym (ap (λ (d : TxDriverView). d.notes_heard) r.0.is), reaped_tx xs ys r.1 e.1)

reaps : (old mid : DriverView) → ReapsAll old mid → AreEven old → AreEven mid
reaps old mid r e = subst AreEven (sym r.is) (record { tx = reaped_tx old.tx mid.tx r.tx e.tx; rx = e.rx })

set_tx : (xs : List TxDriverView) (q : ℕ) (d d' : TxDriverView) → d ≡ get_or xs q d → d'.notes_given ≡ d.notes_given → d'.notes_heard ≡ d.notes_heard → AllByRecursion IsEvenTx xs → AllByRecursion IsEvenTx (set xs q d')
set_tx [] q d d' at a b e = tt
set_tx (x ∷ xs) zero d d' at a b e = (a ∙ ap (λ (y : TxDriverView). y.notes_given) at ∙ e.0 ∙ sym (ap (λ (y : TxDriverView). y.notes_heard) at) ∙ sym b, e.1)
set_tx (x ∷ xs) (suc q) d d' at a b e = (e.0, set_tx xs q d d' at a b e.1)

posts : (old new : DriverView) → PostsNext old new → AreEven old → AreEven new
posts old new p e = subst AreEven (sym p.is) (record { tx = set_tx old.tx _ p.end _ p.at refl refl e.tx; rx = e.rx })

pub passed_tx : (ds : List TxDriverView) (es : List TxDeviceView) (ds' : List TxDriverView) (es' : List TxDeviceView) → PassedAllTx ds es ds' es' → AllByRecursion IsEvenTx ds → AllByRecursion IsEvenTx ds'
passed_tx [] [] [] [] p e = tt
passed_tx (d ∷ ds) (x ∷ es) (d' ∷ ds') (x' ∷ es') p e = (ap (λ (y : TxDriverView). y.notes_given) p.0.driver ∙ ap suc e.0 ∙ sym (ap (λ (y : TxDriverView). y.notes_heard) p.0.driver), passed_tx ds es ds' es' p.1 e.1)
passed_tx [] [] [] (x' ∷ es') p e = absurd p
passed_tx [] [] (d' ∷ ds') es' p e = absurd p
passed_tx [] (x ∷ es) ds' es' p e = absurd p
passed_tx (d ∷ ds) [] ds' es' p e = absurd p
passed_tx (d ∷ ds) (x ∷ es) [] es' p e = absurd p
passed_tx (d ∷ ds) (x ∷ es) (d' ∷ ds') [] p e = absurd p

pub passed_rx : (ds : List RxDriverView) (es : List RxDeviceView) (ds' : List RxDriverView) (es' : List RxDeviceView) → PassedAllRx ds es ds' es' → AllByRecursion IsEvenRx ds → AllByRecursion IsEvenRx ds'
passed_rx [] [] [] [] p e = tt
passed_rx (d ∷ ds) (x ∷ es) (d' ∷ ds') (x' ∷ es') p e = (ap (λ (y : RxDriverView). y.notes_given) p.0.driver ∙ ap suc e.0 ∙ sym (ap (λ (y : RxDriverView). y.notes_heard) p.0.driver), passed_rx ds es ds' es' p.1 e.1)
passed_rx [] [] [] (x' ∷ es') p e = absurd p
passed_rx [] [] (d' ∷ ds') es' p e = absurd p
passed_rx [] (x ∷ es) ds' es' p e = absurd p
passed_rx (d ∷ ds) [] ds' es' p e = absurd p
passed_rx (d ∷ ds) (x ∷ es) [] es' p e = absurd p
passed_rx (d ∷ ds) (x ∷ es) (d' ∷ ds') [] p e = absurd p

kept : (old new : DriverView) → KeepsEnds old new → AreEven old → AreEven new
kept old new k e = record { tx = subst (AllByRecursion IsEvenTx) (sym k.tx.0) e.tx; rx = subst (AllByRecursion IsEvenRx) (sym k.rx.0) e.rx }

takes_ends : (g : Stage) (ends : Option HandedView) (old new : DriverView) → TakesEnds g ends old new → AreEven old → AreEven new
takes_ends (Stopping t) ends old new b e = record { tx = passed_tx old.tx b.txs new.tx new.tx_held b.tx e.tx; rx = passed_rx old.rx b.rxs new.rx new.rx_held b.rx e.rx }
takes_ends Fresh ends old new k e = kept old new k e
takes_ends Active ends old new k e = kept old new k e
takes_ends (Held t) ends old new k e = kept old new k e
takes_ends Quiet ends old new k e = kept old new k e
takes_ends Ended ends old new k e = kept old new k e

polled_rx : (n tx a q : ℕ) (ds ds' : List RxDriverView) (up : List Received) (m m' : Masks) → Polls n tx a q ds ds' up m m' → AllByRecursion IsEvenRx ds → AllByRecursion IsEvenRx ds'
polled_rx n tx a q [] [] up m m' p e = tt
polled_rx n tx a q [] (d' ∷ ds') up m m' p e = absurd p
polled_rx n tx a q (d ∷ ds) [] up m m' p e = absurd p
polled_rx n tx a q (d ∷ ds) (d' ∷ ds') up m m' p e = (
  ⊎_elim
      (λ (x : (x : Received) × (p.0 ≡ x ∷ []) × HandsNext n a q d d' x m p.2). ap (λ (y : RxDriverView). y.notes_given) x.2.up.is ∙ e.0 ∙ sym (ap (λ (y : RxDriverView). y.notes_heard) x.2.up.is))
      (λ (x : (p.0 ≡ []) × FindsNoFrame tx q d d' m p.2). ap (λ (y : RxDriverView). y.notes_given) x.1.none.is ∙ e.0 ∙ sym (ap (λ (y : RxDriverView). y.notes_heard) x.1.none.is))
      p.4,
  polled_rx n tx a (suc q) ds ds' p.1 p.2 m' p.5 e.1,
)

pub polls_even : (old : DriverView) (n : ℕ) (new : DriverView) → PollsAll old n new → AreEven old → AreEven new
polls_even old n new p e = subst AreEven (sym p.is) (record { tx = e.tx; rx = polled_rx _ _ _ 0 old.rx new.rx p.up p.mid new.masks p.polls e.rx })

meets : (t : Then) (old new : DriverView) → MeetsAll t old new → AreEven new
meets t old new m = subst AreEven (sym m.is) (record { tx = tt; rx = tt })

stops : (n : ℕ) (t : Then) (done : ℕ) (old new : DriverView) → StopsBy n t done old new → AreEven old → AreEven new
stops n t done old new s e = subst AreEven (sym s.is) (record { tx = e.tx; rx = e.rx })

updates : (n done : ℕ) (old new : DriverView) → UpdatesBy n done old new → AreEven old → AreEven new
updates n done old new s e = subst AreEven (sym s.is) (record { tx = e.tx; rx = e.rx })

pub at_answer : (a : Act) (old new : DriverView) → ActsAtAnswer old a new → AreEven old → AreEven new
at_answer Worked old new h e = takes_ends old.at.stage _ old new h.ends e
at_answer Waiting old new h e = subst AreEven (sym h.is) (record { tx = e.tx; rx = e.rx })
at_answer Done old new h e = absurd h

at_activation : (done : ℕ) (a : Act) (old new : DriverView) → ActsAtActivation done old a new → AreEven new
at_activation done Worked old new h = record { tx = h.tx.even; rx = h.rx.even }
at_activation done Waiting old new h = absurd h
at_activation done Done old new h = absurd h

pub at_meeting : (t : Then) (a : Act) (old new : DriverView) → ActsAtMeeting t old a new → AreEven old → AreEven new
at_meeting t Worked old new h e = ⊎_elim
    (λ (x : HandsUpSome old new). polls_even x.mid x.up new x.polls (reaps old x.mid x.reaps e))
    (λ (x : MeetsEmpty t old new). meets t x.emptied new x.meets)
    h
at_meeting t Waiting old new h e = absurd h
at_meeting t Done old new h e = absurd h

at_frame : (a : Act) (old new : DriverView) → ActsAtFrame old a new → AreEven old → AreEven new
at_frame Worked old new h e = posts h.mid new h.posts (reaps old h.mid h.reaps e)
at_frame Waiting old new h e = subst AreEven (sym h.full.is) (reaps old h.mid h.reaps e)
at_frame Done old new h e = absurd h

at_rest : (a : Act) (old new : DriverView) → ActsAtRest old a new → AreEven old → AreEven new
at_rest Done old new h e = reaps old new h.0 e
at_rest Waiting old new h e = reaps old new h.0 e
at_rest Worked old new h e = absurd h

pub at_quiesce : (t : Then) (done : ℕ) (a : Act) (old new : DriverView) → ActsAtQuiesce t done old a new → AreEven old → AreEven new
at_quiesce t done Worked old new h e = stops quiesce_dev t done h.mid new h.stops (reaps old h.mid h.reaps e)
at_quiesce t done Waiting old new h e = reaps old new h.0 e
at_quiesce t done Done old new h e = absurd h

at_reset : (done : ℕ) (a : Act) (old new : DriverView) → ActsAtReset done old a new → AreEven old → AreEven new
at_reset done Worked old new h e = stops reset_dev Renew done h.mid new h.stops (reaps old h.mid h.reaps e)
at_reset done Waiting old new h e = absurd h
at_reset done Done old new h e = absurd h

at_update : (d : Deed) (a : Act) (old new : DriverView) → ActsAtUpdate d old a new → AreEven old → AreEven new
at_update d Worked old new h e = updates _ _ h.mid new h.updates (reaps old h.mid h.reaps e)
at_update d Waiting old new h e = absurd h
at_update d Done old new h e = absurd h

at_deed : (d : Deed) (a : Act) (old new : DriverView) → ActsAtDeed d old a new → AreEven old → AreEven new
at_deed deed.Quiesce a old new h e = at_quiesce Rest _ a old new h e
at_deed deed.Activate a old new h e = at_activation _ a old new h
at_deed deed.Reset a old new h e = at_reset _ a old new h e
at_deed (deed.Mode m) a old new h e = at_update (deed.Mode m) a old new h e
at_deed (deed.Multicast t) a old new h e = at_update (deed.Multicast t) a old new h e
at_deed (deed.Vlans t) a old new h e = at_update (deed.Vlans t) a old new h e
at_deed (deed.Rss n t) a old new h e = at_update (deed.Rss n t) a old new h e

so : (d : Due) (a : Act) (old new : DriverView) → ActsSo d old a new → AreEven old → AreEven new
so due.Answer a old new h e = at_answer a old new h e
so due.Meet a old new h e = at_meeting h.then_ a old new h.does e
so due.Activate a old new h e = at_activation old.at.done a old new h
so (due.Action n) a old new h e = at_deed h.action.deed a old new h.does e
so (due.Frame i) a old new h e = at_frame a old new h e
so due.Close a old new h e = at_quiesce End old.at.done a old new h e
so due.Nothing a old new h e = at_rest a old new h e

pub acts_even : (old : DriverView) (a : Act) (new : DriverView) → Acts old a new → AreEven old → AreEven new
acts_even old a new h e = so (due_of old.plan old.at (is_some old.calls.asked)) a old new h e

-- where memory may have been wanted
pub even_or : {E : Type 0} (P : Act → Type 0) (r : Result Act E) (old new : DriverView) → OnErr r (new ≡ old) → IfOk r P → ((a : Act) → P a → AreEven new) → AreEven old → AreEven new
even_or P (Ok a) old new same does keeps e = keeps a does
even_or P (Err x) old new same does keeps e = subst AreEven (sym same) e
