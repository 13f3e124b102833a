use Rattle.std.proofs.Common.{◌≡◌, List, [], ◌∷◌, ◌++◌, map, subst, append_assoc, append-nil, refl}
use Rattle.std.proofs.lemmas.List.{map-append}
use Rattle.vmx_ends.specs.Receive.{RxDriverView, RxDeviceView, RxView}
use Rattle.vmx_ends.specs.ReceiveClauses.{facts_of, IsOrdered}
use Rattle.vmx_ends.specs.Queues.{MayMeetRx, AreRxFactsOf, MetRx}
use Rattle.vmx_ends.proofs.rx_queues.meet_rx_queues.Goals as goal

module _ {D E F : Type 0} (d : D → RxDriverView) (e : E → RxDeviceView) (f : F → RxView) where
  -- one more queue has met
  step : (before : List RxView) (ds ds' : List D) (es es' : List E) (fs fs' : List F) (x : D) (y : E) (z : F) (all : List RxDriverView) (others : List RxDeviceView) → ds ≡ x ∷ ds' → es ≡ y ∷ es' → fs' ≡ fs ++ z ∷ [] → f z ≡ facts_of (d x) (e y) → (d x).made ≡ (e y).made → IsOrdered (f z)
      → ((gs : List RxView) → AreRxFactsOf gs (map d ds) (map e es) → MetRx before (map f fs ++ gs) all others) → (gs : List RxView) → AreRxFactsOf gs (map d ds') (map e es') → MetRx before (map f fs' ++ gs) all others
  step before ds ds' es es' fs fs' x y z all others pd pe pf told made ordered k gs h =
      let more : AreRxFactsOf (f z ∷ gs) (map d ds) (map e es) = rw (pd, pe) (told, made, ordered, h) in
      let now = k (f z ∷ gs) more in
      rw (pf, map-append f fs (z ∷ []), append_assoc) now

  -- no driver's end, no device's end
  none : (ds : List D) (es : List E) → ds ≡ [] → MayMeetRx (map d ds) (map e es) → es ≡ []
  none ds [] pd m = refl
  none ds (y ∷ es) pd m = absurd (subst (λ l. MayMeetRx (map d l) (e y ∷ map e es)) pd m)

  done : (before : List RxView) (facts : List F) (ds : List D) (es : List E) (all : List RxDriverView) (others : List RxDeviceView) → ds ≡ [] → MayMeetRx (map d ds) (map e es) → ((gs : List RxView) → AreRxFactsOf gs (map d ds) (map e es) → MetRx before (map f facts ++ gs) all others) → MetRx before (map f facts) all others
  done before facts ds es all others pd m k =
      let empty : es ≡ [] = none ds es pd m in
      let last : AreRxFactsOf [] (map d ds) (map e es) = rw (pd, empty) tt in
      rw append-nil at (k [] last)

  begins : (before : List RxView) (all : List RxDriverView) (others : List RxDeviceView) (gs : List RxView) → AreRxFactsOf gs all others → MetRx before (before ++ gs) all others
  begins before all others gs h = record { more = gs; is = refl; facts = h }

pub returns-clause-none : goal.returns-clause-none
returns-clause-none g c = (c.in_default.ensures.first.1, none g.F.RxDriver.RxDriver.view g.F.RxDevice.RxDevice.view g.F.RxFacts.RxFacts.view c.loop-driver.drivers c.loop-driver.devices c.in_default.ensures.first.0 c.loop-driver.invariant.meet)

pub returns-clause-met : goal.returns-clause-met
returns-clause-met g c = done g.F.RxDriver.RxDriver.view g.F.RxDevice.RxDevice.view g.F.RxFacts.RxFacts.view (map g.F.RxFacts.RxFacts.view c.args.facts.now.0) c.loop-driver.facts.0 c.loop-driver.drivers c.loop-driver.devices (map g.F.RxDriver.RxDriver.view c.args.drivers.now) (map g.F.RxDevice.RxDevice.view c.args.devices.now)
    c.in_default.ensures.first.0 c.loop-driver.invariant.meet c.loop-driver.invariant.goes_on
