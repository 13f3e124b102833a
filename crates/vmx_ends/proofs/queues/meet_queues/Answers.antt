use Rattle.std.proofs.Common.{◌≡◌, List, [], ◌∷◌, ◌++◌, map, subst, append_assoc, append-nil, refl}
use Rattle.std.proofs.lemmas.List.{map-append}
use Rattle.vmx_ends.specs.Transmit.{TxDriverView, TxDeviceView, TxView}
use Rattle.vmx_ends.specs.TransmitClauses.{facts_of, IsOrdered}
use Rattle.vmx_ends.specs.Queues.{MayMeet, AreFactsOf, Met}
use Rattle.vmx_ends.proofs.queues.meet_queues.Goals as goal

module _ {D E F : Type 0} (d : D → TxDriverView) (e : E → TxDeviceView) (f : F → TxView) where
  -- one more queue has met
  step : (before : List TxView) (ds ds' : List D) (es es' : List E) (fs fs' : List F) (x : D) (y : E) (z : F) (all : List TxDriverView) (others : List TxDeviceView) → ds ≡ x ∷ ds' → es ≡ y ∷ es' → fs' ≡ fs ++ z ∷ [] → f z ≡ facts_of (d x) (e y) → (d x).made ≡ (e y).made → IsOrdered (f z)
      → ((gs : List TxView) → AreFactsOf gs (map d ds) (map e es) → Met before (map f fs ++ gs) all others) → (gs : List TxView) → AreFactsOf gs (map d ds') (map e es') → Met before (map f fs' ++ gs) all others
  step before ds ds' es es' fs fs' x y z all others pd pe pf told made ordered k gs h =
      let more : AreFactsOf (f z ∷ gs) (map d ds) (map e es) = rw (pd, pe) (told, made, ordered, h) in
      let now = k (f z ∷ gs) more in
      rw (pf, map-append f fs (z ∷ []), append_assoc) now

  -- no driver's end, no device's end
  none : (ds : List D) (es : List E) → ds ≡ [] → MayMeet (map d ds) (map e es) → es ≡ []
  none ds [] pd m = refl
  none ds (y ∷ es) pd m = absurd (subst (λ l. MayMeet (map d l) (e y ∷ map e es)) pd m)

  done : (before : List TxView) (facts : List F) (ds : List D) (es : List E) (all : List TxDriverView) (others : List TxDeviceView) → ds ≡ [] → MayMeet (map d ds) (map e es) → ((gs : List TxView) → AreFactsOf gs (map d ds) (map e es) → Met before (map f facts ++ gs) all others) → Met before (map f facts) all others
  done before facts ds es all others pd m k =
      let empty : es ≡ [] = none ds es pd m in
      let last : AreFactsOf [] (map d ds) (map e es) = rw (pd, empty) tt in
      rw append-nil at (k [] last)

  begins : (before : List TxView) (all : List TxDriverView) (others : List TxDeviceView) (gs : List TxView) → AreFactsOf gs all others → Met before (before ++ gs) all others
  begins before all others gs h = record { more = gs; is = refl; facts = h }

pub returns-clause-none : goal.returns-clause-none
returns-clause-none g c = (c.in_default.ensures.first.1, none g.F.TxDriver.TxDriver.view g.F.TxDevice.TxDevice.view g.F.TxFacts.TxFacts.view c.loop-driver.drivers c.loop-driver.devices c.in_default.ensures.first.0 c.loop-driver.invariant.meet)

pub returns-clause-met : goal.returns-clause-met
returns-clause-met g c = done g.F.TxDriver.TxDriver.view g.F.TxDevice.TxDevice.view g.F.TxFacts.TxFacts.view (map g.F.TxFacts.TxFacts.view c.args.facts.now.0) c.loop-driver.facts.0 c.loop-driver.drivers c.loop-driver.devices (map g.F.TxDriver.TxDriver.view c.args.drivers.now) (map g.F.TxDevice.TxDevice.view c.args.devices.now)
    c.in_default.ensures.first.0 c.loop-driver.invariant.meet c.loop-driver.invariant.goes_on
