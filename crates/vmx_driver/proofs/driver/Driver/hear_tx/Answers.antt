use Rattle.std.proofs.Common.{◌<◌, length, refl, ap, subst, sym, arith}
use Rattle.std.proofs.lemmas.List.{length-map}
use Rattle.vmx_driver.specs.Stocked.{Stocked}
use Rattle.vmx_driver.specs.Noticing.{heard_tx, tx_at, hears_tx, fits_tx}
use Rattle.vmx_driver.proofs.driver.Driver.hear_tx.Goals as goal

pub hear-requires-clause-key : goal.hear-requires-clause-key
hear-requires-clause-key g c = fits_tx g.F.TxDriver.TxDriver.view _ c.self.inside.tx c.args.queue c.at_mut.result.now c.at_mut.result.now refl (let below = subst (λ (x : Stocked). c.args.queue < length x.driver.tx) (sym c.self.view_is) c.requires.queue in let l = length-map c.self.inside.tx g.F.TxDriver.TxDriver.view in omega (arith, below, l)) c.at_mut.ensures.value _ (g.F.TxNote.TxNote.view c.args.note) (ap (λ (x : Stocked). x.driver) c.self.view_is) c.requires.fits

pub invariant_of-self : goal.invariant_of-self
invariant_of-self g c = tx_at g.F.TxDriver.TxDriver.view _ c.self.inside.tx c.args.queue c.at_mut.result.now c.hear.new.self refl (let below = subst (λ (x : Stocked). c.args.queue < length x.driver.tx) (sym c.self.view_is) c.requires.queue in let l = length-map c.self.inside.tx g.F.TxDriver.TxDriver.view in omega (arith, below, l)) c.at_mut.ensures.value _ _ _ _ _ c.self.invariant (heard_tx _ _ (g.F.TxNote.TxNote.view c.args.note) c.hear.ensures.hears)

pub returns-clause-hears : goal.returns-clause-hears
returns-clause-hears g c = hears_tx g.F.TxDriver.TxDriver.view _ c.self.inside.tx c.args.queue c.at_mut.result.now c.hear.new.self refl (let below = subst (λ (x : Stocked). c.args.queue < length x.driver.tx) (sym c.self.view_is) c.requires.queue in let l = length-map c.self.inside.tx g.F.TxDriver.TxDriver.view in omega (arith, below, l)) c.at_mut.ensures.value _ (g.F.TxNote.TxNote.view c.args.note) (ap (λ (x : Stocked). x.driver) c.self.view_is) c.hear.ensures.hears
