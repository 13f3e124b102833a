use Rattle.std.proofs.Common.{◌<◌, length, refl, ap, subst, sym, arith}
use Rattle.std.proofs.lemmas.List.{length-map}
use Rattle.vmx_driver.specs.Stocked.{Stocked}
use Rattle.vmx_driver.specs.Noticing.{noted_rx, rx_at, notes_rx}
use Rattle.vmx_driver.proofs.driver.Driver.note_rx.Goals as goal

pub invariant_of-self : goal.invariant_of-self
invariant_of-self g c = rx_at g.F.RxDriver.RxDriver.view _ c.self.inside.rx c.args.queue c.at_mut.result.now c.note.new.self refl (let below = subst (λ (x : Stocked). c.args.queue < length x.driver.rx) (sym c.self.view_is) c.requires.queue in let l = length-map c.self.inside.rx g.F.RxDriver.RxDriver.view in omega (arith, below, l)) c.at_mut.ensures.value _ _ _ _ _ c.self.invariant (noted_rx _ _ c.note.ensures.same)

pub returns-clause-notes : goal.returns-clause-notes
returns-clause-notes g c = notes_rx g.F.RxDriver.RxDriver.view _ c.self.inside.rx c.args.queue c.at_mut.result.now c.note.new.self refl (let below = subst (λ (x : Stocked). c.args.queue < length x.driver.rx) (sym c.self.view_is) c.requires.queue in let l = length-map c.self.inside.rx g.F.RxDriver.RxDriver.view in omega (arith, below, l)) c.at_mut.ensures.value _ _ (ap (λ (x : Stocked). x.driver) c.self.view_is) c.note.ensures.tells c.note.ensures.same
