use Rattle.std.proofs.Common.{◌<◌, ◌^◌, length, arith, ap, sym, ◌∙◌, subst}
use Rattle.std.proofs.lemmas.Result.{err_from_is_err_and}
use Rattle.vmx_device_laws.specs.Views.{DeviceView, AreWhole}
use Rattle.vmx_device_laws.specs.Steps.{worked}
use Rattle.vmx_device.specs.Holds.{inner_view}
use Rattle.vmx_device.proofs.Rest.{at_rest}
use Rattle.vmx_device.proofs.Turned.{grown, grown_is, turned_once, turned_idle}
use Rattle.vmx_device_laws.proofs.Turns.{grows_quietly, served_most}
use Rattle.vmx_device.proofs.device.Device.turn.Goals as goal

-- memory came, and the journal is as it was
pub look_at_all-requires-clause-holds : goal.look_at_all-requires-clause-holds
look_at_all-requires-clause-holds g c κs within =
    grown c.self.inside.inner c.grow.new.journal c.grow.new.copies c.grow.ensures.entries c.grow.ensures.setups c.self.invariant

pub look_at_all-requires-clause-whole : goal.look_at_all-requires-clause-whole
look_at_all-requires-clause-whole g c κs within = subst AreWhole (sym c.self.view_is) c.requires.even

pub look_at_all-requires-clause-few : goal.look_at_all-requires-clause-few
look_at_all-requires-clause-few g c κs within =
    let few = subst (λ (d : DeviceView). (length d.entries < 2 ^ 55) × (length d.calls.served < 2 ^ 31)) (sym c.self.view_is) c.requires.few in
    (omega (arith, few.0, ap length c.grow.ensures.entries), few.1)

-- want of memory leaves all as it was
pub invariant_of-self : goal.invariant_of-self
invariant_of-self g c = grown c.self.inside.inner c.grow.new.journal c.grow.new.copies c.grow.ensures.entries c.grow.ensures.setups c.self.invariant

pub returns-in_err-grow-clause-err : goal.returns-in_err-grow-clause-err
returns-in_err-grow-clause-err g c =
    let p = err_from_is_err_and c.from_residual.result c.from_residual.ensures.1 in
    rw p.1 (grown_is c.self.inside.inner c.grow.new.journal c.grow.new.copies c.grow.ensures.entries c.grow.ensures.setups ∙ c.self.view_is)

pub returns-in_err-grow-clause-rest : goal.returns-in_err-grow-clause-rest
returns-in_err-grow-clause-rest g c r =
    let mid = grown c.self.inside.inner c.grow.new.journal c.grow.new.copies c.grow.ensures.entries c.grow.ensures.setups c.self.invariant in at_rest (inner_view (record c.self.inside.inner { journal = c.grow.new.journal; copies = c.grow.new.copies })) mid.keeps r

pub returns-clause-once : goal.returns-clause-once
returns-clause-once g c =
    turned_once (c.turn_of.ensures.turn) (grown_is c.self.inside.inner c.grow.new.journal c.grow.new.copies c.grow.ensures.entries c.grow.ensures.setups ∙ c.self.view_is) c.look_at_all.ensures.once

pub returns-clause-idle : goal.returns-clause-idle
returns-clause-idle g c idle =
    turned_idle c.turn_of.result idle (turned_once (c.turn_of.ensures.turn) (grown_is c.self.inside.inner c.grow.new.journal c.grow.new.copies c.grow.ensures.entries c.grow.ensures.setups ∙ c.self.view_is) c.look_at_all.ensures.once)

pub returns-clause-quiet : goal.returns-clause-quiet
returns-clause-quiet g c none =
    grows_quietly (worked c.turn_of.result) c.args.self.now _ (turned_once (c.turn_of.ensures.turn) (grown_is c.self.inside.inner c.grow.new.journal c.grow.new.copies c.grow.ensures.entries c.grow.ensures.setups ∙ c.self.view_is) c.look_at_all.ensures.once) none

pub returns-clause-most : goal.returns-clause-most
returns-clause-most g c =
    let once = turned_once (c.turn_of.ensures.turn) (grown_is c.self.inside.inner c.grow.new.journal c.grow.new.copies c.grow.ensures.entries c.grow.ensures.setups ∙ c.self.view_is) c.look_at_all.ensures.once in
    let same = ap length c.grow.ensures.entries ∙ ap (λ (d : DeviceView). length d.entries) c.self.view_is in
    (omega (arith, c.look_at_all.ensures.room.most, same), served_most (worked c.turn_of.result) c.args.self.now _ once)

pub returns-clause-rest : goal.returns-clause-rest
returns-clause-rest g c r = at_rest (inner_view c.look_at_all.new.inner) c.look_at_all.ensures.holds.keeps r
