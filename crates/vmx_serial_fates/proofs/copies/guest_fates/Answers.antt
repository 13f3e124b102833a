use Rattle.std.proofs.Common.{◌≤◌, ◌∙◌, ◌++◌, ap, arith, List, length}
use Rattle.std.specs.List.{flat_map}
use Rattle.std.proofs.lemmas.List.{take_all}
use Rattle.vmx_model.specs.Plan.{Captured, captured}
use Rattle.vmx_model.specs.Fates.{fates_of}
use Rattle.vmx_serial_reference.specs.Worlds.{world_of}
use Rattle.vmx_serial_fates.specs.Fates.{facts_of}
use Rattle.vmx_model.proofs.Sends.{captured_long}
use Rattle.vmx_serial_fates.proofs.FateLaws.{records_get, fates_next}
use Rattle.vmx_serial_fates.proofs.copies.guest_fates.Goals as goal

pub overflow_cast-number-end : goal.overflow_cast-number-end
overflow_cast-number-end c = let a = c.args in let r = records_get a.plan.now.guests a.port a.guest.now c.requires.guest in let few = a.plan.now.records in omega arith

pub loop-number-preserved : goal.loop-number-preserved
loop-number-preserved c = let a = c.args in let l = c.loop-number in let n = captured_long a.guest.now in
    fates_next (fates_of a.plan.now (facts_of (world_of a.world.now)) a.port a.guest.now) (captured a.guest.now) l.number a.fates.now l.fates c.frame_fates.new.fates (omega arith) l.invariant c.in_ok-frame_fates.ensures.fates

pub returns : goal.returns
returns c = let a = c.args in let l = c.loop-number in let n = captured_long a.guest.now in let le : length (captured a.guest.now) ≤ l.number = omega arith in
    record { fates = l.invariant ∙ ap (λ (cs : List Captured). a.fates.now ++ flat_map (fates_of a.plan.now (facts_of (world_of a.world.now)) a.port a.guest.now) cs) (take_all l.number (captured a.guest.now) le) }
