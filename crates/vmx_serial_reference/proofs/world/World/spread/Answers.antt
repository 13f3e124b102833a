use Rattle.std.proofs.Common.{◌+◌, ◌≤◌, ◌^◌, take, length, length-take, sym, arith, subst, All, List, ℕ}
use Rattle.std.proofs.lemmas.List.Elements.{All-weaker}
use Rattle.vmx_model.specs.Serial.{World}
use Rattle.vmx_serial_reference.specs.Worlds.{world_of}
use Rattle.vmx_serial_seats.specs.Small.{IsSmall, MOST}
use Rattle.vmx_serial_seats.proofs.SmallLaws.{small_more}
use Rattle.vmx_serial_reference.proofs.WayLaws.{small_all}
use Rattle.vmx_serial_reference.proofs.world.World.spread.Goals as goal

pub reach-requires-clause-small : goal.reach-requires-clause-small
reach-requires-clause-small c = let a = c.args in let l = c.loop-to in let before : List ℕ = take l.to-index a.targets.now in
    let few : length before ≤ 16 = let t = length-take l.to-index a.targets.now in let f = c.requires.few in omega arith in
    subst (λ (w : World). All (IsSmall MOST) w.seats) (sym l.invariant) (All-weaker (IsSmall (2 ^ 31 + 2 ^ 9 + length before)) (IsSmall MOST) (small_more (2 ^ 31 + 2 ^ 9 + length before) MOST (omega arith)) _ (small_all a.plan.now (2 ^ 31 + 2 ^ 9) a.tag a.frame.now before (world_of a.self.now) c.requires.small))
