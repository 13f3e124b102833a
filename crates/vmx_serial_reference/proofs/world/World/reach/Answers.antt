use Rattle.std.proofs.Common.{◌≡◌, ◌∙◌, map, ap, sym, arith, subst, All, List}
use Rattle.std.proofs.lemmas.Result.{on_ok_weaker}
use Rattle.vmx_model.specs.declared.journal.Entry.TheVariants as entry
use Rattle.vmx_model.specs.declared.journal.Way.TheVariants as way
use Rattle.vmx_model.specs.Serial.{noted, pushed_on}
use Rattle.vmx_serial_reference.specs.declared.world.Wire.{Wire}
use Rattle.vmx_serial_seats.specs.Seats.{seat_of}
use Rattle.vmx_serial_reference.specs.Worlds.{wire_of, world_of}
use Rattle.vmx_serial_seats.specs.Small.{IsSmall, MOST}
use Rattle.vmx_serial_seats.proofs.SmallLaws.{small_noted}
use Rattle.vmx_serial_reference.proofs.WayLaws.{at_small}
use Rattle.vmx_serial_reference.proofs.Turns.{reach_whole, mac_there}
use Rattle.vmx_serial_reference.proofs.world.World.reach.Goals as goal

pub arrive_at-requires-clause-small : goal.arrive_at-requires-clause-small
arrive_at-requires-clause-small c = let a = c.args in let e = entry.Out a.tag a.to (way.Link c.pushed_on-place.result) in
    subst (All (IsSmall MOST)) (sym c.in_ok-note_at.ensures.noted) (at_small MOST MOST a.tag.guest (noted e) (omega arith) (small_noted MOST e) (map seat_of a.self.now.seats) c.requires.small)

pub returns : goal.returns
returns c = let a = c.args in
    let place : c.pushed_on-place.result ≡ pushed_on (map wire_of a.self.now.wires) a.tag.guest a.to = c.pushed_on-place.ensures.pushed ∙ ap (λ (ws : List Wire). pushed_on (map wire_of ws) a.tag.guest a.to) c.as_slice.ensures.items in
    record {
      reaches = on_ok_weaker c.carry.result (λ wires. reach_whole a.plan.now a.tag a.frame.now (world_of a.self.now) a.to c.pushed_on-place.result c.at.result.now.mac (map seat_of c.note_at.new.seats) (map seat_of c.arrive_at.new.seats) (map wire_of c.carry.new.wires) place
          (mac_there a.plan.now a.to c.at.result.now c.requires.port c.at.ensures.value) c.in_ok-note_at.ensures.noted c.in_ok-arrive_at.ensures.arrived wires) c.carry.ensures.carried;
    }
