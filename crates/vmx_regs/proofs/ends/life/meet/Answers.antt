use Rattle.std.proofs.Common.{rules, arith, ap, sym, ◌∙◌, subst}
use Rattle.vmx_ring_laws.specs.Keys.{key_of, same_table}
use Rattle.vmx_regs.specs.Whole.{known}
use Rattle.vmx_regs.specs.Turns.{AreTurns}
use Rattle.vmx_regs.specs.Slots.{driver_slots}
use Rattle.vmx_regs.specs.Plays.{closed, met}
use Rattle.vmx_regs.proofs.Seen.{parts_join, load_allows}
use Rattle.vmx_regs.proofs.Steps.{closes}
use Rattle.vmx_regs.proofs.MaskSeats.{masks_meet}
use Rattle.vmx_regs.proofs.Seats.{meets, tells_met}
use Rattle.vmx_regs.proofs.ends.life.meet.Goals as goal

pub load-requires : goal.load-requires
load-requires g c = let me = c.args.driver in
    (search rules, search rules, load_allows g.E.Handed.handed closed _ _ _ _ _ (omega arith) (closes _ _ _ _ me.role.0 me.role.1 me.role.2 c.requires.none (me.carries ∙ ap driver_slots c.requires.none)))

pub join_seat-requires : goal.join_seat-requires
join_seat-requires g c = let me = c.args.driver in let other = c.args.device in let shut = c.load.ensures.2 in let same = same_table me.seat.table_id other.seat.table_id c.requires.pair in (
  search (rules, same),
  search (rules, same),
  ap (λ m. m.1) shut.1,
  search (rules, same),
  parts_join g.E.Handed.handed _ _ _ _ _ _ _
      (meets _ _ _ _ _ other.role.1 (ap (λ m. m.0.drives) shut.1 ∙ me.role.0) (ap (λ m. m.0.tells_commands) shut.1 ∙ me.role.3) (ap (λ m. m.0.tells_served) shut.1 ∙ me.role.4)) (masks_meet _ _ _ _ _ other.mask_role.1 (ap (λ m. m.drives) shut.0 ∙ me.mask_role.0)),
)

pub load-requires-2 : goal.load-requires-2
load-requires-2 g c = let me = c.args.driver in let other = c.args.device in let shut = c.load.ensures.2 in let now = c.join_seat.ensures.2 in let same = same_table me.seat.table_id other.seat.table_id c.requires.pair in (
  search (rules, same),
  search (rules, same),
  load_allows g.E.Handed.handed met _ _ _ _ _ (omega arith)
      (tells_met _ _ _ _ (ap (λ m. m.0.calls.drives) now) (ap (λ m. m.0.calls.serves) now ∙ other.role.1) (ap (λ m. m.0.calls.begun) now ∙ ap (λ m. m.0.begun) shut.1)),
)

pub returns : goal.returns
returns g c =
    let shut = c.load.ensures.2 in let now = c.join_seat.ensures.2 in let told = c.load-2.ensures.2.1 in
    let end = ap (λ vs. (known vs).turns) c.into_badge.ensures.2 ∙ ap (λ m. m.0.turns) told.0 in let mine = ap (λ m. m.0.calls.turns) now ∙ ap (λ m. m.0.turns) shut.1 in record {
      key = ap key_of (c.into_badge.ensures.0 ∙ c.load-2.ensures.0 ∙ c.join_seat.ensures.0) ∙ sym c.requires.pair;
      turns = end ∙ mine;
      served = end ∙ told.1 ∙ ap (λ m. m.0.calls.served) now;
      lawful = subst AreTurns (sym end) told.3;
      idle = sym (ap (λ m. m.0.calls.serving) now) ∙ told.2;
      driver_notes = let heard = ap (λ m. m.0.calls.driver_notes_heard) now ∙ ap (λ m. m.0.driver_notes_heard) shut.1 in let given = ap (λ m. m.0.calls.device_notes_given) now in let few = told.4 in omega arith;
      device_notes = let given = ap (λ m. m.0.calls.driver_notes_given) now ∙ ap (λ m. m.0.driver_notes_given) shut.1 in let heard = ap (λ m. m.0.calls.device_notes_heard) now in let few = told.5 in omega arith;
    }
