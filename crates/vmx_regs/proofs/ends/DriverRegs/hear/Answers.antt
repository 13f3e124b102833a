use Rattle.std.proofs.Common.{rules, arith, ap, sym, ◌∙◌}
use Rattle.vmx_ring_laws.specs.Keys.{same_table}
use Rattle.vmx_regs.specs.Whole.{known}
use Rattle.vmx_regs.specs.Plays.{driver_knows}
use Rattle.vmx_regs.proofs.Seen.{parts_join, load_allows}
use Rattle.vmx_regs.proofs.MaskSeats.{device_note_heard}
use Rattle.vmx_regs.proofs.Notes.{hears_device_keeps, tells_driver}
use Rattle.vmx_regs.proofs.ends.DriverRegs.hear.Goals as goal

pub join_seat-requires : goal.join_seat-requires
join_seat-requires g c = let me = c.args.self.now in let is = c.into_seat-seat.ensures.2 in let same = same_table c.args.note.badge.table_id me.seat.table_id c.requires.pair in (
  search rules,
  search (rules, same),
  search rules,
  search rules,
  parts_join g.E.Handed.handed _ _ _ _ _ _ _ (hears_device_keeps _ _ _ _ _ me.role.0 me.role.1 (sym (ap (λ vs. (known vs).tells_served) is) ∙ c.requires.device.0) (sym (ap (λ vs. (known vs).tells_commands) is) ∙ c.requires.device.1)) (device_note_heard _ _ _ _ _),
)

pub load-requires : goal.load-requires
load-requires g c = let me = c.args.self.now in let now = c.join_seat.ensures.2 in
    (search rules, search rules, load_allows g.E.Handed.handed driver_knows _ _ _ _ _ (omega arith) (tells_driver _ _ _ _ (ap (λ m. m.0.calls.drives) now ∙ me.role.0)))
