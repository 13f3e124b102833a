use Rattle.std.proofs.Common.{rules, sym, ap, ◌∙◌}
use Rattle.std.specs.Prelude.{not}
use Rattle.vmx_ring_laws.specs.Keys.{same_table}
use Rattle.vmx_link.proofs.Notes.{sender_hears, tells_out}
use Rattle.vmx_link.proofs.ends.LinkOut.hear.Goals as goal

pub join_seat-requires : goal.join_seat-requires
join_seat-requires c = let me = c.args.self.now in let note = c.args.note in let here = me.seated ∙ sym (ap (λ q. q.shared.table_id) c.deref.ensures) in (
  here,
  same_table _ _ c.requires.key ∙ here,
  note.bare,
  search rules,
  sender_hears _ _ _ _ me.rests.0 me.rests.1 (note.sided ∙ ap not c.requires.side) c.requires.side,
)

pub load-requires : goal.load-requires
load-requires c = let me = c.args.self.now in (search rules, search rules, tells_out _ _ _ (ap (λ m. m.0.sends) c.join_seat.ensures.2 ∙ me.rests.0))
