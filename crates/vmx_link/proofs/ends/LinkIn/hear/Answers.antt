use Rattle.std.proofs.Common.{rules, sym, ap, ◌∙◌}
use Rattle.std.specs.Prelude.{not}
use Rattle.vmx_ring_laws.specs.Keys.{same_table}
use Rattle.vmx_link.proofs.Notes.{receiver_hears, tells_in}
use Rattle.vmx_link.proofs.ends.LinkIn.hear.Goals as goal

pub join_seat-requires : goal.join_seat-requires
join_seat-requires c = let me = c.args.self.now in let note = c.args.note in let here = me.seated ∙ sym (ap (λ q. q.shared.table_id) c.deref.ensures) in (
  here,
  same_table _ _ c.requires.key ∙ here,
  note.bare,
  search rules,
  receiver_hears _ _ _ _ me.rests.1 me.rests.0 c.requires.side (note.sided ∙ ap not c.requires.side),
)

pub load-requires : goal.load-requires
load-requires c = let me = c.args.self.now in let now = c.join_seat.ensures.2 in (search rules, search rules, tells_in _ _ _ (ap (λ m. m.0.receives) now ∙ me.rests.1) (ap (λ m. m.0.busy) now ∙ me.rests.2))
