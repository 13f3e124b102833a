use Rattle.std.proofs.Common.{rules}
use Rattle.vmx_link.proofs.Notes.{sender_gives}
use Rattle.vmx_link.proofs.ends.LinkOut.note.Goals as goal

pub split_seat-requires : goal.split_seat-requires
split_seat-requires c = let me = c.args.self.now in (search rules, search rules, sender_gives _ _ me.rests.0 me.rests.1)
