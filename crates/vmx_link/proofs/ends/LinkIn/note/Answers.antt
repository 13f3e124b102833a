use Rattle.std.proofs.Common.{rules}
use Rattle.vmx_link.proofs.Notes.{receiver_gives}
use Rattle.vmx_link.proofs.ends.LinkIn.note.Goals as goal

pub split_seat-requires : goal.split_seat-requires
split_seat-requires c = let me = c.args.self.now in (search rules, search rules, receiver_gives _ _ me.rests.1 me.rests.0 me.rests.2)
