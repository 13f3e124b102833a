use Rattle.std.proofs.Common.{◌≡◌, take, ap, ◌∙◌, rules}
use Rattle.std.proofs.lemmas.List.{with_items_is, places}
use Rattle.vmx_io.proofs.Streams.{taken_more}
use Rattle.vmx_io.proofs.system.read_to_end.Goals as goal

pub loop-filled-preserved : goal.loop-filled-preserved
loop-filled-preserved g c =
    let same = with_items_is c.make_room.new.bytes c.read_at.new.bytes (search (rules, places)) in
    let filled = c.loop-filled.filled in
    let front : take filled c.read_at.new.bytes ≡ take filled c.loop-filled.bytes.items = c.in-Ok.ensures.front ∙ ap (take filled) c.deref_mut.ensures.value ∙ c.make_room.ensures.front in
    let more = taken_more _ _ _ c.loop-filled.bytes.items c.read_at.new.bytes filled c.in-Ok.count front c.loop-filled.invariant.2 c.in-Ok.ensures.read in
    (search (rules, places), search rules, rw same more)
