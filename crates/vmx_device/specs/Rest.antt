-- A device at rest: no activation was answered 0 so far, or a quiesce or a reset was answered 0 since the last one.
use Rattle.std.specs.Prelude.{Bool, true, false, List, [], ◌∷◌}
use Rattle.vmx_device_state.specs.Deals.{Deal, Begins, Stops, Passes, deal_of}
use Rattle.vmx_model.specs.declared.journal.Entry.{Entry}
use Rattle.vmx_model.specs.declared.journal.Entry.TheVariants as entry

-- an activation that was answered 0 ends the rest, a quiesce or a reset that was answered 0 begins it, and other answers leave it
abbrev pub rests_by : Deal → Bool → Bool
rests_by Begins before = false
rests_by Stops before = true
rests_by Passes before = before

abbrev pub rests_from : Bool → List Entry → Bool
rests_from now [] = now
rests_from now (entry.Setting number answer setup ∷ es) = rests_from (rests_by (deal_of number answer) now) es
rests_from now (entry.Out tag target w ∷ es) = rests_from now es
rests_from now (entry.Lost tag ∷ es) = rests_from now es
rests_from now (entry.In from place f ∷ es) = rests_from now es

abbrev pub is_at_rest : List Entry → Bool
is_at_rest es = rests_from true es
