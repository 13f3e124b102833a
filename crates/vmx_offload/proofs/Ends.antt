-- How the parts of a run make its end.
use Rattle.std.proofs.Common.{◌≤◌, ◌≡◌, ◌⊎◌, ℕ, List, take, Option, Some, None, Result, Ok, Err, sym, ap, ◌∙◌, subst, arith, inl, inr}
use Rattle.std.specs.Prelude.{IfOk, codes}
use Rattle.vmx_io.specs.declared.outside.Save.TheVariants as save
use Rattle.vmx_io.specs.Outside.{with_file, with_text, ChangedOnly, Rose}
use Rattle.vmx_io.specs.Answers.{Writes, SaveCounts}
use Rattle.vmx_ends.specs.Transmit.{TxView}
use Rattle.vmx_offload.specs.declared.load.Stop.{Stop}
use Rattle.vmx_offload.specs.declared.load.Stop.TheVariants as stop
use Rattle.vmx_offload.specs.declared.status.OffloadStatus.{OffloadStatus}
use Rattle.vmx_offload.specs.declared.status.OffloadStatus.TheVariants as status
use Rattle.vmx_offload.specs.Words.{fill_of}
use Rattle.vmx_offload.specs.Filling.{Fills}
use Rattle.vmx_offload.specs.Lines.{usage_lines, write_line, memory_line, line_of}
use Rattle.vmx_offload.specs.Ends.{World, Says, SaysPart, SaysFound, SaysBoth, SaysNoMemory, Refuses, Finishes, Reads, StoppedBy, Ends, Loaded, LoadedCounts, status_of}
use Rattle.vmx_offload.proofs.Said.{part_of_write}

part_of_says : (line : List ℕ) (text after : Option (List ℕ)) (before now : ℕ) → Says line text after before now → SaysPart line text after
part_of_says line text after before now (inl whole) = part_of_write save.Done line text after whole.1
part_of_says line text after before now (inr part) = part.1

both_of_parts : (first second : List ℕ) (text mid after : Option (List ℕ)) → SaysPart first text mid → SaysPart second mid after → SaysBoth first second text after
both_of_parts first second text mid after p q = (p.0, q.0, q.1 ∙ ap (λ t. with_text t (take q.0 second)) p.1)

-- the line that was found memory for is the wanted one
found : {T E : Type 0} (view : T → List ℕ) (line : Result T E) (wanted : List ℕ) (text after : Option (List ℕ)) (before now : ℕ) → IfOk line (λ s. view s ≡ wanted) → SaysFound view line text after before now → Says wanted text after before now
found view (Ok s) wanted text after before now is said = subst (λ l. Says l text after before now) is said
found view (Err e) wanted text after before now is said = absurd said

pub save_failed : {T E : Type 0} (view : T → List ℕ) (line : Result T E) (end : OffloadStatus) (to file lines : List ℕ) (queue : TxView) (facts : Option TxView) (w v : World) → Refuses view line status.WriteFault end w.text v.text w.prints v.prints → IfOk line (λ s. view s ≡ write_line to) → facts ≡ None → Rose w.writes v.writes → ChangedOnly w.files v.files to
    → Finishes end to file lines queue facts w v
save_failed view line end to file lines queue facts w v (inl (e, said)) is none rose changed =
    subst (λ s. Finishes s to file lines queue facts w v) (sym e) (none, inl (rose, changed, found view line (write_line to) w.text v.text w.prints v.prints is said))
save_failed view line end to file lines queue facts w v (inr (e, part, le)) is none rose changed =
    subst (λ s. Finishes s to file lines queue facts w v) (sym e) (none, inl changed, inl part)

pub save_starved : (end : OffloadStatus) (to file lines : List ℕ) (queue : TxView) (facts : Option TxView) (w v : World) → end ≡ status.NoMemory → SaysNoMemory w.text v.text w.prints v.prints → facts ≡ None → ChangedOnly w.files v.files to → Finishes end to file lines queue facts w v
save_starved end to file lines queue facts w v e said none changed = subst (λ s. Finishes s to file lines queue facts w v) (sym e) (none, inl changed, inl said.0)

rose_on : (a b c : ℕ) → Rose a b → (c ≡ b) ⊎ Rose b c → Rose a c
rose_on a b c h (inl same) = omega arith
rose_on a b c h (inr more) = omega arith

rose_le : (a b c : ℕ) → Rose a b → b ≤ c → Rose a c
rose_le a b c h le = omega arith

prints_of_says : (line : List ℕ) (text after : Option (List ℕ)) (before now : ℕ) → Says line text after before now → (now ≡ before) ⊎ Rose before now
prints_of_says line text after before now (inl whole) = inl whole.0
prints_of_says line text after before now (inr part) = inr part.0

pub line_failed : {T E : Type 0} (view : T → List ℕ) (line : Result T E) (end : OffloadStatus) (to file lines : List ℕ) (queue : TxView) (facts : Option TxView) (w v : World) (mid : Option (List ℕ)) (prints : ℕ) → Writes save.Failed w.text mid lines → SaveCounts save.Failed w.prints prints
    → Refuses view line status.WriteFault end mid v.text prints v.prints → IfOk line (λ s. view s ≡ write_line (codes "console")) → facts ≡ None → v.writes ≡ w.writes → v.files ≡ with_file w.files to file → Finishes end to file lines queue facts w v
line_failed view line end to file lines queue facts w v mid prints wrote counted (inl (e, said)) is none writes saved =
    let told = found view line (write_line (codes "console")) mid v.text prints v.prints is said in
    subst (λ s. Finishes s to file lines queue facts w v) (sym e) (none, inr (writes, saved, rose_on w.prints prints v.prints counted.1 (prints_of_says _ mid v.text prints v.prints told), both_of_parts lines (write_line (codes "console")) w.text mid v.text wrote (part_of_says _ mid v.text prints v.prints told)))
line_failed view line end to file lines queue facts w v mid prints wrote counted (inr (e, part, le)) is none writes saved =
    subst (λ s. Finishes s to file lines queue facts w v) (sym e) (none, inr saved, inr (rose_le w.prints prints v.prints counted.1 le, both_of_parts lines memory_line w.text mid v.text wrote part))

pub line_starved : (end : OffloadStatus) (to file lines : List ℕ) (queue : TxView) (facts : Option TxView) (w v : World) (mid : Option (List ℕ)) (prints : ℕ) → Writes save.NoMemory w.text mid lines → end ≡ status.NoMemory → SaysNoMemory mid v.text prints v.prints → facts ≡ None → v.files ≡ with_file w.files to file → Finishes end to file lines queue facts w v
line_starved end to file lines queue facts w v mid prints wrote e said none saved =
    subst (λ s. Finishes s to file lines queue facts w v) (sym e) (none, inr saved, inl (subst (λ t. SaysPart memory_line t v.text) wrote said.0))

-- the words have no meaning
pub misuse : {T E : Type 0} (view : T → List ℕ) (line : Result T E) (end : OffloadStatus) (facts : Option TxView) (words : List (List ℕ)) (w v : World) → Refuses view line status.Usage end w.text v.text w.prints v.prints → IfOk line (λ s. view s ≡ usage_lines) → facts ≡ None → fill_of words ≡ None
    → v.files ≡ w.files → v.reads ≡ w.reads → v.writes ≡ w.writes → Ends end facts words w v
misuse view line end facts words w v (inl (e, said)) is none none_of files reads writes =
    subst (λ s. Ends s facts words w v) (sym e) (record { words_are = none_of; files = files; reads = reads; writes = writes; facts_are = none; said = found view line usage_lines w.text v.text w.prints v.prints is said })
misuse view line end facts words w v (inr (e, part, le)) is none none_of files reads writes =
    subst (λ s. Ends s facts words w v) (sym e) (inl (record { files = files; writes = writes; facts_are = none; said = part }))

by_stop : (why : Stop) (facts : Option TxView) (words : List (List ℕ)) (w v : World) → StoppedBy why facts words w v → Ends (status_of why) facts words w v
by_stop stop.Failed facts words w v h = h
by_stop stop.TooLong facts words w v h = h
by_stop (stop.Capture fault) facts words w v h = (fault, h)
by_stop stop.NoMemory facts words w v h = inl (record { files = h.files; writes = h.writes; facts_are = h.facts_are; said = part_of_says memory_line w.text v.text w.prints v.prints h.said })

-- the load stopped
pub stopped : {T E : Type 0} (view : T → List ℕ) (line : Result T E) (end : OffloadStatus) (facts : Option TxView) (words : List (List ℕ)) (why : Stop) (from to : List ℕ) (w v : World) → Refuses view line (status_of why) end w.text v.text w.prints v.prints → IfOk line (λ s. view s ≡ line_of why from)
    → facts ≡ None → fill_of words ≡ Some (from, to) → Loaded (Err why) from w.files → LoadedCounts (Err why) w.reads v.reads → v.files ≡ w.files → v.writes ≡ w.writes → Ends end facts words w v
stopped view line end facts words why from to w v (inl (e, said)) is none names cause counts files writes =
    subst (λ s. Ends s facts words w v) (sym e) (by_stop why facts words w v (record { from = from; to = to; words_are = names; cause = cause; counts = counts; files = files; writes = writes; facts_are = none; said = found view line (line_of why from) w.text v.text w.prints v.prints is said }))
stopped view line end facts words why from to w v (inr (e, part, le)) is none names cause counts files writes =
    subst (λ s. Ends s facts words w v) (sym e) (inl (record { files = files; writes = writes; facts_are = none; said = part }))

-- there was no memory for the queue or what is saved
pub starved : (end : OffloadStatus) (facts : Option TxView) (words : List (List ℕ)) (w v : World) → end ≡ status.NoMemory → facts ≡ None → SaysNoMemory w.text v.text w.prints v.prints → v.files ≡ w.files → v.writes ≡ w.writes → Ends end facts words w v
starved end facts words w v e none said files writes = subst (λ s. Ends s facts words w v) (sym e) (inl (record { files = files; writes = writes; facts_are = none; said = said.0 }))

by_end : (s : OffloadStatus) (facts : Option TxView) (words : List (List ℕ)) (w v : World) (r : Reads words w.files) (file line : List ℕ) (queue : TxView) → Fills r.capture file line queue → v.reads ≡ w.reads → Finishes s r.to file line queue facts w v → Ends s facts words w v
by_end status.Ok facts words w v r file line queue fills reads f = record { reads = r; file = file; line = line; queue = queue; fills = fills; read_faults = reads; ends = f }
by_end status.WriteFault facts words w v r file line queue fills reads f = record { reads = r; file = file; line = line; queue = queue; fills = fills; read_faults = reads; ends = f }
by_end status.NoMemory facts words w v r file line queue fills reads f = inr (record { reads = r; file = file; line = line; queue = queue; fills = fills; read_faults = reads; ends = f })
by_end status.Usage facts words w v r file line queue fills reads f = absurd f
by_end status.Capture facts words w v r file line queue fills reads f = absurd f
by_end status.TooLong facts words w v r file line queue fills reads f = absurd f
by_end status.ReadFault facts words w v r file line queue fills reads f = absurd f

pub same_world : (w u : World) → u.files ≡ w.files → u.text ≡ w.text → u.reads ≡ w.reads → u.writes ≡ w.writes → u.prints ≡ w.prints → u ≡ w
same_world w u files text reads writes prints i = record { files = files i; text = text i; reads = reads i; writes = writes i; prints = prints i }

-- the capture was filled; u is the outside after the load
pub finished : (s : OffloadStatus) (facts : Option TxView) (words : List (List ℕ)) (file line : List ℕ) (queue : TxView) (w u v : World) (r : Reads words w.files) → u ≡ w → v.reads ≡ u.reads → Fills r.capture file line queue → Finishes s r.to file line queue facts u v → Ends s facts words w v
finished s facts words file line queue w u v r same reads fills f =
    by_end s facts words w v r file line queue fills (reads ∙ ap (λ x. x.reads) same) (subst (λ x. Finishes s r.to file line queue facts x v) same f)
