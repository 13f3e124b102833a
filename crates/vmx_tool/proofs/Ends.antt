-- How the parts of a run make its end.
use Rattle.std.proofs.Common.{◌≤◌, ◌≡◌, ◌⊎◌, ℕ, List, take, Option, Some, None, Result, Ok, Err, sym, ap, ◌∙◌, subst, arith, inl, inr}
use Rattle.std.specs.Prelude.{IfOk, codes}
use Rattle.vmx_io.specs.declared.outside.Save.TheVariants as save
use Rattle.vmx_io.specs.Outside.{with_file, with_text, ChangedOnly, Rose}
use Rattle.vmx_io.specs.Answers.{Writes, SaveCounts}
use Rattle.vmx_pcap.specs.Written.{capture_bytes}
use Rattle.vmx_tool.specs.declared.load.Stop.{Stop}
use Rattle.vmx_tool.specs.declared.load.Stop.TheVariants as stop
use Rattle.vmx_tool.specs.declared.status.Outcome.{Outcome}
use Rattle.vmx_tool.specs.declared.status.Status.{Status}
use Rattle.vmx_tool.specs.declared.status.Status.TheVariants as status
use Rattle.vmx_pair.specs.declared.«record».Record.{Record}
use Rattle.vmx_tool.specs.Words.{pair_of}
use Rattle.vmx_pair_plan.specs.Fates.{sent_records}
use Rattle.vmx_tool.specs.Lines.{usage_lines, write_line, memory_line, line_of}
use Rattle.vmx_pair_plan.specs.Summary.{summary}
use Rattle.vmx_tool.specs.Ends.{World, Says, SaysPart, SaysFound, SaysBoth, SaysNoMemory, Refuses, Finishes, Replays, StoppedBy, Ends, Loaded, LoadedCounts, status_of}
use Rattle.vmx_tool.proofs.Said.{nothing_more, part_of_write}

part_of_says : (line : List ℕ) (text after : Option (List ℕ)) (before now : ℕ) → Says line text after before now → SaysPart line text after
part_of_says line text after before now (inl whole) = part_of_write save.Done line text after whole.1
part_of_says line text after before now (inr part) = part.1

both_of_parts : (first second : List ℕ) (text mid after : Option (List ℕ)) → SaysPart first text mid → SaysPart second mid after → SaysBoth first second text after
both_of_parts first second text mid after p q = (p.0, q.0, q.1 ∙ ap (λ t. with_text t (take q.0 second)) p.1)

both_of_second : (first second : List ℕ) (text after : Option (List ℕ)) → SaysPart second text after → SaysBoth first second text after
both_of_second first second text after q = both_of_parts first second text text after (0, nothing_more text) q

-- the line that was found memory for is the wanted one
found : {T E : Type 0} (view : T → List ℕ) (line : Result T E) (wanted : List ℕ) (text after : Option (List ℕ)) (before now : ℕ) → IfOk line (λ s. view s ≡ wanted) → SaysFound view line text after before now → Says wanted text after before now
found view (Ok s) wanted text after before now is said = subst (λ l. Says l text after before now) is said
found view (Err e) wanted text after before now is said = absurd said

pub save_failed : {T E : Type 0} (view : T → List ℕ) (line : Result T E) (o : Outcome) (to file lines : List ℕ) (w v : World) → Refuses view line status.WriteFault o w.text v.text w.prints v.prints → IfOk line (λ s. view s ≡ write_line to) → Rose w.writes v.writes → ChangedOnly w.files v.files to
    → Finishes o.status to file lines w v
save_failed view line o to file lines w v (inl (e, said)) is rose changed = subst (λ s. Finishes s to file lines w v) (sym e) (inl (rose, changed, found view line (write_line to) w.text v.text w.prints v.prints is said))
save_failed view line o to file lines w v (inr (e, part, le)) is rose changed = subst (λ s. Finishes s to file lines w v) (sym e) (inl changed, inl part)

pub save_starved : (o : Outcome) (to file lines : List ℕ) (w v : World) → o.status ≡ status.NoMemory → SaysNoMemory w.text v.text w.prints v.prints → ChangedOnly w.files v.files to → Finishes o.status to file lines w v
save_starved o to file lines w v e said changed = subst (λ s. Finishes s to file lines w v) (sym e) (inl changed, inl said.0)

rose_on : (a b c : ℕ) → Rose a b → (c ≡ b) ⊎ Rose b c → Rose a c
rose_on a b c h (inl same) = omega arith
rose_on a b c h (inr more) = omega arith

rose_le : (a b c : ℕ) → Rose a b → b ≤ c → Rose a c
rose_le a b c h le = omega arith

prints_of_says : (line : List ℕ) (text after : Option (List ℕ)) (before now : ℕ) → Says line text after before now → (now ≡ before) ⊎ Rose before now
prints_of_says line text after before now (inl whole) = inl whole.0
prints_of_says line text after before now (inr part) = inr part.0

pub summary_failed : {T E : Type 0} (view : T → List ℕ) (line : Result T E) (o : Outcome) (to file lines : List ℕ) (w v : World) (mid : Option (List ℕ)) (prints : ℕ) → Writes save.Failed w.text mid lines → SaveCounts save.Failed w.prints prints
    → Refuses view line status.WriteFault o mid v.text prints v.prints → IfOk line (λ s. view s ≡ write_line (codes "console")) → v.writes ≡ w.writes → v.files ≡ with_file w.files to file → Finishes o.status to file lines w v
summary_failed view line o to file lines w v mid prints wrote counted (inl (e, said)) is writes saved =
    let told = found view line (write_line (codes "console")) mid v.text prints v.prints is said in
    subst (λ s. Finishes s to file lines w v) (sym e) (inr (writes, saved, rose_on w.prints prints v.prints counted.1 (prints_of_says _ mid v.text prints v.prints told), both_of_parts lines (write_line (codes "console")) w.text mid v.text wrote (part_of_says _ mid v.text prints v.prints told)))
summary_failed view line o to file lines w v mid prints wrote counted (inr (e, part, le)) is writes saved =
    subst (λ s. Finishes s to file lines w v) (sym e) (inr saved, inr (rose_le w.prints prints v.prints counted.1 le, both_of_parts lines memory_line w.text mid v.text wrote part))

pub summary_starved : (o : Outcome) (to file lines : List ℕ) (w v : World) (mid : Option (List ℕ)) (prints : ℕ) → Writes save.NoMemory w.text mid lines → o.status ≡ status.NoMemory → SaysNoMemory mid v.text prints v.prints → v.files ≡ with_file w.files to file → Finishes o.status to file lines w v
summary_starved o to file lines w v mid prints wrote e said saved =
    subst (λ s. Finishes s to file lines w v) (sym e) (inr saved, inl (subst (λ t. SaysPart memory_line t v.text) wrote said.0))

-- the words have no meaning
pub misuse : {T E : Type 0} (view : T → List ℕ) (line : Result T E) (o : Outcome) (words : List (List ℕ)) (w v : World) → Refuses view line status.Usage o w.text v.text w.prints v.prints → IfOk line (λ s. view s ≡ usage_lines) → o.account ≡ None → pair_of words ≡ None
    → v.files ≡ w.files → v.reads ≡ w.reads → v.writes ≡ w.writes → Ends o.status o.account words w v
misuse view line o words w v (inl (e, said)) is none none_of files reads writes =
    subst (λ s. Ends s o.account words w v) (sym e) (record { words_are = none_of; files = files; reads = reads; writes = writes; account_is = none; said = found view line usage_lines w.text v.text w.prints v.prints is said })
misuse view line o words w v (inr (e, part, le)) is none none_of files reads writes =
    subst (λ s. Ends s o.account words w v) (sym e) (inl (record { files = files; writes = writes; account_is = none; said = part }))

by_stop : (why : Stop) (account : Option Record) (words : List (List ℕ)) (w v : World) → StoppedBy why account words w v → Ends (status_of why) account words w v
by_stop stop.Failed account words w v h = h
by_stop stop.TooLong account words w v h = h
by_stop (stop.Capture fault) account words w v h = (fault, h)
by_stop stop.NoMemory account words w v h = inl (record { files = h.files; writes = h.writes; account_is = h.account_is; said = part_of_says memory_line w.text v.text w.prints v.prints h.said })

-- the load stopped
pub stopped : {T E : Type 0} (view : T → List ℕ) (line : Result T E) (o : Outcome) (words : List (List ℕ)) (why : Stop) (from to : List ℕ) (w v : World) → Refuses view line (status_of why) o w.text v.text w.prints v.prints → IfOk line (λ s. view s ≡ line_of why from)
    → o.account ≡ None → pair_of words ≡ Some (from, to) → Loaded (Err why) from w.files → LoadedCounts (Err why) w.reads v.reads → v.files ≡ w.files → v.writes ≡ w.writes → Ends o.status o.account words w v
stopped view line o words why from to w v (inl (e, said)) is none names cause counts files writes =
    subst (λ s. Ends s o.account words w v) (sym e) (by_stop why o.account words w v (record { from = from; to = to; words_are = names; cause = cause; counts = counts; files = files; writes = writes; account_is = none; said = found view line (line_of why from) w.text v.text w.prints v.prints is said }))
stopped view line o words why from to w v (inr (e, part, le)) is none names cause counts files writes =
    subst (λ s. Ends s o.account words w v) (sym e) (inl (record { files = files; writes = writes; account_is = none; said = part }))

-- there was no memory for the replay
pub starved : (o : Outcome) (words : List (List ℕ)) (w v : World) → o.status ≡ status.NoMemory → o.account ≡ None → SaysNoMemory w.text v.text w.prints v.prints → v.files ≡ w.files → v.writes ≡ w.writes → Ends o.status o.account words w v
starved o words w v e none said files writes = subst (λ s. Ends s o.account words w v) (sym e) (inl (record { files = files; writes = writes; account_is = none; said = said.0 }))

by_end : (s : Status) (account : Option Record) (words : List (List ℕ)) (w v : World) (r : Replays words w.files account) → v.reads ≡ w.reads → Finishes s r.to (capture_bytes (sent_records r.planned.a)) (summary r.planned.a) w v → Ends s account words w v
by_end status.Ok account words w v r reads f = record { replays = r; reads = reads; ends = f }
by_end status.WriteFault account words w v r reads f = record { replays = r; reads = reads; ends = f }
by_end status.NoMemory account words w v r reads f = inr (record { replays = r; reads = reads; ends = f })
by_end status.Usage account words w v r reads f = absurd f
by_end status.Capture account words w v r reads f = absurd f
by_end status.TooLong account words w v r reads f = absurd f
by_end status.ReadFault account words w v r reads f = absurd f

pub same_world : (w u : World) → u.files ≡ w.files → u.text ≡ w.text → u.reads ≡ w.reads → u.writes ≡ w.writes → u.prints ≡ w.prints → u ≡ w
same_world w u files text reads writes prints i = record { files = files i; text = text i; reads = reads i; writes = writes i; prints = prints i }

-- the replay was finished; u is the outside after the load
pub finished : (s : Status) (account : Option Record) (words : List (List ℕ)) (file lines : List ℕ) (w u v : World) (r : Replays words w.files account) → u ≡ w → v.reads ≡ u.reads → file ≡ capture_bytes (sent_records r.planned.a) → lines ≡ summary r.planned.a → Finishes s r.to file lines u v → Ends s account words w v
finished s account words file lines w u v r same reads file_is lines_are f =
    by_end s account words w v r (reads ∙ ap (λ x. x.reads) same) (subst (λ x. Finishes s r.to (capture_bytes (sent_records r.planned.a)) (summary r.planned.a) x v) same
    (subst (λ l. Finishes s r.to (capture_bytes (sent_records r.planned.a)) l u v) lines_are (subst (λ b. Finishes s r.to b lines u v) file_is f)))
