-- How a run of `pair IN OUT` ends: by its status, what it says of the files, of the console and of the record.
use Rattle.std.specs.Prelude.{◌≡◌, ◌⊎◌, ℕ, ◌<◌, ◌≤◌, List, length, take, codes, Option, Some, None, Result, Ok, Err}
use Rattle.vmx_io.specs.Outside.{Files, WhereTold, content, with_file, with_text, ChangedOnly, Rose}
use Rattle.vmx_pcap.specs.declared.records.Stamped.{Stamped}
use Rattle.vmx_pcap.specs.declared.records.Capture.{Capture}
use Rattle.vmx_pcap.specs.declared.fault.CaptureFault.{CaptureFault}
use Rattle.vmx_pcap.specs.Capture.{IsCapture}
use Rattle.vmx_pcap.specs.Faults.{fault_at}
use Rattle.vmx_pcap.specs.Written.{capture_bytes}
use Rattle.vmx_model.specs.declared.limits.TheConstants.{MAX_RECORDS, MAX_BYTES}
use Rattle.vmx_model.specs.declared.plan.Plan.{Plan}
use Rattle.vmx_tool.specs.declared.load.ReadCapture.{ReadCapture}
use Rattle.vmx_tool.specs.declared.load.Stop.{Stop}
use Rattle.vmx_tool.specs.declared.load.Stop.TheVariants as stop
use Rattle.vmx_tool.specs.declared.status.Outcome.{Outcome}
use Rattle.vmx_tool.specs.declared.status.Status.{Status}
use Rattle.vmx_tool.specs.declared.status.Status.TheVariants as status
use Rattle.vmx_pair.specs.declared.«record».Record.{Record}
use Rattle.vmx_tool.specs.Words.{pair_of}
use Rattle.vmx_pair_plan.specs.Plan.{IsPairPlan}
use Rattle.vmx_pair_plan.specs.Fates.{sent_records}
use Rattle.vmx_pair.specs.Accounts.{Accounts}
use Rattle.vmx_tool.specs.Lines.{usage_lines, write_line, memory_line, line_of}
use Rattle.vmx_pair_plan.specs.Summary.{summary}

-- the outside at one moment
pub record World : Type 0 where
  pub files : Option Files
  pub text : Option (List ℕ)
  pub reads : ℕ
  pub writes : ℕ
  pub prints : ℕ

-- a shelf and a console, by their meanings
abbrev pub world : {S C : Type 0} → (S → Option Files) → (S → ℕ) → (S → ℕ) → (C → Option (List ℕ)) → (C → ℕ) → S → C → World
world files reads writes text prints shelf console =
    record { files = files shelf; text = text console; reads = reads shelf; writes = writes shelf; prints = prints console }

-- a file's bytes are not too long for a capture, and are one with these records and a tail of that many bytes
pub record HoldsCapture (bytes : List ℕ) (records : List Stamped) (tail : ℕ) : Type 0 where
  pub within : length bytes ≤ MAX_BYTES
  pub capture : IsCapture bytes records tail

-- what was loaded under a name, where the files are told
abbrev pub Loaded : Result ReadCapture Stop → List ℕ → Option Files → Type 0
Loaded (Ok read) from files = (length read.capture.records ≤ MAX_RECORDS) × WhereTold files (λ f. HoldsCapture (content f from) read.capture.records read.capture.tail)
Loaded (Err stop.TooLong) from files = WhereTold files (λ f. MAX_BYTES < length (content f from))
Loaded (Err (stop.Capture fault)) from files = WhereTold files (λ f. (length (content f from) ≤ MAX_BYTES) × (fault_at (content f from) MAX_RECORDS ≡ Some fault))
Loaded (Err stop.Failed) from files = Unit {0}
Loaded (Err stop.NoMemory) from files = Unit {0}

-- and the read faults that it counted: one or more where reading failed, else none
abbrev pub LoadedCounts : Result ReadCapture Stop → ℕ → ℕ → Type 0
LoadedCounts (Ok read) before now = now ≡ before
LoadedCounts (Err stop.TooLong) before now = now ≡ before
LoadedCounts (Err (stop.Capture fault)) before now = now ≡ before
LoadedCounts (Err stop.Failed) before now = (before ≤ now) × Rose before now
LoadedCounts (Err stop.NoMemory) before now = now ≡ before

-- a text grew by this line where no fault of the console was counted; else by a front of it
abbrev pub Says : List ℕ → Option (List ℕ) → Option (List ℕ) → ℕ → ℕ → Type 0
Says line text after before now = ((now ≡ before) × (after ≡ with_text text line)) ⊎ (Rose before now × ((k : ℕ) × (after ≡ with_text text (take k line))))

-- a text grew by a front of this line
abbrev pub SaysPart : List ℕ → Option (List ℕ) → Option (List ℕ) → Type 0
SaysPart line text after = (k : ℕ) × (after ≡ with_text text (take k line))

-- a text grew by a front of one text, and then by a front of another
abbrev pub SaysBoth : List ℕ → List ℕ → Option (List ℕ) → Option (List ℕ) → Type 0
SaysBoth first second text after = (j k : ℕ) × (after ≡ with_text (with_text text (take j first)) (take k second))

-- the line was found memory for, and said
abbrev pub SaysFound : {T E : Type 0} → (T → List ℕ) → Result T E → Option (List ℕ) → Option (List ℕ) → ℕ → ℕ → Type 0
SaysFound view (Ok s) text after before now = Says (view s) text after before now
SaysFound view (Err e) text after before now = ⊥

-- a run ended with its line; or no memory was found for that, which was said as far as it could be
abbrev pub Refuses : {T E : Type 0} → (T → List ℕ) → Result T E → Status → Outcome → Option (List ℕ) → Option (List ℕ) → ℕ → ℕ → Type 0
Refuses view line wanted outcome text after before now =
    ((outcome.status ≡ wanted) × SaysFound view line text after before now)
    ⊎ ((outcome.status ≡ status.NoMemory) × SaysPart memory_line text after × (before ≤ now))

-- the console was told that there is no memory, as far as it could be
abbrev pub SaysNoMemory : Option (List ℕ) → Option (List ℕ) → ℕ → ℕ → Type 0
SaysNoMemory text after before now = SaysPart memory_line text after × (before ≤ now)

-- the save of OUT and the summary after it, by how they ended
abbrev pub Finishes : Status → List ℕ → List ℕ → List ℕ → World → World → Type 0
Finishes status.Ok to file line w v = (v.files ≡ with_file w.files to file) × (v.text ≡ with_text w.text line) × (v.writes ≡ w.writes) × (v.prints ≡ w.prints)
Finishes status.WriteFault to file line w v =
    (Rose w.writes v.writes × ChangedOnly w.files v.files to × Says (write_line to) w.text v.text w.prints v.prints)
    ⊎ ((v.writes ≡ w.writes) × (v.files ≡ with_file w.files to file) × Rose w.prints v.prints × SaysBoth line (write_line (codes "console")) w.text v.text)
Finishes status.NoMemory to file line w v =
    (ChangedOnly w.files v.files to ⊎ (v.files ≡ with_file w.files to file))
    × (SaysPart memory_line w.text v.text ⊎ (Rose w.prints v.prints × SaysBoth line memory_line w.text v.text))
Finishes status.Usage to file line w v = ⊥
Finishes status.Capture to file line w v = ⊥
Finishes status.TooLong to file line w v = ⊥
Finishes status.ReadFault to file line w v = ⊥

-- the capture IN was read, and this is its record by the plan of `pair`
pub record Replays (words : List (List ℕ)) (files : Option Files) (account : Option Record) : Type 0 where
  pub from : List ℕ
  pub to : List ℕ
  pub capture : Capture
  pub plan : Plan
  pub told : Record
  pub words_are : pair_of words ≡ Some (from, to)
  pub captured : WhereTold files (λ f. HoldsCapture (content f from) capture.records capture.tail)
  pub few : length capture.records ≤ MAX_RECORDS
  pub planned : IsPairPlan capture plan
  pub accounts : Accounts planned.a told
  pub account_is : account ≡ Some told

-- a run that came to the save: OUT is the capture of the sent frames with their stamps
pub record Finished (end : Status) (account : Option Record) (words : List (List ℕ)) (w v : World) : Type 0 where
  pub replays : Replays words w.files account
  pub reads : v.reads ≡ w.reads
  pub ends : Finishes end replays.to (capture_bytes (sent_records replays.planned.a)) (summary replays.planned.a) w v

-- the status of a capture that is not there, by why
abbrev pub status_of : Stop → Status
status_of stop.Failed = status.ReadFault
status_of stop.TooLong = status.TooLong
status_of (stop.Capture fault) = status.Capture
status_of stop.NoMemory = status.NoMemory

-- a run that found no capture under IN
pub record StoppedBy (why : Stop) (account : Option Record) (words : List (List ℕ)) (w v : World) : Type 0 where
  pub from : List ℕ
  pub to : List ℕ
  pub words_are : pair_of words ≡ Some (from, to)
  pub cause : Loaded (Err why) from w.files
  pub counts : LoadedCounts (Err why) w.reads v.reads
  pub files : v.files ≡ w.files
  pub writes : v.writes ≡ w.writes
  pub account_is : account ≡ None
  pub said : Says (line_of why from) w.text v.text w.prints v.prints

-- a run of words without a meaning
pub record Misused (account : Option Record) (words : List (List ℕ)) (w v : World) : Type 0 where
  pub words_are : pair_of words ≡ None
  pub files : v.files ≡ w.files
  pub reads : v.reads ≡ w.reads
  pub writes : v.writes ≡ w.writes
  pub account_is : account ≡ None
  pub said : Says usage_lines w.text v.text w.prints v.prints

-- a run for which there was no memory before it had a record
pub record Starved (account : Option Record) (w v : World) : Type 0 where
  pub files : v.files ≡ w.files
  pub writes : v.writes ≡ w.writes
  pub account_is : account ≡ None
  pub said : SaysPart memory_line w.text v.text

-- how a run ends, by its status
abbrev pub Ends : Status → Option Record → List (List ℕ) → World → World → Type 0
Ends status.Ok account words w v = Finished status.Ok account words w v
Ends status.Usage account words w v = Misused account words w v
Ends status.Capture account words w v = (fault : CaptureFault) × StoppedBy (stop.Capture fault) account words w v
Ends status.TooLong account words w v = StoppedBy stop.TooLong account words w v
Ends status.ReadFault account words w v = StoppedBy stop.Failed account words w v
Ends status.WriteFault account words w v = Finished status.WriteFault account words w v
Ends status.NoMemory account words w v = Starved account w v ⊎ Finished status.NoMemory account words w v

-- this status, or no memory
abbrev pub EndsAt : Status → Status → Type 0
EndsAt s wanted = (s ≡ wanted) ⊎ (s ≡ status.NoMemory)

-- one of two statuses, or no memory
abbrev pub EndsAtOneOf : Status → Status → Status → Type 0
EndsAtOneOf s one other = (s ≡ one) ⊎ ((s ≡ other) ⊎ (s ≡ status.NoMemory))
