-- The two lines of the summary, as a function of plan and record.
use Rattle.std.specs.Prelude.{ℕ, ◌+◌, Bool, true, false, List, [], ◌∷◌, ◌++◌, length, flat_map, codes, count_by, nat_eq, ◌&&◌, Option, Some, None}
use Rattle.std.specs.Fmt.{decimal}
use Rattle.vmx_model.specs.declared.guest.GuestPlan.{GuestPlan}
use Rattle.vmx_model.specs.declared.plan.Plan.{Plan}
use Rattle.vmx_model.specs.declared.journal.Fate.{Fate}
use Rattle.vmx_model.specs.declared.journal.Fate.TheVariants as fate
use Rattle.vmx_model.specs.Totals.{records_of}
use Rattle.vmx_model.specs.Views.{RecordView}
use Rattle.vmx_model.specs.Fates.{all_fates}
use Rattle.vmx_copies.specs.declared.copy.FrameCopy.{FrameCopy}
use Rattle.vmx_summary.specs.declared.kinds.Kind.{Kind}
use Rattle.vmx_summary.specs.declared.kinds.Kind.TheVariants as kind

-- the kind of a fate, without what is told beside it
abbrev pub has_kind : Kind → Fate → Bool
has_kind kind.Up (fate.Up activation queue place) = true
has_kind kind.LinkFull (fate.LinkFull look) = true
has_kind kind.Inactive fate.Inactive = true
has_kind kind.Filtered (fate.Filtered rule) = true
has_kind kind.NoBuffer (fate.NoBuffer activation queue ring position look) = true
has_kind kind.Discarded fate.Discarded = true
has_kind kind.NoPort fate.NoPort = true
has_kind kind.Down fate.Down = true
has_kind kind.Short fate.Short = true
has_kind kind.TooLong fate.TooLong = true
has_kind k f = false

-- the copies of a kind in a table, and the fates of a kind
abbrev pub rows_of_kind : Kind → List FrameCopy → ℕ
rows_of_kind k rows = count_by (λ (x : FrameCopy). has_kind k x.fate) rows

abbrev pub fates_of_kind : Kind → List Fate → ℕ
fates_of_kind k fates = count_by (has_kind k) fates

-- the same of one sender's copies, and of those for one target
abbrev pub is_target : ℕ → Option ℕ → Bool
is_target port None = false
is_target port (Some t) = nat_eq t port

abbrev pub rows_from : ℕ → Kind → List FrameCopy → ℕ
rows_from port k rows = count_by (λ (x : FrameCopy). nat_eq x.sender port && has_kind k x.fate) rows

abbrev pub rows_to : ℕ → Kind → List FrameCopy → ℕ
rows_to port k rows = count_by (λ (x : FrameCopy). is_target port x.target && has_kind k x.fate) rows

-- the bytes behind the last whole records of all captures
abbrev pub tails_of : List GuestPlan → ℕ
tails_of [] = 0
tails_of (g ∷ gs) = g.capture.tail + tails_of gs

-- ------------------------------------------------------------ lines

unfoldable pub captured_line : ℕ → ℕ → ℕ → ℕ → List ℕ
captured_line guests captured copies tail =
    codes "guests " ++ (decimal guests ++ (codes " captured " ++ (decimal captured ++ (codes " copies " ++ (decimal copies ++ (codes " tail " ++ (decimal tail ++ codes "\n")))))))

unfoldable pub first_counts : ℕ → ℕ → ℕ → ℕ → List ℕ
first_counts up full inactive filtered =
    codes "up " ++ (decimal up ++ (codes " link-full " ++ (decimal full ++ (codes " inactive " ++ (decimal inactive ++ (codes " filtered " ++ decimal filtered))))))

unfoldable pub more_counts : ℕ → ℕ → ℕ → List ℕ
more_counts no_buffer discarded no_port = codes " no-buffer " ++ (decimal no_buffer ++ (codes " discarded " ++ (decimal discarded ++ (codes " no-port " ++ decimal no_port))))

unfoldable pub last_counts : ℕ → ℕ → ℕ → List ℕ
last_counts down short long = codes " down " ++ (decimal down ++ (codes " short " ++ (decimal short ++ (codes " too-long " ++ (decimal long ++ codes "\n")))))

-- the line of what became of the copies, by the count of each kind
abbrev pub counts_by : (Kind → ℕ) → List ℕ
counts_by n = first_counts (n kind.Up) (n kind.LinkFull) (n kind.Inactive) (n kind.Filtered) ++ more_counts (n kind.NoBuffer) (n kind.Discarded) (n kind.NoPort) ++ last_counts (n kind.Down) (n kind.Short) (n kind.TooLong)

-- both lines
abbrev pub lines_by : Plan → ℕ → (Kind → ℕ) → List ℕ
lines_by plan copies n = captured_line (length plan.guests) (records_of plan.guests) copies (tails_of plan.guests) ++ counts_by n

-- the fates of all copies
abbrev pub fates_listed : Plan → RecordView → List Fate
fates_listed plan r = flat_map (λ (fs : List Fate). fs) (all_fates plan r)

-- the summary of a replay: every copy, and each fate by its kind
abbrev pub summary : Plan → RecordView → List ℕ
summary plan r = lines_by plan (length (all_fates plan r)) (λ k. fates_of_kind k (fates_listed plan r))
