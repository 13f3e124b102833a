-- The two lines of the summary.
use Rattle.std.specs.Prelude.{ℕ, Bool, true, false, List, ◌++◌, length, codes}
use Rattle.std.specs.Fmt.{decimal}
use Rattle.vmx_model.specs.declared.guest.GuestPlan.{GuestPlan}
use Rattle.vmx_model.specs.declared.sending.Sending.{Sending}
use Rattle.vmx_model.specs.declared.sending.Sending.TheVariants as sending
use Rattle.vmx_model.specs.Lists.{count}
use Rattle.vmx_model.specs.Plan.{captured, verdict_on}

-- a verdict by which the frame is sent
abbrev pub says_sent : Sending → Bool
says_sent (sending.Sent activation queue place) = true
says_sent sending.Down = false
says_sent sending.Short = false
says_sent sending.TooLong = false

-- a verdict that the frame is short
abbrev pub says_short : Sending → Bool
says_short (sending.Sent activation queue place) = false
says_short sending.Down = false
says_short sending.Short = true
says_short sending.TooLong = false

-- a verdict that the frame is too long
abbrev pub says_too_long : Sending → Bool
says_too_long (sending.Sent activation queue place) = false
says_too_long sending.Down = false
says_too_long sending.Short = false
says_too_long sending.TooLong = true

-- how many captured frames of a guest have such a verdict
abbrev pub count_verdicts : (Sending → Bool) → GuestPlan → ℕ
count_verdicts says g = count (λ c. says (verdict_on g c)) (captured g)

-- the line of what was captured; each captured frame has one copy
unfoldable pub first_line : ℕ → ℕ → List ℕ
first_line captured tail =
    codes "guests 2 captured " ++ (decimal captured ++ (codes " copies " ++ (decimal captured ++ (codes " tail " ++ (decimal tail ++ codes "\n")))))

-- the counts that stay 0 between two guests without scripts and a private queue
unfoldable pub no_counts : List ℕ
no_counts = codes " link-full 0 inactive 0 filtered 0 no-buffer 0 discarded 0 no-port 0 down 0 short "

-- the line of what became of the copies
unfoldable pub second_line : ℕ → ℕ → ℕ → List ℕ
second_line up short long = codes "up " ++ (decimal up ++ (no_counts ++ (decimal short ++ (codes " too-long " ++ (decimal long ++ codes "\n")))))

-- the summary for these counts
abbrev pub lines_of : ℕ → ℕ → ℕ → ℕ → ℕ → List ℕ
lines_of captured tail up short long = first_line captured tail ++ second_line up short long

-- the summary of a guest's capture, by the verdict on each frame
unfoldable pub summary : GuestPlan → List ℕ
summary g = lines_of (length g.capture.records) g.capture.tail (count_verdicts says_sent g) (count_verdicts says_short g) (count_verdicts says_too_long g)
