-- What a replay of a capture by the plan of `pair` leaves.
use Rattle.std.specs.Prelude.{◌≡◌, ℕ, List}
use Rattle.vmx_pcap.specs.declared.records.Capture.{Capture}
use Rattle.vmx_pcap.specs.Written.{capture_bytes}
use Rattle.vmx_model.specs.declared.plan.Plan.{Plan}
use Rattle.vmx_pair.specs.declared.«record».Record.{Record}
use Rattle.vmx_pair_plan.specs.Plan.{IsPairPlan}
use Rattle.vmx_pair_plan.specs.Fates.{sent_records}
use Rattle.vmx_pair.specs.Accounts.{Accounts}
use Rattle.vmx_pair_plan.specs.Summary.{summary}

-- what a replay by the plan of `pair` leaves: the record, the file and the summary
pub record IsReplay (capture : Capture) (account : Record) (file lines : List ℕ) : Type 0 where
  pub plan : Plan
  pub planned : IsPairPlan capture plan
  pub accounts : Accounts planned.a account
  pub file_is : file ≡ capture_bytes (sent_records planned.a)
  pub lines_are : lines ≡ summary planned.a
