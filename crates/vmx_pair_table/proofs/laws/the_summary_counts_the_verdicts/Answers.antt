use Rattle.vmx_pair_table.proofs.Counts.{summary_here}
use Rattle.vmx_pair_table.proofs.laws.the_summary_counts_the_verdicts.Goals as goal

pub returns : goal.returns
returns c = record { summary = summary_here }
