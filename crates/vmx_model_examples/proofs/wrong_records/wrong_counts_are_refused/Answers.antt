use Rattle.vmx_model_examples.proofs.WrongRecords.{counts_no_buffer_as_filtered, counts_twice, counts_a_sent_frame_twice, one_more_refused}
use Rattle.vmx_model_examples.proofs.wrong_records.wrong_counts_are_refused.Goals as goal

pub returns : goal.returns
returns c = record { not_counted = counts_no_buffer_as_filtered; counted_twice = counts_twice; sent_twice = counts_a_sent_frame_twice; one_more = one_more_refused }
