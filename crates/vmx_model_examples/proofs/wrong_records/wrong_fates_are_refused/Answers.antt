use Rattle.vmx_model_examples.proofs.WrongRecords.{invents_fates, filters_an_admitted_frame, marks_no_buffer_as_filtered, stops_no_queue}
use Rattle.vmx_model_examples.proofs.wrong_records.wrong_fates_are_refused.Goals as goal

pub returns : goal.returns
returns c = record { invented = invents_fates; admitted = filters_an_admitted_frame; without_buffer = marks_no_buffer_as_filtered; stopped = stops_no_queue }
