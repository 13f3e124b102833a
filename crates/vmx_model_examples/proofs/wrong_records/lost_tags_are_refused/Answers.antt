use Rattle.vmx_model_examples.proofs.WrongRecords.{loses_the_mark, loses_the_tci}
use Rattle.vmx_model_examples.proofs.wrong_records.lost_tags_are_refused.Goals as goal

pub returns : goal.returns
returns c = record { mark = loses_the_mark; tci = loses_the_tci }
