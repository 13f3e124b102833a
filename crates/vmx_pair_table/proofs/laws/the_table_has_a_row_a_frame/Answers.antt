use Rattle.std.proofs.Common.{List, ap, ◌∙◌, sym}
use Rattle.std.specs.List.{filter_map, slice_get}
use Rattle.vmx_copies.specs.declared.copy.FrameCopy.{FrameCopy}
use Rattle.vmx_pair_table.specs.Rows.{record_up}
use Rattle.vmx_pair_table.proofs.Rows.{rows_here}
use Rattle.vmx_pair_table.proofs.Origins.{origin_here, records_here}
use Rattle.vmx_pair_table.proofs.laws.the_table_has_a_row_a_frame.Goals as goal

pub returns-clause-rows : goal.returns-clause-rows
returns-clause-rows c = rows_here

pub returns-clause-records : goal.returns-clause-records
returns-clause-records c = λ capture plan p r lists rows table. ap (filter_map (record_up capture.records)) (rows_here capture plan p r lists rows table) ∙ records_here capture plan p

pub returns-clause-origins : goal.returns-clause-origins
returns-clause-origins c = λ capture plan p r lists rows table i x there.
    origin_here capture plan p i x (sym (ap (λ (xs : List FrameCopy). slice_get xs i) (rows_here capture plan p r lists rows table)) ∙ there)
