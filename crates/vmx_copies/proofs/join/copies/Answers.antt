use Rattle.std.proofs.Common.{◌≡◌, map, List}
use Rattle.std.proofs.lemmas.Result.{IfOk-weaker}
use Rattle.vmx_copies.specs.declared.copy.FrameCopy.{FrameCopy}
use Rattle.vmx_copies.specs.Table.{IsTable}
use Rattle.vmx_copies.specs.Join.{rows_from}
use Rattle.vmx_copies.proofs.Tables.{each_in_order, table_by}
use Rattle.vmx_copies.proofs.join.copies.Goals as goal

pub returns : goal.returns
returns c =
    let p = c.args.plan.now in let js = map (λ j. j.now) c.args.journals.now in
    let w = c.in_ok-switch.switch in let came = c.in_ok-arrivals.arrivals in let arr = c.in_ok-arrivals.ensures.arrivals in record {
      table = λ r acc same. IfOk-weaker c.all_rows.result (λ (rows : List FrameCopy). rows ≡ rows_from w came js 0 p.guests) (IsTable p r)
          (λ rows e. table_by p r acc js same came arr w c.in_ok-switch.ensures.wiring rows e) (c.all_rows.ensures.rows (each_in_order p r acc js same came arr));
    }
