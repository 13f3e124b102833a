use Rattle.std.proofs.Common.{sym, refl}
use Rattle.std.specs.String.{string_bytes}
use Rattle.vmx_offload.proofs.Ends.{stopped, finished, same_world}
use Rattle.vmx_offload.proofs.top.run_fill.Goals as goal

pub returns-in-Err : goal.returns-in-Err
returns-in-Err g c =
    let r = rw c.stop_status.ensures.status at c.refuse-in-Err.ensures.line in
    let l = c.in-Err.ensures in
    record { ends = stopped string_bytes c.stop_line.result c.refuse-in-Err.result.status _ _ c.in-Err.stop c.in-Some.from.now c.in-Some.to.now _ _ r c.stop_line.ensures.line c.refuse-in-Err.ensures.facts (sym c.in-Some.ensures.names) l.content l.reads l.files l.writes }

pub returns-in-Ok-fill_capture : goal.returns-in-Ok-fill_capture
returns-in-Ok-fill_capture g c =
    let l = c.in-Ok.ensures in
    record {
      ends = finished _ _ _ _ _ _ _ _ _
          (record {
            from = c.in-Some.from.now;
            to = c.in-Some.to.now;
            capture = c.in-Ok.read.capture;
            words_are = sym c.in-Some.ensures.names;
            captured = l.content.1;
            few = l.content.0;
          })
          (same_world _ _ l.files refl l.reads l.writes refl) c.finish.ensures.reads c.in-Ok-fill_capture.ensures.fills c.finish.ensures.ends;
    }
