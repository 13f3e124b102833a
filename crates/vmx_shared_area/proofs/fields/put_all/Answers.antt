use Rattle.std.proofs.Common.{get_or, refl, append_assoc, arith}
use Rattle.std.specs.List.{flat_map}
use Rattle.std.proofs.lemmas.List.{take_all}
use Rattle.vmx_shared_area.specs.Fields.{field_bytes, width}
use Rattle.vmx_shared_area.specs.declared.fields.Field.TheVariants.{U8}
use Rattle.vmx_shared_area.proofs.Totals.{total_step, bytes_step, drop_later, spliced}
use Rattle.vmx_shared_area.proofs.fields.put_all.Goals as goal

pub put-at-requires : goal.put-at-requires
put-at-requires c =
    let step = total_step c.args.fields.now c.loop-field.field-index (U8 0) c.loop-field-test.true in
    let room = step.1 in
    omega arith

pub loop-field-preserved : goal.loop-field-preserved
loop-field-preserved c =
    let fs = c.args.fields.now in
    let i = c.loop-field.field-index in
    let step = (total_step fs i (U8 0) c.loop-field-test.true).0 in
    let more = bytes_step fs i (U8 0) c.loop-field-test.true in
    record {
      at = omega arith;
      after = rw (c.put-at.ensures.next, c.put-at.ensures.after) (drop_later _ c.loop-field.at (width (get_or fs i (U8 0))) _ c.loop-field.invariant.after);
      put = rw (c.put-at.ensures.next, c.put-at.ensures.put, c.loop-field.invariant.put, more, append_assoc) refl;
    }

pub returns-clause-whole : goal.returns-clause-whole
returns-clause-whole c =
    let all = take_all c.loop-field.field-index c.args.fields.now c.loop-field-test.false in
    let put = rw (c.if-prove.false, all) at c.loop-field.invariant.put in
    let after = rw c.if-prove.false at c.loop-field.invariant.after in
    spliced c.loop-field.bytes c.args.bytes.now (flat_map field_bytes c.args.fields.now) c.args.start c.args.end put after
