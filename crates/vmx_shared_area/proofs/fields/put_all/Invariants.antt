use Rattle.std.proofs.Common.{◌≡◌, ◌+◌, ◌++◌, take, drop}
use Rattle.std.specs.List.{flat_map}
use Rattle.vmx_shared_area.specs.Fields.{field_bytes, total}
use Rattle.vmx_shared_area.proofs.fields.put_all.Given as goal

abbrev pub invariant-loop-field : goal.invariant-loop-field
invariant-loop-field l = record {
  at : l.at ≡ l.start + total (take l.field-index l.fields);
  after : drop l.at l.bytes ≡ drop l.at l.fn.bytes;
  put : take l.at l.bytes ≡ take l.start l.fn.bytes ++ flat_map field_bytes (take l.field-index l.fields);
}
