use Rattle.std.proofs.Common.{rules, arith}
use Rattle.vmx_shared_area.specs.Places.{bytes_at-below}
use Rattle.vmx_shared_area.specs.Sound.{table_none}
use Rattle.vmx_shared_area.proofs.parts.table_at.Goals as goal
use Rattle.vmx_shared_area.specs.declared.offsets.TheConstants.{TABLE_SIZE, TABLE}

pub invariant_of-result : goal.invariant_of-result
invariant_of-result c =
    let sound = table_none c.args.bytes.now c.args.rx_queues c.requires.size c.requires.sound in
    record {
      size_low = rw c.u16_at.ensures.number sound.low;
      size_high = rw c.u16_at.ensures.number sound.high;
      table_length = search rules;
      table_fits = rw c.entries_at.ensures.table (bytes_at-below TABLE_SIZE TABLE c.args.bytes.now (λ k. omega (arith, c.type_inv.bytes k)));
      rest = rw (c.u16_at.ensures.number, c.entries_at.ensures.table) sound.rest;
    }

pub returns-clause-entries : goal.returns-clause-entries
returns-clause-entries c =
    let sound = table_none c.args.bytes.now c.args.rx_queues c.requires.size c.requires.sound in
    rw (c.u16_at.ensures.number, c.entries_at.ensures.table) sound.below
