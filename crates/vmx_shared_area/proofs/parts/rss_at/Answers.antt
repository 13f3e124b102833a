use Rattle.std.proofs.Common.{rules, subst, ◌≢◌, ℕ, Option, Some, None, ◌∙◌, arith}
use Rattle.vmx_shared_area.specs.Checks.{rss_bit}
use Rattle.vmx_shared_area.specs.Tells.{EntriesBelow}
use Rattle.vmx_shared_area.specs.declared.rss.Rss.{Rss}
use Rattle.vmx_shared_area.specs.Places.{bytes_at-below}
use Rattle.vmx_shared_area.specs.Sound.{rss_none}
use Rattle.vmx_shared_area.proofs.parts.rss_at.Goals as goal
use Rattle.vmx_shared_area.specs.declared.offsets.TheConstants.{KEY_SIZE, TABLE_SIZE, KEY, TABLE}

pub invariant_of-result : goal.invariant_of-result
invariant_of-result c =
    let on : rss_bit c.args.bytes.now ≢ 0 = λ off. c.if-features-eq0.false (c.rss_bit-features.ensures.bit ∙ off) in
    let sound = rss_none c.args.bytes.now c.args.rx_queues c.requires.size c.requires.sound on in
    record {
      types_high = rw c.u16_at-types.ensures.number sound.types;
      key_length = search rules;
      key_fits = rw c.key_at.ensures.key (bytes_at-below KEY_SIZE KEY c.args.bytes.now (λ k. omega (arith, c.type_inv.bytes k)));
      size_low = rw c.u16_at-size.ensures.number sound.table.low;
      size_high = rw c.u16_at-size.ensures.number sound.table.high;
      table_length = search rules;
      table_fits = rw c.entries_at.ensures.table (bytes_at-below TABLE_SIZE TABLE c.args.bytes.now (λ k. omega (arith, c.type_inv.bytes k)));
      rest = rw (c.u16_at-size.ensures.number, c.entries_at.ensures.table) sound.table.rest;
    }

pub returns-clause-told : goal.returns-clause-told
returns-clause-told c =
    let on : rss_bit c.args.bytes.now ≢ 0 = λ off. c.if-features-eq0.false (c.rss_bit-features.ensures.bit ∙ off) in
    let sound = rss_none c.args.bytes.now c.args.rx_queues c.requires.size c.requires.sound on in
    (sound.on, record { types = c.u16_at-types.ensures.number; key = c.key_at.ensures.key; size = c.u16_at-size.ensures.number; table = c.entries_at.ensures.table })

pub returns-clause-entries : goal.returns-clause-entries
returns-clause-entries c r is =
    let on : rss_bit c.args.bytes.now ≢ 0 = λ off. c.if-features-eq0.false (c.rss_bit-features.ensures.bit ∙ off) in
    let sound = rss_none c.args.bytes.now c.args.rx_queues c.requires.size c.requires.sound on in
    let below : EntriesBelow c.args.rx_queues c.u16_at-size.result c.entries_at.result = rw (c.u16_at-size.ensures.number, c.entries_at.ensures.table) sound.table.below in
    let Below : Option Rss → Type 0 = λ o. BelowIn c.args.rx_queues o in
    subst Below is below
  where
    BelowIn : ℕ → Option Rss → Type 0
    BelowIn rx None = Unit {0}
    BelowIn rx (Some r) = EntriesBelow rx r.size r.table
