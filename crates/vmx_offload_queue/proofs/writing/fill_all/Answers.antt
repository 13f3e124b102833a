use Rattle.std.proofs.Common.{◌≡◌, ◌≤◌, ◌∷◌, [], List, length, refl, sym, ap, ◌∙◌, subst, arith, All}
use Rattle.std.specs.Prelude.{filter}
use Rattle.std.proofs.lemmas.Grind.{common_steps}
use Rattle.vmx_pcap.specs.declared.records.Stamped.{Stamped}
use Rattle.vmx_ends.specs.declared.frames.Sent.{Sent}
use Rattle.vmx_ends.specs.declared.made.TxMade.{TxMade}
use Rattle.vmx_txq.specs.Ends.{driver_view}
use Rattle.vmx_offload_queue.specs.Rest.{HoldsAll}
use Rattle.vmx_offload_queue.specs.declared.counts.Counts.{Counts}
use Rattle.vmx_offload_queue.specs.Records.{is_filled, is_left, is_long, stays, AreWritten}
use Rattle.vmx_offload_queue.proofs.Records.{written_start, sent_start, count_start, written_step, sent_step, count_step, written_all, sent_all, count_all, short_all}
use Rattle.vmx_offload_queue.proofs.writing.fill_all.Goals as goal

pub loop-stamped-init : goal.loop-stamped-init
loop-stamped-init c =
    let all = c.args.records in
    let same : c.from_vec-waiting.result.items ≡ c.args.records = c.from_vec-waiting.ensures.items ∙ c.into_vec.ensures.items in
    let count : length c.from_vec-waiting.result.items ≡ length c.args.records = ap (λ (w : List Stamped). length w) same in
    let sent : length (driver_view c.args.driver.now).sent ≡ 0 = ap (λ (s : List Sent). length s) c.requires.new in
    let few = c.requires.few in
    record {
      rest = c.requires.rest;
      made = refl;
      room = c.in_ok-room.ensures.capacity;
      sent_few = omega (arith, count, sent, few);
      counted_few = omega (arith, count, few);
      written = written_start all c.from_vec-waiting.result.items c.in_ok-written.written.items same c.in_ok-written.ensures.items;
      sent = sent_start all c.from_vec-waiting.result.items (driver_view c.args.driver.now).sent same c.requires.new;
      filled = count_start is_filled all c.from_vec-waiting.result.items same;
      left = count_start is_left all c.from_vec-waiting.result.items same;
      long = count_start is_long all c.from_vec-waiting.result.items same;
    }

pub write_one-requires-clause-few : goal.write_one-requires-clause-few
write_one-requires-clause-few c =
    let count : length c.loop-stamped.waiting.items ≡ length (c.in-Some.stamped ∷ c.pop_front.new.self.items) = ap (λ (w : List Stamped). length w) c.in-Some.ensures.items in
    omega (arith, count, c.loop-stamped.invariant.sent_few)

pub write_one-requires-clause-counted : goal.write_one-requires-clause-counted
write_one-requires-clause-counted c =
    let count : length c.loop-stamped.waiting.items ≡ length (c.in-Some.stamped ∷ c.pop_front.new.self.items) = ap (λ (w : List Stamped). length w) c.in-Some.ensures.items in
    omega (arith, count, c.loop-stamped.invariant.counted_few)

pub write_one-requires-clause-holds : goal.write_one-requires-clause-holds
write_one-requires-clause-holds c = subst (λ (m : TxMade). HoldsAll m) (sym c.loop-stamped.invariant.made) c.requires.holds

pub loop-stamped-preserved : goal.loop-stamped-preserved
loop-stamped-preserved c =
    let all = c.args.records in
    let l = c.loop-stamped in
    let v = l.invariant in
    let r = c.in-Some.stamped in
    let k = c.in_ok-counts.ensures in
    let rest = c.pop_front.new.self.items in
    let next : l.waiting.items ≡ c.in-Some.stamped ∷ c.pop_front.new.self.items = c.in-Some.ensures.items in
    let count : length l.waiting.items ≡ length (c.in-Some.stamped ∷ c.pop_front.new.self.items) = ap (λ (w : List Stamped). length w) next in
    record {
      rest = k.rest;
      made = k.made ∙ v.made;
      room = omega (arith, k.room, v.room);
      sent_few = omega (arith, count, v.sent_few, k.grows);
      counted_few = omega (arith, count, v.counted_few, k.most);
      written = written_step (filter stays all) l.waiting.items rest r l.written.items c.write_one.new.written.items next v.written k.written;
      sent = sent_step (filter is_filled all) l.waiting.items rest r (driver_view l.driver).sent (driver_view c.write_one.new.driver).sent next v.sent k.sent;
      filled = count_step is_filled l.waiting.items rest r l.counts.filled _ _ next v.filled (ap (λ (n : Counts). n.filled) k.counts);
      left = count_step is_left l.waiting.items rest r l.counts.left _ _ next v.left (ap (λ (n : Counts). n.left) k.counts);
      long = count_step is_long l.waiting.items rest r l.counts.long _ _ next v.long (ap (λ (n : Counts). n.long) k.counts);
    }

pub returns : goal.returns
returns c =
    let all = c.args.records in
    let l = c.loop-stamped in
    let v = l.invariant in
    let none : c.loop-stamped.waiting.items ≡ [] = grind (arith, common_steps) in
    let written : AreWritten (filter stays c.args.records) c.loop-stamped.written.items = written_all (filter stays all) l.waiting.items l.written.items v.written none in
    record {
      filled = record {
        written = subst (λ (x : List Stamped). AreWritten (filter stays c.args.records) x) (sym c.of.ensures.items) written;
        filled = count_all is_filled l.waiting.items _ _ v.filled none;
        left = count_all is_left l.waiting.items _ _ v.left none;
        long = count_all is_long l.waiting.items _ _ v.long none;
      };
      short = subst (λ (x : List Stamped). All (λ r. length r.frame ≤ 65535) x) (sym c.of.ensures.items) (short_all all l.written.items written);
      sent = sent_all (filter is_filled all) l.waiting.items (driver_view l.driver).sent v.sent none;
      made = v.made;
      rest = v.rest;
    }
