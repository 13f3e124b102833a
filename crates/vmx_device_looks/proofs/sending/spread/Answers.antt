use Rattle.std.proofs.Common.{◌≡◌, ◌<◌, ◌^◌, ℕ, [], ◌∷◌, length, length-append, append-nil, ◌+◌, List, arith, ap, sym, refl, subst, ◌∙◌, map, take}
use Rattle.vmx_model.specs.declared.journal.Entry.TheVariants as entry
use Rattle.vmx_device_looks.specs.Links.{PutsOut}
use Rattle.vmx_link.specs.Ends.{out_view}
use Rattle.vmx_switch.specs.Ports.{target_ports}
use Rattle.vmx_device_looks.proofs.Pushes.{target_other, puts_next, ports_within, lost_frame, puts_frame, few_more, few_next}
use Rattle.vmx_device_looks.proofs.sending.spread.Goals as goal

pub send_to-requires-clause-target : goal.send_to-requires-clause-target
send_to-requires-clause-target c =
    target_other c.args.table.now c.args.port (length c.loop-i.out) c.targets-found.result.count c.loop-i.i c.args.frame.now c.targets-found.result.ports c.requires.port (omega (arith, c.loop-i.invariant.links, c.requires.links))
    c.targets-found.ensures.count c.targets-found.ensures.ports c.loop-i-test.true

pub send_to-requires-clause-few : goal.send_to-requires-clause-few
send_to-requires-clause-few c = few_more (2 ^ 61 + c.loop-i.i) (2 ^ 62) (map out_view c.loop-i.out) (omega (arith, c.loop-i-test.true, c.targets-found.result.few)) c.loop-i.invariant.few

pub loop-i-preserved : goal.loop-i-preserved
loop-i-preserved c =
    let inv = c.loop-i.invariant in
    let one = c.send_to.ensures.sends in
    let longer : length c.send_to.new.entries.0 ≡ length c.loop-i.entries.0 + 1 = ap length one.2 ∙ length-append c.loop-i.entries.0 _ in
    let within : c.loop-i.i < length c.targets-found.result.ports = ports_within c.args.table.now c.args.port c.targets-found.result.count c.loop-i.i c.args.frame.now c.targets-found.result.ports c.targets-found.ensures.count c.targets-found.ensures.ports c.loop-i-test.true in record {
      links = c.send_to.ensures.links ∙ inv.links;
      puts = puts_next c.args.port c.args.tag c.args.frame.now c.targets-found.result.ports c.loop-i.i c.args.entries.now.0 c.loop-i.entries.0 c.send_to.new.entries.0 (map out_view c.args.out.now) (map out_view c.loop-i.out) (map out_view c.send_to.new.out) within inv.puts one;
      long = omega (arith, longer, inv.long);
      room = omega (arith, c.send_to.ensures.room, inv.room, c.loop-i-test.true, c.targets-found.result.few, c.requires.room);
      spare = omega (arith, c.send_to.ensures.spare, inv.spare);
      few = few_more (2 ^ 61 + c.loop-i.i + 1) (2 ^ 61 + (c.loop-i.i + 1)) (map out_view c.send_to.new.out) (omega arith)
          (few_next c.args.port c.args.tag c.args.frame.now _ (2 ^ 61 + c.loop-i.i) (map out_view c.loop-i.out) (map out_view c.send_to.new.out) (one.0, one.1) inv.few);
    }

pub loop-i-init : goal.loop-i-init
loop-i-init c = record {
  links = refl;
  puts = ([], (refl, refl), sym (append-nil c.args.entries.now.0));
  long = omega arith;
  room = omega arith;
  spare = omega arith;
  few = few_more (2 ^ 61) (2 ^ 61 + 0) (map out_view c.args.out.now) (omega arith) c.requires.few;
}

pub returns-then-found-eq0-clause-puts : goal.returns-then-found-eq0-clause-puts
returns-then-found-eq0-clause-puts c = (
  entry.Lost c.args.tag ∷ [],
  lost_frame c.args.port c.args.tag c.args.frame.now (target_ports c.args.table.now c.args.port c.args.frame.now) (map out_view c.args.out.now) (omega (arith, c.if-found-eq0.true, c.targets-found.ensures.count)),
  c.push.ensures.items,
)

pub returns-clause-puts : goal.returns-clause-puts
returns-clause-puts c =
    let inv = c.loop-i.invariant in
    let end : c.loop-i.i ≡ c.targets-found.result.count = omega (arith, c.loop-i-test.false, c.loop-i.auto.i-end) in
    let all = ap (λ (n : ℕ). take n c.targets-found.result.ports) end ∙ c.targets-found.ensures.ports in
    let p = inv.puts in (
      p.0,
      puts_frame c.args.port c.args.tag c.args.frame.now (target_ports c.args.table.now c.args.port c.args.frame.now) p.0 (map out_view c.args.out.now) (map out_view c.loop-i.out) (λ none. c.if-found-eq0.false (c.targets-found.ensures.count ∙ none))
          (subst (λ (tos : List ℕ). PutsOut c.args.port c.args.tag c.args.frame.now tos p.0 (map out_view c.args.out.now) (map out_view c.loop-i.out)) all p.1),
      p.2,
    )
