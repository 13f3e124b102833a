use Rattle.std.proofs.Common.{◌≤◌, ◌+◌, length, arith}
use Rattle.vmx_device.specs.declared.growing.TheConstants.{TURN_ENTRIES}
use Rattle.vmx_replay_worlds.specs.Guests.{GuestView}
use Rattle.vmx_replay_settled.specs.Settled.{TurnsSettled}
use Rattle.vmx_replay_chains.specs.Views.{guest_view}
use Rattle.vmx_replay_chains.proofs.Ons.{port_below, paired_here, entries_few, commands_few, changed, paired_after, stay_paired}
use Rattle.vmx_replay_chains.proofs.guests.turn_on.Goals as goal

pub at_mut-requires : goal.at_mut-requires
at_mut-requires g c = record { within = port_below guest_view c.args.guests.now c.args.port _ _ c.requires.pair }

pub turn-requires-clause-pair : goal.turn-requires-clause-pair
turn-requires-clause-pair g c κs within = paired_here guest_view c.args.guests.now c.args.port c.at_mut.result.now (port_below guest_view c.args.guests.now c.args.port _ _ c.requires.pair) c.at_mut.ensures.value _ _ c.requires.pair

pub turn-requires-clause-few : goal.turn-requires-clause-few
turn-requires-clause-few g c κs within =
    let gs = c.args.guests.now in let port = c.args.port in let x = c.at_mut.result.now in let lt = port_below guest_view gs port _ _ c.requires.pair in
    let entries = entries_few guest_view gs port x lt c.at_mut.ensures.value _ _ c.requires.pair in let commands = commands_few guest_view gs port x lt c.at_mut.ensures.value _ _ c.requires.pair in
    (omega (arith, entries), omega (arith, commands))

pub returns : goal.returns
returns g c =
    let gs = c.args.guests.now in let port = c.args.port in let x = c.at_mut.result.now in let y = c.turn.new.guest in
    let lt = port_below guest_view gs port _ _ c.requires.pair in let is = c.at_mut.ensures.value in let s = c.in_ok-turn.ensures.turns in record {
      turns = changed guest_view gs port x lt is y (λ (r r' : GuestView). TurnsSettled r.driver r.device r'.driver r'.device) s c.in_ok-turn.ensures.keeps;
      pair = λ n m p.
          let a = s.entries in let e = entries_few guest_view gs port x lt is n m p in let b = s.served in let f = commands_few guest_view gs port x lt is n m p in
          let entries : length y.device.entries ≤ n + TURN_ENTRIES = omega (arith, a, e) in let commands : length y.device.calls.served ≤ m + 1 = omega (arith, b, f) in
          paired_after guest_view gs port x lt is y (n + TURN_ENTRIES) (m + 1) c.in_ok-turn.ensures.pair entries commands;
      paired = stay_paired guest_view gs port x lt is y c.in_ok-turn.ensures.pair;
    }
