use Rattle.std.proofs.Common.{◌∙◌, sym, ap, length, arith}
use Rattle.vmx_device_laws.specs.Steps.{worked}
use Rattle.vmx_replay_settled.proofs.Keys.{turn_key}
use Rattle.vmx_replay_settled.proofs.Noted.{entries_stay}
use Rattle.vmx_replay_settled.proofs.steps.turn.Goals as goal

pub turn-requires-clause-even : goal.turn-requires-clause-even
turn-requires-clause-even g c κs within = c.requires.pair.whole

pub settle-requires-clause-pair : goal.settle-requires-clause-pair
settle-requires-clause-pair g c κs within = record {
  key = c.requires.pair.key ∙ sym (turn_key (worked c.in_ok-turn.field-0) c.args.guest.now.device c.turn.new.self c.in_ok-turn.ensures.once);
  even = c.requires.pair.even;
  whole = c.turn.ensures.even;
}

pub returns : goal.returns
returns g c =
    let few = c.turn.ensures.most in
    let same = entries_stay c.args.guest.now.driver.driver c.turn.new.self c.settle.new.guest.driver.driver c.settle.new.guest.device c.settle.ensures.settles in
    let entries = ap length same.0 in let served = ap length same.1 in let most = few.0 in let once = few.1 in record {
      turns = record {
        was = c.keep.ensures.keeps.device;
        worked = worked c.in_ok-turn.field-0;
        turned = c.turn.new.self;
        once = c.in_ok-turn.ensures.once;
        keeps = c.keep-2.ensures.keeps.device;
        entries = omega (arith, entries, most);
        served = omega (arith, served, once);
        settles = c.settle.ensures.settles;
      };
      pair = c.settle.ensures.pair;
      keeps = c.settle.ensures.keeps;
    }
