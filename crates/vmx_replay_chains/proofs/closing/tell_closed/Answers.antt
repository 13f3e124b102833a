use Rattle.std.proofs.Common.{refl, sym, subst}
use Rattle.vmx_driver_steps.specs.Driver.{DriverView}
use Rattle.vmx_replay_settled.specs.Settled.{ArePaired}
use Rattle.vmx_replay_chains.proofs.closing.tell_closed.Goals as goal

pub close-requires-clause-done : goal.close-requires-clause-done
close-requires-clause-done g c κs within = c.requires.due

pub returns : goal.returns
returns g c = let p = c.requires.pair in record {
  closes = c.close.ensures.closes;
  device = refl;
  pair = subst (λ (v : DriverView). ArePaired v c.args.guest.now.device) (sym c.close.ensures.closes) (record { key = p.key; even = record { tx = p.even.tx; rx = p.even.rx }; whole = p.whole });
  keeps = c.keep.ensures.keeps;
}
