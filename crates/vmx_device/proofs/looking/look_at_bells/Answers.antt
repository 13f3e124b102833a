use Rattle.std.proofs.Common.{ℕ, sym, subst, arith}
use Rattle.vmx_regs.specs.Ends.{device_view, device_masks}
use Rattle.vmx_device_looks.specs.Bells.{ReadsBells}
use Rattle.vmx_device.specs.Holds.{inner_view}
use Rattle.vmx_device_laws.specs.Keeps.{Keeps}
use Rattle.vmx_device_laws.proofs.Looked.{tx_few, rx_few}
use Rattle.vmx_device_laws.proofs.News.{keeps_masks}
use Rattle.vmx_device.proofs.looking.look_at_bells.Goals as goal

pub tx_queues-tx-requires-clause-few : goal.tx_queues-tx-requires-clause-few
tx_queues-tx-requires-clause-few g c κs within = tx_few (inner_view c.args.inner.now) c.requires.holds.keeps

pub rx_queues-rx-requires-clause-few : goal.rx_queues-rx-requires-clause-few
rx_queues-rx-requires-clause-few g c κs within = rx_few (inner_view c.args.inner.now) c.requires.holds.keeps

pub read_bells-requires-clause-tx : goal.read_bells-requires-clause-tx
read_bells-requires-clause-tx g c κs within = omega (arith, c.tx_queues-tx.ensures.count, tx_few (inner_view c.args.inner.now) c.requires.holds.keeps)

pub read_bells-requires-clause-rx : goal.read_bells-requires-clause-rx
read_bells-requires-clause-rx g c κs within = omega (arith, c.rx_queues-rx.ensures.count, rx_few (inner_view c.args.inner.now) c.requires.holds.keeps)

pub returns-clause-step : goal.returns-clause-step
returns-clause-step g c = (
  device_masks c.read_bells.new.regs,
  subst (λ (x : ℕ × ℕ). ReadsBells (device_view c.args.inner.now.regs).interrupts x.0 x.1 (device_masks c.args.inner.now.regs) (device_masks c.read_bells.new.regs)) (λ i. (c.tx_queues-tx.ensures.count i, c.rx_queues-rx.ensures.count i)) c.read_bells.ensures.bells,
  (λ i. record (inner_view c.args.inner.now) { key = c.read_bells.ensures.key i; calls = c.read_bells.ensures.calls i; masks = device_masks c.read_bells.new.regs }),
)

pub returns-clause-holds : goal.returns-clause-holds
returns-clause-holds g c = record {
  keeps = subst Keeps (λ i. record (inner_view c.args.inner.now) { key = sym c.read_bells.ensures.key i; calls = sym c.read_bells.ensures.calls i; masks = device_masks c.read_bells.new.regs }) (keeps_masks (inner_view c.args.inner.now) c.requires.holds.keeps (device_masks c.read_bells.new.regs));
  rooms = c.requires.holds.rooms;
  begun = c.requires.holds.begun;
}
