use Rattle.std.proofs.Common.{◌≡◌, ◌-◌, ◌<◌, ℕ, subst, ap, refl, inl, inr, None, Some}
use Rattle.vmx_shared_area.specs.declared.stats.Side.TheVariants.{Rx}
use Rattle.vmx_regs.specs.Ends.{device_masks, device_interrupts}
use Rattle.vmx_machine_state.specs.Stopped.{error_on}
use Rattle.vmx_model.specs.declared.journal.Fate.TheVariants as fate
use Rattle.vmx_device_looks.specs.Arrivals.{DeliversTo}
use Rattle.vmx_device_looks.proofs.arrivals.handle.Goals as goal

pub returns-in-Stopped-clause-handles : goal.returns-in-Stopped-clause-handles
returns-in-Stopped-clause-handles g c =
    let w = c.in-Stopped.ensures.way in inr (inr (inl (record {
      let_in = w.0;
      below = subst (λ (n : ℕ). n < w.0.active.setup.rx_queues) w.1 w.2;
      error = w.3.0;
      stopped = subst (λ (n : ℕ). error_on Rx c.args.machine.now n ≡ Some w.3.0) w.1 w.3.1;
      is_fate = ap (fate.Stopped (c.args.begun - 1)) w.1;
      is = refl;
      masks = refl;
    })))

pub returns-in-To-clause-handles : goal.returns-in-To-clause-handles
returns-in-To-clause-handles g c =
    let w = c.in-To.ensures.way in inr (inr (inr (record {
      let_in = w.0;
      below = subst (λ (n : ℕ). n < w.0.active.setup.rx_queues) w.1.queue w.1.below;
      unstopped = subst (λ (n : ℕ). error_on Rx c.args.machine.now n ≡ None) w.1.queue w.2;
      delivers = subst (λ (n : ℕ). DeliversTo w.0.active.setup (c.args.begun - 1) n c.args.frame.now (device_interrupts c.args.regs.now) c.deliver.result c.args.machine.now (device_masks c.args.regs.now) c.deliver.new.machine (device_masks c.deliver.new.regs)) w.1.queue
          (c.deliver.ensures.delivers w.0.active w.0.is_active);
    })))
