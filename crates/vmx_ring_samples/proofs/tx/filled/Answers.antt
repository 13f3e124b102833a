use Rattle.std.proofs.Common.{◌≡◌, ◌∙◌, sym, ap}
use Rattle.vmx_ends.specs.Transmit.{TxDriverView}
use Rattle.vmx_txq.specs.Ends.{driver_view, device_view}
use Rattle.vmx_ring_samples.proofs.tx.filled.Goals as goal
use Rattle.vmx_ring_samples.proofs.tx.filled.Goals.{then-through, else-through}

pub returns : goal.returns
returns c = elim c.if-through.branch [
  | then-through w ↦ record {
    shows = record {
      driver = driver_view c.passes.new.driver;
      device = device_view c.passes.new.device;
      made = c.in_ok-through.ensures.made ∙ ap (λ (d : TxDriverView). d.made) c.in_ok-driver.ensures.made.0;
      stands = λ done. c.write_down-written.ensures.stands (sym w.result-is ∙ done);
    };
  }
  | else-through w ↦ record {
    shows = record {
      driver = driver_view c.passes.new.driver;
      device = device_view c.passes.new.device;
      made = c.in_ok-through.ensures.made ∙ ap (λ (d : TxDriverView). d.made) c.in_ok-driver.ensures.made.0;
      stands = λ done. absurd (cc (sym w.result-is ∙ done));
    };
  }
]
