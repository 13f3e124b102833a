use Rattle.std.proofs.Common.{ap, subst, ◌∙◌}
use Rattle.vmx_driver_steps.specs.Driver.{DriverView}
use Rattle.vmx_driver.specs.Stocked.{Stocked}
use Rattle.vmx_driver.specs.Acts.{Acts, turn_by}
use Rattle.vmx_driver.proofs.Evenness.{polls_even}
use Rattle.vmx_driver.proofs.driver.Driver.turn.Goals as goal

pub returns-clause-turns : goal.returns-clause-turns
returns-clause-turns g c = record {
  act = c.in_ok-act.act;
  mid = c.act.new.self.driver;
  acts = subst (λ (v : DriverView). Acts v c.in_ok-act.act c.act.new.self.driver) c.make_room.ensures.same c.in_ok-act.ensures.acts;
  up = c.poll_now-up.result;
  polls = c.poll_now-up.ensures.polls;
  is = c.turn_of.ensures.turn ∙ (λ i. turn_by (c.is_over.ensures.over i) (ap (λ (x : Stocked). x.driver.at.closed) c.self.view_is i) c.in_ok-act.act c.poll_now-up.result);
}

pub returns-clause-even : goal.returns-clause-even
returns-clause-even g c = polls_even _ _ _ c.poll_now-up.ensures.polls c.act.ensures.even
