use Rattle.std.proofs.Common.{◌≡◌, ◌≤◌, ℕ, ◌-◌, length}
use Rattle.vmx_model.specs.QueueSteps.{sent_before}
use Rattle.vmx_driver_steps.specs.Progress.{IsUnderway}
use Rattle.vmx_driver_steps.proofs.next.settle.Given as goal

abbrev pub invariant-loop-at : goal.invariant-loop-at
invariant-loop-at l = record {
  under : IsUnderway l.plan l.at;
  kept : l.at ≡ record l.fn.at { next = l.at.next };
  up : l.fn.at.next ≤ l.at.next;
  frames : (a q : ℕ) → sent_before l.plan a q l.at.next ≡ sent_before l.plan a q l.fn.at.next;
}

abbrev pub decreases-loop-at : goal.decreases-loop-at
decreases-loop-at l = length l.plan.capture.records - l.at.next
