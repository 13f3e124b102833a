use Rattle.std.proofs.Common.{◌≡◌, List, map, ap, ◌∙◌, sym, subst, rules}
use Rattle.vmx_pcap.specs.declared.records.Stamped.{Stamped}
use Rattle.vmx_pcap.specs.Written.{capture_bytes}
use Rattle.vmx_model.specs.declared.guest.GuestPlan.{GuestPlan}
use Rattle.vmx_pair_plan.specs.Fates.{handed_up, sent_records}
use Rattle.vmx_pair.specs.Accounts.{Accounts}
use Rattle.vmx_pair_plan.specs.Plan.{IsPlain}
use Rattle.vmx_pair_plan.specs.Summary.{summary}
use Rattle.vmx_pair_plan.proofs.Verdicts.{sender_plain, frames_sent}
use Rattle.vmx_pair.proofs.transfer.replay.Goals as goal

pub returns : goal.returns
returns c =
    let planned = c.in_ok-plan.ensures.plan in
    let g = c.remove-sender.result in
    let same : g ≡ planned.a = search rules in
    let plain : IsPlain g = subst IsPlain (sym same) (sender_plain c.args.capture planned.a planned.sender) in
    let arrived : c.in_ok-arrived.arrived.items ≡ sent_records g = c.in_ok-arrived.ensures.arrived ∙ c.in_ok-fates.ensures.queue in
    record {
      replay = record {
        plan = c.in_ok-plan.plan;
        planned = planned;
        accounts = subst (λ (x : GuestPlan). Accounts x (record { fates = c.of.result; received = c.of-2.result })) same (record {
          fates = c.of.ensures.items ∙ c.in_ok-fates.ensures.fates;
          received = c.of-2.ensures.items ∙ c.in_ok-received.ensures.received ∙ ap (λ (rs : List Stamped). handed_up 0 (map (λ r. r.frame) rs)) arrived ∙ ap (handed_up 0) (frames_sent g plain);
        });
        file_is = c.in_ok-file.ensures.bytes ∙ ap capture_bytes (c.as_slice.ensures.value ∙ arrived ∙ ap sent_records same);
        lines_are = c.in_ok-summary.ensures.summary ∙ ap summary same;
      };
    }
