use Rattle.std.proofs.Common.{ℕ, List, true, false, subst, refl, rules}
use Rattle.std.specs.Prelude.{codes}
use Rattle.vmx_pcap.specs.declared.records.Stamped.{Stamped}
use Rattle.vmx_shared_area.specs.declared.offsets.TheConstants.{RX_MODE_PROMISC}
use Rattle.vmx_pair_plan.specs.declared.plan.TheConstants.{MAC_A, MAC_B}
use Rattle.vmx_pair_plan.specs.Plan.{IsGuest}
use Rattle.vmx_pair_plan.proofs.plan.pair_plan.Goals as goal

pub returns : goal.returns
returns c =
    let b = subst (λ (m : ℕ). IsGuest (codes "b") MAC_B true m (record { records = c.new.result; tail = 0 }) c.in_ok-b.b) c.promiscuous.ensures.mode c.in_ok-b.ensures.guest in
    record {
      plan = record {
        a = c.in_ok-a.a;
        b = c.in_ok-b.b;
        prefix = c.in_ok-from_str.ensures.bytes;
        poll_every = refl;
        guests = search rules;
        sender = subst (λ (m : ℕ). IsGuest (codes "a") MAC_A false m c.args.capture c.in_ok-a.a) c.by_default.ensures.default.mode c.in_ok-a.ensures.guest;
        sniffer = subst (λ (rs : List Stamped). IsGuest (codes "b") MAC_B true RX_MODE_PROMISC (record { records = rs; tail = 0 }) c.in_ok-b.b) c.new.ensures.empty b;
      };
    }
