use Rattle.std.proofs.Common.{◌≤◌, false, List, All, length, sym, ap, ◌∙◌, subst, arith}
use Rattle.vmx_pcap.specs.declared.records.Stamped.{Stamped}
use Rattle.vmx_pcap.specs.Written.{capture_bytes}
use Rattle.vmx_ends.specs.declared.made.TxMade.{TxMade}
use Rattle.vmx_ends.specs.Transmit.{TxDriverView, TxView}
use Rattle.vmx_ends.specs.Queues.{queue_name, made_tx}
use Rattle.vmx_offload_queue.specs.Rest.{HoldsAll}
use Rattle.vmx_offload_queue.specs.RestLaws.{new_at_rest}
use Rattle.vmx_offload.specs.Filling.{WentThrough}
use Rattle.vmx_offload.proofs.filled.fill_capture.Goals as goal

holds_all : HoldsAll (made_tx (queue_name 0 0 0) 32 4096 false)
holds_all bytes few = omega arith

pub fill_all-requires-clause-rest : goal.fill_all-requires-clause-rest
fill_all-requires-clause-rest c = new_at_rest (made_tx (queue_name 0 0 0) 32 4096 false) _ _ c.in_ok-driver.ensures.made

pub fill_all-requires-clause-new : goal.fill_all-requires-clause-new
fill_all-requires-clause-new c = ap (λ (v : TxDriverView). v.sent) c.in_ok-driver.ensures.made.0

pub fill_all-requires-clause-holds : goal.fill_all-requires-clause-holds
fill_all-requires-clause-holds c = subst (λ (m : TxMade). HoldsAll m) (sym (ap (λ (v : TxDriverView). v.made) c.in_ok-driver.ensures.made.0)) holds_all

pub write_over-requires : goal.write_over-requires
write_over-requires c = record { short = subst (λ (x : List Stamped). All (λ r. length r.frame ≤ 65535) x) (sym c.as_slice.ensures.items) c.in_ok-filled.ensures.short }

pub meet-facts-requires : goal.meet-facts-requires
meet-facts-requires c =
    let rest = c.in_ok-filled.ensures.rest in
    record { keys = rest.one; idle = rest.caught_up.1; even = rest.even }

pub returns : goal.returns
returns c =
    let k = c.in_ok-filled.ensures in
    record {
      fills = record {
        out = c.in_ok-filled.filled.records;
        counts = c.in_ok-filled.filled.counts;
        filled = k.filled;
        file_is = c.in_ok-file.ensures.bytes ∙ ap capture_bytes c.as_slice.ensures.items;
        line_is = c.in_ok-line.ensures.line;
        queue_is = subst (λ (q : TxView). WentThrough c.args.capture.records q) (sym c.meet-facts.ensures.facts) (record {
          made = k.made ∙ ap (λ (v : TxDriverView). v.made) c.in_ok-driver.ensures.made.0;
          sent = k.sent;
          taken = k.rest.caught_up.0;
          completed = k.rest.caught_up.1;
          reaped = k.rest.caught_up.2;
        });
      };
    }
