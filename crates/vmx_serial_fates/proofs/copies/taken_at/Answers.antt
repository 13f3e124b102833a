use Rattle.std.proofs.Common.{◌∙◌, sym, ap, arith, List, map, Option, find}
use Rattle.vmx_model.specs.Views.{GuestView}
use Rattle.vmx_model.specs.Fates.{tx_or_none, taken_of, tx_named}
use Rattle.vmx_serial_queues.specs.declared.tx.TxQueue.{TxQueue}
use Rattle.vmx_serial_queues.specs.Queues.{tx_core}
use Rattle.vmx_serial_fates.specs.Fates.{tx_facts}
use Rattle.vmx_serial_fates.proofs.FateLaws.{facts_there, facts_past}
use Rattle.vmx_serial_fates.proofs.copies.taken_at.Goals as goal

pub returns-then-port-len : goal.returns-then-port-len
returns-then-port-len c = let a = c.args in
    record {
      taken = c.taken_in.ensures.taken ∙ ap (λ (qs : List TxQueue). taken_of (find (tx_named a.activation a.queue) (map tx_facts (map tx_core qs)))) c.as_slice.ensures.items
          ∙ sym (ap (λ (o : Option GuestView). taken_of (find (tx_named a.activation a.queue) (tx_or_none o))) (facts_there a.world.now.seats a.port c.at.result.now (omega arith) c.at.ensures.value));
    }

pub returns : goal.returns
returns c = let a = c.args in record { taken = sym (ap (λ (o : Option GuestView). taken_of (find (tx_named a.activation a.queue) (tx_or_none o))) (facts_past a.world.now.seats a.port (omega arith))) }
