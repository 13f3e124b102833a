-- The fates that a run gives to the copies of its plan: those of the model, over the lists of the run.
use Rattle.std.specs.Prelude.{List, [], length, map, take}
use Rattle.vmx_ends.specs.declared.frames.Sent.{Sent}
use Rattle.vmx_ends.specs.Transmit.{TxView, need}
use Rattle.vmx_ends.specs.TransmitCore.{TxCore}
use Rattle.vmx_model.specs.declared.plan.Plan.{Plan}
use Rattle.vmx_model.specs.declared.journal.Fate.{Fate}
use Rattle.vmx_model.specs.Fates.{all_fates}
use Rattle.vmx_model.specs.Views.{GuestView, RecordView}
use Rattle.vmx_model.specs.Serial.{Seat, World}

-- what the ends of a transmit queue did
abbrev pub tx_facts : TxCore → TxView
tx_facts c = record {
  key = [];
  made = c.made;
  sent = c.sent;
  taken = map (λ (s : Sent). record { sent = s; descriptors = need c.made (length s.frame) }) (take c.taken c.sent);
  completed = c.completed;
  reaped = c.reaped;
}

-- the journal and the transmit queues of a guest
abbrev pub guest_facts : Seat → GuestView
guest_facts s = record { entries = s.entries; setups = []; received = s.received; tx = map tx_facts s.tx; rx = []; told = []; tx_stats = []; rx_stats = [] }

-- those of all guests
abbrev pub facts_of : World → RecordView
facts_of w = record { guests = map guest_facts w.seats; links = [] }

-- the fates of every copy of a plan, by guest, captured number and target, one list a copy
abbrev pub fates_in : Plan → World → List (List Fate)
fates_in plan w = all_fates plan (facts_of w)
