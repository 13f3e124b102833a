-- A guest that rests: its driver knows all that is completed, and notes alone leave it as it is. Of all guests one is replaced by one that rests.
use Rattle.std.proofs.Common.{◌≡◌, ℕ, suc, ◌+◌, ◌≤◌, List, [], ◌∷◌, ◌++◌, length, set, sym, ap, ◌∙◌, subst, arith, Some, None, Option}
use Rattle.std.specs.List.{slice_get, AllByRecursion}
use Rattle.std.proofs.lemmas.List.{length-set, length-map}
use Rattle.vmx_ends.specs.declared.frames.Sent.{Sent}
use Rattle.vmx_ends.specs.declared.frames.Taken.{Taken}
use Rattle.vmx_ends.specs.Transmit.{TxDriverView, TxDeviceView}
use Rattle.vmx_ends.specs.Receive.{RxDriverView}
use Rattle.vmx_regs.specs.declared.known.Calls.{Calls}
use Rattle.vmx_switch.specs.Ports.{Wiring}
use Rattle.vmx_machine_state.specs.Views.{ActiveView, MachineView}
use Rattle.vmx_model.specs.declared.journal.Entry.{Entry}
use Rattle.vmx_model.specs.declared.plan.Plan.{Plan}
use Rattle.vmx_model.specs.Bags.{EachQueue, Pairwise}
use Rattle.vmx_device_looks.specs.Queues.{all_set, each_set, each_last}
use Rattle.vmx_device_laws.specs.Views.{DeviceView, beside_of, held_ends}
use Rattle.vmx_device_laws.specs.Keeps.{Keeps as DeviceKeeps, EndsSay, TookOn}
use Rattle.vmx_device_laws.specs.Pairs.{tx_of, rx_of}
use Rattle.vmx_driver_steps.specs.Driver.{DriverView}
use Rattle.vmx_note_laws.specs.Queues.{IsToldTx, IsBehindRx}
use Rattle.vmx_trusted_turns.specs.Trusted.{IsTrusted}
use Rattle.vmx_replay_settled.specs.Settled.{BothKeep}
use Rattle.vmx_replay_worlds.specs.Guests.{GuestView}
use Rattle.vmx_replay_steps.specs.Between.{IsThrough}
use Rattle.vmx_replay_steps.specs.Waits.{KnowsCompleted}
use Rattle.vmx_replay_calls.specs.Selves.{IsOneDevice, IsOneDriver}
use Rattle.vmx_replay_calls.specs.Resting.{IsGuestAt, Rests, HasNone, RunRests}
use Rattle.vmx_replay_calls.proofs.Steps.{GuestPassed}
use Rattle.vmx_replay_calls.proofs.Pairs.{pair_refl, pair_set}
use Rattle.vmx_replay_calls.proofs.Selves.{stays_itself}
use Rattle.vmx_replay_calls.proofs.Notes.{behind_same, regs_asked, regs_turns, regs_served, QueueNotes, queue_notes, queue_through, queue_trusted, queue_calls, queue_served, stands_of, idle_hand}
use Rattle.vmx_replay_calls.proofs.Runs.{guest_at}
use Rattle.vmx_replay_calls.proofs.Posted.{HasSameLinks, links_refl, known_back}

-- ------------------------------------------------------------ what its driver knows

took_all : (w : Wiring) (g : ℕ) (es : List Entry) (a q : ℕ) (vs : List TxDeviceView) → EachQueue (TookOn w g es a) q vs → AllByRecursion (λ (e : TxDeviceView). e.completed ≡ length e.taken) vs
took_all w g es a q [] h = tt
took_all w g es a q (v ∷ vs) h = (h.0.completed, took_all w g es a (suc q) vs h.1)

-- what a device took is completed
took_of : (d : DeviceView) → DeviceKeeps d → AllByRecursion (λ (e : TxDeviceView). e.completed ≡ length e.taken) (tx_of d.machine.active)
took_of d k = by_active d.machine.active k.says
  where
    by_active : (o : Option ActiveView) → EachQueue (EndsSay d.table (beside_of d) d.entries) 0 (k.past ++ held_ends o) → AllByRecursion (λ (e : TxDeviceView). e.completed ≡ length e.taken) (tx_of o)
    by_active None h = tt
    by_active (Some a) h = took_all d.table (beside_of d).port d.entries (0 + length k.past) 0 a.ends.tx (each_last (EndsSay d.table (beside_of d) d.entries) 0 k.past a.ends h).tx

knows_each : (ds : List TxDriverView) (es : List TxDeviceView) → Pairwise IsToldTx ds es → Pairwise IsThrough ds es → AllByRecursion (λ (e : TxDeviceView). e.completed ≡ length e.taken) es → AllByRecursion (λ (d : TxDriverView). length d.sent ≤ d.heard) ds
knows_each [] [] t h k = tt
knows_each [] (e ∷ es) t h k = tt
knows_each (d ∷ ds) [] t h k = absurd t
knows_each (d ∷ ds) (e ∷ es) t h k =
    let many : length d.sent ≡ length e.taken = ap (λ (xs : List Sent). length xs) (sym h.0) ∙ length-map e.taken (λ (x : Taken). x.sent) in
    let told = t.0.completed in let done = k.0 in
    (omega (arith, many, told, done), knows_each ds es t.1 h.1 k.1)

pub knows_completed : (r : GuestView) → Rests r → DeviceKeeps r.device → KnowsCompleted r.driver
knows_completed r h k = knows_each r.driver.tx (tx_of r.device.machine.active) h.told_tx h.through_ (took_of r.device k)

-- ------------------------------------------------------------ notes alone

module _ (r r' : GuestView) (rest : Rests r) (keep : BothKeep r.driver r.device) (p : GuestPassed r r') where
  machine : p.mid.device.machine ≡ r.device.machine
  machine = ap (λ (d : DeviceView). d.machine) p.regs.device

  mid_tx : p.mid.driver.tx ≡ r.driver.tx
  mid_tx = ap (λ (x : DriverView). x.tx) p.regs.driver

  mid_rx : p.mid.driver.rx ≡ r.driver.rx
  mid_rx = ap (λ (x : DriverView). x.rx) p.regs.driver

  none : HasNone p.mid.driver p.mid.device
  none e = let h = idle_hand r.driver r.device (stands_of r rest keep) (ap (λ (m : MachineView). m.active) (sym machine) ∙ e) in (mid_tx ∙ h.0, mid_rx ∙ h.1)

  notes : QueueNotes p.mid.driver p.mid.device r'.driver r'.device
  notes = queue_notes p.mid.driver p.mid.device r'.driver r'.device p.queues none

  behind : Pairwise IsBehindRx p.mid.driver.rx (rx_of p.mid.device.machine.active)
  behind = subst (λ (x : List RxDriverView × MachineView). Pairwise IsBehindRx x.0 (rx_of x.1.active)) (λ i. (sym mid_rx i, sym machine i))
      (behind_same r.driver.rx (rx_of r.device.machine.active) rest.told_rx)

  pub rests_on : Rests r'
  rests_on = record {
    caught_up = record {
      none = ap (λ (c : Calls). c.asked) (queue_calls p.mid.driver p.mid.device r'.driver r'.device notes) ∙ regs_asked r.driver r.device p.mid.driver p.mid.device p.regs ∙ rest.caught_up.none;
      same = ap (λ (c : Calls). c.turns) (queue_calls p.mid.driver p.mid.device r'.driver r'.device notes) ∙ regs_turns r.driver r.device p.mid.driver p.mid.device p.regs ∙ rest.caught_up.same
          ∙ sym (ap (λ (c : Calls). c.served) (queue_served p.mid.driver p.mid.device r'.driver r'.device notes) ∙ regs_served r.driver r.device p.mid.driver p.mid.device p.regs);
    };
    trusted = queue_trusted p.mid.driver p.mid.device r'.driver r'.device notes (subst IsTrusted (sym machine) rest.trusted);
    through_ = queue_through p.mid.driver p.mid.device r'.driver r'.device notes (subst (λ (x : List TxDriverView × MachineView). Pairwise IsThrough x.0 (tx_of x.1.active)) (λ i. (sym mid_tx i, sym machine i)) rest.through_);
    told_tx = notes.told_tx;
    told_rx = notes.told_rx behind;
  }

-- ------------------------------------------------------------ all guests

-- one guest is replaced by another state of itself, with the same links, in which it rests
pub run_set : (plan : Plan) (port : ℕ) (rs : List GuestView) (r r' : GuestView) → RunRests plan rs → slice_get rs port ≡ Some r → IsOneDriver r.driver r'.driver → IsOneDevice r.device r'.device → DeviceKeeps r'.device → HasSameLinks r r' → Rests r' → RunRests plan (set rs port r')
run_set plan port rs r r' run at v d k links h =
    let z : port ≡ 0 + port = omega arith in record {
      guests = each_set (IsGuestAt plan) (IsGuestAt plan) 0 rs port r' (λ n x ne g. g) (subst (λ (n : ℕ). IsGuestAt plan n r') z (stays_itself plan port r r' (guest_at plan rs port r run.guests at) v d k)) run.guests;
      count = length-set rs port r' ∙ run.count;
      rest = all_set Rests rs port r' h run.rest;
      links = known_back rs (set rs port r') (pair_set HasSameLinks rs rs port r r' (pair_refl HasSameLinks links_refl rs) at links) run.links;
    }
