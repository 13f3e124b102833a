-- Notes both ways between the ends of all transmit queues.
use Rattle.std.proofs.Common.{◌≡◌, ℕ, ◌+◌, ◌<◌, List, length, set, refl, sym, ap, ◌∙◌, subst, arith, Some}
use Rattle.std.specs.List.{slice_get}
use Rattle.vmx_ends.specs.Transmit.{TxDriverView, TxDeviceView}
use Rattle.vmx_machine_state.specs.Views.{MachineView}
use Rattle.vmx_model.specs.Bags.{Pairwise}
use Rattle.vmx_device_looks.specs.Looks.{with_tx}
use Rattle.vmx_device_laws.specs.Views.{DeviceView}
use Rattle.vmx_device_laws.specs.Pairs.{tx_of}
use Rattle.vmx_driver_steps.specs.Driver.{DriverView}
use Rattle.vmx_note_laws.specs.UpTo.{PassedUpTo}
use Rattle.vmx_note_laws.specs.Queues.{AreOneTx, PassesTx}
use Rattle.vmx_note_laws.proofs.UpTo.{passed_long, behind_there, one_more_passed, all_passed}
use Rattle.vmx_replay_guests.specs.Passing.{AreAtTx, TxPassed, TxPassedUpTo, AllTxPassed}
use Rattle.vmx_replay_guests.proofs.Ends.{there_at, tx_there, tx_of_there, with_tx_of, with_tx_same, with_tx_twice}

pub tx_none : (v : DriverView) (d : DeviceView) → Pairwise AreOneTx v.tx (tx_of d.machine.active) → TxPassedUpTo 0 v d v d
tx_none v d p = record { passed = (refl, refl, p); driver = refl; device = ap (λ (m : MachineView). record d { machine = m }) (with_tx_same d.machine) }

module _ (q : ℕ) (v : DriverView) (d : DeviceView) (v' : DriverView) (d' : DeviceView) (h : TxPassedUpTo q v d v' d') where
  -- as many ends as before
  pub tx_long : length (tx_of d'.machine.active) ≡ length (tx_of d.machine.active)
  tx_long = (passed_long AreOneTx PassesTx q v.tx (tx_of d.machine.active) v'.tx (tx_of d'.machine.active) h.passed).1

  -- both ends of the next queue
  pub tx_next_there : q < length (tx_of d.machine.active) → AreAtTx q v' d'.machine
  tx_next_there lt =
      let long = passed_long AreOneTx PassesTx q v.tx (tx_of d.machine.active) v'.tx (tx_of d'.machine.active) h.passed in let many = long.0 in let same = long.1 in
      let here = tx_there d'.machine q (omega (arith, lt, same)) in
      let end = there_at v'.tx q (omega (arith, lt, many, same)) in
      let at = subst (λ (xs : List TxDeviceView). slice_get xs q ≡ Some here.end) (sym (tx_of_there d'.machine q here)) here.at in
      record { end = end.0; at = end.1; here = here; key = behind_there AreOneTx PassesTx q v.tx (tx_of d.machine.active) v'.tx (tx_of d'.machine.active) end.0 here.end h.passed end.1 at }

  pub tx_one_more : (v'' : DriverView) (d'' : DeviceView) → TxPassed q v' d' v'' d'' → TxPassedUpTo (q + 1) v d v'' d''
  tx_one_more v'' d'' p =
      let t = p.there in
      let ends : List TxDeviceView = set t.here.active.ends.tx q p.after in
      let at = subst (λ (xs : List TxDeviceView). slice_get xs q ≡ Some t.here.end) (sym (tx_of_there d'.machine q t.here)) t.here.at in
      let drivers : v''.tx ≡ set v'.tx q p.end' = ap (λ (x : DriverView). x.tx) p.driver in
      let devices : tx_of d''.machine.active ≡ ends = ap (λ (x : DeviceView). tx_of x.machine.active) p.device ∙ with_tx_of ends t.here.active d'.machine t.here.is_active in
      let held : tx_of d''.machine.active ≡ set (tx_of d'.machine.active) q p.after = devices ∙ sym (ap (λ (xs : List TxDeviceView). set xs q p.after) (tx_of_there d'.machine q t.here)) in record {
        passed = subst (λ (x : List TxDriverView × List TxDeviceView). PassedUpTo AreOneTx PassesTx (q + 1) v.tx (tx_of d.machine.active) x.0 x.1) (λ i. (sym drivers i, sym held i))
            (one_more_passed AreOneTx PassesTx q v.tx (tx_of d.machine.active) v'.tx (tx_of d'.machine.active) t.end p.end' t.here.end p.after h.passed t.at at p.passes);
        driver = p.driver ∙ ap (λ (x : DriverView). record x { tx = set v'.tx q p.end' }) h.driver ∙ ap (λ (xs : List TxDriverView). record v { tx = xs }) (sym drivers);
        device = p.device ∙ ap (λ (x : DeviceView). record x { machine = with_tx ends x.machine }) h.device ∙ ap (λ (m : MachineView). record d { machine = m }) (with_tx_twice (tx_of d'.machine.active) ends d.machine)
            ∙ ap (λ (xs : List TxDeviceView). record d { machine = with_tx xs d.machine }) (sym devices);
      }

  pub tx_all : q ≡ length (tx_of d.machine.active) → AllTxPassed v d v' d'
  tx_all all = record { tx = all_passed AreOneTx PassesTx q v.tx (tx_of d.machine.active) v'.tx (tx_of d'.machine.active) (tx_long ∙ sym all) h.passed; driver = h.driver; device = h.device }
