-- Notes both ways between the ends of all receive queues.
use Rattle.std.proofs.Common.{◌≡◌, ℕ, ◌+◌, ◌<◌, List, length, set, refl, sym, ap, ◌∙◌, subst, arith, Some}
use Rattle.std.specs.List.{slice_get}
use Rattle.vmx_ends.specs.Receive.{RxDriverView, RxDeviceView}
use Rattle.vmx_machine_state.specs.Views.{MachineView}
use Rattle.vmx_model.specs.Bags.{Pairwise}
use Rattle.vmx_device_looks.specs.Looks.{with_rx}
use Rattle.vmx_device_laws.specs.Views.{DeviceView}
use Rattle.vmx_device_laws.specs.Pairs.{rx_of}
use Rattle.vmx_driver_steps.specs.Driver.{DriverView}
use Rattle.vmx_note_laws.specs.UpTo.{PassedUpTo}
use Rattle.vmx_note_laws.specs.Queues.{AreOneRx, PassesRx}
use Rattle.vmx_note_laws.proofs.UpTo.{passed_long, behind_there, one_more_passed, all_passed}
use Rattle.vmx_replay_guests.specs.Passing.{AreAtRx, RxPassed, RxPassedUpTo, AllRxPassed}
use Rattle.vmx_replay_guests.proofs.Ends.{there_at, rx_there, rx_of_there, with_rx_of, with_rx_same, with_rx_twice}

pub rx_none : (v : DriverView) (d : DeviceView) → Pairwise AreOneRx v.rx (rx_of d.machine.active) → RxPassedUpTo 0 v d v d
rx_none v d p = record { passed = (refl, refl, p); driver = refl; device = ap (λ (m : MachineView). record d { machine = m }) (with_rx_same d.machine) }

module _ (q : ℕ) (v : DriverView) (d : DeviceView) (v' : DriverView) (d' : DeviceView) (h : RxPassedUpTo q v d v' d') where
  -- as many ends as before
  pub rx_long : length (rx_of d'.machine.active) ≡ length (rx_of d.machine.active)
  rx_long = (passed_long AreOneRx PassesRx q v.rx (rx_of d.machine.active) v'.rx (rx_of d'.machine.active) h.passed).1

  -- both ends of the next queue
  pub rx_next_there : q < length (rx_of d.machine.active) → AreAtRx q v' d'.machine
  rx_next_there lt =
      let long = passed_long AreOneRx PassesRx q v.rx (rx_of d.machine.active) v'.rx (rx_of d'.machine.active) h.passed in let many = long.0 in let same = long.1 in
      let here = rx_there d'.machine q (omega (arith, lt, same)) in
      let end = there_at v'.rx q (omega (arith, lt, many, same)) in
      let at = subst (λ (xs : List RxDeviceView). slice_get xs q ≡ Some here.end) (sym (rx_of_there d'.machine q here)) here.at in
      record { end = end.0; at = end.1; here = here; key = behind_there AreOneRx PassesRx q v.rx (rx_of d.machine.active) v'.rx (rx_of d'.machine.active) end.0 here.end h.passed end.1 at }

  pub rx_one_more : (v'' : DriverView) (d'' : DeviceView) → RxPassed q v' d' v'' d'' → RxPassedUpTo (q + 1) v d v'' d''
  rx_one_more v'' d'' p =
      let t = p.there in
      let ends : List RxDeviceView = set t.here.active.ends.rx q p.after in
      let at = subst (λ (xs : List RxDeviceView). slice_get xs q ≡ Some t.here.end) (sym (rx_of_there d'.machine q t.here)) t.here.at in
      let drivers : v''.rx ≡ set v'.rx q p.end' = ap (λ (x : DriverView). x.rx) p.driver in
      let devices : rx_of d''.machine.active ≡ ends = ap (λ (x : DeviceView). rx_of x.machine.active) p.device ∙ with_rx_of ends t.here.active d'.machine t.here.is_active in
      let held : rx_of d''.machine.active ≡ set (rx_of d'.machine.active) q p.after = devices ∙ sym (ap (λ (xs : List RxDeviceView). set xs q p.after) (rx_of_there d'.machine q t.here)) in record {
        passed = subst (λ (x : List RxDriverView × List RxDeviceView). PassedUpTo AreOneRx PassesRx (q + 1) v.rx (rx_of d.machine.active) x.0 x.1) (λ i. (sym drivers i, sym held i))
            (one_more_passed AreOneRx PassesRx q v.rx (rx_of d.machine.active) v'.rx (rx_of d'.machine.active) t.end p.end' t.here.end p.after h.passed t.at at p.passes);
        driver = p.driver ∙ ap (λ (x : DriverView). record x { rx = set v'.rx q p.end' }) h.driver ∙ ap (λ (xs : List RxDriverView). record v { rx = xs }) (sym drivers);
        device = p.device ∙ ap (λ (x : DeviceView). record x { machine = with_rx ends x.machine }) h.device ∙ ap (λ (m : MachineView). record d { machine = m }) (with_rx_twice (rx_of d'.machine.active) ends d.machine)
            ∙ ap (λ (xs : List RxDeviceView). record d { machine = with_rx xs d.machine }) (sym devices);
      }

  pub rx_all : q ≡ length (rx_of d.machine.active) → AllRxPassed v d v' d'
  rx_all all = record { rx = all_passed AreOneRx PassesRx q v.rx (rx_of d.machine.active) v'.rx (rx_of d'.machine.active) (rx_long ∙ sym all) h.passed; driver = h.driver; device = h.device }
