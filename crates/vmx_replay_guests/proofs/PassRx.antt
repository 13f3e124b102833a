-- Notes both ways between the ends of one receive queue, call by call.
use Rattle.std.proofs.Common.{◌≡◌, ℕ, suc, ◌<◌, List, length, get_or, set, sym, ap, ◌∙◌, subst}
use Rattle.std.proofs.lemmas.List.{set-set, length-set}
use Rattle.std.proofs.lemmas.Option.{get_or_from_slice_get}
use Rattle.vmx_ends.specs.Receive.{RxDriverView, RxDeviceView, RxNoteView}
use Rattle.vmx_ends.specs.ReceiveClauses as ends
use Rattle.vmx_machine_state.specs.Views.{ActiveView, MachineView}
use Rattle.vmx_device_looks.specs.Looks.{RxAt, with_rx}
use Rattle.vmx_device_looks.specs.Notes as device
use Rattle.vmx_device_laws.specs.Views.{DeviceView}
use Rattle.vmx_driver_steps.specs.Driver.{DriverView}
use Rattle.vmx_driver.specs.Notes as driver
use Rattle.vmx_note_laws.proofs.Queues.{both_rx}
use Rattle.vmx_replay_guests.specs.Passing.{AreAtRx, RxPassed}
use Rattle.vmx_replay_guests.proofs.Ends.{set_there, below_length, with_rx_twice, rx_active, rx_end, rx_put}

-- the driver's end gave a note
module _ (q : ℕ) (v : DriverView) (d : DeviceView) (t : AreAtRx q v d.machine) (note : RxNoteView) (v1 : DriverView) (n : driver.NotesRx q v note v1) where
  abbrev gave : RxDriverView
  gave = record t.end { notes_given = suc t.end.notes_given }

  ends_same : n.end ≡ t.end
  ends_same = n.at ∙ get_or_from_slice_get v.rx q t.end n.end t.at

  note_is : note ≡ ends.driver_note t.end
  note_is = n.tells ∙ ap ends.driver_note ends_same

  v1_is : v1 ≡ record v { rx = set v.rx q gave }
  v1_is = n.is ∙ ap (λ (e : RxDriverView). record v { rx = set v.rx q (record e { notes_given = suc e.notes_given }) }) ends_same

  rx_is : v1.rx ≡ set v.rx q gave
  rx_is = ap (λ (x : DriverView). x.rx) v1_is

  pub still_below : q < length v1.rx
  still_below = subst (λ (xs : List RxDriverView). q < length xs) (sym rx_is) (rw (length-set v.rx q gave) (below_length v.rx q t.end t.at))

  pub fits_device : device.FitsRx d.machine q note
  fits_device = record { here = t.here; key = ap (λ (x : RxNoteView). x.key) note_is ∙ t.key; side = ap (λ (x : RxNoteView). x.of_driver) note_is }

  -- and the device's heard it
  module _ (d1 : DeviceView) (h : device.HearsRx q note d.machine d1.machine) where
    pub m1_is : d1.machine ≡ with_rx (set t.here.active.ends.rx q h.after) d.machine
    m1_is = h.is ∙ ap (λ (a : ActiveView). with_rx (set a.ends.rx q h.after) d.machine) (rx_active d.machine q h.here t.here)

    abbrev pub heard_there : RxAt d1.machine q
    heard_there = rx_put d.machine d1.machine q t.here h.after m1_is

    heard_is : ends.DeviceHears t.here.end (ends.driver_note t.end) h.after
    heard_is = subst (λ (x : RxDeviceView × RxNoteView). ends.DeviceHears x.0 x.1 h.after) (λ i. (rx_end d.machine q h.here t.here i, note_is i)) h.hears

    -- it gave one
    module _ (back : RxNoteView) (d2 : DeviceView) (k : device.NotesRx q back d1.machine d2.machine) where
      notes_is : ends.NotesDevice h.after back k.after
      notes_is = subst (λ (x : RxDeviceView). ends.NotesDevice x back k.after) (rx_end d1.machine q k.here heard_there) k.notes

      m2_is : d2.machine ≡ with_rx (set t.here.active.ends.rx q k.after) d.machine
      m2_is = k.is
          ∙ ap (λ (a : ActiveView). with_rx (set a.ends.rx q k.after) d1.machine) (rx_active d1.machine q k.here heard_there)
          ∙ ap (λ (vs : List RxDeviceView). with_rx vs d1.machine) (set-set t.here.active.ends.rx q h.after k.after)
          ∙ ap (with_rx (set t.here.active.ends.rx q k.after)) m1_is
          ∙ with_rx_twice (set t.here.active.ends.rx q h.after) (set t.here.active.ends.rx q k.after) d.machine

      back_is : back ≡ ends.device_note h.after
      back_is = (notes_is.0 (ap (λ (x : RxDeviceView). x.given) heard_is.is ∙ heard_is.fine)).0

      pub fits_driver : driver.FitsRx q v1.rx back
      fits_driver = (
        λ e at. let same : e ≡ gave = at ∙ ap (λ (xs : List RxDriverView). get_or xs q e) rx_is ∙ get_or_from_slice_get (set v.rx q gave) q gave e (set_there v.rx q t.end gave t.at) in
            ap (λ (x : RxNoteView). x.key) back_is ∙ ap (λ (x : RxDeviceView). x.key) heard_is.is ∙ sym t.key ∙ sym (ap (λ (x : RxDriverView). x.key) same),
        ap (λ (x : RxNoteView). x.of_driver) back_is,
      )

      -- and the driver's heard it
      module _ (v2 : DriverView) (l : driver.HearsRx q v1 back v2) where
        gave_is : l.end ≡ gave
        gave_is = l.at ∙ ap (λ (xs : List RxDriverView). get_or xs q l.end) rx_is ∙ get_or_from_slice_get (set v.rx q gave) q gave l.end (set_there v.rx q t.end gave t.at)

        pub passed_rx : d1 ≡ record d { machine = d1.machine } → d2 ≡ record d1 { machine = d2.machine } → RxPassed q v d v2 d2
        passed_rx one two = record {
          there = t;
          end' = l.end';
          after = k.after;
          passes = both_rx t.end l.end' t.here.end k.after (record { told = h.after; hears = heard_is; back = back; notes = notes_is; heard = subst (λ (x : RxDriverView). ends.DriverHears x back l.end') gave_is l.hears });
          driver = l.is ∙ ap (λ (x : DriverView). record x { rx = set x.rx q l.end' }) v1_is ∙ ap (λ (xs : List RxDriverView). record v { rx = xs }) (set-set v.rx q gave l.end');
          device = two ∙ ap (λ (x : DeviceView). record x { machine = d2.machine }) one ∙ ap (λ (m : MachineView). record d { machine = m }) m2_is;
        }
