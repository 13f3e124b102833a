-- Notes both ways between the ends of one transmit queue, call by call.
use Rattle.std.proofs.Common.{◌≡◌, ℕ, suc, ◌<◌, List, length, get_or, set, sym, ap, ◌∙◌, subst}
use Rattle.std.proofs.lemmas.List.{set-set, length-set}
use Rattle.std.proofs.lemmas.Option.{get_or_from_slice_get}
use Rattle.vmx_ends.specs.Transmit.{TxDriverView, TxDeviceView, TxNoteView}
use Rattle.vmx_ends.specs.TransmitClauses as ends
use Rattle.vmx_machine_state.specs.Views.{ActiveView, MachineView}
use Rattle.vmx_device_looks.specs.Looks.{TxAt, with_tx}
use Rattle.vmx_device_looks.specs.Notes as device
use Rattle.vmx_device_laws.specs.Views.{DeviceView}
use Rattle.vmx_driver_steps.specs.Driver.{DriverView}
use Rattle.vmx_driver.specs.Notes as driver
use Rattle.vmx_note_laws.proofs.Queues.{both_tx}
use Rattle.vmx_replay_guests.specs.Passing.{AreAtTx, TxPassed}
use Rattle.vmx_replay_guests.proofs.Ends.{set_there, below_length, with_tx_twice, tx_active, tx_end, tx_put}

-- the driver's end gave a note
module _ (q : ℕ) (v : DriverView) (d : DeviceView) (t : AreAtTx q v d.machine) (note : TxNoteView) (v1 : DriverView) (n : driver.NotesTx q v note v1) where
  abbrev gave : TxDriverView
  gave = record t.end { notes_given = suc t.end.notes_given }

  ends_same : n.end ≡ t.end
  ends_same = n.at ∙ get_or_from_slice_get v.tx q t.end n.end t.at

  note_is : note ≡ ends.driver_note t.end
  note_is = n.tells ∙ ap ends.driver_note ends_same

  v1_is : v1 ≡ record v { tx = set v.tx q gave }
  v1_is = n.is ∙ ap (λ (e : TxDriverView). record v { tx = set v.tx q (record e { notes_given = suc e.notes_given }) }) ends_same

  tx_is : v1.tx ≡ set v.tx q gave
  tx_is = ap (λ (x : DriverView). x.tx) v1_is

  pub still_below : q < length v1.tx
  still_below = subst (λ (xs : List TxDriverView). q < length xs) (sym tx_is) (rw (length-set v.tx q gave) (below_length v.tx q t.end t.at))

  pub fits_device : device.FitsTx d.machine q note
  fits_device = record { here = t.here; key = ap (λ (x : TxNoteView). x.key) note_is ∙ t.key; side = ap (λ (x : TxNoteView). x.of_driver) note_is }

  -- and the device's heard it
  module _ (d1 : DeviceView) (h : device.HearsTx q note d.machine d1.machine) where
    pub m1_is : d1.machine ≡ with_tx (set t.here.active.ends.tx q h.after) d.machine
    m1_is = h.is ∙ ap (λ (a : ActiveView). with_tx (set a.ends.tx q h.after) d.machine) (tx_active d.machine q h.here t.here)

    abbrev pub heard_there : TxAt d1.machine q
    heard_there = tx_put d.machine d1.machine q t.here h.after m1_is

    heard_is : ends.DeviceHears t.here.end (ends.driver_note t.end) h.after
    heard_is = subst (λ (x : TxDeviceView × TxNoteView). ends.DeviceHears x.0 x.1 h.after) (λ i. (tx_end d.machine q h.here t.here i, note_is i)) h.hears

    -- it gave one
    module _ (back : TxNoteView) (d2 : DeviceView) (k : device.NotesTx q back d1.machine d2.machine) where
      notes_is : ends.NotesDevice h.after back k.after
      notes_is = subst (λ (x : TxDeviceView). ends.NotesDevice x back k.after) (tx_end d1.machine q k.here heard_there) k.notes

      m2_is : d2.machine ≡ with_tx (set t.here.active.ends.tx q k.after) d.machine
      m2_is = k.is
          ∙ ap (λ (a : ActiveView). with_tx (set a.ends.tx q k.after) d1.machine) (tx_active d1.machine q k.here heard_there)
          ∙ ap (λ (vs : List TxDeviceView). with_tx vs d1.machine) (set-set t.here.active.ends.tx q h.after k.after)
          ∙ ap (with_tx (set t.here.active.ends.tx q k.after)) m1_is
          ∙ with_tx_twice (set t.here.active.ends.tx q h.after) (set t.here.active.ends.tx q k.after) d.machine

      back_is : back ≡ ends.device_note h.after
      back_is = (notes_is.0 (ap (λ (x : TxDeviceView). x.given) heard_is.is ∙ heard_is.fine)).0

      pub fits_driver : driver.FitsTx q v1.tx back
      fits_driver = (
        λ e at. let same : e ≡ gave = at ∙ ap (λ (xs : List TxDriverView). get_or xs q e) tx_is ∙ get_or_from_slice_get (set v.tx q gave) q gave e (set_there v.tx q t.end gave t.at) in
            ap (λ (x : TxNoteView). x.key) back_is ∙ ap (λ (x : TxDeviceView). x.key) heard_is.is ∙ sym t.key ∙ sym (ap (λ (x : TxDriverView). x.key) same),
        ap (λ (x : TxNoteView). x.of_driver) back_is,
      )

      -- and the driver's heard it
      module _ (v2 : DriverView) (l : driver.HearsTx q v1 back v2) where
        gave_is : l.end ≡ gave
        gave_is = l.at ∙ ap (λ (xs : List TxDriverView). get_or xs q l.end) tx_is ∙ get_or_from_slice_get (set v.tx q gave) q gave l.end (set_there v.tx q t.end gave t.at)

        pub passed_tx : d1 ≡ record d { machine = d1.machine } → d2 ≡ record d1 { machine = d2.machine } → TxPassed q v d v2 d2
        passed_tx one two = record {
          there = t;
          end' = l.end';
          after = k.after;
          passes = both_tx t.end l.end' t.here.end k.after (record { told = h.after; hears = heard_is; back = back; notes = notes_is; heard = subst (λ (x : TxDriverView). ends.DriverHears x back l.end') gave_is l.hears });
          driver = l.is ∙ ap (λ (x : DriverView). record x { tx = set x.tx q l.end' }) v1_is ∙ ap (λ (xs : List TxDriverView). record v { tx = xs }) (set-set v.tx q gave l.end');
          device = two ∙ ap (λ (x : DeviceView). record x { machine = d2.machine }) one ∙ ap (λ (m : MachineView). record d { machine = m }) m2_is;
        }
