-- A device stays as it was said after its ends gave or heard notes.
use Rattle.std.proofs.Common.{◌≡◌, ℕ, suc, ◌+◌, ◌*◌, ◌%◌, ◌≤◌, Bool, true, false, List, [], ◌∷◌, ◌++◌, length, map, set, refl, sym, ap, ◌∙◌, subst, arith, Some}
use Rattle.std.specs.List.{slice_get, filter_map, AllByRecursion}
use Rattle.std.proofs.lemmas.List.{length-set}
use Rattle.vmx_ends.specs.Transmit.{TxDeviceView, TxNoteView}
use Rattle.vmx_ends.specs.Receive.{RxDeviceView, RxNoteView, used, took1, took2}
use Rattle.vmx_ends.specs.TransmitClauses as tx
use Rattle.vmx_ends.specs.ReceiveClauses as rx
use Rattle.vmx_ends.specs.declared.packet.Packet.{Packet}
use Rattle.vmx_link.specs.Views.{LinkOutView, LinkInView, LinkNoteView}
use Rattle.vmx_link.specs.Ends.{out_after, in_after}
use Rattle.vmx_machine_state.specs.Views.{ActiveView, MachineView}
use Rattle.vmx_model.specs.Lists.{upto, count}
use Rattle.vmx_model.specs.Stats.{counted, is_lost_on}
use Rattle.vmx_model.specs.Meta.{arrival_of}
use Rattle.vmx_model.specs.Account.{need, tag_to, place_to, look_to}
use Rattle.vmx_device_looks.specs.Queues.{each_set, each_at, each_push, each_front, each_last, all_map, all_set, all_at}
use Rattle.vmx_device_looks.specs.Looks.{RxAt, with_rx}
use Rattle.vmx_device_looks.specs.Notes.{NotesTx, HearsTx, NotesRx, HearsRx}
use Rattle.vmx_device_laws.specs.Views.{DeviceView, beside_of, held_ends}
use Rattle.vmx_device_laws.specs.LinkNotes.{NotesOut, NotesIn, HearsOut, HearsIn}
use Rattle.vmx_device_laws.specs.Keeps.{Keeps, GaveOn, EndsSay, OutSays, AreOwn, IsOwnFrame}
use Rattle.vmx_device_laws.proofs.Lists.{length_last}
use Rattle.vmx_device_laws.proofs.Held.{active_with, opened, with_rx_end, held_rx_same, trusted_rx}
use Rattle.vmx_device_laws.proofs.InLook.{keeps_unpulled}
use Rattle.vmx_device_laws.proofs.TxKeeps.{DidNothing, keeps_same_end, at_same, by_same}

-- ------------------------------------------------------------ transmit ends

noted_same : (v v' : TxDeviceView) (note : TxNoteView) (b : Bool) → v.given ≡ b → tx.NotesDevice v note v' → DidNothing v v'
noted_same v v' note false e n = let is = (n.0 e).1 in record { key = ap (λ (u : TxDeviceView). u.key) is; taken = ap (λ (u : TxDeviceView). u.taken) is; completed = ap (λ (u : TxDeviceView). u.completed) is; given = ap (λ (u : TxDeviceView). u.given) is }
noted_same v v' note true e n = let is = (n.1 e).1 in record { key = ap (λ (u : TxDeviceView). u.key) is; taken = ap (λ (u : TxDeviceView). u.taken) is; completed = ap (λ (u : TxDeviceView). u.completed) is; given = ap (λ (u : TxDeviceView). u.given) is }

pub keeps_noted_tx : (d : DeviceView) → Keeps d → (q : ℕ) (note : TxNoteView) (m : MachineView) → NotesTx q note d.machine m → Keeps (record d { machine = m })
keeps_noted_tx d k q note m n = keeps_same_end d k q n.here n.after m (noted_same n.here.end n.after note n.here.end.given refl n.notes) n.is

pub keeps_heard_tx : (d : DeviceView) → Keeps d → (q : ℕ) (note : TxNoteView) (m : MachineView) → HearsTx q note d.machine m → Keeps (record d { machine = m })
keeps_heard_tx d k q note m n =
    let is = n.hears.is in
    keeps_same_end d k q n.here n.after m (record { key = ap (λ (u : TxDeviceView). u.key) is; taken = ap (λ (u : TxDeviceView). u.taken) is; completed = ap (λ (u : TxDeviceView). u.completed) is; given = ap (λ (u : TxDeviceView). u.given) is }) n.is

-- ------------------------------------------------------------ receive ends

-- an end that delivered and refused nothing new
pub record GaveNothing (v v' : RxDeviceView) : Type 0 where
  pub key : v'.key ≡ v.key
  pub delivered : v'.delivered ≡ v.delivered
  pub refused : v'.refused ≡ v.refused
  pub given : v'.given ≡ v.given

module _ (d : DeviceView) (a : ActiveView) (k : Keeps (active_with d a)) (q : ℕ) (v v' : RxDeviceView) (at : slice_get a.ends.rx q ≡ Some v) (same : GaveNothing v v') where
  abbrev a' : ActiveView
  a' = with_rx_end a q v'

  many : length (k.past ++ a'.ends ∷ []) ≡ length (k.past ++ a.ends ∷ [])
  many = length_last k.past a'.ends ∙ sym (length_last k.past a.ends)

  still_gave : (act : ℕ) → GaveOn (beside_of (active_with d a)) d.entries act q v → GaveOn (beside_of (active_with d a)) d.entries act q v'
  still_gave act s = record {
    delivered = ap (map arrival_of) same.delivered ∙ s.delivered;
    refused = ap (map need) same.refused ∙ s.refused;
    places = s.places ∙ ap length (sym same.delivered);
    few = λ g. let was = s.few (sym same.given ∙ g) in (subst (λ ds. used took1 ds ≤ 16 * length ds) (sym same.delivered) was.0, subst (λ ds. used took2 ds ≤ 16 * length ds) (sym same.delivered) was.1);
    within = λ g. let was = s.within (sym same.given ∙ g) in (subst (λ ds. used took1 ds ≤ 4096) (sym same.delivered) was.0, subst (λ ds. used took2 ds ≤ 4096) (sym same.delivered) was.1);
  }

  now_says : (act : ℕ) → EndsSay d.table (beside_of (active_with d a)) d.entries act a.ends → EndsSay d.table (beside_of (active_with d a)) d.entries act a'.ends
  now_says act s =
      let zero_q : 0 + q ≡ q = omega arith in
      let old : GaveOn (beside_of (active_with d a)) d.entries act q v = subst (λ (i : ℕ). GaveOn (beside_of (active_with d a)) d.entries act i v) zero_q (each_at (GaveOn (beside_of (active_with d a)) d.entries act) 0 a.ends.rx q v at s.rx) in record {
        tx = s.tx;
        rx = each_set (GaveOn (beside_of (active_with d a)) d.entries act) (GaveOn (beside_of (active_with d a)) d.entries act) 0 a.ends.rx q v' (λ i w ne h. h) (subst (λ (i : ℕ). GaveOn (beside_of (active_with d a)) d.entries act i v') (sym zero_q) (still_gave act old)) s.rx;
      }

  own_same : (outs : List LinkOutView) → AllByRecursion (AreOwn d.port (k.past ++ a.ends ∷ [])) outs → AllByRecursion (AreOwn d.port (k.past ++ a'.ends ∷ [])) outs
  own_same outs h = all_map (AreOwn d.port (k.past ++ a.ends ∷ [])) (AreOwn d.port (k.past ++ a'.ends ∷ []))
      (λ o are. all_map _ _ (λ x own. record { guest = own.guest; is = ap (λ (fs : List (List ℕ)). slice_get fs x.tag.place) (at_same k.past a.ends a'.ends (λ j. refl) x.tag.activation x.tag.queue) ∙ own.is }) o.pushed are) outs h

  keeps_rx_idle : Keeps (active_with d a')
  keeps_rx_idle = record {
    past = k.past;
    bags = k.bags;
    begun = k.begun ∙ sym many;
    says = each_push (EndsSay d.table (beside_of (active_with d a)) d.entries) 0 k.past a'.ends (each_front (EndsSay d.table (beside_of (active_with d a)) d.entries) 0 k.past a.ends k.says)
        (now_says (0 + length k.past) (each_last (EndsSay d.table (beside_of (active_with d a)) d.entries) 0 k.past a.ends k.says));
    unsaid = λ act le. k.unsaid act (omega (arith, le, many));
    fit = (k.fit.0, length-set a.ends.rx q v' ∙ k.fit.1, k.fit.2, k.fit.3);
    lawful = k.lawful;
    told = k.told;
    tracks = record { state = k.tracks.state; held = k.tracks.held ∙ ap Some (held_rx_same a q v v' at same.key same.given) };
    serving = k.serving;
    out = k.out;
    own = own_same d.out k.own;
    input = k.input;
    tx_errors = k.tx_errors;
    rx_errors = k.rx_errors;
    tx_stats = k.tx_stats ∙ (λ i. map (λ j. counted (sym (by_same k.past a.ends a'.ends (λ j. refl) j) i) (k.tx_errors j) (count (is_lost_on j) d.entries)) (upto 0 8));
    rx_stats = k.rx_stats;
    stopped = k.stopped;
    errors = k.errors;
    fine = λ all. k.fine (trusted_rx a q v v' at same.key same.given k.past all);
    ports = k.ports;
    interrupts = k.interrupts;
  }

with_rx_is : (d : DeviceView) (a : ActiveView) → d.machine.active ≡ Some a → (vs : List RxDeviceView) → with_rx vs d.machine ≡ record d.machine { active = Some (record a { ends = record a.ends { rx = vs } }) }
with_rx_is d a act vs = λ i. with_rx vs (record d.machine { active = act i })

keeps_same_rx : (d : DeviceView) → Keeps d → (q : ℕ) (here : RxAt d.machine q) (v' : RxDeviceView) (m : MachineView) → GaveNothing here.end v' → m ≡ with_rx (set here.active.ends.rx q v') d.machine → Keeps (record d { machine = m })
keeps_same_rx d k q here v' m same is =
    subst (λ (x : MachineView). Keeps (record d { machine = x })) (sym (is ∙ with_rx_is d here.active here.is_active (set here.active.ends.rx q v')))
    (keeps_rx_idle d here.active (opened d here.active here.is_active k) q here.end v' here.at same)

noted_rx_same : (v v' : RxDeviceView) (note : RxNoteView) (b : Bool) → v.given ≡ b → rx.NotesDevice v note v' → GaveNothing v v'
noted_rx_same v v' note false e n = let is = (n.0 e).1 in record { key = ap (λ (u : RxDeviceView). u.key) is; delivered = ap (λ (u : RxDeviceView). u.delivered) is; refused = ap (λ (u : RxDeviceView). u.refused) is; given = ap (λ (u : RxDeviceView). u.given) is }
noted_rx_same v v' note true e n = let is = (n.1 e).1 in record { key = ap (λ (u : RxDeviceView). u.key) is; delivered = ap (λ (u : RxDeviceView). u.delivered) is; refused = ap (λ (u : RxDeviceView). u.refused) is; given = ap (λ (u : RxDeviceView). u.given) is }

pub keeps_noted_rx : (d : DeviceView) → Keeps d → (q : ℕ) (note : RxNoteView) (m : MachineView) → NotesRx q note d.machine m → Keeps (record d { machine = m })
keeps_noted_rx d k q note m n = keeps_same_rx d k q n.here n.after m (noted_rx_same n.here.end n.after note n.here.end.given refl n.notes) n.is

pub keeps_heard_rx : (d : DeviceView) → Keeps d → (q : ℕ) (note : RxNoteView) (m : MachineView) → HearsRx q note d.machine m → Keeps (record d { machine = m })
keeps_heard_rx d k q note m n =
    let is = n.hears.is in
    keeps_same_rx d k q n.here n.after m (record { key = ap (λ (u : RxDeviceView). u.key) is; delivered = ap (λ (u : RxDeviceView). u.delivered) is; refused = ap (λ (u : RxDeviceView). u.refused) is; given = ap (λ (u : RxDeviceView). u.given) is }) n.is

-- ------------------------------------------------------------ links

module _ (d : DeviceView) (k : Keeps d) (n : ℕ) (o o' : LinkOutView) (at : slice_get d.out n ≡ Some o) (from : o'.from ≡ o.from) (to : o'.to ≡ o.to) (capacity : o'.capacity ≡ o.capacity) (pushed : o'.pushed ≡ o.pushed) (full : o'.full ≡ o.full) where
  out_says : (j : ℕ) → OutSays d.port d.entries j o → OutSays d.port d.entries j o'
  out_says j s = record {
    from = from ∙ s.from;
    to = to ∙ s.to;
    capacity = capacity ∙ s.capacity;
    tags = ap (map (λ (x : Packet). x.tag)) pushed ∙ s.tags ∙ ap (λ (p : ℕ). filter_map (tag_to p) d.entries) (sym to);
    places = ap (λ (p : ℕ). filter_map (place_to p) d.entries) to ∙ s.places ∙ ap (λ (xs : List Packet). upto 0 (length xs)) (sym pushed);
    looks = ap (λ (p : ℕ). filter_map (look_to p) d.entries) to ∙ s.looks ∙ ap (λ (xs : List (ℕ × ℕ)). upto 0 (length xs)) (sym full);
    full = subst (AllByRecursion (λ (x : ℕ × ℕ). (64 ≤ x.0) × (x.1 % 2 ≡ 1))) (sym full) s.full;
  }

  pub keeps_out : Keeps (record d { out = set d.out n o' })
  keeps_out =
      let zero_n : 0 + n ≡ n = omega arith in
      let old : OutSays d.port d.entries (0 + n) o = each_at (OutSays d.port d.entries) 0 d.out n o at k.out in record {
        past = k.past;
        bags = k.bags;
        begun = k.begun;
        says = k.says;
        unsaid = k.unsaid;
        fit = k.fit;
        lawful = k.lawful;
        told = k.told;
        tracks = k.tracks;
        serving = k.serving;
        out = each_set (OutSays d.port d.entries) (OutSays d.port d.entries) 0 d.out n o' (λ j y ne h. h) (out_says (0 + n) old) k.out;
        own = all_set (AreOwn d.port (k.past ++ held_ends d.machine.active)) d.out n o' (subst (AllByRecursion (λ (x : Packet). IsOwnFrame d.port (k.past ++ held_ends d.machine.active) x.tag x.frame)) (sym pushed) (all_at (AreOwn d.port (k.past ++ held_ends d.machine.active)) d.out n o at k.own)) k.own;
        input = k.input;
        tx_errors = k.tx_errors;
        rx_errors = k.rx_errors;
        tx_stats = k.tx_stats;
        rx_stats = k.rx_stats;
        stopped = k.stopped;
        errors = k.errors;
        fine = k.fine;
        ports = (k.ports.0, ap suc (length-set d.out n o') ∙ k.ports.1, k.ports.2 ∙ sym (length-set d.out n o'), k.ports.3);
        interrupts = k.interrupts;
      }

pub keeps_noted_out : (d : DeviceView) → Keeps d → (n : ℕ) (note : LinkNoteView) (outs : List LinkOutView) → NotesOut n note d.out outs → Keeps (record d { out = outs })
keeps_noted_out d k n note outs s = subst (λ (ls : List LinkOutView). Keeps (record d { out = ls })) (sym s.is) (keeps_out d k n s.link (record s.link { notes_given = suc s.link.notes_given }) s.at refl refl refl refl refl)

pub keeps_heard_out : (d : DeviceView) → Keeps d → (n : ℕ) (note : LinkNoteView) (outs : List LinkOutView) → HearsOut n note d.out outs → Keeps (record d { out = outs })
keeps_heard_out d k n note outs s = subst (λ (ls : List LinkOutView). Keeps (record d { out = ls })) (sym s.is) (keeps_out d k n s.link (out_after s.link note) s.at refl refl refl refl refl)

pub keeps_noted_in : (d : DeviceView) → Keeps d → (n : ℕ) (note : LinkNoteView) (ins : List LinkInView) → NotesIn n note d.input ins → Keeps (record d { input = ins })
keeps_noted_in d k n note ins s = subst (λ (ls : List LinkInView). Keeps (record d { input = ls })) (sym s.is) (keeps_unpulled d k n s.link (record s.link { notes_given = suc s.link.notes_given }) s.at (record { from = refl; to = refl; capacity = refl; pulled = refl }))

pub keeps_heard_in : (d : DeviceView) → Keeps d → (n : ℕ) (note : LinkNoteView) (ins : List LinkInView) → HearsIn n note d.input ins → Keeps (record d { input = ins })
keeps_heard_in d k n note ins s = subst (λ (ls : List LinkInView). Keeps (record d { input = ls })) (sym s.is) (keeps_unpulled d k n s.link (in_after s.link note) s.at (record { from = refl; to = refl; capacity = refl; pulled = refl }))
