-- A turn of a device whose driver posted a frame: the frame goes through its queue and to its targets, and nothing else changes.
use Rattle.std.proofs.Common.{◌≡◌, ℕ, zero, suc, ◌+◌, ◌-◌, ◌<◌, Bool, true, true≢false, List, [], ◌∷◌, ◌++◌, length, map, set, get_or, refl, sym, ap, ap₂, ◌∙◌, subst, arith, Some, None, Option, append-nil}
use Rattle.std.specs.Prelude.{is_some}
use Rattle.std.specs.List.{slice_get}
use Rattle.std.proofs.lemmas.List.{length-map}
use Rattle.vmx_switch.specs.Ports.{target_ports}
use Rattle.vmx_ends.specs.declared.packet.Tag.{Tag}
use Rattle.vmx_ends.specs.Transmit.{TxDriverView, TxDeviceView}
use Rattle.vmx_ends.specs.TransmitCore.{TxCore}
use Rattle.vmx_link.specs.Views.{LinkOutView, LinkInView}
use Rattle.vmx_device_state.specs.SetupView.{setup_view}
use Rattle.vmx_regs.specs.declared.known.Calls.{Calls}
use Rattle.vmx_machine_state.specs.Views.{EndsView, ActiveView, MachineView}
use Rattle.vmx_model.specs.declared.journal.Entry.{Entry}
use Rattle.vmx_model.specs.declared.journal.Entry.TheVariants as entry
use Rattle.vmx_model.specs.Bags.{Pairwise}
use Rattle.vmx_model.specs.Lists.{count}
use Rattle.vmx_model.specs.Journal.{is_activation}
use Rattle.vmx_model.specs.QueueSteps.{sent_before}
use Rattle.vmx_model.specs.Serial.{at_number, where_it, tx_is, through}
use Rattle.vmx_model.specs.Wire.{posted_form, wire_form}
use Rattle.vmx_model.proofs.Copies.{tx_queue_below}
use Rattle.vmx_device_looks.specs.Links.{PutsOut, PutsFrame}
use Rattle.vmx_device_looks.specs.Queues.{get_at}
use Rattle.vmx_device_laws.specs.Views.{DeviceView, tx_held}
use Rattle.vmx_device_laws.specs.Pairs.{tx_of}
use Rattle.vmx_device_laws.proofs.Lists.{count_append}
use Rattle.vmx_driver_steps.specs.declared.progress.Stage.{Stage}
use Rattle.vmx_driver_steps.specs.Progress.{in_hand, count_in, setup_now}
use Rattle.vmx_driver_steps.specs.Driver.{DriverView, SendsPlan, posted_as}
use Rattle.vmx_driver_steps.specs.Driving.{PostsNext}
use Rattle.vmx_driver_steps.specs.Queues.{IsReaped}
use Rattle.vmx_driver_steps.specs.Each.{each_at, pair_length}
use Rattle.vmx_replay_worlds.specs.Guests.{live_tx, live_rx, met_tx, met_rx, joined, is_arrival, begun_by, ends_by, seat_of}
use Rattle.vmx_replay_worlds.specs.Worlds.{in_part}
use Rattle.vmx_trusted_turns.specs.Trusted.{IsTrusted, LooksAll}
use Rattle.vmx_trusted_turns.proofs.Looked.{looks_tx}
use Rattle.vmx_replay_steps.specs.Between.{IsThrough, IsToldSent, WasSent}
use Rattle.vmx_replay_steps.specs.Turns.{SendsBetween, WasPutOut, queue_of}
use Rattle.vmx_replay_steps.proofs.Left.{Left, left_steps}
use Rattle.vmx_replay_steps.proofs.Taken.{tag_at, posted_on, one_takes}
use Rattle.vmx_replay_steps.proofs.Incoming.{InNone, in_none, bare_nothing, all_bare}
use Rattle.vmx_replay_steps.proofs.Named.{tx_where}
use Rattle.vmx_replay_steps.proofs.Standing.{Split, split, begun_is, active_led, rx_where_ends}

-- ------------------------------------------------------------ reaping changes nothing here

pub reaped_live : (ds ds' : List TxDriverView) (es : List TxDeviceView) → Pairwise IsReaped ds ds' → joined live_tx ds' es ≡ joined live_tx ds es
reaped_live [] [] es h = refl
reaped_live [] (d' ∷ ds') es h = absurd h
reaped_live (d ∷ ds) [] es h = absurd h
reaped_live (d ∷ ds) (d' ∷ ds') [] h = refl
reaped_live (d ∷ ds) (d' ∷ ds') (e ∷ es) h = ap₂ (λ (c : TxCore) (cs : List TxCore). c ∷ cs) (ap (λ (z : TxDriverView). live_tx z e) h.0.is) (reaped_live ds ds' es h.1)

pub reaped_through : (ds ds' : List TxDriverView) (es : List TxDeviceView) → Pairwise IsReaped ds ds' → Pairwise IsThrough ds es → Pairwise IsThrough ds' es
reaped_through [] [] [] h t = tt
reaped_through [] [] (e ∷ es) h t = absurd t
reaped_through [] (d' ∷ ds') es h t = absurd h
reaped_through (d ∷ ds) [] es h t = absurd h
reaped_through (d ∷ ds) (d' ∷ ds') [] h t = absurd t
reaped_through (d ∷ ds) (d' ∷ ds') (e ∷ es) h t = (t.0 ∙ sym (ap (λ (z : TxDriverView). z.sent) h.0.is), reaped_through ds ds' es h.1 t.1)

reaped_at : (ds ds' : List TxDriverView) (q : ℕ) (d : TxDriverView) → Pairwise IsReaped ds ds' → slice_get ds' q ≡ Some d → (d.sent ≡ (get_or ds q d).sent)
reaped_at [] [] q d h e = refl
reaped_at [] (d' ∷ ds') q d h e = absurd h
reaped_at (x ∷ ds) [] q d h e = absurd h
reaped_at (x ∷ ds) (d' ∷ ds') zero d h e = let s : d ≡ d' = cc e in ap (λ (z : TxDriverView). z.sent) s ∙ ap (λ (z : TxDriverView). z.sent) h.0.is
reaped_at (x ∷ ds) (d' ∷ ds') (suc q) d h e = reaped_at ds ds' q d h.1 e

-- ------------------------------------------------------------ what was put out are no arrivals

no_arrivals : (port : ℕ) (t : Tag) (frame : List ℕ) (tos : List ℕ) (es : List Entry) (old new : List LinkOutView) → PutsOut port t frame tos es old new → (before : List Entry) → count is_arrival (before ++ es) ≡ count is_arrival before
no_arrivals port t frame [] es old new p before = ap (λ (xs : List Entry). count is_arrival (before ++ xs)) p.0 ∙ ap (count is_arrival) (append-nil before)
no_arrivals port t frame (to ∷ tos) es old new (w, (rest, (mid, is, sends, more))) before =
    ap (λ (xs : List Entry). count is_arrival (before ++ xs)) is ∙ count_append is_arrival before (entry.Out t to w ∷ rest) ∙ sym (count_append is_arrival before rest) ∙ no_arrivals port t frame tos rest mid new more before

none_arrived : (port : ℕ) (t : Tag) (frame : List ℕ) (tos : List ℕ) (es : List Entry) (old new : List LinkOutView) → PutsFrame port t frame tos es old new → (before : List Entry) → count is_arrival (before ++ es) ≡ count is_arrival before
none_arrived port t frame [] es old new p before = ap (λ (xs : List Entry). count is_arrival (before ++ xs)) p.0 ∙ count_append is_arrival before (entry.Lost t ∷ []) ∙ plus_zero (count is_arrival before)
  where
    plus_zero : (n : ℕ) → n + 0 ≡ n
    plus_zero n = omega arith
none_arrived port t frame (to ∷ tos) es old new p before = no_arrivals port t frame (to ∷ tos) es old new p before

ends_tx : (o : Option ActiveView) (back : EndsView) → is_some o ≡ true → (ends_by o back).tx ≡ tx_of o
ends_tx None back e = absurd (true≢false (sym e))
ends_tx (Some a) back e = refl

-- ------------------------------------------------------------ the whole step

module _ (v v' : DriverView) (links : List LinkOutView) (worked : Bool) (old new : DeviceView) (b : SendsBetween v v' links worked old new) where
  -- the post, from the driver's state but for what was reaped
  p : PostsNext (record v { tx = b.posts.mid.tx }) v'
  p = subst (λ (m : DriverView). PostsNext m v') b.posts.reaps.is b.posts.posts

  tx_is' : v'.tx ≡ set b.posts.mid.tx (queue_of v p.frame) (posted_on p.end (posted_form v.plan p.frame.frame))
  tx_is' = ap (λ (x : DriverView). x.tx) p.is

  many : length b.posts.mid.tx ≡ v.plan.setup.tx_queues
  many = pair_length IsReaped v.tx b.posts.mid.tx b.posts.reaps.tx ∙ b.stands.driver.tx_count ∙ ap (λ (g : Stage). count_in g v.plan.setup.tx_queues) b.active

  below : queue_of v p.frame < length b.posts.mid.tx
  below = let low = v.plan.setup.tx_queues_low in let lt = tx_queue_below p.frame.frame v.plan.setup.tx_queues (omega (arith, low)) in let m = many in omega (arith, lt, m)

  at : slice_get b.posts.mid.tx (queue_of v p.frame) ≡ Some p.end
  at = get_at b.posts.mid.tx (queue_of v p.frame) p.end below p.at

  -- a post leaves the registers
  calls : v'.calls ≡ v.calls
  calls = ap (λ (x : DriverView). x.calls) p.is

  sp : Split old new
  sp = split v worked old new b.once b.stands.caught_up.same (ap (λ (c : Calls). c.turns) (sym calls) ∙ b.heard.caught_up.same)

  abbrev rung : DeviceView
  rung = record old { calls = sp.calls; masks = sp.masks }

  l : LooksAll rung sp.sent × IsTrusted sp.sent.machine
  l = looks_tx sp.taken rung sp.sent sp.takes b.stands.trusted

  left : Left rung sp.sent
  left = left_steps (tx_held old.machine.active) sp.taken rung sp.sent sp.takes

  n : InNone (length sp.sent.input) sp.sent new
  n = in_none (length sp.sent.input) sp.pulled sp.sent new sp.pulls (λ k lt. bare_nothing links sp.sent new k (λ o i at_o at_i. all_bare links old.input k o i b.bare at_o (ap (λ (ls : List LinkInView). slice_get ls k) (sym left.input) ∙ at_i)) b.heard.pushed)

  machine : new.machine ≡ sp.sent.machine
  machine = ap (λ (x : DeviceView). x.machine) n.is

  ended : count is_activation old.entries - 1 ≡ v.at.ended
  ended = ap (λ (k : ℕ). k - 1) (begun_is v old b.stands ∙ ap (λ (g : Stage). v.at.ended + in_hand g) b.active) ∙ one_less v.at.ended
    where
      one_less : (k : ℕ) → k + 1 - 1 ≡ k
      one_less k = omega arith

  told : Pairwise IsToldSent (set b.posts.mid.tx (queue_of v p.frame) (posted_on p.end (posted_form v.plan p.frame.frame))) (tx_of old.machine.active)
  told = subst (λ (ds : List TxDriverView). Pairwise IsToldSent ds (tx_of old.machine.active)) tx_is' b.told

  heard : Pairwise WasSent (set b.posts.mid.tx (queue_of v p.frame) (posted_on p.end (posted_form v.plan p.frame.frame))) (tx_of sp.sent.machine.active)
  heard = subst (λ (z : List TxDriverView × MachineView). Pairwise WasSent z.0 (tx_of z.1.active)) (λ i. (tx_is' i, machine i)) b.heard.sent

  -- the frame's place is the number of frames before it on its queue
  place : length p.end.sent ≡ length (sent_before v.plan v.at.ended (queue_of v p.frame) v.at.next)
  place =
      let z : 0 + queue_of v p.frame ≡ queue_of v p.frame = omega arith in
      let lt : queue_of v p.frame < length v.tx = (let m = pair_length IsReaped v.tx b.posts.mid.tx b.posts.reaps.tx in let k = below in omega (arith, m, k)) in
      let sends : SendsPlan v.guest v.plan v.at.ended v.at.next (0 + queue_of v p.frame) (get_or v.tx (queue_of v p.frame) p.end) = each_at (SendsPlan v.guest v.plan v.at.ended v.at.next) 0 v.tx (queue_of v p.frame) p.end lt b.stands.driver.tx in
      ap length (reaped_at v.tx b.posts.mid.tx (queue_of v p.frame) p.end b.posts.reaps.tx at ∙ sends.sent) ∙ length-map (sent_before v.plan v.at.ended (0 + queue_of v p.frame) v.at.next) posted_as
      ∙ ap (λ (k : ℕ). length (sent_before v.plan v.at.ended k v.at.next)) z

  -- an active device stays active
  on : is_some old.machine.active ≡ true
  on = let x = active_led v old b.stands b.active in ap (λ (o : Option ActiveView). is_some o) x.1

  pub was_put_out : WasPutOut v v' old new
  was_put_out =
      let es = l.0.entries in
      let more : sp.sent.entries ≡ old.entries ++ es = l.0.is in
      let t = one_takes old.port old.table (count is_activation old.entries - 1) (posted_form v.plan p.frame.frame) 0 (queue_of v p.frame) b.posts.mid.tx (tx_of old.machine.active) (tx_of sp.sent.machine.active) p.end es old.out sp.sent.out at
      (reaped_through v.tx b.posts.mid.tx (tx_of old.machine.active) b.posts.reaps.tx b.stands.through) told heard l.0.each in
      let at_zero : 0 + queue_of v p.frame ≡ queue_of v p.frame = omega arith in
      let out : sp.sent.out ≡ new.out = sym (ap (λ (x : DeviceView). x.out) n.is) in
      let puts : PutsFrame old.port (tag_at old.port v.at.ended (queue_of v p.frame) (length (sent_before v.plan v.at.ended (queue_of v p.frame) v.at.next))) (wire_form (posted_form v.plan p.frame.frame)) (target_ports old.table old.port (wire_form (posted_form v.plan p.frame.frame))) es old.out new.out =
      subst (λ (z : ℕ × ℕ × ℕ × List LinkOutView). PutsFrame old.port (tag_at old.port z.0 z.1 z.2) (wire_form (posted_form v.plan p.frame.frame)) (target_ports old.table old.port (wire_form (posted_form v.plan p.frame.frame))) es old.out z.3) (λ i. (ended i, at_zero i, place i, out i)) t.0.puts in
      let arrivals : count is_arrival sp.sent.entries ≡ count is_arrival old.entries = ap (count is_arrival) more ∙ none_arrived old.port _ _ _ es old.out new.out puts old.entries in
      let on' : is_some sp.sent.machine.active ≡ true = left.machine.active ∙ on in
      let txs : joined live_tx v'.tx (ends_by sp.sent.machine.active (record { tx = v.tx_held; rx = v.rx_held })).tx ≡ at_number (queue_of v p.frame) (through (posted_form v.plan p.frame.frame)) (joined live_tx v.tx (ends_by old.machine.active (record { tx = v.tx_held; rx = v.rx_held })).tx) =
      ap₂ (joined live_tx) tx_is' (ends_tx sp.sent.machine.active (record { tx = v.tx_held; rx = v.rx_held }) on') ∙ t.1
      ∙ ap (at_number (queue_of v p.frame) (through (posted_form v.plan p.frame.frame))) (reaped_live v.tx b.posts.mid.tx (tx_of old.machine.active) b.posts.reaps.tx ∙ ap (joined live_tx v.tx) (sym (ends_tx old.machine.active (record { tx = v.tx_held; rx = v.rx_held }) on))) in
      let queues : map met_tx v.tx_facts ++ joined live_tx v'.tx (ends_by sp.sent.machine.active (record { tx = v.tx_held; rx = v.rx_held })).tx ≡ where_it (tx_is v.at.ended (queue_of v p.frame)) (through (posted_form v.plan p.frame.frame)) (map met_tx v.tx_facts ++ joined live_tx v.tx (ends_by old.machine.active (record { tx = v.tx_held; rx = v.rx_held })).tx) =
      ap (λ (cs : List TxCore). map met_tx v.tx_facts ++ cs) txs ∙ tx_where v (queue_of v p.frame) (through (posted_form v.plan p.frame.frame)) (ends_by old.machine.active (record { tx = v.tx_held; rx = v.rx_held })).tx b.stands.driver in
      let rxs = rx_where_ends v.rx old.machine.active sp.sent.machine.active (record { tx = v.tx_held; rx = v.rx_held }) left.machine.active (ap (joined live_rx v.rx) left.machine.rx) in
      let driver : v' ≡ record v { at = record v.at { next = v'.at.next }; masks = v'.masks; tx = v'.tx } = p.is ∙ (λ i. record v { at = record v.at { next = v'.at.next }; masks = sym (ap (λ (x : DriverView). x.masks) p.is) i; tx = sym (ap (λ (x : DriverView). x.tx) p.is) i }) in
      record {
        frame = p.frame;
        there_ = p.there;
        entries = es;
        seat = (λ i. seat_of (record { driver = driver i; device = n.is i }))
            ∙ (λ i. record {
              active = left.machine.active i;
              setup = setup_now v.plan v.at;
              begun = begun_by v;
              seen = arrivals i;
              entries = more i;
              setups = map setup_view (left.setups i);
              received = v.received;
              tx = queues i;
              rx = map met_rx v.rx_facts ++ rxs i;
            });
        puts = puts;
        input = n.parts ∙ ap (map in_part) left.input;
        trusted = subst IsTrusted (sym machine) l.1;
        through_ = subst (λ (z : List TxDriverView × MachineView). Pairwise IsThrough z.0 (tx_of z.1.active)) (λ i. (sym tx_is' i, sym machine i)) t.2;
      }
