-- A frame that a driver posts goes through its queue and to its targets.
use Rattle.std.proofs.Common.{◌≡◌, ℕ, ◌+◌, ◌≤◌, Bool, true, false, List, [], ◌∷◌, length, map, set, refl, sym, ap, ap₂, ◌∙◌, subst, arith, Option}
use Rattle.std.specs.Prelude.{is_some}
use Rattle.std.specs.List.{filter_map, slice_get, AllByRecursion}
use Rattle.std.proofs.lemmas.List.{length-set}
use Rattle.vmx_switch.specs.Ports.{Wiring, target_ports}
use Rattle.vmx_ends.specs.declared.packet.Tag.{Tag}
use Rattle.vmx_ends.specs.declared.frames.Sent.{Sent}
use Rattle.vmx_ends.specs.Frames.{sent_of}
use Rattle.vmx_ends.specs.Transmit.{TxDriverView, TxDeviceView}
use Rattle.vmx_ends.specs.Receive.{RxDriverView}
use Rattle.vmx_link.specs.Views.{LinkOutView, LinkInView}
use Rattle.vmx_regs.specs.declared.known.Calls.{Calls}
use Rattle.vmx_machine_state.specs.Views.{ActiveView}
use Rattle.vmx_model.specs.declared.plan.Plan.{Plan}
use Rattle.vmx_model.specs.declared.journal.Entry.{Entry}
use Rattle.vmx_model.specs.Bags.{EachQueue, Pairwise}
use Rattle.vmx_model.specs.Serial.{Seat, Wire, transmitted}
use Rattle.vmx_model.specs.Turns.{IsEmptied, AreEmptied}
use Rattle.vmx_model.specs.Totals.{wiring}
use Rattle.vmx_model.specs.Wire.{posted_form, wire_form}
use Rattle.vmx_model.specs.QueueSteps.{sent_before}
use Rattle.vmx_model.proofs.Copies.{guests_count}
use Rattle.vmx_device_looks.specs.Links.{PutsOut, PutsFrame}
use Rattle.vmx_device_looks.specs.Queues.{all_at, all_set, each_set}
use Rattle.vmx_device_laws.specs.Views.{DeviceView}
use Rattle.vmx_device_laws.specs.Pairs.{tx_of, rx_of}
use Rattle.vmx_driver_steps.specs.Driver.{DriverView}
use Rattle.vmx_driver_steps.specs.Driving.{PostsNext}
use Rattle.vmx_actor_laws.specs.Joint.{AreCaughtUp}
use Rattle.vmx_note_laws.specs.Each.{EachPasses}
use Rattle.vmx_note_laws.specs.Queues.{PassesTx, IsBehindRx}
use Rattle.vmx_replay_runs.specs.Runs.{targets_of}
use Rattle.vmx_replay_worlds.specs.Guests.{GuestView}
use Rattle.vmx_replay_worlds.specs.Worlds.{out_part, in_part, out_parts, in_parts, world_of}
use Rattle.vmx_replay_worlds.specs.Moves.{IsSameGuest, noted_all, PutsOn}
use Rattle.vmx_replay_worlds.specs.Ports.{AreAtPorts, HasAll, IsLinkOf}
use Rattle.vmx_replay_worlds.proofs.Lists.{get_set, set_set, map_same, pair_at}
use Rattle.vmx_replay_worlds.proofs.Parts.{wires_in}
use Rattle.vmx_replay_worlds.proofs.Moved.{wires_are, puts_is}
use Rattle.vmx_replay_worlds.proofs.Linked.{links_bare}
use Rattle.vmx_replay_steps.specs.Between.{IsThrough, HeardAfter}
use Rattle.vmx_replay_steps.specs.Turns.{StandsTogether, SendsBetween, WasPutOut, queue_of}
use Rattle.vmx_replay_steps.proofs.Standing.{is_on}
use Rattle.vmx_replay_steps.proofs.Sent.{was_put_out}
use Rattle.vmx_replay_steps.proofs.Passed.{told_sent}
use Rattle.vmx_replay_steps.proofs.Stands.{near_tx, sent_before as sent_before_notes}
use Rattle.vmx_replay_steps.proofs.Commanded.{near_through}
use Rattle.vmx_replay_calls.specs.Resting.{guest_of, IsGuestAt, Rests, HasNone, MayTurn, AreKnown, RunRests}
use Rattle.vmx_replay_chains.specs.Targets.{target_in}
use Rattle.vmx_replay_calls.proofs.Steps.{Turned, Posted}
use Rattle.vmx_replay_calls.proofs.Outcomes.{SentSo}
use Rattle.vmx_replay_calls.proofs.Pairs.{pair_refl, pair_set}
use Rattle.vmx_replay_calls.proofs.Near.{near_world}
use Rattle.vmx_replay_calls.proofs.Selves.{stays_itself}
use Rattle.vmx_replay_calls.proofs.Notes.{behind_same, QueueNotes, queue_notes, device_same, driver_same, queue_trusted, queue_calls, queue_served, stands_of}
use Rattle.vmx_replay_calls.proofs.Runs.{run_ports, run_all, guest_at, turned_run}
use Rattle.vmx_replay_calls.proofs.Room.{few_targets, room}
use Rattle.vmx_replay_calls.proofs.Turned as turned

-- ------------------------------------------------------------ small things

-- notes of other drivers' ends leave what a device took
through_device : (cs ds : List TxDriverView) (es : List TxDeviceView) (ds' : List TxDriverView) (es' : List TxDeviceView) → EachPasses PassesTx ds es ds' es' → Pairwise IsThrough cs es → Pairwise IsThrough cs es'
through_device [] [] [] [] [] h t = tt
through_device (c ∷ cs) [] [] [] [] h t = absurd t
through_device cs [] [] [] (e' ∷ es') h t = absurd h
through_device cs [] [] (d' ∷ ds') es' h t = absurd h
through_device cs [] (e ∷ es) ds' es' h t = absurd h
through_device cs (d ∷ ds) [] ds' es' h t = absurd h
through_device cs (d ∷ ds) (e ∷ es) [] es' h t = absurd h
through_device cs (d ∷ ds) (e ∷ es) (d' ∷ ds') [] h t = absurd h
through_device [] (d ∷ ds) (e ∷ es) (d' ∷ ds') (e' ∷ es') h t = absurd t
through_device (c ∷ cs) (d ∷ ds) (e ∷ es) (d' ∷ ds') (e' ∷ es') h t = (ap (λ (x : TxDeviceView). sent_of x.taken) h.0.device ∙ t.0, through_device cs ds es ds' es' h.1 t.1)

-- the journal tells the targets
out_targets : (port : ℕ) (t : Tag) (frame : List ℕ) (tos : List ℕ) (es : List Entry) (old new : List LinkOutView) → PutsOut port t frame tos es old new → filter_map target_in es ≡ tos
out_targets port t frame [] es old new p = ap (filter_map target_in) p.0
out_targets port t frame (to ∷ tos) es old new (w, (rest, (mid, is, sends, more))) = ap (filter_map target_in) is ∙ ap (λ (xs : List ℕ). to ∷ xs) (out_targets port t frame tos rest mid new more)

frame_targets : (port : ℕ) (t : Tag) (frame : List ℕ) (tos : List ℕ) (es : List Entry) (old new : List LinkOutView) → PutsFrame port t frame tos es old new → filter_map target_in es ≡ tos
frame_targets port t frame [] es old new p = ap (filter_map target_in) p.0
frame_targets port t frame (to ∷ tos) es old new p = out_targets port t frame (to ∷ tos) es old new p

-- guests of which each has the same links
pub record HasSameLinks (r r' : GuestView) : Type 0 where
  pub out : r'.device.out ≡ r.device.out
  pub input : r'.device.input ≡ r.device.input

pub links_refl : (r : GuestView) → HasSameLinks r r
links_refl r = record { out = refl; input = refl }

pub known_back : (rs rs' : List GuestView) → Pairwise HasSameLinks rs rs' → AreKnown rs → AreKnown rs'
known_back rs rs' h k from to l =
    let s = pair_at HasSameLinks rs rs' from l.sender h l.sender_at in let r = pair_at HasSameLinks rs rs' to l.receiver h l.receiver_at in
    k from to (record {
      sender = s.0;
      sender_at = s.1;
      j = l.j;
      to_is = l.to_is;
      link = l.link;
      link_at = ap (λ (os : List LinkOutView). slice_get os l.j) (sym s.2.out) ∙ l.link_at;
      receiver = r.0;
      receiver_at = r.1;
      k = l.k;
      from_is = l.from_is;
      end = l.end;
      end_at = ap (λ (is : List LinkInView). slice_get is l.k) (sym r.2.input) ∙ l.end_at;
    })

-- ------------------------------------------------------------ the frame

module _ (plan : Plan) (port : ℕ) (worked : Bool) (rs rs' : List GuestView) (run : RunRests plan rs) (emptied : AreEmptied (world_of rs)) (p : Posted port worked rs rs') where
  abbrev v : DriverView
  v = p.guest.driver

  abbrev d : DeviceView
  d = p.guest.device

  rest : Rests p.guest
  rest = all_at Rests rs port p.guest p.at run.rest

  stands : StandsTogether v d
  stands = stands_of p.guest rest p.keep

  on : is_some d.machine.active ≡ true
  on = is_on v d stands p.due.active

  -- the post, from the driver but for what was reaped
  posts : PostsNext (record v { tx = p.posts.mid.tx }) p.driver
  posts = subst (λ (m : DriverView). PostsNext m p.driver) p.posts.reaps.is p.posts.posts

  calls_same : p.driver.calls ≡ v.calls
  calls_same = ap (λ (x : DriverView). x.calls) posts.is

  rx_same : p.driver.rx ≡ v.rx
  rx_same = ap (λ (x : DriverView). x.rx) posts.is

  not_none : (x : DriverView) (y : DeviceView) → is_some y.machine.active ≡ true → HasNone x y
  not_none x y e none = absurd (let z : true ≡ false = sym e ∙ ap (λ (o : Option ActiveView). is_some o) none in cc z)

  notes : QueueNotes p.driver d p.told.driver p.told.device
  notes = queue_notes p.driver d p.told.driver p.told.device p.passed (not_none p.driver d on)

  told_on : is_some p.told.device.machine.active ≡ true
  told_on = notes.active ∙ on

  told_out : p.told.device.out ≡ d.out
  told_out = ap (λ (x : DeviceView). x.out) notes.device

  told_input : p.told.device.input ≡ d.input
  told_input = ap (λ (x : DeviceView). x.input) notes.device

  behind : Pairwise IsBehindRx p.driver.rx (rx_of d.machine.active)
  behind = subst (λ (xs : List RxDriverView). Pairwise IsBehindRx xs (rx_of d.machine.active)) (sym rx_same) (behind_same v.rx (rx_of d.machine.active) rest.told_rx)

  -- the guest once its device was told
  may : MayTurn p.told
  may = record {
    caught_up = record {
      none = ap (λ (c : Calls). c.asked) (queue_calls p.driver d p.told.driver p.told.device notes ∙ calls_same) ∙ rest.caught_up.none;
      same = ap (λ (c : Calls). c.turns) (queue_calls p.driver d p.told.driver p.told.device notes ∙ calls_same) ∙ rest.caught_up.same ∙ sym (ap (λ (c : Calls). c.served) (queue_served p.driver d p.told.driver p.told.device notes));
    };
    told_rx = notes.told_rx behind;
    none = not_none p.told.driver p.told.device told_on;
  }

  abbrev mid : List GuestView
  mid = set rs port p.told

  here : IsGuestAt plan port p.guest
  here = guest_at plan rs port p.guest run.guests p.at

  told_self : IsGuestAt plan port p.told
  told_self = stays_itself plan port p.guest p.told here
      (record {
        guest = ap (λ (x : DriverView). x.guest) notes.driver ∙ ap (λ (x : DriverView). x.guest) posts.is;
        plan = ap (λ (x : DriverView). x.plan) notes.driver ∙ ap (λ (x : DriverView). x.plan) posts.is;
        key = ap (λ (x : DriverView). x.key) notes.driver ∙ ap (λ (x : DriverView). x.key) posts.is;
      })
      (record { port = ap (λ (x : DeviceView). x.port) notes.device; table = ap (λ (x : DeviceView). x.table) notes.device; key = ap (λ (x : DeviceView). x.key) notes.device; mac = notes.mac })
      p.turned.keep.device

  mid_guests : EachQueue (IsGuestAt plan) 0 mid
  mid_guests = let z : port ≡ 0 + port = omega arith in each_set (IsGuestAt plan) (IsGuestAt plan) 0 rs port p.told (λ n x ne g. g) (subst (λ (n : ℕ). IsGuestAt plan n p.told) z told_self) run.guests

  mid_count : length mid ≡ length plan.guests
  mid_count = length-set rs port p.told ∙ run.count

  mid_ports : AreAtPorts mid
  mid_ports = run_ports plan mid mid_guests

  mid_all : AllByRecursion (HasAll (length mid)) mid
  mid_all = run_all plan mid mid_guests mid_count

  mid_known : AreKnown mid
  mid_known = known_back rs mid (pair_set HasSameLinks rs rs port p.guest p.told (pair_refl HasSameLinks links_refl rs) p.at (record { out = told_out; input = told_input })) run.links

  mid_wires : (world_of mid).wires ≡ (world_of rs).wires
  mid_wires = wires_are mid ∙ ap₂ wires_in (map_same out_parts rs port p.guest p.told p.at (ap (map out_part) told_out)) (map_same in_parts rs port p.guest p.told p.at (ap (map in_part) told_input)) ∙ sym (wires_are rs)

  mid_emptied : AreEmptied (world_of mid)
  mid_emptied = subst (λ (ws : List Wire). AllByRecursion IsEmptied ws) (sym mid_wires) emptied

  abbrev t : Turned port p.told worked mid rs'
  t = p.turned

  abbrev ls : (x : List LinkOutView) × Pairwise (IsLinkOf mid port) x p.told.device.input
  ls = turned.links port p.told worked mid rs' t may mid_ports mid_all

  heard : HeardAfter p.told.driver ls.0 t.device
  heard = turned.heard port p.told worked mid rs' t may mid_ports mid_all

  between : SendsBetween v p.driver ls.0 worked p.told.device t.device
  between = record {
    stands = record {
      driver = p.keep.driver;
      device = t.keep.device;
      caught_up = record { none = rest.caught_up.none; same = rest.caught_up.same ∙ sym (ap (λ (c : Calls). c.served) (queue_served p.driver d p.told.driver p.told.device notes)) };
      trusted = queue_trusted p.driver d p.told.driver p.told.device notes rest.trusted;
      through = through_device v.tx p.driver.tx (tx_of d.machine.active) p.told.driver.tx (tx_of p.told.device.machine.active) notes.tx rest.through_;
    };
    active = p.due.active;
    bare = links_bare mid port p.told mid_ports (get_set rs port p.guest p.told p.at) ls.0 ls.1 mid_emptied;
    posts = p.posts;
    told = told_sent p.driver.tx (tx_of d.machine.active) p.told.driver.tx (tx_of p.told.device.machine.active) notes.tx;
    once = t.once;
    heard = record {
      caught_up = subst (λ (c : Calls). AreCaughtUp (record p.driver { calls = c }) t.device) (queue_calls p.driver d p.told.driver p.told.device notes) (record { none = heard.caught_up.none; same = heard.caught_up.same });
      sent = sent_before_notes p.driver.tx (tx_of d.machine.active) p.told.driver.tx (tx_of p.told.device.machine.active) (tx_of t.device.machine.active) notes.tx heard.sent;
      pushed = heard.pushed;
    };
  }

  w : WasPutOut v p.driver p.told.device t.device
  w = was_put_out v p.driver ls.0 worked p.told.device t.device between

  abbrev posted : Sent
  posted = posted_form v.plan w.frame.frame

  abbrev tag : Tag
  tag = record { guest = port; activation = v.at.ended; queue = queue_of v w.frame; place = length (sent_before v.plan v.at.ended (queue_of v w.frame) v.at.next) }

  -- by the plan's wiring
  table : p.told.device.table ≡ wiring plan.guests
  table = told_self.table

  puts : PutsFrame port tag (wire_form posted) (targets_of plan port posted) w.entries d.out t.device.out
  puts = subst (λ (z : ℕ × Wiring × List LinkOutView). PutsFrame z.0 (record { guest = z.0; activation = v.at.ended; queue = queue_of v w.frame; place = length (sent_before v.plan v.at.ended (queue_of v w.frame) v.at.next) }) (wire_form posted) (target_ports z.1 z.0 (wire_form posted)) w.entries z.2 t.device.out)
      (λ i. (told_self.at.device i, table i, told_out i)) w.puts

  few : length (targets_of plan port posted) ≤ 16
  few = let l = few_targets (wiring plan.guests) port (wire_form posted) in let n = guests_count plan.guests in let k = p.keep.device.ports in let k3 = k.3 in let e = ap (λ (x : Wiring). length x.macs) here.table in omega (arith, l, n, k3, e)

  told_same : IsSameGuest (guest_of p.told.driver t.device) t.told
  told_same = turned.told_same port p.told worked mid rs' t may

  abbrev after : List GuestView
  after = set rs port t.told

  abbrev puts_on : PutsOn rs tag posted (wire_form posted) (targets_of plan port posted) after
  puts_on = record {
    before = p.guest;
    after = t.told;
    at = p.at;
    is = refl;
    entries = w.entries;
    out = t.device.out;
    seat = told_same.seat ∙ (driver_same p.driver d p.told.driver p.told.device p.passed t.device).seat ∙ w.seat
        ∙ ap (λ (s : Seat). noted_all w.entries (transmitted v.at.ended (queue_of v w.frame) posted s)) (device_same p.driver d p.told.driver p.told.device p.passed v).seat;
    puts = puts;
    room = room rs (run_ports plan rs run.guests) (run_all plan rs run.guests run.count) run.links emptied port p.guest p.at p.keep.device (length (targets_of plan port posted)) few;
    links = told_same.links.out;
    input = told_same.links.input ∙ w.input ∙ ap (map in_part) told_input;
  }

  after_is : set mid port t.told ≡ after
  after_is = set_set rs port p.told t.told

  through_ : Pairwise IsThrough p.told.driver.tx (tx_of t.device.machine.active)
  through_ = near_through p.driver.tx p.told.driver.tx (tx_of t.device.machine.active) (near_tx p.driver.tx (tx_of d.machine.active) p.told.driver.tx (tx_of p.told.device.machine.active) notes.tx) w.through_

  pub was_sent_out : SentSo plan port worked rs rs' p
  was_sent_out = record {
    frame = w.frame;
    there_ = w.there_;
    entries = w.entries;
    journal = ap (λ (s : Seat). s.entries) puts_on.seat;
    targets = frame_targets port tag (wire_form posted) (targets_of plan port posted) w.entries d.out t.device.out puts;
    world = near_world (set mid port t.told) rs' (turned.near_after port p.told worked mid rs' t may mid_ports mid_all) ∙ ap world_of after_is
        ∙ puts_is rs after tag posted (wire_form posted) (targets_of plan port posted) (run_ports plan rs run.guests) puts_on;
    rests = turned_run plan port p.told worked mid rs' t may mid_guests mid_count mid_known
        (subst (AllByRecursion Rests) (sym after_is) (all_set Rests rs port t.told (turned.rests_told port p.told worked mid rs' t may w.trusted through_) run.rest));
  }
