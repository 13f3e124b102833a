-- A turn of a device while a packet waited on one link: it comes in, and nothing else changes.
use Rattle.std.proofs.Common.{◌≡◌, ℕ, ◌+◌, ◌-◌, ◌<◌, Bool, List, [], ◌∷◌, ◌++◌, length, length-append, map, refl, sym, ap, ◌∙◌, subst, arith, Some, None, Option, inl, inr, ◌⊎◌, if◌then◌else◌}
use Rattle.std.specs.Prelude.{is_some}
use Rattle.std.specs.Option.{option_map}
use Rattle.std.specs.List.{slice_get}
use Rattle.vmx_ends.specs.declared.packet.Packet.{Packet}
use Rattle.vmx_link.specs.Views.{LinkOutView, LinkInView}
use Rattle.vmx_device_state.specs.SetupView.{setup_view}
use Rattle.vmx_regs.specs.declared.known.Masks.{Masks}
use Rattle.vmx_machine_state.specs.Views.{EndsView, ActiveView, MachineView}
use Rattle.vmx_model.specs.declared.journal.Entry.{Entry}
use Rattle.vmx_model.specs.declared.journal.Entry.TheVariants as entry
use Rattle.vmx_model.specs.declared.journal.Fate.{Fate}
use Rattle.vmx_model.specs.declared.journal.Fate.TheVariants as fate
use Rattle.vmx_model.specs.Bags.{Pairwise}
use Rattle.vmx_model.specs.Lists.{count}
use Rattle.vmx_model.specs.Journal.{is_activation}
use Rattle.vmx_model.specs.Meta.{delivered_as}
use Rattle.vmx_model.specs.Serial.{Seat, at_number, marked, fate_at, fate_in_turn}
use Rattle.vmx_model.specs.Setups.{admits}
use Rattle.vmx_model.specs.Turns.{comes_in}
use Rattle.vmx_device_looks.specs.Ports.{other}
use Rattle.vmx_device_looks.specs.Links.{pulled_one}
use Rattle.vmx_device_looks.specs.Queues.{get_lt}
use Rattle.vmx_device_laws.specs.Views.{DeviceView, tx_held}
use Rattle.vmx_device_laws.specs.Pairs.{tx_of, rx_of}
use Rattle.vmx_device_laws.proofs.Pairing.{pairs_tx}
use Rattle.vmx_device_laws.proofs.Lists.{count_append}
use Rattle.vmx_driver_steps.specs.declared.progress.Stage.{Stage}
use Rattle.vmx_driver_steps.specs.declared.progress.Stage.TheVariants.{Active}
use Rattle.vmx_driver_steps.specs.Progress.{in_hand, setup_now}
use Rattle.vmx_driver_steps.specs.Driver.{DriverView, Keeps}
use Rattle.vmx_replay_worlds.specs.Guests.{live_tx, live_rx, met_tx, met_rx, joined, is_arrival, begun_by, ends_by, seat_of}
use Rattle.vmx_replay_worlds.specs.Worlds.{out_part, in_part}
use Rattle.vmx_replay_worlds.specs.Moves.{part_pulls}
use Rattle.vmx_replay_worlds.proofs.Lists.{pair_at}
use Rattle.vmx_note_laws.specs.Queues.{IsToldRx}
use Rattle.vmx_trusted_turns.specs.Trusted.{IsTrusted, LooksAll, HandlesTrusted}
use Rattle.vmx_trusted_turns.proofs.Trust.{handles_trusted}
use Rattle.vmx_trusted_turns.proofs.Looked.{looks_tx}
use Rattle.vmx_replay_steps.specs.Between.{IsThrough, WasSent, WasPushed, WasPosted}
use Rattle.vmx_replay_steps.specs.Turns.{StandsTogether, LooksBetween, WasTakenIn}
use Rattle.vmx_replay_steps.proofs.Left.{Kept, Left, left_steps}
use Rattle.vmx_replay_steps.proofs.Taken.{same_next}
use Rattle.vmx_replay_steps.proofs.Incoming.{InOne, in_one, bare_nothing}
use Rattle.vmx_replay_steps.proofs.Handled.{WasRefused, WasGiven, handled, IsSeatOf, handled_comes, none_some}
use Rattle.vmx_replay_steps.proofs.Standing.{Split, split, begun_is, led_active}
use Rattle.vmx_replay_steps.proofs.Idled.{TookNothing, took_nothing}

-- ------------------------------------------------------------ what became of the packet

abbrev pub back_of : DriverView → EndsView
back_of v = record { tx = v.tx_held; rx = v.rx_held }

-- its fate is that of the serial run, and so are the queues; where a device goes on with the machine m
pub record BecameOf (v : DriverView) (sent : DeviceView) (m : MachineView) (f : Fate) (mac frame : List ℕ) : Type 0 where
  pub fate_is : f ≡ fate_at (seat_of (record { driver = v; device = sent })) mac frame
  pub active : is_some m.active ≡ is_some sent.machine.active
  pub through_ : tx_of m.active ≡ tx_of sent.machine.active
  pub tx : joined live_tx v.tx (ends_by m.active (back_of v)).tx ≡ joined live_tx v.tx (ends_by sent.machine.active (back_of v)).tx
  pub rx : map met_rx v.rx_facts ++ joined live_rx v.rx (ends_by m.active (back_of v)).rx ≡ marked (delivered_as (setup_now v.plan v.at) frame) f (seat_of (record { driver = v; device = sent })).rx
  pub trusted : IsTrusted m

-- an idle device took none
idle_became : (v : DriverView) (sent : DeviceView) (m : MachineView) (f : Fate) (mac frame : List ℕ) (a : ℕ) (was now : Masks) → sent.machine.active ≡ None → HandlesTrusted a frame f sent.machine was m now → IsTrusted m → BecameOf v sent m f mac frame
idle_became v sent m f mac frame a was now none h trusted = elim h [
  | inl i ↦ record {
    fate_is = i.is_fate ∙ sym (ap (λ (o : Option ActiveView). if is_some o then fate_in_turn (seat_of (record { driver = v; device = sent })) frame (admits (setup_now v.plan v.at) mac frame) else fate.Inactive) none);
    active = ap (λ (x : MachineView). is_some x.active) i.is;
    through_ = ap (λ (x : MachineView). tx_of x.active) i.is;
    tx = ap (λ (x : MachineView). joined live_tx v.tx (ends_by x.active (back_of v)).tx) i.is;
    rx = ap (λ (x : MachineView). map met_rx v.rx_facts ++ joined live_rx v.rx (ends_by x.active (back_of v)).rx) i.is ∙ sym (ap (λ (z : Fate). marked (delivered_as (setup_now v.plan v.at) frame) z (seat_of (record { driver = v; device = sent })).rx) i.is_fate);
    trusted = trusted;
  }
  | inr h1 ↦ elim h1 [
    | inl r ↦ absurd (none_some sent.machine.active r.active none r.is_active)
    | inr g ↦ absurd (none_some sent.machine.active g.let_in.active none g.let_in.is_active)
  ]
]

how_tx : (x y : ActiveView) (mac frame : List ℕ) (a : ℕ) (f : Fate) → WasRefused x mac frame f y ⊎ WasGiven x mac frame a f y → y.ends.tx ≡ x.ends.tx
how_tx x y mac frame a f h = elim h [ inl r ↦ ap (λ (z : ActiveView). z.ends.tx) r.same | inr g ↦ ap (λ (z : ActiveView). z.ends.tx) g.is ]

-- an active one handled it by its setup
active_became : (v : DriverView) (sent : DeviceView) (m : MachineView) (f : Fate) (frame : List ℕ) (was now : Masks) (x : ActiveView) → Keeps v → sent.machine.active ≡ Some x → v.at.stage ≡ Active → setup_now v.plan v.at ≡ x.setup
    → Pairwise IsToldRx v.rx (rx_of sent.machine.active) → Pairwise WasPosted v.rx (rx_of m.active) → HandlesTrusted v.at.ended frame f sent.machine was m now → IsTrusted m → BecameOf v sent m f sent.machine.mac frame
active_became v sent m f frame was now x k on stage setup told knows h trusted =
    let w = handled x v.at.ended frame f sent.machine on m was now h in
    let s : Seat = seat_of (record { driver = v; device = sent }) in
    let of : IsSeatOf v x s = record {
      active = ap (λ (o : Option ActiveView). is_some o) on;
      setup = setup;
      begun = ap (λ (g : Stage). v.at.ended + in_hand g - 1) stage ∙ one_less v.at.ended;
      rx = ap (λ (o : Option ActiveView). map met_rx v.rx_facts ++ joined live_rx v.rx (ends_by o (back_of v)).rx) on;
    } in
    let c = handled_comes v k x sent.machine.mac frame f s of (subst (λ (o : Option ActiveView). Pairwise IsToldRx v.rx (rx_of o)) on told) w.y (subst (λ (o : Option ActiveView). Pairwise WasPosted v.rx (rx_of o)) w.is_active knows) w.how in
    let tx : w.y.ends.tx ≡ x.ends.tx = how_tx x w.y sent.machine.mac frame v.at.ended f w.how in record {
      fate_is = c.0;
      active = ap (λ (o : Option ActiveView). is_some o) w.is_active ∙ sym (ap (λ (o : Option ActiveView). is_some o) on);
      through_ = ap tx_of w.is_active ∙ tx ∙ sym (ap tx_of on);
      tx = ap (λ (o : Option ActiveView). joined live_tx v.tx (ends_by o (back_of v)).tx) w.is_active ∙ ap (joined live_tx v.tx) tx ∙ sym (ap (λ (o : Option ActiveView). joined live_tx v.tx (ends_by o (back_of v)).tx) on);
      rx = ap (λ (o : Option ActiveView). map met_rx v.rx_facts ++ joined live_rx v.rx (ends_by o (back_of v)).rx) w.is_active ∙ c.1;
      trusted = trusted;
    }
  where
    one_less : (n : ℕ) → n + 1 - 1 ≡ n
    one_less n = omega arith

-- ------------------------------------------------------------ the whole turn

-- the setup of an active device after looks at its transmit queues
was_active : (o o' : Option ActiveView) (x : ActiveView) → o' ≡ Some x → option_map (λ (a : ActiveView). a.setup) o' ≡ option_map (λ (a : ActiveView). a.setup) o → (y : ActiveView) × (o ≡ Some y) × (y.setup ≡ x.setup)
was_active None o' x e h = absurd (let n : Some x.setup ≡ None = sym (ap (option_map (λ (a : ActiveView). a.setup)) e) ∙ h in cc n)
was_active (Some y) o' x e h = (y, refl, (let n : Some x.setup ≡ Some y.setup = sym (ap (option_map (λ (a : ActiveView). a.setup)) e) ∙ h in sym (cc n)))

came_count : (es : List Entry) (from place : ℕ) (f : Fate) → count is_arrival (es ++ entry.In from place f ∷ []) ≡ count is_arrival es + 1
came_count es from place f = count_append is_arrival es (entry.In from place f ∷ [])

became : (v : DriverView) (old sent : DeviceView) (m : MachineView) (f : Fate) (frame : List ℕ) (a : ℕ) (was now : Masks) (o : Option ActiveView) → StandsTogether v old → Kept old.machine sent.machine → sent.machine.active ≡ o → (a ≡ begun_by v - 1)
    → Pairwise IsToldRx v.rx (rx_of old.machine.active) → Pairwise WasPosted v.rx (rx_of m.active) → HandlesTrusted a frame f sent.machine was m now → IsTrusted m → BecameOf v sent m f sent.machine.mac frame
became v old sent m f frame a was now None stands kept on act told knows h trusted = idle_became v sent m f sent.machine.mac frame a was now on h trusted
became v old sent m f frame a was now (Some x) stands kept on act told knows h trusted =
    let y = was_active old.machine.active sent.machine.active x on kept.setup in
    let l = led_active v old y.0 stands y.1 in
    let ended : a ≡ v.at.ended = act ∙ ap (λ (g : Stage). v.at.ended + in_hand g - 1) l.0 ∙ one_less v.at.ended in
    active_became v sent m f frame was now x stands.driver on l.0 (l.1 ∙ y.2) (subst (Pairwise IsToldRx v.rx) (sym kept.rx) told) knows (subst (λ (n : ℕ). HandlesTrusted n frame f sent.machine was m now) ended h) trusted
  where
    one_less : (n : ℕ) → n + 1 - 1 ≡ n
    one_less n = omega arith

module _ (v : DriverView) (links : List LinkOutView) (k : ℕ) (x : Packet) (worked : Bool) (old new : DeviceView) (b : LooksBetween v links k x worked old new) where
  s : Split old new
  s = split v worked old new b.once b.stands.caught_up.same b.heard.caught_up.same

  abbrev before : DeviceView
  before = record old { calls = s.calls; masks = s.masks }

  l : LooksAll before s.sent × IsTrusted s.sent.machine
  l = looks_tx s.taken before s.sent s.takes b.stands.trusted

  left : Left before s.sent
  left = left_steps (tx_held old.machine.active) s.taken before s.sent s.takes

  at : slice_get s.sent.input k ≡ Some b.input
  at = ap (λ (ls : List LinkInView). slice_get ls k) left.input ∙ b.input_at

  told : length b.input.pulled < length b.input.filled
  told = let t = b.told.pushed in let n = ap length b.next.1 in let k = length-append (b.input.pulled ++ x ∷ []) b.next.0 in let m = length-append b.input.pulled (x ∷ []) in omega (arith, t, n, k, m)

  one : InOne (length s.sent.input) k b.input s.sent new
  one = in_one (length s.sent.input) k b.input s.pulled s.sent new s.pulls (get_lt s.sent.input k b.input at) at told
      (λ n lt ne. bare_nothing links s.sent new n (λ o i at_o at_i. b.bare n o i ne at_o (ap (λ (ls : List LinkInView). slice_get ls n) (sym left.input) ∙ at_i)) b.heard.pushed)

  -- the packet is the one that waited
  packet_is : one.packet ≡ x
  packet_is =
      let p = pair_at WasPushed links new.input k (pulled_one b.input one.packet) b.heard.pushed one.here in
      let o_is : p.0 ≡ b.out = (let both : Some p.0 ≡ Some b.out = sym p.1 ∙ b.out_at in cc both) in
      same_next b.input.pulled p.2.0 b.next.0 one.packet x (p.2.1 ∙ ap (λ (o : LinkOutView). o.pushed) o_is ∙ sym b.next.1)

  machine_is : new.machine ≡ one.machine
  machine_is = ap (λ (d : DeviceView). d.machine) one.is

  became_of : BecameOf v s.sent one.machine one.fate_is s.sent.machine.mac x.frame
  became_of =
      let acts = pairs_tx s.taken before s.sent s.takes in
      let begun : count is_activation s.sent.entries - 1 ≡ begun_by v - 1 = ap (λ (n : ℕ). n - 1) (acts.3 ∙ begun_is v old b.stands) in
      let h = handles_trusted (count is_activation s.sent.entries - 1) one.packet.frame s.sent.calls.interrupts one.fate_is s.sent.machine s.sent.masks one.machine one.masks one.handles l.1 in
      became v old s.sent one.machine one.fate_is x.frame (count is_activation s.sent.entries - 1) s.sent.masks one.masks s.sent.machine.active b.stands left.machine refl begun b.told_rx
      (subst (λ (m : MachineView). Pairwise WasPosted v.rx (rx_of m.active)) machine_is b.knows)
      (subst (λ (p : Packet). HandlesTrusted (count is_activation s.sent.entries - 1) p.frame one.fate_is s.sent.machine s.sent.masks one.machine one.masks) packet_is h.0) h.1

  sent_heard : Pairwise WasSent v.tx (tx_of s.sent.machine.active)
  sent_heard = subst (Pairwise WasSent v.tx) (ap (λ (m : MachineView). tx_of m.active) machine_is ∙ became_of.through_) b.heard.sent

  nothing : TookNothing v old s.sent
  nothing = took_nothing v old s.calls s.masks s.sent l.0 left b.stands.through sent_heard

  came : seat_of (record { driver = v; device = new }) ≡ comes_in s.sent.machine.mac (other s.sent.port k) (length b.input.pulled) x.frame (seat_of (record { driver = v; device = s.sent }))
  came = ap (λ (d : DeviceView). seat_of (record { driver = v; device = d })) one.is
      ∙ (λ i. record {
        active = became_of.active i;
        setup = setup_now v.plan v.at;
        begun = begun_by v;
        seen = came_count s.sent.entries (other s.sent.port k) (length b.input.pulled) one.fate_is i;
        entries = s.sent.entries ++ entry.In (other s.sent.port k) (length b.input.pulled) (became_of.fate_is i) ∷ [];
        setups = map setup_view s.sent.setups;
        received = v.received;
        tx = map met_tx v.tx_facts ++ became_of.tx i;
        rx = (became_of.rx ∙ ap (λ (z : Fate). marked (delivered_as (setup_now v.plan v.at) x.frame) z (seat_of (record { driver = v; device = s.sent })).rx) became_of.fate_is) i;
      })

  pub looks : WasTakenIn v k x old new b.input
  looks = record {
    seat = came ∙ (λ i. comes_in (left.machine.mac i) (other (left.port i) k) (length b.input.pulled) x.frame (nothing.seat i));
    out = ap (λ (d : DeviceView). map out_part d.out) one.is ∙ ap (map out_part) nothing.out;
    input_ = one.parts ∙ ap (λ (p : Packet). at_number k (part_pulls p) (map in_part s.sent.input)) packet_is ∙ ap (λ (ls : List LinkInView). at_number k (part_pulls x) (map in_part ls)) left.input;
    trusted = subst IsTrusted (sym machine_is) became_of.trusted;
    through_ = subst (Pairwise IsThrough v.tx) (sym (ap (λ (m : MachineView). tx_of m.active) machine_is ∙ became_of.through_)) nothing.through_;
  }
