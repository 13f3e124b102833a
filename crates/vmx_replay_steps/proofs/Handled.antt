-- A packet that an active device handles between notes: what becomes of it, and of its queue, is what the serial run says.
use Rattle.std.proofs.Common.{◌≡◌, ℕ, zero, suc, ◌+◌, ◌-◌, ◌<◌, Bool, true, List, [], ◌∷◌, ◌++◌, length, map, set, get_or, refl, sym, ap, ◌∙◌, subst, arith, Some, None, Option, ◌⊎◌, inl, inr, if◌then◌else◌}
use Rattle.std.specs.List.{slice_get, find}
use Rattle.vmx_filters.specs.declared.answer.Rule.{Rule}
use Rattle.vmx_filters.specs.declared.answer.Verdict.{Verdict}
use Rattle.vmx_filters.specs.declared.answer.Verdict.TheVariants as verdict
use Rattle.vmx_ends.specs.declared.answers.Deliver.{Deliver}
use Rattle.vmx_ends.specs.declared.answers.Deliver.TheVariants as answer
use Rattle.vmx_ends.specs.declared.made.RxMade.{RxMade}
use Rattle.vmx_ends.specs.declared.made.Bodies.TheVariants.{Every}
use Rattle.vmx_ends.specs.Receive.{RxDriverView, RxDeviceView}
use Rattle.vmx_ends.specs.ReceiveClauses.{Delivers, DeliversFrame, Refuses}
use Rattle.vmx_ends.specs.ReceiveCore as rx
use Rattle.vmx_regs.specs.declared.known.Masks.{Masks}
use Rattle.vmx_device_state.specs.SetupView.{SetupView}
use Rattle.vmx_machine_state.specs.Views.{ActiveView, MachineView}
use Rattle.vmx_model.specs.declared.journal.Fate.{Fate}
use Rattle.vmx_model.specs.declared.journal.Fate.TheVariants as fate
use Rattle.vmx_model.specs.Bags.{Pairwise}
use Rattle.vmx_model.specs.Account.{rx_made}
use Rattle.vmx_model.specs.Setups.{admits}
use Rattle.vmx_model.specs.Wire.{rx_queue}
use Rattle.vmx_model.specs.Meta.{Arrival, delivered_as}
use Rattle.vmx_model.specs.Serial.{Seat, where_it, rx_is, tried, marked, fate_at, fate_in_turn, fate_on}
use Rattle.vmx_device_looks.specs.Looks.{with_rx, DeliversAs}
use Rattle.vmx_device_looks.specs.Queues.{get_lt}
use Rattle.vmx_device_looks.specs.Arrivals.{ComesUp, LacksBuffer}
use Rattle.vmx_device_laws.proofs.PairingIn.{some_same}
use Rattle.vmx_driver_steps.specs.Driver.{DriverView, Keeps, HandsUp, name_of}
use Rattle.vmx_driver_steps.specs.Each.{each_at as at_index}
use Rattle.vmx_replay_worlds.specs.Guests.{live_rx, met_rx, joined}
use Rattle.vmx_replay_worlds.proofs.Queues.{joined_one}
use Rattle.vmx_replay_worlds.proofs.Lists.{get_set, pair_at}
use Rattle.vmx_note_laws.specs.Queues.{IsToldRx}
use Rattle.vmx_trusted_turns.specs.Trusted.{HandlesTrusted}
use Rattle.vmx_replay_steps.specs.Between.{WasPosted}
use Rattle.vmx_replay_steps.proofs.Ends.{live_delivers, live_refuses, fate_delivers, fate_refuses}
use Rattle.vmx_replay_steps.proofs.Named.{rx_where, rx_found}

pub none_some : {X : Type 0} (o : Option X) (x : X) → o ≡ None → o ≡ Some x → ⊥
none_some o x e f = let both : None ≡ Some x = sym e ∙ f in absurd (cc both)

-- ------------------------------------------------------------ what happened

-- the end of queue q delivered the frame, or lacked a buffer
abbrev pub Gave : ℕ → ℕ → Arrival → Fate → RxDeviceView → RxDeviceView → Type 0
Gave a q w f e n =
    ((f ≡ fate.Up a q (length e.delivered)) × DeliversFrame e w.frame w.meta n)
    ⊎ ((ring position word look : ℕ) × (f ≡ fate.NoBuffer a q ring position look) × Refuses e (length w.frame) ring position word look n)

-- the filter refused the frame
pub record WasRefused (x : ActiveView) (mac frame : List ℕ) (f : Fate) (y : ActiveView) : Type 0 where
  pub rule : Rule
  pub refused : admits x.setup mac frame ≡ verdict.No rule
  pub fate_is : f ≡ fate.Filtered rule
  pub same : y ≡ x

-- or the queue of its flow was given it
pub record WasGiven (x : ActiveView) (mac frame : List ℕ) (a : ℕ) (f : Fate) (y : ActiveView) : Type 0 where
  pub admitted : admits x.setup mac frame ≡ verdict.Yes
  pub e : RxDeviceView
  pub n : RxDeviceView
  pub at : slice_get x.ends.rx (rx_queue x.setup.rss frame) ≡ Some e
  pub gave : Gave a (rx_queue x.setup.rss frame) (delivered_as x.setup frame) f e n
  pub is : y ≡ record x { ends = record x.ends { rx = set x.ends.rx (rx_queue x.setup.rss frame) n } }

-- a packet was handled by an active device
pub record WasHandled (x : ActiveView) (frame : List ℕ) (a : ℕ) (f : Fate) (m m' : MachineView) : Type 0 where
  pub y : ActiveView
  pub is_active : m'.active ≡ Some y
  pub how : WasRefused x m.mac frame f y ⊎ WasGiven x m.mac frame a f y

module _ (x : ActiveView) (a : ℕ) (frame : List ℕ) (f : Fate) (m : MachineView) (now : m.active ≡ Some x) where
  abbrev q : ℕ
  q = rx_queue x.setup.rss frame

  abbrev what : Arrival
  what = delivered_as x.setup frame

  -- the end of the queue answered
  answered : (said : Deliver) (mid m' : MachineView) → admits x.setup m.mac frame ≡ verdict.Yes → DeliversAs q what said m mid → m'.active ≡ mid.active
      → ((e n : RxDeviceView) → Delivers e what.frame what.meta said n → Gave a q what f e n) → WasHandled x frame a f m m'
  answered said mid m' admitted gives kept how =
      let same : gives.here.active ≡ x = some_same m.active gives.here.active x gives.here.is_active now in
      let at : slice_get x.ends.rx q ≡ Some gives.here.end = ap (λ (z : ActiveView). slice_get z.ends.rx q) (sym same) ∙ gives.here.at in
      let y : ActiveView = record x { ends = record x.ends { rx = set x.ends.rx q gives.after } } in
      let active : mid.active ≡ Some y =
      ap (λ (z : MachineView). z.active) gives.is ∙ ap (λ (o : Option ActiveView). (with_rx (set gives.here.active.ends.rx q gives.after) (record m { active = o })).active) now
      ∙ ap (λ (z : ActiveView). Some (record x { ends = record x.ends { rx = set z.ends.rx q gives.after } })) same in record {
        y = y;
        is_active = kept ∙ active;
        how = inr (record { admitted = admitted; e = gives.here.end; n = gives.after; at = at; gave = how gives.here.end gives.after gives.gives; is = refl });
      }

  given_to : (m' : MachineView) (was masks : Masks) → admits x.setup m.mac frame ≡ verdict.Yes → ComesUp x.setup a q frame f m was m' masks ⊎ LacksBuffer x.setup a q frame f m was m' masks → WasHandled x frame a f m m'
  given_to m' was masks admitted d = elim d [
    | inl u ↦ answered (answer.Done u.place) u.mid m' admitted u.gives (ap (λ (z : MachineView). z.active) u.is) (λ e n h. inl (u.is_fate ∙ ap (λ (k : ℕ). fate.Up a q k) h.0, h.1))
    | inr u ↦ answered (answer.NoBuffer u.ring u.position u.word u.look) u.mid m' admitted u.gives (ap (λ (z : MachineView). z.active) u.is) (λ e n h. inr (u.ring, u.position, u.word, u.look, u.is_fate, h))
  ]

  pub handled : (m' : MachineView) (was masks : Masks) → HandlesTrusted a frame f m was m' masks → WasHandled x frame a f m m'
  handled m' was masks h = elim h [
    | inl i ↦ absurd (none_some m.active x i.idle now)
    | inr h1 ↦ elim h1 [
      | inl r ↦ record {
        y = x;
        is_active = ap (λ (z : MachineView). z.active) r.is ∙ now;
        how = inl (record { rule = r.rule; refused = ap (λ (z : ActiveView). admits z.setup m.mac frame) (sym (some_same m.active r.active x r.is_active now)) ∙ r.refused; fate_is = r.is_fate; same = refl });
      }
      | inr g ↦
          let same : g.let_in.active ≡ x = some_same m.active g.let_in.active x g.let_in.is_active now in
          given_to m' was masks (ap (λ (z : ActiveView). admits z.setup m.mac frame) (sym same) ∙ g.let_in.admitted)
          (subst (λ (z : ActiveView). ComesUp z.setup a (rx_queue z.setup.rss frame) frame f m was m' masks ⊎ LacksBuffer z.setup a (rx_queue z.setup.rss frame) frame f m was m' masks) same g.delivers)
    ]
  ]

-- ------------------------------------------------------------ in the serial run

got_is : {X : Type 0} (xs : List X) (i : ℕ) (d : X) → slice_get xs i ≡ Some d → get_or xs i d ≡ d
got_is [] i d e = absurd (cc e)
got_is (x ∷ xs) zero d e = cc e
got_is (x ∷ xs) (suc i) d e = got_is xs i d e

-- the seat of a guest whose device is active with these ends
pub record IsSeatOf (v : DriverView) (x : ActiveView) (s : Seat) : Type 0 where
  pub active : s.active ≡ true
  pub setup : s.setup ≡ x.setup
  pub begun : s.begun - 1 ≡ v.at.ended
  pub rx : s.rx ≡ map met_rx v.rx_facts ++ joined live_rx v.rx x.ends.rx

module _ (v : DriverView) (k : Keeps v) (x : ActiveView) (mac frame : List ℕ) (f : Fate) (s : Seat) (of : IsSeatOf v x s) (told : Pairwise IsToldRx v.rx x.ends.rx) where
  -- fate and queues are those of the serial run
  abbrev pub Comes : ActiveView → Type 0
  Comes y = (f ≡ fate_at s mac frame) × (map met_rx v.rx_facts ++ joined live_rx v.rx y.ends.rx ≡ marked (delivered_as s.setup frame) f s.rx)

  abbrev arrival : Arrival
  arrival = delivered_as s.setup frame

  abbrev queue : ℕ
  queue = rx_queue s.setup.rss frame

  fate_by : (w : Verdict) → admits s.setup mac frame ≡ w → fate_at s mac frame ≡ fate_in_turn s frame w
  fate_by w e = ap (λ (b : Bool). if b then fate_in_turn s frame (admits s.setup mac frame) else fate.Inactive) of.active ∙ ap (fate_in_turn s frame) e

  refused_comes : (y : ActiveView) → WasRefused x mac frame f y → Comes y
  refused_comes y r = (
    r.fate_is ∙ sym (fate_by (verdict.No r.rule) (ap (λ z. admits z mac frame) of.setup ∙ r.refused)),
    ap (λ (z : ActiveView). map met_rx v.rx_facts ++ joined live_rx v.rx z.ends.rx) r.same ∙ sym of.rx ∙ sym (ap (λ (z : Fate). marked arrival z s.rx) r.fate_is),
  )

  -- the queue is one that the driver's plan made
  made_is : (d : RxDriverView) → slice_get v.rx queue ≡ Some d → d.made ≡ rx_made v.plan (name_of v.guest v.at.ended queue)
  made_is d at =
      let z : 0 + queue ≡ queue = omega arith in
      subst (λ (c : ℕ × RxDriverView). c.1.made ≡ rx_made v.plan (name_of v.guest v.at.ended c.0)) (λ i. (z i, got_is v.rx queue d at i)) (at_index (HandsUp v.guest v.plan v.at.ended v.received) 0 v.rx queue d (get_lt v.rx queue d at) k.rx).made

  found : (d : RxDriverView) (e : RxDeviceView) → slice_get v.rx queue ≡ Some d → slice_get x.ends.rx queue ≡ Some e → find (rx_is (s.begun - 1) queue) s.rx ≡ Some (live_rx d e)
  found d e at_d at_e = ap (λ (n : ℕ). find (rx_is n queue) s.rx) of.begun ∙ ap (find (rx_is v.at.ended queue)) of.rx ∙ rx_found v queue x.ends.rx k d e at_d at_e

  -- one queue tried the delivery
  tried_is : (d : RxDriverView) (e n : RxDeviceView) → slice_get v.rx queue ≡ Some d → slice_get x.ends.rx queue ≡ Some e → live_rx d n ≡ tried arrival (live_rx d e)
      → map met_rx v.rx_facts ++ joined live_rx v.rx (set x.ends.rx queue n) ≡ where_it (rx_is v.at.ended queue) (tried arrival) s.rx
  tried_is d e n at_d at_e h =
      ap (λ (cs : List rx.RxCore). map met_rx v.rx_facts ++ cs) (joined_one live_rx queue v.rx x.ends.rx d e n (tried arrival) at_d at_e h)
      ∙ rx_where v queue x.ends.rx k (tried arrival) ∙ ap (where_it (rx_is v.at.ended queue) (tried arrival)) (sym of.rx)

  gave_comes : (d : RxDriverView) (e n : RxDeviceView) → slice_get v.rx queue ≡ Some d → slice_get x.ends.rx queue ≡ Some e → IsToldRx d e → WasPosted d n → admits s.setup mac frame ≡ verdict.Yes → Gave v.at.ended queue arrival f e n
      → (f ≡ fate_at s mac frame) × (map met_rx v.rx_facts ++ joined live_rx v.rx (set x.ends.rx queue n) ≡ marked arrival f s.rx)
  unfolding tried
  gave_comes d e n at_d at_e t known admitted g =
      let made = made_is d at_d in
      let every : d.made.bodies ≡ Every v.plan.bodies = ap (λ (m : RxMade). m.bodies) made in
      let low = v.plan.setup.rx_ring1_low in
      let size : 0 < d.made.size1 = (let e1 = ap (λ (m : RxMade). m.size1) made in omega (arith, e1, low)) in
      let turn : fate_at s mac frame ≡ fate_on v.at.ended queue arrival (Some (live_rx d e)) =
      fate_by verdict.Yes admitted ∙ ap (λ (o : Option rx.RxCore). fate_on (s.begun - 1) queue arrival o) (found d e at_d at_e) ∙ ap (λ (a : ℕ). fate_on a queue arrival (Some (live_rx d e))) of.begun in
      elim g [
        | inl u ↦ (
          u.0 ∙ fate_delivers d e n t known v.plan.bodies every size v.at.ended queue arrival.frame arrival.meta u.1 ∙ sym turn,
          tried_is d e n at_d at_e (live_delivers d e n t known v.plan.bodies every size arrival.frame arrival.meta u.1) ∙ sym (ap (λ (z : Fate). marked arrival z s.rx) u.0),
        )
        | inr (ring, position, word, look, is, r) ↦ (
          is ∙ fate_refuses d e n t known v.plan.bodies every size v.at.ended queue arrival.frame ring position word look r ∙ sym turn,
          tried_is d e n at_d at_e (live_refuses d e n t known v.plan.bodies every size arrival.frame arrival.meta ring position word look r) ∙ sym (ap (λ (z : Fate). marked arrival z s.rx) is),
        )
      ]

  given_comes : (y : ActiveView) → Pairwise WasPosted v.rx y.ends.rx → WasGiven x mac frame v.at.ended f y → Comes y
  given_comes y knows g = done
    where
      at : slice_get x.ends.rx queue ≡ Some g.e
      at = ap (λ (w : SetupView). slice_get x.ends.rx (rx_queue w.rss frame)) of.setup ∙ g.at

      ends : y.ends.rx ≡ set x.ends.rx queue g.n
      ends = ap (λ (w : ActiveView). w.ends.rx) g.is ∙ ap (λ (w : SetupView). set x.ends.rx (rx_queue w.rss frame) g.n) (sym of.setup)

      gave : Gave v.at.ended queue arrival f g.e g.n
      gave = subst (λ (w : SetupView). Gave v.at.ended (rx_queue w.rss frame) (delivered_as w frame) f g.e g.n) (sym of.setup) g.gave

      admitted : admits s.setup mac frame ≡ verdict.Yes
      admitted = ap (λ (w : SetupView). admits w mac frame) of.setup ∙ g.admitted

      p : (d : RxDriverView) × (slice_get v.rx queue ≡ Some d) × IsToldRx d g.e
      p = pair_at IsToldRx v.rx x.ends.rx queue g.e told at

      p' : (d : RxDriverView) × (slice_get v.rx queue ≡ Some d) × WasPosted d g.n
      p' = pair_at WasPosted v.rx y.ends.rx queue g.n knows (ap (λ (ls : List RxDeviceView). slice_get ls queue) ends ∙ get_set x.ends.rx queue g.e g.n at)

      known : WasPosted p.0 g.n
      known = subst (λ (d : RxDriverView). WasPosted d g.n) (some_same (slice_get v.rx queue) p'.0 p.0 p'.1 p.1) p'.2

      done : Comes y
      done = let c = gave_comes p.0 g.e g.n p.1 at p.2 known admitted gave in (c.0, ap (λ (ls : List RxDeviceView). map met_rx v.rx_facts ++ joined live_rx v.rx ls) ends ∙ c.1)

  pub handled_comes : (y : ActiveView) → Pairwise WasPosted v.rx y.ends.rx → WasRefused x mac frame f y ⊎ WasGiven x mac frame v.at.ended f y → Comes y
  handled_comes y knows h = elim h [
    | inl r ↦ refused_comes y r
    | inr g ↦ given_comes y knows g
  ]
