-- Two actors of one guest between two steps, and the parts of a turn in which no command is answered.
use Rattle.std.proofs.Common.{◌≡◌, ℕ, ◌+◌, Bool, true, false, true≢false, List, [], ◌∷◌, ◌++◌, length, length-append, refl, sym, ap, ◌∙◌, subst, arith, Some, None, Option}
use Rattle.std.specs.Prelude.{is_some}
use Rattle.std.specs.Option.{option_map}
use Rattle.std.proofs.lemmas.List.{length-map}
use Rattle.vmx_ends.specs.Transmit.{TxDriverView, TxDeviceView}
use Rattle.vmx_ends.specs.Receive.{RxDriverView, RxDeviceView}
use Rattle.vmx_device_state.specs.Deals.{Held as HeldEnds}
use Rattle.vmx_device_state.specs.SetupView.{SetupView}
use Rattle.vmx_device_state.specs.declared.turn.CommandView.{CommandView}
use Rattle.vmx_device_state.specs.declared.turn.Turn.{Turn}
use Rattle.vmx_regs.specs.declared.known.Calls.{Calls}
use Rattle.vmx_regs.specs.declared.known.Masks.{Masks}
use Rattle.vmx_commands.specs.Serving.{asked_with, told_with}
use Rattle.vmx_machine_state.specs.Views.{EndsView, ActiveView, MachineView, ends_of, state_by, handed_of}
use Rattle.vmx_model.specs.Bags.{gifts}
use Rattle.vmx_model.specs.Lists.{count}
use Rattle.vmx_model.specs.Journal.{is_activation}
use Rattle.vmx_device_laws.specs.Views.{DeviceView, tx_held, held_ends}
use Rattle.vmx_device_laws.specs.Steps.{CommandStep, SeesNoCommand, TxSteps, InSteps, TurnsOnce}
use Rattle.vmx_device_laws.specs.Pairs.{tx_of, rx_of}
use Rattle.vmx_device_laws.proofs.Pairwise.{turn_pairs}
use Rattle.vmx_driver_steps.specs.declared.progress.Stage.{Stage}
use Rattle.vmx_driver_steps.specs.declared.progress.Stage.TheVariants.{Fresh, Active, Stopping, Held, Quiet, Ended}
use Rattle.vmx_driver_steps.specs.Progress.{in_hand, setup_now}
use Rattle.vmx_driver_steps.specs.Driver.{DriverView, GivesBack, bag_in, state_in}
use Rattle.vmx_actor_laws.specs.Joint.{GoWith, IsLed}
use Rattle.vmx_actor_laws.proofs.Joint.{leads_its_device}
use Rattle.vmx_replay_worlds.specs.Guests.{live_tx, live_rx, joined, ends_by, begun_by}
use Rattle.vmx_replay_steps.specs.Turns.{StandsTogether}

pub is_led : (v : DriverView) (d : DeviceView) → StandsTogether v d → IsLed v d
is_led v d s = leads_its_device v d s.driver s.device s.caught_up

-- ------------------------------------------------------------ activations

no_ends : (o : Option ActiveView) → option_map (λ (a : ActiveView). a.ends) o ≡ None → length (held_ends o) ≡ 0
no_ends None e = refl
no_ends (Some a) e = absurd (cc e)

some_ends : (o : Option ActiveView) (e : EndsView) → option_map (λ (a : ActiveView). a.ends) o ≡ Some e → length (held_ends o) ≡ 1
some_ends None e h = absurd (cc h)
some_ends (Some a) e h = refl

-- the bag that the driver has, and the ends that the device has: together those in hand
hand_is : (g : Stage) (v : DriverView) (m : MachineView) (txs : List TxDeviceView) (rxs : List RxDeviceView) (past : List Turn) (asked : Option CommandView) (ends : HeldEnds) → asked ≡ None → GoWith g v (ends_of m) → GivesBack g past asked ends → length (bag_in g txs rxs) + length (held_ends m.active) ≡ in_hand g
hand_is Fresh v m txs rxs past asked ends none go back = let e = no_ends m.active go in omega (arith, e)
hand_is Active v m txs rxs past asked ends none go back = let e = some_ends m.active go.0 go.1 in omega (arith, e)
hand_is (Stopping t) v m txs rxs past asked ends none go back = absurd (let x : None ≡ Some back.1 = sym none ∙ back.2 in cc x)
hand_is (Held t) v m txs rxs past asked ends none go back = let e = no_ends m.active go in omega (arith, e)
hand_is Quiet v m txs rxs past asked ends none go back = let e = no_ends m.active go in omega (arith, e)
hand_is Ended v m txs rxs past asked ends none go back = let e = no_ends m.active go in omega (arith, e)

-- as many activations were answered as were sent
pub begun_is : (v : DriverView) (d : DeviceView) → StandsTogether v d → count is_activation d.entries ≡ begun_by v
begun_is v d s =
    let k = s.device in let h = s.driver in
    let led = is_led v d s in
    let all : count is_activation d.entries ≡ length k.past + length (held_ends d.machine.active) = k.begun ∙ length-append k.past (held_ends d.machine.active) in
    let past : length k.past ≡ length h.bags + length (bag_in v.at.stage v.tx_held v.rx_held) =
    sym (length-map k.past handed_of) ∙ ap length (sym k.bags) ∙ ap (λ (ts : List Turn). length (gifts ts)) (sym s.caught_up.same) ∙ ap length h.gifts_are ∙ length-append h.bags (bag_in v.at.stage v.tx_held v.rx_held) in
    let hand = hand_is v.at.stage v d.machine v.tx_held v.rx_held v.calls.turns v.calls.asked _ s.caught_up.none led.ends h.commands.gives in
    let bags = h.bags_are in omega (arith, all, past, hand, bags)

-- ------------------------------------------------------------ a device that is active

led_by : (g : Stage) (x : ActiveView) (s : SetupView) → state_by (Some x) ≡ state_in g s → (g ≡ Active) × (s ≡ x.setup)
led_by Fresh x s e = absurd (cc e)
led_by Active x s e = (refl, (let same : x.setup ≡ s = cc e in sym same))
led_by (Stopping t) x s e = absurd (cc e)
led_by (Held t) x s e = absurd (cc e)
led_by Quiet x s e = absurd (cc e)
led_by Ended x s e = absurd (cc e)

-- its driver is active too, and its setup is the one in force
pub led_active : (v : DriverView) (d : DeviceView) (x : ActiveView) → StandsTogether v d → d.machine.active ≡ Some x → (v.at.stage ≡ Active) × (setup_now v.plan v.at ≡ x.setup)
led_active v d x s now = led_by v.at.stage x (setup_now v.plan v.at) (ap state_by (sym now) ∙ (is_led v d s).state)

active_by : (g : Stage) (v : DriverView) (o : Option ActiveView) → g ≡ Active → GoWith g v (option_map (λ (a : ActiveView). a.ends) o) → (x : ActiveView) × (o ≡ Some x)
active_by g v None e go = absurd (let h = subst (λ (z : Stage). GoWith z v None) e go in let n : None ≡ Some h.0 = h.1 in cc n)
active_by g v (Some x) e go = (x, refl)

-- and the other way round
pub active_led : (v : DriverView) (d : DeviceView) → StandsTogether v d → v.at.stage ≡ Active → (x : ActiveView) × (d.machine.active ≡ Some x)
active_led v d s e = active_by v.at.stage v d.machine.active e (is_led v d s).ends

pub is_on : (v : DriverView) (d : DeviceView) → StandsTogether v d → v.at.stage ≡ Active → is_some d.machine.active ≡ true
is_on v d s e = let x = active_led v d s e in ap (λ (o : Option ActiveView). is_some o) x.1

idle_by : (g : Stage) (v : DriverView) (o : Option ActiveView) → in_hand g ≡ 0 → GoWith g v (option_map (λ (a : ActiveView). a.ends) o) → is_some o ≡ false
idle_by g v None free go = refl
idle_by Fresh v (Some a) free go = absurd (cc go)
idle_by Active v (Some a) free go = absurd (omega (arith, free))
idle_by (Stopping t) v (Some a) free go = absurd (cc go)
idle_by (Held t) v (Some a) free go = absurd (cc go)
idle_by Quiet v (Some a) free go = absurd (cc go)
idle_by Ended v (Some a) free go = absurd (cc go)

pub is_off : (v : DriverView) (d : DeviceView) → StandsTogether v d → in_hand v.at.stage ≡ 0 → is_some d.machine.active ≡ false
is_off v d s free = idle_by v.at.stage v d.machine.active free (is_led v d s).ends

-- ------------------------------------------------------------ queues, by where the device's ends are

pub tx_where_ends : (ds : List TxDriverView) (o o' : Option ActiveView) (back : EndsView) → is_some o' ≡ is_some o → joined live_tx ds (tx_of o') ≡ joined live_tx ds (tx_of o) → joined live_tx ds (ends_by o' back).tx ≡ joined live_tx ds (ends_by o back).tx
tx_where_ends ds None None back e h = refl
tx_where_ends ds None (Some y) back e h = absurd (true≢false e)
tx_where_ends ds (Some x) None back e h = absurd (true≢false (sym e))
tx_where_ends ds (Some x) (Some y) back e h = h

pub rx_where_ends : (ds : List RxDriverView) (o o' : Option ActiveView) (back : EndsView) → is_some o' ≡ is_some o → joined live_rx ds (rx_of o') ≡ joined live_rx ds (rx_of o) → joined live_rx ds (ends_by o' back).rx ≡ joined live_rx ds (ends_by o back).rx
rx_where_ends ds None None back e h = refl
rx_where_ends ds None (Some y) back e h = absurd (true≢false e)
rx_where_ends ds (Some x) None back e h = absurd (true≢false (sym e))
rx_where_ends ds (Some x) (Some y) back e h = h

-- ------------------------------------------------------------ a turn without a command

pub record Split (d d' : DeviceView) : Type 0 where
  pub calls : Calls
  pub masks : Masks
  pub taken : Bool
  pub sent : DeviceView
  pub takes : TxSteps (tx_held d.machine.active) taken (record d { calls = calls; masks = masks }) sent
  pub pulled : Bool
  pub pulls : InSteps (length sent.input) pulled sent d'

pub no_command : (b : Bool) (v : DriverView) (d asked d' : DeviceView) → CommandStep b d asked → d'.calls ≡ asked.calls → v.calls.turns ≡ d.calls.served → v.calls.turns ≡ d'.calls.served → SeesNoCommand d asked
no_command false v d asked d' c same before now = c
no_command true v d asked d' c same before now = absurd (
    let t : Turn = record { command = asked_with c.number c.answers.image c.answers.given; answer = told_with c.value c.answers.written c.answers.back } in
    let served : asked.calls.served ≡ d.calls.served ++ t ∷ [] = ap (λ (x : DeviceView). x.calls.served) c.is ∙ ap (λ (x : Calls). x.served) c.answers.calls in
    let l = ap (λ (x : Calls). length x.served) same in let n = length-append d.calls.served (t ∷ []) in let s = ap length served in let a = ap length before in let b = ap length now in omega (arith, l, n, s, a, b)
    )

pub split : (v : DriverView) (worked : Bool) (d d' : DeviceView) → TurnsOnce worked d d' → v.calls.turns ≡ d.calls.served → v.calls.turns ≡ d'.calls.served → Split d d'
split v worked d d' t before now =
    let c = no_command t.answered v d t.asked d' t.command (turn_pairs worked d d' t).same.3 before now in
    let rung : t.rung ≡ record d { calls = c.calls; masks = t.bells.0 } = t.bells.2 ∙ ap (λ (x : DeviceView). record x { masks = t.bells.0 }) c.is in record {
      calls = c.calls;
      masks = t.bells.0;
      taken = t.taken;
      sent = t.sent;
      takes = subst (λ (z : DeviceView × ℕ). TxSteps z.1 t.taken z.0 t.sent) (λ i. (rung i, ap (λ (x : DeviceView). tx_held x.machine.active) c.is i)) t.takes;
      pulled = t.pulled;
      pulls = t.pulls;
    }
