-- What follows from a command, step by step: counts, and the end of meeting.
use Rattle.std.proofs.Common.{◌≡◌, ◌<◌, ◌+◌, ◌-◌, ◌^◌, ℕ, Bool, true, false, true≢false, List, [], ◌∷◌, ◌++◌, length, length-append, refl, sym, ap, ◌∙◌, subst, arith, Option, Some, None, inl, inr, if◌then◌else◌}
use Rattle.std.specs.Prelude.{is_some, nat_lt}
use Rattle.std.specs.List.{slice_get}
use Rattle.vmx_pcap.specs.declared.records.Stamped.{Stamped}
use Rattle.vmx_model.specs.declared.deeds.Action.{Action}
use Rattle.vmx_driver_steps.specs.declared.progress.Then.{Then}
use Rattle.vmx_driver_steps.specs.declared.progress.Then.TheVariants.{Rest, Renew, End}
use Rattle.vmx_driver_steps.specs.declared.progress.Stage.{Stage}
use Rattle.vmx_driver_steps.specs.declared.progress.Due.{Due}
use Rattle.vmx_driver_steps.specs.declared.progress.Due.TheVariants as due
use Rattle.vmx_driver_steps.specs.Progress.{due_in, next_by, next_of}
use Rattle.vmx_driver_steps.specs.Driver.{DriverView, Keeps as DriverKeeps}
use Rattle.vmx_driver_steps.specs.Driving.{HandsUpSome, MeetsEmpty}
use Rattle.vmx_driver_steps.specs.Parting.{after}
use Rattle.vmx_driver.specs.declared.driver.Act.{Act}
use Rattle.vmx_driver.specs.declared.driver.Act.TheVariants.{Worked, Waiting, Done}
use Rattle.vmx_driver.specs.Acts.{Acts, ActsSo, ActsAtMeeting}
use Rattle.vmx_device_laws.specs.Views.{DeviceView}
use Rattle.vmx_regs.specs.declared.known.Calls.{Calls}
use Rattle.vmx_device_state.specs.declared.turn.CommandView.{CommandView}
use Rattle.vmx_machine_state.specs.Views.{ActiveView}
use Rattle.vmx_replay_guests.specs.Passing.{RegsPassed, QueuesPassedBy}
use Rattle.vmx_replay_settled.specs.Settled.{Settles, QueuesSettled}
use Rattle.vmx_replay_chains.specs.Chains.{is_meeting, due_now, HasMet, MeetsBy}

-- ------------------------------------------------------------ notes hand nothing up, and leave the driver where it stands

-- what notes leave of a driver
pub record StaysAt (v v' : DriverView) : Type 0 where
  pub at : v'.at ≡ v.at
  pub plan : v'.plan ≡ v.plan
  pub received : v'.received ≡ v.received
  pub asked : v'.calls.asked ≡ v.calls.asked
  pub turns : v'.calls.turns ≡ v.calls.turns

stays_same : (v v' : DriverView) → v' ≡ v → StaysAt v v'
stays_same v v' e = record { at = ap (λ (x : DriverView). x.at) e; plan = ap (λ (x : DriverView). x.plan) e; received = ap (λ (x : DriverView). x.received) e; asked = ap (λ (x : DriverView). x.calls.asked) e; turns = ap (λ (x : DriverView). x.calls.turns) e }

then_stays : (v m v' : DriverView) → StaysAt v m → StaysAt m v' → StaysAt v v'
then_stays v m v' a b = record { at = b.at ∙ a.at; plan = b.plan ∙ a.plan; received = b.received ∙ a.received; asked = b.asked ∙ a.asked; turns = b.turns ∙ a.turns }

regs_stay : (v : DriverView) (d : DeviceView) (v' : DriverView) (d' : DeviceView) → RegsPassed v d v' d' → StaysAt v v'
regs_stay v d v' d' r = record { at = ap (λ (x : DriverView). x.at) r.driver; plan = ap (λ (x : DriverView). x.plan) r.driver; received = ap (λ (x : DriverView). x.received) r.driver; asked = ap (λ (c : Calls). c.asked) r.regs.driver; turns = ap (λ (c : Calls). c.turns) r.regs.driver }

queues_stay : (o : Option ActiveView) (v : DriverView) (d : DeviceView) (v' : DriverView) (d' : DeviceView) → QueuesPassedBy o v d v' d' → StaysAt v v'
queues_stay None v d v' d' q = stays_same v v' q.0
queues_stay (Some a) v d v' d' q = let p = q.0 in record {
  at = ap (λ (x : DriverView). x.at) p.rx.driver ∙ ap (λ (x : DriverView). x.at) p.tx.driver;
  plan = ap (λ (x : DriverView). x.plan) p.rx.driver ∙ ap (λ (x : DriverView). x.plan) p.tx.driver;
  received = ap (λ (x : DriverView). x.received) p.rx.driver ∙ ap (λ (x : DriverView). x.received) p.tx.driver;
  asked = ap (λ (x : DriverView). x.calls.asked) p.rx.driver ∙ ap (λ (x : DriverView). x.calls.asked) p.tx.driver;
  turns = ap (λ (x : DriverView). x.calls.turns) p.rx.driver ∙ ap (λ (x : DriverView). x.calls.turns) p.tx.driver;
}

settled_stay : (o : Option CommandView) (v : DriverView) (d : DeviceView) (v' : DriverView) (d' : DeviceView) → QueuesSettled o v d v' d' → StaysAt v v'
settled_stay None v d v' d' q = queues_stay d.machine.active v d v' d' q
settled_stay (Some c) v d v' d' q = stays_same v v' q.0

pub settles_stay : (v : DriverView) (d : DeviceView) (v' : DriverView) (d' : DeviceView) → Settles v d v' d' → StaysAt v v'
settles_stay v d v' d' s = then_stays v s.told_v v' (regs_stay v d s.told_v s.told_d s.regs) (settled_stay s.told_v.calls.asked s.told_v s.told_d v' d' s.queues)

-- ------------------------------------------------------------ acts where ends are to meet

-- so many acts may come
abbrev pub left_of : Bool → ℕ → ℕ
left_of true n = 2 ^ 64 + 1 - n
left_of false n = 0

abbrev pub left : DriverView → ℕ
left v = left_of (is_meeting (due_now v)) (length v.received)

meeting_is : (d : Due) → is_meeting d ≡ true → d ≡ due.Meet
meeting_is due.Meet e = refl
meeting_is due.Nothing e = absurd (true≢false (sym e))
meeting_is due.Activate e = absurd (true≢false (sym e))
meeting_is due.Answer e = absurd (true≢false (sym e))
meeting_is (due.Action at) e = absurd (true≢false (sym e))
meeting_is (due.Frame i) e = absurd (true≢false (sym e))
meeting_is due.Close e = absurd (true≢false (sym e))

-- a driver whose ends have met is to let none meet
met_due : (t : Then) (closed : Bool) (next : Due) → is_meeting next ≡ false → is_meeting (due_in (after t) closed next) ≡ false
met_due Rest closed next e = e
met_due Renew closed next e = refl
met_due End closed next e = refl

asked_due : (asked : Bool) (d : Due) → is_meeting d ≡ false → is_meeting (if asked then due.Answer else d) ≡ false
asked_due true d e = refl
asked_due false d e = e

next_due : (n : ℕ) (a : Option Action) (r : Option Stamped) → is_meeting (next_by n a r) ≡ false
next_due n None None = refl
next_due n None (Some r) = refl
next_due n (Some a) None = refl
next_due n (Some a) (Some r) = step (nat_lt n a.at)
  where
    step : (b : Bool) → is_meeting (if b then due.Frame n else due.Action a.at) ≡ false
    step true = refl
    step false = refl

met_now : (t : Then) (v : DriverView) → v.at.stage ≡ after t → is_meeting (due_now v) ≡ false
met_now t v e = asked_due (is_some v.calls.asked) (due_in v.at.stage v.at.closed (next_of v.plan v.at))
    (subst (λ (g : Stage). is_meeting (due_in g v.at.closed (next_of v.plan v.at)) ≡ false) (sym e)
    (met_due t v.at.closed (next_of v.plan v.at) (next_due v.at.next (slice_get v.plan.script v.at.done) (slice_get v.plan.capture.records v.at.next))))

less_by : (b : Bool) (n k : ℕ) → n < 2 ^ 64 → n + k < 2 ^ 64 → 0 < k → left_of b (n + k) < 2 ^ 64 + 1 - n
less_by true n k lt more some = omega (arith, lt, more, some)
less_by false n k lt more some = omega (arith, lt, more, some)

none_by : (b : Bool) (n m : ℕ) → b ≡ false → n < 2 ^ 64 → left_of b m < 2 ^ 64 + 1 - n
none_by true n m e lt = absurd (true≢false e)
none_by false n m e lt = omega (arith, lt)

module _ (v w : DriverView) (few : length v.received < 2 ^ 64) (more : length w.received < 2 ^ 64) where
  up_less : HandsUpSome v w → left w < 2 ^ 64 + 1 - length v.received
  up_less h =
      let long : length w.received ≡ length v.received + length h.polls.up = ap (λ (x : DriverView). length x.received) h.polls.is ∙ length-append h.mid.received h.polls.up ∙ ap (λ (x : DriverView). length x.received + length h.polls.up) h.reaps.is in
      let count = h.polls.count in let some = h.some in
      subst (λ (n : ℕ). left_of (is_meeting (due_now w)) n < 2 ^ 64 + 1 - length v.received) (sym long)
      (less_by (is_meeting (due_now w)) (length v.received) (length h.polls.up) few (omega (arith, more, long)) (omega (arith, count, some)))

  met_less : (t : Then) → MeetsEmpty t v w → left w < 2 ^ 64 + 1 - length v.received
  met_less t h = none_by (is_meeting (due_now w)) (length v.received) (length w.received) (met_now t w (ap (λ (x : DriverView). x.at.stage) h.meets.is)) few

  held_less : (t : Then) (a : Act) → ActsAtMeeting t v a w → left w < 2 ^ 64 + 1 - length v.received
  held_less t Worked m = elim m [ inl h ↦ up_less h | inr h ↦ met_less t h ]
  held_less t Waiting m = absurd m
  held_less t Done m = absurd m

  acts_by : (d : Due) (a : Act) → is_meeting d ≡ true → ActsSo d v a w → left w < 2 ^ 64 + 1 - length v.received
  acts_by due.Meet a e h = held_less h.then_ a h.does
  acts_by due.Nothing a e h = absurd (true≢false (sym e))
  acts_by due.Activate a e h = absurd (true≢false (sym e))
  acts_by due.Answer a e h = absurd (true≢false (sym e))
  acts_by (due.Action at) a e h = absurd (true≢false (sym e))
  acts_by (due.Frame i) a e h = absurd (true≢false (sym e))
  acts_by due.Close a e h = absurd (true≢false (sym e))

  pub acts_less : (a : Act) → is_meeting (due_now v) ≡ true → Acts v a w → left w < left v
  acts_less a e h = subst (λ (b : Bool). left w < left_of b (length v.received)) (sym e) (acts_by (due_now v) a e h)

-- ------------------------------------------------------------ one act more

pub met_none : (v : DriverView) → is_meeting (due_now v) ≡ false → HasMet v v
met_none v e = record { steps = []; meets = refl; met = e }

pub more_met : (v : DriverView) (ms : List DriverView) (m v' : DriverView) → MeetsBy v ms m → is_meeting (due_now m) ≡ true → (a : Act) → Acts m a v' → DriverKeeps v' → MeetsBy v (ms ++ v' ∷ []) v'
more_met v [] m v' e on a s k = subst (λ (x : DriverView). MeetsBy x (v' ∷ []) v') e (on, (a, s), k, refl)
more_met v (x ∷ ms) m v' (d, one, keeps, rest) on a s k = (d, one, keeps, more_met x ms m v' rest on a s k)
