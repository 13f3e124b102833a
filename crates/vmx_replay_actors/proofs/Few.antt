-- How many commands a driver sends at most, and how many entries stand in the journals of guests that are activated.
use Rattle.std.proofs.Common.{◌≡◌, ℕ, zero, suc, ◌+◌, ◌*◌, ◌≤◌, Bool, true, false, List, [], ◌∷◌, ◌++◌, length, map, length-append, ap, arith, Option, Some, None, if◌then◌else◌}
use Rattle.std.specs.List.{AllByRecursion}
use Rattle.std.proofs.lemmas.List.{length-map}
use Rattle.vmx_device_state.specs.SetupView.{SetupView}
use Rattle.vmx_device_state.specs.declared.turn.CommandView.{CommandView}
use Rattle.vmx_device_state.specs.declared.turn.Turn.{Turn}
use Rattle.vmx_regs.specs.Rule.{commands_of, with_asked}
use Rattle.vmx_model.specs.declared.guest.GuestPlan.{GuestPlan}
use Rattle.vmx_model.specs.declared.plan.Plan.{Plan}
use Rattle.vmx_model.specs.declared.deeds.Action.{Action}
use Rattle.vmx_model.specs.declared.deeds.Deed.{Deed}
use Rattle.vmx_model.specs.declared.deeds.Deed.TheVariants as deed
use Rattle.vmx_model.specs.Plan.{Ask, asks, quiesce_dev, closes, changed, deed_asks, deed_commands, after_script, first_setup}
use Rattle.vmx_model.specs.Serial.{Seat}
use Rattle.vmx_device_laws.specs.Views.{DeviceView}
use Rattle.vmx_driver_steps.specs.Progress.{asks_left}
use Rattle.vmx_driver_steps.specs.Driver.{DriverView, Keeps as DriverKeeps, ask_by}
use Rattle.vmx_actor_laws.specs.Joint.{AreCaughtUp}
use Rattle.vmx_replay_worlds.specs.Starts.{seats_to, started}
use Rattle.vmx_replay_runs.specs.Short.{AreShort}

-- ------------------------------------------------------------ commands

deed_few : (d : Deed) → length (deed_commands d) ≤ 2
deed_few deed.Quiesce = omega arith
deed_few deed.Activate = omega arith
deed_few deed.Reset = omega arith
deed_few (deed.Mode m) = omega arith
deed_few (deed.Multicast t) = omega arith
deed_few (deed.Vlans t) = omega arith
deed_few (deed.Rss n t) = omega arith

script_few : (s : SetupView) (acts : List Action) → length (deed_asks s acts) ≤ 2 * length acts
script_few s [] = omega arith
script_few s (a ∷ acts) =
    let own : List Ask = map (λ (number : ℕ). record { number = number; setup = changed s a.deed }) (deed_commands a.deed) in
    let both = length-append own (deed_asks (changed s a.deed) acts) in
    let one : length own ≡ length (deed_commands a.deed) = length-map (deed_commands a.deed) _ in
    let few = deed_few a.deed in let rest = script_few (changed s a.deed) acts in omega (arith, both, one, few, rest)

last_few : (b : Bool) (x : Ask) → length (if b then x ∷ [] else []) ≤ 1
last_few true x = omega arith
last_few false x = omega arith

-- two a deed, the first activation and the closing quiesce
plan_few : (p : GuestPlan) → length (asks p) ≤ 514
plan_few p =
    let last : Ask = record { number = quiesce_dev; setup = after_script (first_setup p) p.script } in
    let both = length-append (deed_asks (first_setup p) p.script) (if closes p then last ∷ [] else []) in
    let script = script_few (first_setup p) p.script in let end = last_few (closes p) last in let most = p.script_length in omega (arith, both, script, end, most)

asked_more : (ts : List Turn) (o : Option CommandView) → length ts ≤ length (with_asked (commands_of ts) o)
asked_more ts None = let n = length-map ts (λ (t : Turn). t.command) in omega (arith, n)
asked_more ts (Some c) = let n = length-map ts (λ (t : Turn). t.command) in let m = length-append (commands_of ts) (c ∷ []) in omega (arith, n, m)

pub commands_few : (v : DriverView) (d : DeviceView) → DriverKeeps v → AreCaughtUp v d → length d.calls.served ≤ 514
commands_few v d k c =
    let sent : List CommandView = with_asked (commands_of v.calls.turns) v.calls.asked in
    let all : length (map ask_by sent ++ asks_left v.plan v.at) ≡ length (asks v.plan) = ap (λ (xs : List Ask). length xs) k.commands.sent in
    let both = length-append (map ask_by sent) (asks_left v.plan v.at) in
    let one = length-map sent ask_by in
    let more = asked_more v.calls.turns v.calls.asked in
    let most = plan_few v.plan in
    let same : length v.calls.turns ≡ length d.calls.served = ap (λ (ts : List Turn). length ts) c.same in omega (arith, all, both, one, more, most, same)

-- ------------------------------------------------------------ entries

seats_few : (port k : ℕ) (gs : List GuestPlan) → AllByRecursion (λ (s : Seat). length s.entries ≤ 1) (seats_to port k gs)
seats_few port zero [] = tt
seats_few port zero (g ∷ gs) = (omega arith, seats_few port zero gs)
seats_few port (suc k) [] = tt
seats_few port (suc k) (g ∷ gs) = (omega arith, seats_few (port + 1) k gs)

-- an activation is one entry
pub started_short : (k : ℕ) (plan : Plan) → AreShort 1 (started k plan)
started_short k plan = seats_few 0 k plan.guests
