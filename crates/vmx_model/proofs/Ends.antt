-- One guest's journal all through the serial run: the set commands in it are at most those of the actions done so far, so each entry about a frame stands before the plan's closing quiesce.
use Rattle.std.proofs.Common.{◌≡◌, ◌≢◌, ℕ, suc, ◌+◌, ◌<◌, ◌≤◌, List, [], ◌∷◌, ◌++◌, length, length-append, map, refl, sym, ◌∙◌, subst, arith, nat_eq, nat_le, true, false, Bool, Option, Some, None, inl, inr, if◌then◌else◌}
use Rattle.std.proofs.lemmas.Bool.Decides.{eqb_tells, nat_tests}
use Rattle.std.proofs.lemmas.List.{length-map}
use Rattle.std.specs.List.{fold, filter, slice_get}
use Rattle.vmx_device_state.specs.SetupView.{SetupView}
use Rattle.vmx_model.specs.declared.deeds.Deed.TheVariants as deed
use Rattle.vmx_model.specs.declared.journal.Entry.TheVariants as entry
use Rattle.vmx_model.specs.declared.journal.Way.TheVariants as way
use Rattle.vmx_model.specs.Types.{Plan, GuestPlan, Action, Deed, Entry}
use Rattle.vmx_model.specs.Lists.{count, EachAfter}
use Rattle.vmx_model.specs.Plan.{Ask, quiesce_dev, reset_dev, activate_dev, closes, commands, deed_commands, deed_asks, after_script, first_setup, changed}
use Rattle.vmx_model.specs.Account.{is_set_entry, IsTraffic}
use Rattle.vmx_model.specs.Views.{GuestView, RecordView}
use Rattle.vmx_model.specs.Record.{HasLists}
use Rattle.vmx_model.specs.Left.{EndsWithCommand, RunsInOrder}
use Rattle.vmx_model.specs.JournalSteps.{each_push}
use Rattle.vmx_model.specs.Serial.{active_setting, quiet_setting, Seat, arrived, acted, done, activated, quieted, set_command, polled_if, drained, fate_at, closed, serial_run, last_number}
use Rattle.vmx_model.proofs.Lists.{count-append}
use Rattle.vmx_model.proofs.Commands.{tells_commands}
use Rattle.vmx_model.proofs.Seats.{Bears, Goes, record_at}
use Rattle.vmx_model.proofs.Entries.{emptied_entries, drained_entries, opens_all, never_full}

-- ------------------------------------------------------------ the commands of actions

abbrev costs : List Action → ℕ
costs [] = 0
costs (a ∷ rest) = length (deed_commands a.deed) + costs rest

-- the actions of a number, and those from a number on
abbrev now : ℕ → List Action → List Action
now n script = filter (λ (a : Action). nat_eq a.at n) script

abbrev later : ℕ → List Action → List Action
later n script = filter (λ (a : Action). nat_le n a.at) script

later_all : (script : List Action) → costs (later 0 script) ≡ costs script
later_all [] = refl
later_all (a ∷ rest) = let e : nat_le 0 a.at ≡ true = grind (arith, nat_tests) in rw (e, later_all rest) refl

later_split : (n : ℕ) (script : List Action) → costs (later n script) ≡ costs (now n script) + costs (later (suc n) script)
later_split n [] = refl
later_split n (a ∷ rest) = elim (eqb_tells a.at n) [
  | inl p ↦ here p.0 p.1 (later_split n rest)
  | inr p ↦ there (nat_le (suc n) a.at) refl p.0 p.1 (later_split n rest)
]
  where
    here : nat_eq a.at n ≡ true → a.at ≡ n → costs (later n rest) ≡ costs (now n rest) + costs (later (suc n) rest) → costs (later n (a ∷ rest)) ≡ costs (now n (a ∷ rest)) + costs (later (suc n) (a ∷ rest))
    here e is ih = let low : nat_le n a.at ≡ true = grind (arith, nat_tests) in let high : nat_le (suc n) a.at ≡ false = grind (arith, nat_tests) in rw (e, low, high) (omega (arith, ih))

    there : (b : Bool) → nat_le (suc n) a.at ≡ b → nat_eq a.at n ≡ false → a.at ≢ n → costs (later n rest) ≡ costs (now n rest) + costs (later (suc n) rest) → costs (later n (a ∷ rest)) ≡ costs (now n (a ∷ rest)) + costs (later (suc n) (a ∷ rest))
    there true high e other ih = let low : nat_le n a.at ≡ true = grind (arith, nat_tests) in rw (e, low, high) (omega (arith, ih))
    there false high e other ih = let low : nat_le n a.at ≡ false = grind (arith, nat_tests) in rw (e, low, high) ih

asks_count : (s : SetupView) (script : List Action) → length (deed_asks s script) ≡ costs script
asks_count s [] = refl
asks_count s (a ∷ rest) =
    length-append (map (λ number. record { number = number; setup = changed s a.deed }) (deed_commands a.deed)) (deed_asks (changed s a.deed) rest)
    ∙ omega (arith, length-map (deed_commands a.deed) (λ (number : ℕ). let x : Ask = record { number = number; setup = changed s a.deed } in x), asks_count (changed s a.deed) rest)

-- of a guest whose plan closes
commands_count : (p : GuestPlan) → closes p ≡ true → length (commands p) ≡ costs p.script + 2
commands_count p e =
    let last : List Ask = if closes p then record { number = quiesce_dev; setup = after_script (first_setup p) p.script } ∷ [] else [] in
    let one : length last ≡ 1 = rw e refl in
    let all : List Ask = record { number = activate_dev; setup = first_setup p } ∷ (deed_asks (first_setup p) p.script ++ last) in
    omega (arith, length-map all (λ (x : Ask). x.number), length-append (deed_asks (first_setup p) p.script) last, asks_count (first_setup p) p.script, one)

-- ------------------------------------------------------------ a journal

-- entries about frames stand behind fewer set commands than the script has with the first and the last
abbrev Before : List Action → List Entry → Entry → Type 0
Before script before e = IsTraffic e → count is_set_entry before < costs script + 2

-- there is room for k set commands more
abbrev Holds : List Action → ℕ → List Entry → Type 0
Holds script k es = (count is_set_entry es + k ≤ costs script + 1) × EachAfter (Before script) [] es

fewer : (script : List Action) (m k : ℕ) (es : List Entry) → k ≤ m → Holds script m es → Holds script k es
fewer script m k es le h = (omega (arith, le, h.0), h.1)

setting_last : (script : List Action) (es : List Entry) (number answer : ℕ) (o : Option ℕ) → EachAfter (Before script) [] es → EachAfter (Before script) [] (es ++ entry.Setting number answer o ∷ [])
setting_last script es number answer o h = each_push (Before script) [] es (entry.Setting number answer o) h (λ t. absurd t)

one_at_most : (b : Bool) (e : Entry) → length (if b then e ∷ [] else []) ≤ 1
one_at_most true e = omega arith
one_at_most false e = omega arith

setting_push : (script : List Action) (k : ℕ) (es : List Entry) (number answer : ℕ) (o : Option ℕ) → Holds script (k + 1) es → Holds script k (es ++ entry.Setting number answer o ∷ [])
setting_push script k es number answer o h =
    (omega (arith, h.0, count-append is_set_entry es (entry.Setting number answer o ∷ []), one_at_most (is_set_entry (entry.Setting number answer o)) (entry.Setting number answer o)), setting_last script es number answer o h.1)

traffic_push : (script : List Action) (k : ℕ) (es : List Entry) (e : Entry) → count is_set_entry (e ∷ []) ≡ 0 → Holds script k es → Holds script k (es ++ e ∷ [])
traffic_push script k es e none h = (omega (arith, h.0, count-append is_set_entry es (e ∷ []), none), each_push (Before script) [] es e h.1 (λ t. omega (arith, h.0)))

-- ------------------------------------------------------------ a guest

abbrev Kept : List Action → ℕ → Seat → Type 0
Kept script k s = Holds script k s.entries

pick : {X : Type 0} (P : X → Type 0) (b : Bool) (x y : X) → P x → P y → P (if b then x else y)
pick P true x y h k = h
pick P false x y h k = k

activated_kept : (script : List Action) (k port : ℕ) (g : GuestPlan) (s : Seat) → Kept script (k + 1) s → Kept script k (activated port g s)
activated_kept script k port g s h = setting_push script k s.entries activate_dev 0 (Some (length s.setups)) h

quieted_kept : (script : List Action) (k number : ℕ) (s : Seat) → Kept script (k + 1) s → Kept script k (quieted number s)
quieted_kept script k number s h = rw (emptied_entries (record (quiet_setting number s) { active = false })) (setting_push script k s.entries number 0 None h)

commanded_kept : (script : List Action) (k number : ℕ) (s : Seat) → Kept script (k + 1) s → Kept script k (set_command s number)
commanded_kept script k number s h = pick (Kept script k) s.active (active_setting number s) (quiet_setting number s) (setting_push script k s.entries number 0 (Some (length s.setups)) h) (setting_push script k s.entries number 0 None h)

done_kept : (script : List Action) (k port : ℕ) (g : GuestPlan) (d : Deed) (s : Seat) → Kept script (k + length (deed_commands d)) s → Kept script k (done port g d s)
done_kept script k port g deed.Quiesce s h = quieted_kept script k quiesce_dev s h
done_kept script k port g deed.Activate s h = pick (Kept script k) s.active s (activated port g s) (fewer script (k + 1) k s.entries (omega arith) h) (activated_kept script k port g s h)
done_kept script k port g deed.Reset s h = activated_kept script k port g (quieted reset_dev s) (quieted_kept script (k + 1) reset_dev s (fewer script (k + 2) (k + 1 + 1) s.entries (omega arith) h))
done_kept script k port g (deed.Mode m) s h = commanded_kept script k _ (record s { setup = changed s.setup (deed.Mode m) }) h
done_kept script k port g (deed.Multicast t) s h = commanded_kept script k _ (record s { setup = changed s.setup (deed.Multicast t) }) h
done_kept script k port g (deed.Vlans t) s h = commanded_kept script k _ (record s { setup = changed s.setup (deed.Vlans t) }) h
done_kept script k port g (deed.Rss n t) s h = commanded_kept script k _ (record s { setup = changed s.setup (deed.Rss n t) }) h

actions_kept : (script : List Action) (k port : ℕ) (g : GuestPlan) (actions : List Action) (s : Seat) → Kept script (k + costs actions) s → Kept script k (fold (λ s (a : Action). done port g a.deed s) s actions)
actions_kept script k port g [] s h = fewer script (k + 0) k s.entries (omega arith) h
actions_kept script k port g (a ∷ rest) s h =
    actions_kept script k port g rest (done port g a.deed s)
    (done_kept script (k + costs rest) port g a.deed s (fewer script (k + (length (deed_commands a.deed) + costs rest)) (k + costs rest + length (deed_commands a.deed)) s.entries (omega arith) h))

-- there is room for the commands of the actions from number n on
abbrev Awaits : GuestPlan → ℕ → Seat → Type 0
Awaits p n s = Kept p.script (costs (later n p.script)) s

acted_awaits : (p : GuestPlan) (port n : ℕ) (s : Seat) → Awaits p n s → Awaits p (suc n) (acted port p n s)
acted_awaits p port n s h =
    actions_kept p.script (costs (later (suc n) p.script)) port p (now n p.script) s
    (fewer p.script (costs (later n p.script)) (costs (later (suc n) p.script) + costs (now n p.script)) s.entries (omega (arith, later_split n p.script)) h)

polled_kept : (script : List Action) (k : ℕ) (b : Bool) (s : Seat) → Kept script k s → Kept script k (polled_if b s)
polled_kept script k b s h = pick (Kept script k) b (drained s) s (rw (drained_entries s) h) h

arrived_kept : (script : List Action) (k every : ℕ) (mac : List ℕ) (from place : ℕ) (f : List ℕ) (s : Seat) → Kept script k s → Kept script k (arrived every mac from place f s)
arrived_kept script k every mac from place f s h = polled_kept script k _ _ (traffic_push script k s.entries (entry.In from place (fate_at s mac f)) refl h)

-- ------------------------------------------------------------ the run

bears : (script : List Action) (k : ℕ) → Bears (Kept script k)
bears script k = record {
  out = λ t to place s m. traffic_push script k s.entries (entry.Out t to (way.Link place)) refl m;
  lost = λ t s m. traffic_push script k s.entries (entry.Lost t) refl m;
  came = arrived_kept script k;
  moved = λ a q f s m. m;
}

goes : (g : ℕ) (p : GuestPlan) → Goes (Awaits p) g p
goes g p = record { first = λ port. (omega (arith, later_all p.script), (λ t. absurd t, tt)); acts = acted_awaits p g; bears = λ n. bears p.script (costs (later n p.script)) }

closed_kept : (script : List Action) (k : ℕ) (s : Seat) → Kept script k s → EachAfter (Before script) [] (closed s).entries
closed_kept script k s h = pick (λ (x : Seat). EachAfter (Before script) [] x.entries) s.active (quieted quiesce_dev s) s (rw (emptied_entries (record (quiet_setting quiesce_dev s) { active = false })) (setting_last script s.entries quiesce_dev 0 None h.1)) h.1

-- in a record with the lists of the run, where the plan closes with a quiesce
ends_with_command : (plan : Plan) (r : RecordView) → HasLists r (serial_run plan) → (g : ℕ) (p : GuestPlan) (v : GuestView) → slice_get plan.guests g ≡ Some p → slice_get r.guests g ≡ Some v → closes p ≡ true → EachAfter (EndsWithCommand p) [] v.entries
ends_with_command plan r h g p v at here closing =
    let most : costs p.script + 2 ≡ length (commands p) = sym (commands_count p closing) in
    let all : EachAfter (Before p.script) [] v.entries = record_at (Awaits p) (λ es. EachAfter (Before p.script) [] es) plan r h g p v at here (goes g p) (λ s k. closed_kept p.script (costs (later (last_number plan.guests) p.script)) s k) in
    subst (λ n. EachAfter (λ before e. IsTraffic e → count is_set_entry before < n) [] v.entries) most all

pub in_order : (plan : Plan) (r : RecordView) → HasLists r (serial_run plan) → RunsInOrder plan r
in_order plan r h = record { settings = tells_commands plan r h; opens = opens_all plan r h; ends = ends_with_command plan r h; no_link_full = never_full plan r h }
