-- The set commands in a guest's journal of the serial run are its plan's, each answered 0: the first activation's, those of its actions in their order, and the closing quiesce's.
use Rattle.std.proofs.Common.{◌≡◌, ℕ, zero, suc, ◌+◌, ◌-◌, ◌≤◌, ◌≢◌, List, [], ◌∷◌, ◌++◌, length, map, append-nil, append_assoc, refl, ap, sym, ◌∙◌, subst, arith, nat_eq, nat_le, not, true, false, Bool, Option, Some, None, inl, inr, if◌then◌else◌, ◌&&◌}
use Rattle.std.specs.Prelude.{nat_lt, ⊤, is_some, max}
use Rattle.std.proofs.Math.Nat.{le-max_left, le-max_right}
use Rattle.std.proofs.lemmas.Bool.{and_parts}
use Rattle.std.proofs.lemmas.Bool.Decides.{eqb_tells, nat_tests}
use Rattle.std.proofs.lemmas.List.{map-append}
use Rattle.std.proofs.lemmas.List.Elements.{filter-append, filter_map-append}
use Rattle.std.specs.List.{fold, filter, filter_map, slice_get}
use Rattle.vmx_device_state.specs.SetupView.{SetupView}
use Rattle.vmx_model.specs.declared.deeds.Deed.TheVariants as deed
use Rattle.vmx_model.specs.declared.journal.Entry.TheVariants as entry
use Rattle.vmx_model.specs.declared.journal.Way.TheVariants as way
use Rattle.vmx_model.specs.Types.{Plan, GuestPlan, Action, Deed, Entry}
use Rattle.vmx_model.specs.Deeds.{quiet_after, is_quiet}
use Rattle.vmx_model.specs.Ranges.{is_within, fits_deed, is_in_turn, fits_from}
use Rattle.vmx_model.specs.Plan.{Ask, deed_asks, after_script, first_setup, activate_dev, quiesce_dev, reset_dev, closes, commands, deed_commands, changed, is_set}
use Rattle.vmx_model.specs.Account.{asked}
use Rattle.vmx_model.specs.Views.{GuestView, RecordView}
use Rattle.vmx_model.specs.Record.{HasLists}
use Rattle.vmx_model.specs.Serial.{Seat, active_setting, quiet_setting, acted, arrived, done, activated, quieted, set_command, polled_if, emptied, drained, polls, poll, pending, fate_at, last_at, last_number, closed, serial_run}
use Rattle.vmx_model.proofs.Entries.{emptied_entries, drained_entries}
use Rattle.vmx_model.proofs.Seats.{Bears, Goes, record_at}

-- ------------------------------------------------------------ the commands of actions

abbrev cmds : List Action → List ℕ
cmds [] = []
cmds (a ∷ rest) = deed_commands a.deed ++ cmds rest

cmds_append : (xs ys : List Action) → cmds (xs ++ ys) ≡ cmds xs ++ cmds ys
cmds_append [] ys = refl
cmds_append (x ∷ xs) ys = ap (λ cs. deed_commands x.deed ++ cs) (cmds_append xs ys) ∙ sym (append_assoc (deed_commands x.deed) (cmds xs) (cmds ys))

quiet_append : (quiet : Bool) (xs ys : List Action) → is_quiet quiet (xs ++ ys) ≡ is_quiet (is_quiet quiet xs) ys
quiet_append quiet [] ys = refl
quiet_append quiet (x ∷ xs) ys = quiet_append (quiet_after quiet x.deed) xs ys

numbers_again : (s : SetupView) (cs : List ℕ) → map (λ (x : Ask). x.number) (map (λ number. record { number = number; setup = s }) cs) ≡ cs
numbers_again s [] = refl
numbers_again s (c ∷ cs) = ap (λ (xs : List ℕ). c ∷ xs) (numbers_again s cs)

deed_numbers : (s : SetupView) (script : List Action) → map (λ (x : Ask). x.number) (deed_asks s script) ≡ cmds script
deed_numbers s [] = refl
deed_numbers s (a ∷ rest) =
    map-append (λ (x : Ask). x.number) (map (λ number. record { number = number; setup = changed s a.deed }) (deed_commands a.deed)) (deed_asks (changed s a.deed) rest)
    ∙ (λ i. numbers_again (changed s a.deed) (deed_commands a.deed) i ++ deed_numbers (changed s a.deed) rest i)

-- the last one, where a plan closes with a quiesce
abbrev closing : Bool → List ℕ
closing b = if b then quiesce_dev ∷ [] else []

closing_number : (b : Bool) (s : SetupView) → map (λ (x : Ask). x.number) (if b then record { number = quiesce_dev; setup = s } ∷ [] else []) ≡ closing b
closing_number true s = refl
closing_number false s = refl

commands_are : (p : GuestPlan) → commands p ≡ activate_dev ∷ (cmds p.script ++ closing (closes p))
commands_are p = ap (λ (cs : List ℕ). activate_dev ∷ cs)
    (map-append (λ (x : Ask). x.number) (deed_asks (first_setup p) p.script) (if closes p then record { number = quiesce_dev; setup = after_script (first_setup p) p.script } ∷ [] else [])
    ∙ (λ i. deed_numbers (first_setup p) p.script i ++ closing_number (closes p) (after_script (first_setup p) p.script) i))

-- ------------------------------------------------------------ scripts in turn

abbrev now : ℕ → List Action → List Action
now n script = filter (λ (a : Action). nat_eq a.at n) script

abbrev before : ℕ → List Action → List Action
before n script = filter (λ (a : Action). nat_lt a.at n) script

-- what the type of a guest keeps: numbers rise, and each deed is in turn
abbrev Fit : ℕ → Bool → List Action → Type 0
Fit at quiet [] = ⊤
Fit at quiet (a ∷ rest) = (at ≤ a.at) × (is_in_turn quiet a.deed ≡ true) × Fit a.at (quiet_after quiet a.deed) rest

abbrev InTurn : Bool → List Action → Type 0
InTurn quiet [] = ⊤
InTurn quiet (a ∷ rest) = (is_in_turn quiet a.deed ≡ true) × InTurn (quiet_after quiet a.deed) rest

fit : (n : ℕ) (rss : Bool) (at : ℕ) (quiet : Bool) (script : List Action) → fits_from n rss quiet at script ≡ true → Fit at quiet script
fit n rss at quiet [] h = tt
fit n rss at quiet (a ∷ rest) h =
    let range = and_parts (is_within at 262144 a.at) (fits_deed n rss a.deed && (is_in_turn quiet a.deed && fits_from n rss (quiet_after quiet a.deed) a.at rest)) h in
    let low = (and_parts (nat_le at a.at) (nat_le a.at 262144) range.0).0 in
    let more = (and_parts (fits_deed n rss a.deed) (is_in_turn quiet a.deed && fits_from n rss (quiet_after quiet a.deed) a.at rest) range.1).1 in
    let turn = and_parts (is_in_turn quiet a.deed) (fits_from n rss (quiet_after quiet a.deed) a.at rest) more in
    (grind (arith, nat_tests, low), turn.0, fit n rss a.at (quiet_after quiet a.deed) rest turn.1)

pub none_before : (m at : ℕ) (quiet : Bool) (script : List Action) → Fit at quiet script → m ≤ at → before m script ≡ []
none_before m at quiet [] h le = refl
none_before m at quiet (a ∷ rest) h le =
    let e : nat_lt a.at m ≡ false = (let low = h.0 in grind (arith, nat_tests)) in
    rw e (none_before m a.at (quiet_after quiet a.deed) rest h.2 (omega (arith, le, h.0)))

-- one number more
pub before_more : (n at : ℕ) (quiet : Bool) (script : List Action) → Fit at quiet script → before (suc n) script ≡ before n script ++ now n script
before_more n at quiet [] h = refl
before_more n at quiet (a ∷ rest) h = elim (eqb_tells a.at n) [
  | inl p ↦ here p.0 p.1 (before_more n a.at (quiet_after quiet a.deed) rest h.2) (none_before n a.at (quiet_after quiet a.deed) rest h.2 (omega (arith, p.1)))
  | inr p ↦ there (nat_lt a.at n) refl p.0 p.1 (before_more n a.at (quiet_after quiet a.deed) rest h.2)
]
  where
    here : nat_eq a.at n ≡ true → a.at ≡ n → before (suc n) rest ≡ before n rest ++ now n rest → before n rest ≡ [] → before (suc n) (a ∷ rest) ≡ before n (a ∷ rest) ++ now n (a ∷ rest)
    here e is ih none =
        let low : nat_lt a.at (suc n) ≡ true = grind (arith, nat_tests) in
        let high : nat_lt a.at n ≡ false = grind (arith, nat_tests) in
        rw (e, low, high, none) (ap (λ (xs : List Action). a ∷ xs) (ih ∙ ap (λ (xs : List Action). xs ++ now n rest) none))

    there : (b : Bool) → nat_lt a.at n ≡ b → nat_eq a.at n ≡ false → a.at ≢ n → before (suc n) rest ≡ before n rest ++ now n rest → before (suc n) (a ∷ rest) ≡ before n (a ∷ rest) ++ now n (a ∷ rest)
    there true low e other ih = let more : nat_lt a.at (suc n) ≡ true = grind (arith, nat_tests) in rw (e, low, more) (ap (λ (xs : List Action). a ∷ xs) ih)
    there false low e other ih = let more : nat_lt a.at (suc n) ≡ false = grind (arith, nat_tests) in rw (e, low, more) ih

in_turn_before : (m at : ℕ) (quiet : Bool) (script : List Action) → Fit at quiet script → InTurn quiet (before m script)
in_turn_before m at quiet [] h = tt
in_turn_before m at quiet (a ∷ rest) h = step (nat_lt a.at m) refl (in_turn_before m a.at (quiet_after quiet a.deed) rest h.2)
  where
    step : (b : Bool) → nat_lt a.at m ≡ b → InTurn (quiet_after quiet a.deed) (before m rest) → InTurn quiet (before m (a ∷ rest))
    step true e ih = rw e (h.1, ih)
    step false e ih = let none : before m rest ≡ [] = none_before m a.at (quiet_after quiet a.deed) rest h.2 (grind (arith, nat_tests, e)) in rw (e, none) tt

in_turn_rest : (quiet : Bool) (xs ys : List Action) → InTurn quiet (xs ++ ys) → InTurn (is_quiet quiet xs) ys
in_turn_rest quiet [] ys h = h
in_turn_rest quiet (x ∷ xs) ys h = in_turn_rest (quiet_after quiet x.deed) xs ys h.1

none_at_first : (script : List Action) → before 0 script ≡ []
none_at_first [] = refl
none_at_first (a ∷ rest) = let e : nat_lt a.at 0 ≡ false = grind (arith, nat_tests) in rw e (none_at_first rest)

all_before : (m : ℕ) (script : List Action) → last_at script ≤ m → before m script ≡ script
all_before m [] le = refl
all_before m (a ∷ rest) le =
    let high : a.at + 1 ≤ m = omega (arith, le, le-max_left (a.at + 1) (last_at rest)) in
    let e : nat_lt a.at m ≡ true = grind (arith, nat_tests) in
    rw e (ap (λ (xs : List Action). a ∷ xs) (all_before m rest (omega (arith, le, le-max_right (a.at + 1) (last_at rest)))))

-- of three numbers the greatest
middle_first : (a b c : ℕ) → b ≤ max (max a b) c
middle_first a b c = omega (arith, le-max_right a b, le-max_left (max a b) c)

last_first : (m a c : ℕ) → m ≤ c → m ≤ max a c
last_first m a c le = omega (arith, le, le-max_right a c)

one_inside : {X : Type 0} (x y : X) → Some x ≡ Some y → x ≡ y
one_inside x y e = cc e

none_inside : {X : Type 0} (x : X) → None ≡ Some x → ⊥
none_inside x e = cc e

-- the run goes past each script
past_script : (gs : List GuestPlan) (g : ℕ) (p : GuestPlan) → slice_get gs g ≡ Some p → last_at p.script ≤ last_number gs
past_script [] g p at = absurd (none_inside p at)
past_script (x ∷ gs) zero p at =
    subst (λ (y : GuestPlan). last_at y.script ≤ last_number (x ∷ gs)) (one_inside x p at) (middle_first (length x.capture.records) (last_at x.script) (last_number gs))
past_script (x ∷ gs) (suc g) p at = last_first (last_at p.script) (max (length x.capture.records) (last_at x.script)) (last_number gs) (past_script gs g p at)

-- ------------------------------------------------------------ a journal

-- the set commands that a journal tells, with their answers
abbrev told_in : List Entry → List (ℕ × ℕ)
told_in es = filter (λ (x : ℕ × ℕ). is_set x.0) (filter_map asked es)

-- each is answered 0
abbrev answered : List ℕ → List (ℕ × ℕ)
answered cs = map (λ c. (c, 0)) cs

told_push : (es : List Entry) (e : Entry) → told_in (es ++ e ∷ []) ≡ told_in es ++ told_in (e ∷ [])
told_push es e = ap (filter (λ (x : ℕ × ℕ). is_set x.0)) (filter_map-append asked es (e ∷ [])) ∙ filter-append (λ (x : ℕ × ℕ). is_set x.0) (filter_map asked es) (filter_map asked (e ∷ []))

traffic_push : (es : List Entry) (e : Entry) (cs : List ℕ) → told_in (e ∷ []) ≡ [] → told_in es ≡ answered cs → told_in (es ++ e ∷ []) ≡ answered cs
traffic_push es e cs none h = told_push es e ∙ ap (λ xs. told_in es ++ xs) none ∙ append-nil (told_in es) ∙ h

setting_push : (es : List Entry) (number : ℕ) (o : Option ℕ) (cs : List ℕ) → is_set number ≡ true → told_in es ≡ answered cs → told_in (es ++ entry.Setting number 0 o ∷ []) ≡ answered (cs ++ number ∷ [])
setting_push es number o cs is h =
    let one : told_in (entry.Setting number 0 o ∷ []) ≡ answered (number ∷ []) = rw is refl in
    told_push es (entry.Setting number 0 o) ∙ (λ i. h i ++ one i) ∙ sym (map-append (λ (c : ℕ). (c, 0)) cs (number ∷ []))

-- ------------------------------------------------------------ a guest

-- it told these commands, and is active where it is not quiet
abbrev Did : List ℕ → Bool → Seat → Type 0
Did cs quiet s = (told_in s.entries ≡ answered cs) × (s.active ≡ not quiet)

pick : {X : Type 0} (P : X → Type 0) (b : Bool) (x y : X) → P x → P y → P (if b then x else y)
pick P true x y h k = h
pick P false x y h k = k

pick_second : {X : Type 0} (P : X → Type 0) (b : Bool) (x y : X) → b ≡ false → P y → P (if b then x else y)
pick_second P true x y e k = absurd (cc e)
pick_second P false x y e k = k

activated_did : (port : ℕ) (g : GuestPlan) (cs : List ℕ) (s : Seat) → told_in s.entries ≡ answered cs → Did (cs ++ activate_dev ∷ []) false (activated port g s)
activated_did port g cs s h = (setting_push s.entries activate_dev (Some (length s.setups)) cs refl h, refl)

polls_active : (a n : ℕ) (s : Seat) → (polls a n s).active ≡ s.active
polls_active a zero s = refl
polls_active a (suc n) s = polls_active a n (poll a s)

emptied_active : (s : Seat) → (emptied s).active ≡ s.active
unfolding emptied
emptied_active s = polls_active (s.begun - 1) (pending s.rx) s

quieted_did : (number : ℕ) (cs : List ℕ) (s : Seat) → is_set number ≡ true → told_in s.entries ≡ answered cs → Did (cs ++ number ∷ []) true (quieted number s)
quieted_did number cs s is h = (ap told_in (emptied_entries (record (quiet_setting number s) { active = false })) ∙ setting_push s.entries number None cs is h, (emptied_active (record (quiet_setting number s) { active = false })))

commanded_did : (number : ℕ) (cs : List ℕ) (quiet : Bool) (s : Seat) → is_set number ≡ true → Did cs quiet s → Did (cs ++ number ∷ []) quiet (set_command s number)
commanded_did number cs quiet s is h = pick (Did (cs ++ number ∷ []) quiet) s.active (active_setting number s) (quiet_setting number s)
    (setting_push s.entries number (Some (length s.setups)) cs is h.0, h.1) (setting_push s.entries number None cs is h.0, h.1)

done_did : (port : ℕ) (g : GuestPlan) (cs : List ℕ) (quiet : Bool) (d : Deed) (s : Seat) → is_in_turn quiet d ≡ true → Did cs quiet s → Did (cs ++ deed_commands d) (quiet_after quiet d) (done port g d s)
done_did port g cs quiet deed.Quiesce s e h = quieted_did quiesce_dev cs s refl h.0
done_did port g cs true deed.Activate s e h = pick_second (Did (cs ++ activate_dev ∷ []) false) s.active s (activated port g s) h.1 (activated_did port g cs s h.0)
done_did port g cs false deed.Activate s e h = absurd (cc e)
done_did port g cs true deed.Reset s e h = absurd (cc e)
done_did port g cs false deed.Reset s e h = subst (λ xs. Did xs false (activated port g (quieted reset_dev s))) (append_assoc cs (reset_dev ∷ []) (activate_dev ∷ []))
    (activated_did port g (cs ++ reset_dev ∷ []) (quieted reset_dev s) (quieted_did reset_dev cs s refl h.0).0)
done_did port g cs quiet (deed.Mode m) s e h = commanded_did _ cs quiet (record s { setup = changed s.setup (deed.Mode m) }) refl h
done_did port g cs quiet (deed.Multicast t) s e h = commanded_did _ cs quiet (record s { setup = changed s.setup (deed.Multicast t) }) refl h
done_did port g cs quiet (deed.Vlans t) s e h = commanded_did _ cs quiet (record s { setup = changed s.setup (deed.Vlans t) }) refl h
done_did port g cs quiet (deed.Rss n t) s e h = commanded_did _ cs quiet (record s { setup = changed s.setup (deed.Rss n t) }) refl h

actions_did : (port : ℕ) (g : GuestPlan) (actions : List Action) (cs : List ℕ) (quiet : Bool) (s : Seat) → InTurn quiet actions → Did cs quiet s → Did (cs ++ cmds actions) (is_quiet quiet actions) (fold (λ s (a : Action). done port g a.deed s) s actions)
actions_did port g [] cs quiet s turn h = rw append-nil h
actions_did port g (a ∷ rest) cs quiet s turn h =
    subst (λ xs. Did xs (is_quiet (quiet_after quiet a.deed) rest) (fold (λ s (a : Action). done port g a.deed s) (done port g a.deed s) rest)) (append_assoc cs (deed_commands a.deed) (cmds rest))
    (actions_did port g rest (cs ++ deed_commands a.deed) (quiet_after quiet a.deed) (done port g a.deed s) turn.1 (done_did port g cs quiet a.deed s turn.0 h))

drained_active : (s : Seat) → (drained s).active ≡ s.active
unfolding drained
drained_active s = pick (λ (x : Seat). x.active ≡ s.active) s.active (emptied s) s (emptied_active s) refl

drained_did : (cs : List ℕ) (quiet : Bool) (s : Seat) → Did cs quiet s → Did cs quiet (drained s)
drained_did cs quiet s h = (ap told_in (drained_entries s) ∙ h.0, drained_active s ∙ h.1)

polled_did : (cs : List ℕ) (quiet b : Bool) (s : Seat) → Did cs quiet s → Did cs quiet (polled_if b s)
polled_did cs quiet b s h = pick (Did cs quiet) b (drained s) s (drained_did cs quiet s h) h

arrived_did : (cs : List ℕ) (quiet : Bool) (every : ℕ) (mac : List ℕ) (from place : ℕ) (f : List ℕ) (s : Seat) → Did cs quiet s → Did cs quiet (arrived every mac from place f s)
arrived_did cs quiet every mac from place f s h = polled_did cs quiet _ _ (traffic_push s.entries (entry.In from place (fate_at s mac f)) cs refl h.0, h.1)

bears : (cs : List ℕ) (quiet : Bool) → Bears (Did cs quiet)
bears cs quiet = record {
  out = λ t to place s h. (traffic_push s.entries (entry.Out t to (way.Link place)) cs refl h.0, h.1);
  lost = λ t s h. (traffic_push s.entries (entry.Lost t) cs refl h.0, h.1);
  came = arrived_did cs quiet;
  moved = λ a q f s h. h;
}

-- before the actions of number n
abbrev Told : GuestPlan → ℕ → Seat → Type 0
Told p n s = Did (activate_dev ∷ cmds (before n p.script)) (is_quiet false (before n p.script)) s

goes : (g : ℕ) (p : GuestPlan) → Goes (Told p) g p
goes g p =
    let fits : Fit 0 false p.script = fit p.setup.rx_queues (is_some p.setup.rss) 0 false p.script p.script_fits in
    record {
      first = λ port. rw (none_at_first p.script) (refl, refl);
      acts = λ n s h.
          let more : before (suc n) p.script ≡ before n p.script ++ now n p.script = before_more n 0 false p.script fits in
          let turn : InTurn false (before n p.script ++ now n p.script) = rw more at (in_turn_before (suc n) 0 false p.script fits) in
          let did : Did (activate_dev ∷ (cmds (before n p.script) ++ cmds (now n p.script))) (is_quiet (is_quiet false (before n p.script)) (now n p.script)) (acted g p n s) =
          actions_did g p (now n p.script) (activate_dev ∷ cmds (before n p.script)) (is_quiet false (before n p.script)) s (in_turn_rest false (before n p.script) (now n p.script) turn) h in
          let cs : cmds (before (suc n) p.script) ≡ cmds (before n p.script) ++ cmds (now n p.script) = ap cmds more ∙ cmds_append (before n p.script) (now n p.script) in
          let quiet : is_quiet false (before (suc n) p.script) ≡ is_quiet (is_quiet false (before n p.script)) (now n p.script) = ap (is_quiet false) more ∙ quiet_append false (before n p.script) (now n p.script) in
          (did.0 ∙ sym (ap (λ xs. answered (activate_dev ∷ xs)) cs), did.1 ∙ sym (ap not quiet));
      bears = λ n. bears (activate_dev ∷ cmds (before n p.script)) (is_quiet false (before n p.script));
    }

closed_told : (script : List Action) (s : Seat) → Did (activate_dev ∷ cmds script) (is_quiet false script) s → told_in (closed s).entries ≡ answered (activate_dev ∷ (cmds script ++ closing (not (is_quiet false script))))
closed_told script s h = step s.active (not (is_quiet false script)) h.1
  where
    step : (a b : Bool) → a ≡ b → told_in (if a then quieted quiesce_dev s else s).entries ≡ answered (activate_dev ∷ (cmds script ++ closing b))
    step true true e = (quieted_did quiesce_dev (activate_dev ∷ cmds script) s refl h.0).0
    step true false e = absurd (cc e)
    step false true e = absurd (cc e)
    step false false e = h.0 ∙ sym (ap (λ xs. answered (activate_dev ∷ xs)) (append-nil (cmds script)))

-- in a record with the lists of the run
pub tells_commands : (plan : Plan) (r : RecordView) → HasLists r (serial_run plan) → (g : ℕ) (p : GuestPlan) (v : GuestView) → slice_get plan.guests g ≡ Some p → slice_get r.guests g ≡ Some v → told_in v.entries ≡ answered (commands p)
tells_commands plan r h g p v at here =
    let all : before (last_number plan.guests) p.script ≡ p.script = all_before (last_number plan.guests) p.script (past_script plan.guests g p at) in
    record_at (Told p) (λ es. told_in es ≡ answered (activate_dev ∷ (cmds p.script ++ closing (closes p)))) plan r h g p v at here (goes g p) (λ s k. closed_told p.script s (rw all at k))
    ∙ ap answered (sym (commands_are p))
