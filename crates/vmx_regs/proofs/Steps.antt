-- Each step keeps the rule, and what it tells.
use Rattle.std.proofs.Common.{◌≡◌, ◌≢◌, ℕ, ◌+◌, ◌/◌, ◌%◌, ◌^◌, ◌<◌, ◌≤◌, List, [], ◌∷◌, ◌++◌, length, get_or, set, true, false, true≢false, sym, refl, ap, ap₂, ◌∙◌, subst, arith, append-nil}
use Rattle.std.proofs.lemmas.List.{set-get_or, length-map}
use mathlib.Core.List.{IsPrefix}
use mathlib.Core.Option.{none, some}
use mathlib.Core.Option as maybe
use lib.ListN.{get_elem?}
use Rattle.std.specs.Prelude.{Option, Some, None}
use Rattle.atomic_table.specs.Table.{State, Me, Act, step, keeps, takes, gives, Allows, Valid, stepped, carried_after, put_back, rest}
use Rattle.vmx_io.specs.declared.handed.HandedView.{HandedView}
use Rattle.vmx_regs.specs.declared.bag.Bag.{Bag}
use Rattle.vmx_device_state.specs.declared.turn.CommandView.{CommandView}
use Rattle.vmx_device_state.specs.declared.turn.AnswerView.{AnswerView}
use Rattle.vmx_device_state.specs.declared.turn.Turn.{Turn}
use Rattle.vmx_regs.specs.declared.known.Calls.{Calls}
use Rattle.vmx_regs.specs.Turns.{command_of, answer_of, IsCommand, IsReply, IsTurn, AreTurns}
use Rattle.vmx_regs.specs.Rule.{Phase, Closed, Rest, Sent, Serving, Answered, turn_of, word_of, last_number, last_value, command_word, answer_word, begun_of, asked_of, served_of, serving_of, commands_of, with_asked, sent_of, seen_of, looking, DriverAgrees, DeviceAgrees, IsNews, Narrow, Stands, Lies, Story, Fits, Told, Kept}
use Rattle.vmx_regs.specs.Plays.{opened, closed, command_stored, command_looked, turn_by, answer_stored, answered_by, EndsTurn, answer_looked}
use Rattle.vmx_regs.proofs.Words.{low_half, high_half, next_differs, last_number_snoc, last_value_snoc, length_snoc}
use Rattle.vmx_ring_laws.specs.Lists.{AreComparable, prefix_longer, prefix_length}
use Rattle.vmx_ring_laws.specs.Views.{all_set}
use Rattle.vmx_regs.proofs.Told.{alike, commands_same, served_same}
use Rattle.vmx_regs.specs.Lawful.{turns_snoc, commands_of_snoc, replies}
use Rattle.vmx_regs.specs.declared.places.TheConstants.{COUNT_BIT}

abbrev pub M : Type 0 → Type 0
M E = Me (Option (Bag E)) Calls

abbrev Homes : Type 0 → Type 0
Homes E = List (maybe.Option (Option (Bag E)))

pub some_same : {A : Type 0} (x y : A) → Some x ≡ Some y → x ≡ y
some_same x y e = cc e

pub none_some : {A : Type 0} (x : A) → None ≡ Some x → ⊥
none_some x e = cc e

pub is_closed : (p : Phase) → begun_of p ≡ false → p ≡ Closed
is_closed Closed e = refl
is_closed Rest e = absurd (true≢false e)
is_closed (Sent c) e = absurd (true≢false e)
is_closed (Serving c) e = absurd (true≢false e)
is_closed (Answered c a) e = absurd (true≢false e)

is_rest : (p : Phase) → begun_of p ≡ true → asked_of p ≡ None → p ≡ Rest
is_rest Closed e f = absurd (true≢false (sym e))
is_rest Rest e f = refl
is_rest (Sent c) e f = absurd (none_some c (sym f))
is_rest (Serving c) e f = absurd (none_some c (sym f))
is_rest (Answered c a) e f = absurd (none_some c (sym f))

is_serving : (p : Phase) (c : CommandView) → serving_of p ≡ Some c → p ≡ Serving c
is_serving Closed c e = absurd (none_some c e)
is_serving Rest c e = absurd (none_some c e)
is_serving (Sent d) c e = absurd (none_some c e)
is_serving (Serving d) c e = ap Serving (some_same d c e)
is_serving (Answered d a) c e = absurd (none_some c e)

-- what each side has seen is a prefix of what the other has published, and so is what it has heard
pub past_served : (past : List Turn) (p : Phase) → IsPrefix past (served_of past p)
past_served past Closed = ([], append-nil past)
past_served past Rest = ([], append-nil past)
past_served past (Sent c) = ([], append-nil past)
past_served past (Serving c) = ([], append-nil past)
past_served past (Answered c a) = (turn_of c a ∷ [], refl)

pub seen_sent : (past : List Turn) (p : Phase) → IsPrefix (with_asked (commands_of (served_of past p)) (serving_of p)) (sent_of past p)
seen_sent past Closed = ([], append-nil (commands_of past))
seen_sent past Rest = ([], append-nil (commands_of past))
seen_sent past (Sent c) = (c ∷ [], refl)
seen_sent past (Serving c) = ([], append-nil (commands_of past ++ c ∷ []))
seen_sent past (Answered c a) = ([], append-nil (commands_of (past ++ turn_of c a ∷ [])) ∙ commands_of_snoc past (turn_of c a))

-- news stay news when a command is sent, when it is answered, and when the answer is taken
news_sent : (past : List Turn) (c : CommandView) (cs : List CommandView) (ss ts : List Turn) → IsNews past Rest cs ss ts → IsNews past (Sent c) cs ss ts
news_sent past c cs ss ts f = (prefix_longer cs (commands_of past) (c ∷ []) f.0, f.1, f.2)

news_answered : (past : List Turn) (c : CommandView) (a : AnswerView) (cs : List CommandView) (ss ts : List Turn) → IsNews past (Serving c) cs ss ts → IsNews past (Answered c a) cs ss ts
news_answered past c a cs ss ts f = (f.0, prefix_longer ss past (turn_of c a ∷ []) f.1, f.2)

news_taken : (past : List Turn) (c : CommandView) (a : AnswerView) (cs : List CommandView) (ss ts : List Turn) → IsNews past (Answered c a) cs ss ts → IsNews (past ++ turn_of c a ∷ []) Rest cs ss ts
news_taken past c a cs ss ts f = (subst (IsPrefix cs) (sym (commands_of_snoc past (turn_of c a))) f.0, f.1, prefix_longer ts past (turn_of c a ∷ []) f.2)

pub driver_beside : (y : Story) (id : ℕ) (v : Calls) → Fits y id v → v.drives ≡ true → (l : List Turn) → IsPrefix l (served_of y.past y.phase) → AreComparable l v.turns
driver_beside y id v f may l p = alike l v.turns (served_of y.past y.phase) p (subst (λ ts. IsPrefix ts (served_of y.past y.phase)) (sym (f.driver's may).1) (past_served y.past y.phase))

pub driver_agrees : (y : Story) (id : ℕ) (v : Calls) → Fits y id v → v.drives ≡ true → DriverAgrees v
driver_agrees y id v f may = driver_beside y id v f may v.heard_served f.heard.1

pub device_beside : (y : Story) (id : ℕ) (v : Calls) → Fits y id v → v.serves ≡ true → (l : List CommandView) → IsPrefix l (sent_of y.past y.phase) → AreComparable l (seen_of v)
device_beside y id v f may l p = let mine = f.device's may in alike l (seen_of v) (sent_of y.past y.phase) p
    (subst (λ (q : List Turn × Option CommandView). IsPrefix (with_asked (commands_of q.0) q.1) (sent_of y.past y.phase)) (λ i. (sym mine.1 i, sym mine.2 i)) (seen_sent y.past y.phase))

pub device_agrees : (y : Story) (id : ℕ) (v : Calls) → Fits y id v → v.serves ≡ true → DeviceAgrees v
device_agrees y id v f may = device_beside y id v f may v.heard_commands f.heard.0

module _ {E : Type 0} (handed : E → HandedView) where
  -- the story as the driver knows it, and as the device does
  driver_sees : (s : State (Option (Bag E)) Calls) (y : Story) (p : Phase) (id : ℕ) (v : Calls) → y.phase ≡ p → Told handed s y → get_elem? s.views id ≡ some v → v.drives ≡ true → Told handed s (record y { past = v.turns; phase = p; driver = id })
  driver_sees s y p id v is z at may = let own = (z.each id v at).driver's may in
      subst (λ (q : List Turn × Phase × ℕ). Told handed s (record y { past = q.0; phase = q.1; driver = q.2 })) (λ i. (sym own.1 i, is i, sym own.0 i)) z

  device_sees : (s : State (Option (Bag E)) Calls) (y : Story) (past : List Turn) (p : Phase) (id : ℕ) (v : Calls) → y.past ≡ past → y.phase ≡ p → Told handed s y → get_elem? s.views id ≡ some v → v.serves ≡ true → Told handed s (record y { past = past; phase = p; device = id })
  device_sees s y past p id v was is z at may = let own = (z.each id v at).device's may in
      subst (λ (q : List Turn × Phase × ℕ). Told handed s (record y { past = q.0; phase = q.1; device = q.2 })) (λ i. (was i, is i, sym own.0 i)) z

  -- a step that is no note's
  goes_on : (s : State (Option (Bag E)) Calls) (y : Story) (ws : List ℕ) (hs : Homes E) (past : List Turn) (phase : Phase) (id : ℕ) (v w : Calls)
      → Told handed s y → get_elem? s.views id ≡ some v → w.tells_commands ≡ v.tells_commands → w.tells_served ≡ v.tells_served
      → ws ≡ command_word past phase ∷ answer_word past phase ∷ y.more → Lies handed hs phase → AreTurns past → Narrow past → Stands past phase
      → Fits (record y { past = past; phase = phase }) id w
      → ((j : ℕ) (u : Calls) → j ≢ id → Fits y j u → Fits (record y { past = past; phase = phase }) j u)
      → Kept handed record { words = ws; homes = hs; views = set s.views id w }
  goes_on s y ws hs past phase id v w z at tc ts words lies turns narrow stands mine others = record {
    story = record y { past = past; phase = phase };
    told = record {
      words = words;
      lies = lies;
      turns = turns;
      narrow = narrow;
      stands = stands;
      each = all_set (Fits (record y { past = past; phase = phase })) s.views id w mine (λ j u apart e. others j u apart (z.each j u e));
      driver_told = ap (λ (c : ℕ). c + y.device_notes_heard) (commands_same s.views id v w at tc) ∙ z.driver_told;
      device_told = ap (λ (c : ℕ). c + y.driver_notes_heard) (served_same s.views id v w at ts) ∙ z.device_told;
    };
  }

  -- what a step on the word k allows in the state s
  abbrev Moves : State (Option (Bag E)) Calls → ℕ → M E → ℕ → (ℕ → M E → Type 0) → Type 0
  Moves s id me k then = (w : Calls) × (a : Act (Option (Bag E))) × Valid s.homes me.1 a × Kept handed (stepped s k (get_or s.words k 0) id me.1 w a) × then (get_or s.words k 0) (w, carried_after me.1 a)

  -- a look that found nothing new
  sees : (id : ℕ) (me : M E) (k p : ℕ) (then : ℕ → M E → Type 0) (s : State (Option (Bag E)) Calls) → Kept handed s → get_elem? s.views id ≡ some me.0 → then (get_or s.words k 0) (looking me.0 p (get_or s.words k 0), me.1) → Moves s id me k then
  sees id me k p then s l at fact = let z = l.told in let y : Story = l.story in let f = z.each id me.0 at in (
    looking me.0 p (get_or s.words k 0),
    keeps,
    tt,
    goes_on s y _ s.homes y.past y.phase id me.0 (looking me.0 p (get_or s.words k 0)) z at refl refl (set-get_or s.words k 0 ∙ z.words) z.lies z.turns z.narrow z.stands
        record { driver's = f.driver's; device's = f.device's; heard = f.heard; last = f.last }
        (λ j u _ g. g),
    fact,
  )

  pub opens : (n id : ℕ) (me : M E) → me.0.drives ≡ true → me.0.serves ≡ false → me.0.begun ≡ false → me.1 ≡ [] → Allows (Kept handed) n id me 0 (λ x. x) (opened (step n 0 0 0 none) me)
  opens n id me may not new bare s l wide at _ =
      let v : Calls = me.0 in let own = (l.told.each id v at).driver's may in let z = driver_sees s l.story Closed id v (is_closed l.story.phase (sym own.3 ∙ new)) l.told at may in
      let w : Calls = record v { begun = true } in let fits = z.each id v at in (
        w,
        takes 0 None,
        ap (λ h. get_elem? h 0) z.lies,
        goes_on s _ _ _ v.turns Rest id v w z at refl refl (set-get_or s.words 0 0 ∙ z.words) (ap (λ h. set h 0 none) z.lies) z.turns z.narrow tt
            record { driver's = λ _. let mine = fits.driver's may in (refl, refl, mine.2, refl, mine.4, mine.5); device's = λ e. absurd (true≢false (sym e ∙ not)); heard = fits.heard; last = fits.last }
            (λ j u apart f. record { driver's = λ e. absurd (apart (f.driver's e).0); device's = f.device's; heard = f.heard; last = f.last }),
        ap (λ (c : List (ℕ × Option (Bag E))). (w, (0, None) ∷ c)) bare,
      )

  pub closes : (n id : ℕ) (me : M E) → me.0.drives ≡ true → me.0.serves ≡ false → me.0.begun ≡ true → me.0.asked ≡ None → me.1 ≡ (0, None) ∷ [] → Allows (Kept handed) n id me 0 (λ x. x) (closed (step n 0 0 0 none) me)
  closes n id me may not begun idle has s l wide at _ =
      let v : Calls = me.0 in let own = (l.told.each id v at).driver's may in let z = driver_sees s l.story Rest id v (is_rest l.story.phase (sym own.3 ∙ begun) (sym own.2 ∙ idle)) l.told at may in
      let w : Calls = record v { begun = false } in let fits = z.each id v at in (
        w,
        gives,
        tt,
        goes_on s _ _ _ v.turns Closed id v w z at refl refl (set-get_or s.words 0 0 ∙ z.words) (ap₂ (λ h c. put_back h c) z.lies has) z.turns z.narrow tt
            record { driver's = λ _. let mine = fits.driver's may in (refl, refl, mine.2, refl, mine.4, mine.5); device's = λ e. absurd (true≢false (sym e ∙ not)); heard = fits.heard; last = fits.last }
            (λ j u apart f. record { driver's = λ e. absurd (apart (f.driver's e).0); device's = f.device's; heard = f.heard; last = f.last }),
        ap (λ (c : List (ℕ × Option (Bag E))). (w, rest c)) has,
      )

  stores_command : (n id : ℕ) (v : Calls) (b : Bag E) (number : ℕ) → v.drives ≡ true → v.serves ≡ false → v.begun ≡ true → v.asked ≡ None → number < 2 ^ 32 → IsCommand (command_of handed number b)
      → Allows (Kept handed) n id (v, (0, Some b) ∷ []) 0 (λ _. word_of (length v.turns + 1) number)
      (λ _. command_stored handed (step n 0 (word_of (length v.turns + 1) number) 0 none) (v, (0, Some b) ∷ []) (word_of (length v.turns + 1) number))
  stores_command n id v b number may not begun idle small lawful s l wide at _ =
      let own = (l.told.each id v at).driver's may in let z = driver_sees s l.story Rest id v (is_rest l.story.phase (sym own.3 ∙ begun) (sym own.2 ∙ idle)) l.told at may in
      let c : CommandView = command_of handed number b in let w : Calls = record v { asked = Some c } in let fits = z.each id v at in let new : ℕ = word_of (length v.turns + 1) number in (
        w,
        gives,
        tt,
        goes_on s _ _ _ v.turns (Sent c) id v w z at refl refl (ap (λ ws. set ws 0 new) z.words) (b, ap (λ h. set h 0 (some (Some b))) z.lies, refl) z.turns z.narrow (small, lawful)
            record { driver's = λ _. let mine = fits.driver's may in (refl, refl, refl, begun, mine.4, mine.5); device's = λ e. absurd (true≢false (sym e ∙ not)); heard = news_sent v.turns c _ _ _ fits.heard; last = news_sent v.turns c _ _ _ fits.last }
            (λ j u apart f. record { driver's = λ e. absurd (apart (f.driver's e).0); device's = f.device's; heard = news_sent v.turns c _ _ _ f.heard; last = news_sent v.turns c _ _ _ f.last }),
        (λ i. (record v { asked = Some (command_of handed (sym (low_half (length v.turns + 1) number small) i) b) }, [])),
      )

  pub command_stores : (n id : ℕ) (me : M E) (v : Calls) (b : Bag E) (number new : ℕ) → me ≡ (v, (0, Some b) ∷ []) → new ≡ word_of (length v.turns + 1) number → v.drives ≡ true → v.serves ≡ false → v.begun ≡ true → v.asked ≡ None → number < 2 ^ 32 → IsCommand (command_of handed number b)
      → Allows (Kept handed) n id me 0 (λ _. new) (λ _. command_stored handed (step n 0 new 0 none) me new)
  command_stores n id me v b number new is what may not begun idle small lawful =
      subst (λ (z : M E × ℕ). Allows (Kept handed) n id z.0 0 (λ _. z.1) (λ _. command_stored handed (step n 0 z.1 0 none) z.0 z.1)) (λ i. (sym is i, sym what i)) (stores_command n id v b number may not begun idle small lawful)

  -- a look that found no new command
  quiet : (n id : ℕ) (me : M E) (s : State (Option (Bag E)) Calls) → Kept handed s → get_elem? s.views id ≡ some me.0 → get_or s.words 0 0 ≡ word_of (length me.0.served) (last_number me.0.served) → last_number me.0.served < 2 ^ 32 → length me.0.heard_commands ≤ length me.0.served
      → Moves s id me 0 (command_looked handed (step n 0 0 0 none) me)
  quiet n id me s l at word small heard = sees id me 0 (length me.0.served) (command_looked handed (step n 0 0 0 none) me) s l at (
    (λ hit. absurd (next_differs (length me.0.served) (sym (high_half (length me.0.served) (last_number me.0.served) small) ∙ ap (λ (z : ℕ). z / COUNT_BIT) (sym word) ∙ hit))),
    λ _. (refl, word, heard),
  )

  quiet_at : (n id : ℕ) (me : M E) (s : State (Option (Bag E)) Calls) (past : List Turn) → Kept handed s → get_elem? s.views id ≡ some me.0 → get_or s.words 0 0 ≡ word_of (length past) (last_number past) → last_number past < 2 ^ 32 → IsPrefix me.0.heard_commands (commands_of past) → me.0.served ≡ past
      → Moves s id me 0 (command_looked handed (step n 0 0 0 none) me)
  quiet_at n id me s past l at word small heard same = quiet n id me s l at
      (word ∙ ap (λ (ts : List Turn). word_of (length ts) (last_number ts)) (sym same))
      (subst (λ (ts : List Turn). last_number ts < 2 ^ 32) (sym same) small)
      (let few = prefix_length me.0.heard_commands (commands_of past) heard in let as_many = length-map past (λ (t : Turn). t.command) in let e = ap length same in omega arith)

  looks_for_command : (n id : ℕ) (me : M E) (s : State (Option (Bag E)) Calls) (y : Story) (p : Phase) → y.phase ≡ p → Told handed s y → get_elem? s.views id ≡ some me.0 → me.0.serves ≡ true → me.0.drives ≡ false → me.0.serving ≡ None → me.1 ≡ []
      → Moves s id me 0 (command_looked handed (step n 0 0 0 none) me)
  looks_for_command n id me s y Closed is t at may not idle bare = let z = device_sees s y y.past Closed id me.0 refl is t at may in let fits = z.each id me.0 at in
      quiet_at n id me s y.past (record { story = y; told = t }) at (ap (λ ws. get_or ws 0 0) z.words) z.narrow.number fits.heard.0 (fits.device's may).1
  looks_for_command n id me s y Rest is t at may not idle bare = let z = device_sees s y y.past Rest id me.0 refl is t at may in let fits = z.each id me.0 at in
      quiet_at n id me s y.past (record { story = y; told = t }) at (ap (λ ws. get_or ws 0 0) z.words) z.narrow.number fits.heard.0 (fits.device's may).1
  looks_for_command n id me s y (Serving c) is t at may not idle bare = absurd (none_some c (sym idle ∙ ((t.each id me.0 at).device's may).2 ∙ ap serving_of is))
  looks_for_command n id me s y (Answered c a) is t at may not idle bare = let z = device_sees s y y.past (Answered c a) id me.0 refl is t at may in let fits = z.each id me.0 at in
      let turn : Turn = turn_of c a in let many = length_snoc y.past turn in let last = last_number_snoc 0 y.past turn in
      quiet_at n id me s (y.past ++ turn ∷ []) (record { story = y; told = t }) at
      (ap (λ ws. get_or ws 0 0) z.words ∙ ap₂ word_of (sym many) (sym last))
      (subst (λ (k : ℕ). k < 2 ^ 32) (sym last) z.stands.0)
      (subst (IsPrefix me.0.heard_commands) (sym (commands_of_snoc y.past turn)) fits.heard.0)
      (fits.device's may).1
  looks_for_command n id me s y (Sent c) is t at may not idle bare = let v : Calls = me.0 in let z = device_sees s y y.past (Sent c) id v refl is t at may in let fits = z.each id v at in let mine = fits.device's may in
      let w : Calls = record v { serving = Some c } in let b : Bag E = z.lies.0 in let word : get_or s.words 0 0 ≡ word_of (length y.past + 1) c.number = ap (λ ws. get_or ws 0 0) z.words in
      let e : command_of handed (get_or s.words 0 0 % COUNT_BIT) b ≡ c = ap (λ (k : ℕ). command_of handed k b) (ap (λ (k : ℕ). k % COUNT_BIT) word ∙ low_half (length y.past + 1) c.number z.stands.0) ∙ z.lies.2 in
      let new : Fits (record y { phase = Serving c; device = id }) id w = record { driver's = λ f. absurd (true≢false (sym f ∙ not)); device's = λ _. (refl, mine.1, refl, mine.3, mine.4); heard = fits.heard; last = fits.last } in (
        w,
        takes 0 (Some b),
        ap (λ h. get_elem? h 0) z.lies.1,
        goes_on s _ _ _ y.past (Serving c) id v w z at refl refl (set-get_or s.words 0 0 ∙ z.words) (ap (λ h. set h 0 none) z.lies.1) z.turns z.narrow z.stands new
            (λ j u apart f. record { driver's = f.driver's; device's = λ g. absurd (apart (f.device's g).0); heard = f.heard; last = f.last }),
        (
          (λ _. (b, (λ i. (record v { serving = Some (sym e i) }, (0, Some b) ∷ bare i)), subst IsCommand (sym e) z.stands.1, device_agrees _ id w new may)),
          λ miss. absurd (miss (ap (λ (k : ℕ). k / COUNT_BIT) word ∙ high_half (length y.past + 1) c.number z.stands.0 ∙ ap (λ (ts : List Turn). (length ts + 1) % 2) (sym mine.1))),
        ),
      )

  pub command_looks : (n id : ℕ) (me : M E) → me.0.serves ≡ true → me.0.drives ≡ false → me.0.serving ≡ None → me.1 ≡ [] → Allows (Kept handed) n id me 0 (λ x. x) (command_looked handed (step n 0 0 0 none) me)
  command_looks n id me may not idle bare s l wide at _ = looks_for_command n id me s l.story l.story.phase refl l.told at may not idle bare

  stores_answer : (n id : ℕ) (v : Calls) (b : Bag E) (value : ℕ) (c : CommandView) → v.serves ≡ true → v.drives ≡ false → v.serving ≡ Some c → value < 2 ^ 32 → IsReply v.served c (answer_of handed value b)
      → Allows (Kept handed) n id (v, (0, Some b) ∷ []) 1 (λ _. word_of (length v.served + 1) value)
      (λ _. answer_stored handed (step n 1 (word_of (length v.served + 1) value) 0 none) (v, (0, Some b) ∷ []) (word_of (length v.served + 1) value))
  stores_answer n id v b value c may not state small lawful s l wide at _ =
      let own = (l.told.each id v at).device's may in let is = is_serving l.story.phase c (sym own.2 ∙ state) in
      let z = device_sees s l.story v.served (Serving c) id v (sym (own.1 ∙ ap (served_of l.story.past) is)) is l.told at may in
      let a : AnswerView = answer_of handed value b in let w : Calls = record v { served = v.served ++ turn_of c a ∷ []; serving = None } in let fits = z.each id v at in let mine = fits.device's may in let new : ℕ = word_of (length v.served + 1) value in
      let now : Fits (record l.story { past = v.served; phase = Answered c a; device = id }) id w = record { driver's = λ f. absurd (true≢false (sym f ∙ not)); device's = λ _. (refl, refl, refl, mine.3, mine.4); heard = news_answered v.served c a _ _ _ fits.heard; last = news_answered v.served c a _ _ _ fits.last } in (
        w,
        gives,
        tt,
        goes_on s _ _ _ v.served (Answered c a) id v w z at refl refl (ap (λ ws. set ws 1 new) z.words) (b, ap (λ h. set h 0 (some (Some b))) z.lies, refl) z.turns z.narrow (z.stands.0, z.stands.1, small, replies v.served c a z.turns lawful)
            now
            (λ j u apart f. record { driver's = f.driver's; device's = λ g. absurd (apart (f.device's g).0); heard = news_answered v.served c a _ _ _ f.heard; last = news_answered v.served c a _ _ _ f.last }),
        ((λ i. (record v { served = v.served ++ turn_by handed (sym (low_half (length v.served + 1) value small) i) (sym state i) (Some b); serving = None }, [])), device_agrees _ id w now may),
      )

  pub answer_stores : (n id : ℕ) (me : M E) (v : Calls) (b : Bag E) (value new : ℕ) (c : CommandView) → me ≡ (v, (0, Some b) ∷ []) → new ≡ word_of (length v.served + 1) value → v.serves ≡ true → v.drives ≡ false → v.serving ≡ Some c → value < 2 ^ 32 → IsReply v.served c (answer_of handed value b)
      → Allows (Kept handed) n id me 1 (λ _. new) (λ _. answer_stored handed (step n 1 new 0 none) me new)
  answer_stores n id me v b value new c is what may not state small lawful =
      subst (λ (z : M E × ℕ). Allows (Kept handed) n id z.0 1 (λ _. z.1) (λ _. answer_stored handed (step n 1 z.1 0 none) z.0 z.1)) (λ i. (sym is i, sym what i)) (stores_answer n id v b value c may not state small lawful)

  -- a look that found no new answer
  pending : (n id : ℕ) (me : M E) (s : State (Option (Bag E)) Calls) → Kept handed s → get_elem? s.views id ≡ some me.0 → get_or s.words 1 0 ≡ word_of (length me.0.turns) (last_value me.0.turns) → last_value me.0.turns < 2 ^ 32 → IsPrefix me.0.heard_served me.0.turns
      → Moves s id me 1 (answer_looked handed (step n 1 0 0 none) me)
  pending n id me s l at word small heard = sees id me 1 (length me.0.turns) (answer_looked handed (step n 1 0 0 none) me) s l at (
    (λ hit. absurd (next_differs (length me.0.turns) (sym (high_half (length me.0.turns) (last_value me.0.turns) small) ∙ ap (λ (z : ℕ). z / COUNT_BIT) (sym word) ∙ hit))),
    λ _. (refl, word, prefix_length me.0.heard_served me.0.turns heard),
  )

  looks_for_answer : (n id : ℕ) (me : M E) (c : CommandView) (s : State (Option (Bag E)) Calls) (y : Story) (p : Phase) → y.phase ≡ p → Told handed s y → get_elem? s.views id ≡ some me.0 → me.0.drives ≡ true → me.0.serves ≡ false → me.0.asked ≡ Some c → me.1 ≡ []
      → Moves s id me 1 (answer_looked handed (step n 1 0 0 none) me)
  looks_for_answer n id me c s y Closed is t at may not state bare = absurd (none_some c (sym (sym state ∙ ((t.each id me.0 at).driver's may).2 ∙ ap asked_of is)))
  looks_for_answer n id me c s y Rest is t at may not state bare = absurd (none_some c (sym (sym state ∙ ((t.each id me.0 at).driver's may).2 ∙ ap asked_of is)))
  looks_for_answer n id me c s y (Sent d) is t at may not state bare = let z = driver_sees s y (Sent d) id me.0 is t at may in let fits = z.each id me.0 at in
      pending n id me s (record { story = y; told = t }) at (ap (λ ws. get_or ws 1 0) z.words) z.narrow.value fits.heard.1
  looks_for_answer n id me c s y (Serving d) is t at may not state bare = let z = driver_sees s y (Serving d) id me.0 is t at may in let fits = z.each id me.0 at in
      pending n id me s (record { story = y; told = t }) at (ap (λ ws. get_or ws 1 0) z.words) z.narrow.value fits.heard.1
  looks_for_answer n id me c s y (Answered d a) is t at may not state bare = let v : Calls = me.0 in let z = driver_sees s y (Answered d a) id v is t at may in let fits = z.each id v at in let mine = fits.driver's may in
      let turn : Turn = turn_of d a in let w : Calls = record v { turns = v.turns ++ turn ∷ []; asked = None } in let b : Bag E = z.lies.0 in let word : get_or s.words 1 0 ≡ word_of (length v.turns + 1) a.value = ap (λ ws. get_or ws 1 0) z.words in
      let low : get_or s.words 1 0 % COUNT_BIT ≡ a.value = ap (λ (k : ℕ). k % COUNT_BIT) word ∙ low_half (length v.turns + 1) a.value z.stands.2 in
      let e : answer_of handed (get_or s.words 1 0 % COUNT_BIT) b ≡ a = ap (λ (k : ℕ). answer_of handed k b) low ∙ z.lies.2 in
      let many = length_snoc v.turns turn in let last = last_number_snoc 0 v.turns turn in let last' = last_value_snoc 0 v.turns turn in
      let is_turn : IsTurn v.turns turn = record { command = z.stands.1; answer = z.stands.3 } in
      let turns : AreTurns (v.turns ++ turn ∷ []) = turns_snoc v.turns turn z.turns is_turn in
      let new : Fits (record y { past = v.turns ++ turn ∷ []; phase = Rest; driver = id }) id w = record { driver's = λ _. (refl, refl, refl, mine.3, mine.4, mine.5); device's = λ f. absurd (true≢false (sym f ∙ not)); heard = news_taken v.turns d a _ _ _ fits.heard; last = news_taken v.turns d a _ _ _ fits.last } in (
        w,
        takes 0 (Some b),
        ap (λ h. get_elem? h 0) z.lies.1,
        goes_on s _ _ _ (v.turns ++ turn ∷ []) Rest id v w z at refl refl
            (set-get_or s.words 1 0 ∙ z.words ∙ (λ i. word_of (sym many i) (sym last i) ∷ word_of (sym many i) (sym last' i) ∷ y.more))
            (ap (λ h. set h 0 none) z.lies.1) turns
            (record { number = subst (λ (k : ℕ). k < 2 ^ 32) (sym last) z.stands.0; value = subst (λ (k : ℕ). k < 2 ^ 32) (sym last') z.stands.2 })
            tt
            new
            (λ j u apart f. record { driver's = λ g. absurd (apart (f.driver's g).0); device's = f.device's; heard = news_taken v.turns d a _ _ _ f.heard; last = news_taken v.turns d a _ _ _ f.last }),
        (
          (λ _. (
            b,
            (λ i. (record v { turns = v.turns ++ turn_of d (sym e i) ∷ []; asked = None }, (0, Some b) ∷ bare i))
                ∙ ap (λ o. (answered_by handed v o (get_or s.words 1 0 % COUNT_BIT) b, (0, Some b) ∷ [])) (sym mine.2),
            turns,
            subst (λ (q : Option CommandView × AnswerView). EndsTurn v.turns q.0 q.1) (λ i. (sym mine.2 i, sym e i)) is_turn,
            driver_agrees _ id w new may,
          )),
          λ miss. absurd (miss (ap (λ (k : ℕ). k / COUNT_BIT) word ∙ high_half (length v.turns + 1) a.value z.stands.2)),
        ),
      )

  pub answer_looks : (n id : ℕ) (me : M E) (c : CommandView) → me.0.drives ≡ true → me.0.serves ≡ false → me.0.asked ≡ Some c → me.1 ≡ [] → Allows (Kept handed) n id me 1 (λ x. x) (answer_looked handed (step n 1 0 0 none) me)
  answer_looks n id me c may not state bare s l wide at _ = looks_for_answer n id me c s l.story l.story.phase refl l.told at may not state bare
