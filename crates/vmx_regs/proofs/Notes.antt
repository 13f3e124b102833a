-- Notes: each side gives one and hears the other's, and what it knows then.
use Rattle.std.proofs.Common.{◌≡◌, ℕ, suc, ◌+◌, ◌≤◌, List, [], length, set, true, false, true≢false, sym, refl, ap, ap₂, ◌∙◌, subst, ⊎_elim, arith, append-nil}
use mathlib.Core.List.{IsPrefix}
use mathlib.Core.Option.{none, some}
use lib.ListN.{get_elem?}
use Rattle.std.specs.Prelude.{Option, None}
use Rattle.atomic_table.specs.Table.{step, Allows, Splits, Joins}
use Rattle.atomic_table.proofs.Lists.{at_set}
use Rattle.vmx_io.specs.declared.handed.HandedView.{HandedView}
use Rattle.vmx_device_state.specs.declared.turn.Turn.{Turn}
use Rattle.std.proofs.lemmas.List.{length-map}
use Rattle.vmx_ring_laws.specs.Lists.{prefix_length, prefix_trans, longer_of}
use Rattle.vmx_ring_laws.specs.Steps.{stays}
use Rattle.vmx_ring_laws.specs.Views.{all_set, all_snoc}
use Rattle.vmx_device_state.specs.declared.turn.CommandView.{CommandView}
use Rattle.vmx_regs.specs.declared.known.Calls.{Calls}
use Rattle.vmx_regs.specs.Rule.{Phase, Closed, Rest, Sent, Serving, Answered, turn_of, commands_of, with_asked, told_driver, driver_note, told_device, device_note, hears_driver, hears_device, Story, Fits, Kept, one_if, nobody, asked_of, sent_of, sent_by, served_of}
use Rattle.vmx_regs.specs.Plays.{driver_knows, device_knows}
use Rattle.vmx_regs.proofs.Told.{commands_set, served_set, commands_snoc, served_snoc, commands_same, served_same}
use Rattle.vmx_regs.proofs.Steps.{M, none_some, past_served, seen_sent, driver_beside, driver_agrees, device_beside, device_agrees}
use Rattle.vmx_regs.proofs.Seats.{no_news, nobody's}
use Rattle.vmx_regs.proofs.Words.{length_snoc}

-- with no command outstanding, the driver has all answers
idle_served : (past : List Turn) (p : Phase) → asked_of p ≡ None → served_of past p ≡ past
idle_served past Closed e = refl
idle_served past Rest e = refl
idle_served past (Sent c) e = absurd (none_some c (sym e))
idle_served past (Serving c) e = absurd (none_some c (sym e))
idle_served past (Answered c a) e = absurd (none_some c (sym e))

module _ {E : Type 0} (handed : E → HandedView) where
  pub gives_driver : (id : ℕ) (v : Calls) → v.drives ≡ true → v.serves ≡ false → Splits (Kept handed) id v (told_driver v) (driver_note v)
  gives_driver id v a b s l at =
      let y : Story = l.story in let z = l.told in let own = z.each id v at in let left : Calls = told_driver v in let right : Calls = driver_note v in let vs : List Calls = set s.views id left in
      let mine = own.driver's a in let y' : Story = record y { driver_notes_given = suc y.driver_notes_given } in record {
        story = y';
        told = record {
          words = z.words;
          lies = z.lies;
          turns = z.turns;
          narrow = z.narrow;
          stands = z.stands;
          each = all_snoc (Fits y') vs right
              record {
                driver's = λ e. absurd (true≢false (sym e));
                device's = λ e. absurd (true≢false (sym e));
                heard = (([], append-nil (with_asked (commands_of v.turns) v.asked) ∙ ap₂ (λ ts o. with_asked (commands_of ts) o) mine.1 mine.2), (served_of y.past y.phase, refl), ([], append-nil v.turns ∙ mine.1));
                last = no_news y;
              }
              (λ j u _. all_set (Fits y') s.views id left
              record { driver's = λ _. (mine.0, mine.1, mine.2, mine.3, ap suc mine.4, mine.5); device's = λ e. absurd (true≢false (sym e ∙ b)); heard = own.heard; last = own.last }
              (λ i x apart e. let f = z.each i x e in
              record { driver's = λ may. absurd (apart ((f.driver's may).0 ∙ sym mine.0)); device's = f.device's; heard = f.heard; last = f.last })
              j u);
          driver_told = let p = commands_snoc vs right in let q = commands_same s.views id v left at refl in let o = z.driver_told in omega arith;
          device_told = let p = served_snoc vs right in let q = served_same s.views id v left at refl in let o = z.device_told in omega arith;
        };
      }

  pub gives_device : (id : ℕ) (v : Calls) → v.serves ≡ true → v.drives ≡ false → Splits (Kept handed) id v (told_device v) (device_note v)
  gives_device id v a b s l at =
      let y : Story = l.story in let z = l.told in let own = z.each id v at in let left : Calls = told_device v in let right : Calls = device_note v in let vs : List Calls = set s.views id left in
      let mine = own.device's a in let y' : Story = record y { device_notes_given = suc y.device_notes_given } in record {
        story = y';
        told = record {
          words = z.words;
          lies = z.lies;
          turns = z.turns;
          narrow = z.narrow;
          stands = z.stands;
          each = all_snoc (Fits y') vs right
              record {
                driver's = λ e. absurd (true≢false (sym e));
                device's = λ e. absurd (true≢false (sym e));
                heard = (
                  subst (λ (q : List Turn × Option CommandView). IsPrefix (with_asked (commands_of q.0) q.1) (sent_of y.past y.phase)) (λ i. (sym mine.1 i, sym mine.2 i)) (seen_sent y.past y.phase),
                  ([], append-nil v.served ∙ mine.1),
                  (y.past, refl),
                );
                last = no_news y;
              }
              (λ j u _. all_set (Fits y') s.views id left
              record { driver's = λ e. absurd (true≢false (sym e ∙ b)); device's = λ _. (mine.0, mine.1, mine.2, ap suc mine.3, mine.4); heard = own.heard; last = own.last }
              (λ i x apart e. let f = z.each i x e in
              record { driver's = f.driver's; device's = λ may. absurd (apart ((f.device's may).0 ∙ sym mine.0)); heard = f.heard; last = f.last })
              j u);
          driver_told = let p = commands_snoc vs right in let q = commands_same s.views id v left at refl in let o = z.driver_told in omega arith;
          device_told = let p = served_snoc vs right in let q = served_same s.views id v left at refl in let o = z.device_told in omega arith;
        };
      }

  pub hears_driver_keeps : (id : ℕ) (v : Calls) (other : ℕ) (w : Calls) → v.serves ≡ true → v.drives ≡ false → w.tells_commands ≡ true → w.tells_served ≡ false → Joins (Kept handed) id v other w (hears_driver v w) nobody
  hears_driver_keeps id v other w a away b c s l at two at' =
      let y : Story = l.story in let z = l.told in let now : Calls = hears_driver v w in let own = z.each id v at in let mine = own.device's a in let vs : List Calls = set s.views id now in
      let was : get_elem? s.views other ≡ some w = ⊎_elim (λ x. absurd (two x.0)) (λ x. x.1) (at_set s.views id other now w at') in let theirs = z.each other w was in
      let y' : Story = record y { device_notes_heard = suc y.device_notes_heard } in record {
        story = y';
        told = record {
          words = z.words;
          lies = z.lies;
          turns = z.turns;
          narrow = z.narrow;
          stands = z.stands;
          each = all_set (Fits y') vs other nobody (nobody's y' other)
              (λ j u _. all_set (Fits y') s.views id now
              record {
                driver's = λ e. absurd (true≢false (sym e ∙ away));
                device's = λ _. (mine.0, mine.1, mine.2, mine.3, ap suc mine.4);
                heard = (
                  longer_of (λ l. IsPrefix l (sent_of y.past y.phase)) v.heard_commands w.heard_commands own.heard.0 theirs.heard.0,
                  own.heard.1,
                  longer_of (λ l. IsPrefix l y.past) v.heard_turns w.heard_turns own.heard.2 theirs.heard.2,
                );
                last = theirs.heard;
              }
              (λ i x apart e. let f = z.each i x e in
              record { driver's = f.driver's; device's = λ may. absurd (apart ((f.device's may).0 ∙ sym mine.0)); heard = f.heard; last = f.last })
              j u);
          driver_told = let p = commands_set vs other w nobody at' in let q = commands_same s.views id v now at refl in let o = z.driver_told in let n = ap one_if b in omega arith;
          device_told = ap (λ (n : ℕ). n + y.driver_notes_heard) (served_same vs other w nobody at' (sym c) ∙ served_same s.views id v now at refl) ∙ z.device_told;
        };
      }

  pub hears_device_keeps : (id : ℕ) (v : Calls) (other : ℕ) (w : Calls) → v.drives ≡ true → v.serves ≡ false → w.tells_served ≡ true → w.tells_commands ≡ false → Joins (Kept handed) id v other w (hears_device v w) nobody
  hears_device_keeps id v other w a away b c s l at two at' =
      let y : Story = l.story in let z = l.told in let now : Calls = hears_device v w in let own = z.each id v at in let mine = own.driver's a in let vs : List Calls = set s.views id now in
      let was : get_elem? s.views other ≡ some w = ⊎_elim (λ x. absurd (two x.0)) (λ x. x.1) (at_set s.views id other now w at') in let theirs = z.each other w was in
      let y' : Story = record y { driver_notes_heard = suc y.driver_notes_heard } in record {
        story = y';
        told = record {
          words = z.words;
          lies = z.lies;
          turns = z.turns;
          narrow = z.narrow;
          stands = z.stands;
          each = all_set (Fits y') vs other nobody (nobody's y' other)
              (λ j u _. all_set (Fits y') s.views id now
              record {
                driver's = λ _. (mine.0, mine.1, mine.2, mine.3, mine.4, ap suc mine.5);
                device's = λ e. absurd (true≢false (sym e ∙ away));
                heard = (
                  longer_of (λ l. IsPrefix l (sent_of y.past y.phase)) v.heard_commands w.heard_commands own.heard.0 theirs.heard.0,
                  longer_of (λ l. IsPrefix l (served_of y.past y.phase)) v.heard_served w.heard_served own.heard.1 theirs.heard.1,
                  own.heard.2,
                );
                last = theirs.heard;
              }
              (λ i x apart e. let f = z.each i x e in
              record { driver's = λ may. absurd (apart ((f.driver's may).0 ∙ sym mine.0)); device's = f.device's; heard = f.heard; last = f.last })
              j u);
          device_told = let p = served_set vs other w nobody at' in let q = served_same s.views id v now at refl in let o = z.device_told in let n = ap one_if b in omega arith;
          driver_told = ap (λ (n : ℕ). n + y.device_notes_heard) (commands_same vs other w nobody at' (sym c) ∙ commands_same s.views id v now at refl) ∙ z.driver_told;
        };
      }

  served_short : (past : List Turn) (p : Phase) → length (served_of past p) ≤ length past + 1
  served_short past Closed = omega arith
  served_short past Rest = omega arith
  served_short past (Sent c) = omega arith
  served_short past (Serving c) = omega arith
  served_short past (Answered c a) = let e = length_snoc past (turn_of c a) in omega arith

  sent_short : (past : List Turn) (p : Phase) → length (sent_of past p) ≤ length (served_of past p) + 1
  sent_short past Closed = let e = length-map past (λ (t : Turn). t.command) in omega arith
  sent_short past Rest = let e = length-map past (λ (t : Turn). t.command) in omega arith
  sent_short past (Sent c) = let e = length-map past (λ (t : Turn). t.command) in let f = length_snoc (commands_of past) c in omega arith
  sent_short past (Serving c) = let e = length-map past (λ (t : Turn). t.command) in let f = length_snoc (commands_of past) c in omega arith
  sent_short past (Answered c a) = let e = length-map past (λ (t : Turn). t.command) in let f = length_snoc (commands_of past) c in let g = length_snoc past (turn_of c a) in omega arith

  pub tells_driver : (n id : ℕ) (me : M E) → me.0.drives ≡ true → Allows (Kept handed) n id me 0 (λ x. x) (driver_knows (step n 0 0 0 none) me)
  tells_driver n id me may = stays (Kept handed) n id me 0 (driver_knows (step n 0 0 0 none) me)
      (λ s l wide at. let y : Story = l.story in let own = l.told.each id me.0 at in let mine = own.driver's may in
      let few = prefix_length me.0.heard_served (served_of y.past y.phase) own.heard.1 in let short = served_short y.past y.phase in let same = ap length mine.1 in
      let taken : (l : List Turn) → IsPrefix l (served_of y.past y.phase) → me.0.asked ≡ None → IsPrefix l me.0.turns = λ l p idle. subst (IsPrefix l) (idle_served y.past y.phase (sym mine.2 ∙ idle) ∙ sym mine.1) p in
      let sent : (l : List CommandView) → IsPrefix l (sent_of y.past y.phase) → IsPrefix l (sent_by me.0) =
      λ l p. subst (λ (q : List Turn × Option CommandView). IsPrefix l (with_asked (commands_of q.0) q.1)) (λ i. (sym mine.1 i, sym mine.2 i)) p in (
        refl,
        record {
          agrees = driver_agrees y id me.0 own may;
          short = omega arith;
          idle = taken me.0.heard_served own.heard.1;
          sent = sent me.0.heard_commands own.heard.0;
          last_agrees = driver_beside y id me.0 own may me.0.last_served own.last.1;
          last_idle = taken me.0.last_served own.last.1;
          last_sent = sent me.0.last_commands own.last.0;
        },
      ))

  pub tells_device : (n id : ℕ) (me : M E) → me.0.serves ≡ true → Allows (Kept handed) n id me 0 (λ x. x) (device_knows (step n 0 0 0 none) me)
  tells_device n id me may = stays (Kept handed) n id me 0 (device_knows (step n 0 0 0 none) me)
      (λ s l wide at. let y : Story = l.story in let own = l.told.each id me.0 at in let mine = own.device's may in
      let few = prefix_length me.0.heard_commands (sent_of y.past y.phase) own.heard.0 in let short = sent_short y.past y.phase in let same = ap length mine.1 in
      let served : (l : List Turn) → IsPrefix l y.past → IsPrefix l me.0.served = λ l p. subst (IsPrefix l) (sym mine.1) (prefix_trans l y.past (served_of y.past y.phase) p (past_served y.past y.phase)) in (
        refl,
        record {
          agrees = device_agrees y id me.0 own may;
          short = omega arith;
          served = served me.0.heard_turns own.heard.2;
          last_agrees = device_beside y id me.0 own may me.0.last_commands own.last.0;
          last_served = served me.0.last_turns own.last.2;
        },
      ))
