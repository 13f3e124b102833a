-- The rule of new registers; the seat is cut in two; the driver's seat is joined into the device's.
use Rattle.std.proofs.Common.{◌≡◌, ◌≢◌, ℕ, ◌+◌, List, [], ◌∷◌, length, set, true, false, true≢false, sym, refl, ap, ◌∙◌, subst, ⊎_elim, arith}
use mathlib.Core.Option.{none, some, some-ne-none}
use lib.ListN.{get_elem?}
use Rattle.std.specs.Prelude.{None}
use Rattle.atomic_table.specs.Table.{step, Allows, Splits, Joins, opening}
use Rattle.atomic_table.proofs.Lists.{at_set}
use Rattle.vmx_io.specs.declared.handed.HandedView.{HandedView}
use Rattle.vmx_ring_laws.specs.Steps.{stays}
use Rattle.vmx_ring_laws.specs.Views.{all_set, all_snoc}
use Rattle.vmx_regs.specs.declared.known.Calls.{Calls}
use Rattle.vmx_regs.specs.Turns.{AreTurns}
use Rattle.vmx_regs.specs.Rule.{Closed, Story, IsNews, Fits, Kept, one_if, nobody, newcomer, driver_part, device_part, together, sent_of, served_of, serving_of}
use Rattle.vmx_regs.specs.Plays.{met}
use Rattle.vmx_regs.proofs.Told.{commands_same, served_same, commands_snoc, served_snoc}
use Rattle.vmx_regs.proofs.Steps.{M, is_closed}

pub no_news : (y : Story) → IsNews y.past y.phase [] [] []
no_news y = ((sent_of y.past y.phase, refl), (served_of y.past y.phase, refl), (y.past, refl))

pub nobody's : (y : Story) (j : ℕ) → Fits y j nobody
nobody's y j = record { driver's = λ e. absurd (true≢false (sym e)); device's = λ e. absurd (true≢false (sym e)); heard = no_news y; last = no_news y }

module _ {E : Type 0} (handed : E → HandedView) where
  pub begins : (n : ℕ) (more : List ℕ) → Kept handed (opening (0 ∷ 0 ∷ more) (None ∷ []) (newcomer n))
  begins n more = record {
    story = record { past = []; phase = Closed; driver = 0; device = 0; more = more; driver_notes_given = 0; driver_notes_heard = 0; device_notes_given = 0; device_notes_heard = 0 };
    told = record {
      words = refl;
      lies = refl;
      turns = λ k t e. absurd (some-ne-none t (sym e));
      narrow = record { number = omega arith; value = omega arith };
      stands = tt;
      each = all_snoc (Fits _) [] (newcomer n) record { driver's = λ _. (refl, refl, refl, refl, refl, refl); device's = λ _. (refl, refl, refl, refl, refl); heard = (([], refl), ([], refl), ([], refl)); last = (([], refl), ([], refl), ([], refl)) } (λ j u less e. absurd (omega arith));
      driver_told = refl;
      device_told = refl;
    };
  }

  pub parts : (id : ℕ) (v : Calls) → v.drives ≡ true → v.serves ≡ true → v.tells_commands ≡ false → v.tells_served ≡ false → Splits (Kept handed) id v (driver_part v) (device_part v)
  parts id v a b c d s l at =
      let y : Story = l.story in let z = l.told in let own = z.each id v at in let left : Calls = driver_part v in let right : Calls = device_part v in let vs : List Calls = set s.views id left in
      let y' : Story = record y { device = length vs } in let mine = own.device's b in record {
        story = y';
        told = record {
          words = z.words;
          lies = z.lies;
          turns = z.turns;
          narrow = z.narrow;
          stands = z.stands;
          each = all_snoc (Fits y') vs right
              record { driver's = λ e. absurd (true≢false (sym e)); device's = λ _. (refl, mine.1, mine.2, mine.3, mine.4); heard = own.heard; last = own.last }
              (λ j u _. all_set (Fits y') s.views id left
              record { driver's = own.driver's; device's = λ e. absurd (true≢false (sym e)); heard = own.heard; last = own.last }
              (λ i x apart e. let f = z.each i x e in
              record { driver's = f.driver's; device's = λ may. absurd (apart ((f.device's may).0 ∙ sym mine.0)); heard = f.heard; last = f.last })
              j u);
          driver_told = let p = commands_snoc vs right in let q = commands_same s.views id v left at refl in let o = z.driver_told in let n = ap one_if c in omega arith;
          device_told = let p = served_snoc vs right in let q = served_same s.views id v left at refl in let o = z.device_told in let n = ap one_if d in omega arith;
        };
      }

  -- the driver's seat is joined into the device's
  pub meets : (id : ℕ) (v : Calls) (other : ℕ) (w : Calls) → v.serves ≡ true → w.drives ≡ true → w.tells_commands ≡ false → w.tells_served ≡ false → Joins (Kept handed) id v other w (together v w) nobody
  meets id v other w a b c d s l at two at' =
      let y : Story = l.story in let z = l.told in let both : Calls = together v w in let own = z.each id v at in let vs : List Calls = set s.views id both in
      let was : get_elem? s.views other ≡ some w = ⊎_elim (λ x. absurd (two x.0)) (λ x. x.1) (at_set s.views id other both w at') in let theirs = (z.each other w was).driver's b in
      let y' : Story = record y { driver = id } in record {
        story = y';
        told = record {
          words = z.words;
          lies = z.lies;
          turns = z.turns;
          narrow = z.narrow;
          stands = z.stands;
          each = all_set (Fits y') vs other nobody (nobody's y' other)
              (λ j u apart e. all_set (λ i x. i ≢ other → Fits y' i x) s.views id both
              (λ _. record { driver's = λ _. (refl, theirs.1, theirs.2, theirs.3, theirs.4, theirs.5); device's = λ _. own.device's a; heard = own.heard; last = own.last })
              (λ i x not e' away. let f = z.each i x e' in
              record { driver's = λ may. absurd (away ((f.driver's may).0 ∙ sym theirs.0)); device's = f.device's; heard = f.heard; last = f.last })
              j u e apart);
          driver_told = ap (λ (n : ℕ). n + y.device_notes_heard) (commands_same vs other w nobody at' (sym c) ∙ commands_same s.views id v both at refl) ∙ z.driver_told;
          device_told = ap (λ (n : ℕ). n + y.driver_notes_heard) (served_same vs other w nobody at' (sym d) ∙ served_same s.views id v both at refl) ∙ z.device_told;
        };
      }

  pub tells_met : (n id : ℕ) (me : M E) → me.0.drives ≡ true → me.0.serves ≡ true → me.0.begun ≡ false → Allows (Kept handed) n id me 0 (λ x. x) (met (step n 0 0 0 none) me)
  tells_met n id me a b over = stays (Kept handed) n id me 0 (met (step n 0 0 0 none) me)
      (λ s l wide at. let y : Story = l.story in let own = l.told.each id me.0 at in let mine = own.driver's a in let mine' = own.device's b in let is = is_closed y.phase (sym mine.3 ∙ over) in
      let given = mine.4 in let heard = mine.5 in let given' = mine'.3 in let heard' = mine'.4 in let out = l.told.driver_told in let out' = l.told.device_told in
      (refl, mine.1 ∙ sym (mine'.1 ∙ ap (served_of y.past) is), mine'.2 ∙ ap serving_of is, subst AreTurns (sym mine.1) l.told.turns, omega arith, omega arith))
