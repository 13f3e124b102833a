-- The actions of a script, one at a time.
use Rattle.std.proofs.Common.{◌≡◌, ℕ, zero, suc, ◌+◌, ◌<◌, ◌≤◌, Bool, true, false, cond, nat_eq, List, [], ◌∷◌, ◌++◌, length, take, get_or, refl, sym, ap, ◌∙◌, arith, if◌then◌else◌}
use Rattle.std.specs.List.{filter, fold}
use Rattle.std.proofs.lemmas.List.Elements.{filter-append}
use Rattle.std.proofs.lemmas.List.{take_more, append-nil}
use Rattle.std.proofs.lemmas.Bool.{and_parts}
use Rattle.vmx_model.specs.declared.deeds.Action.{Action}
use Rattle.vmx_model.specs.declared.deeds.Deed.{Deed}
use Rattle.vmx_model.specs.declared.deeds.Deed.TheVariants as deed
use Rattle.vmx_model.specs.declared.guest.GuestPlan.{GuestPlan}
use Rattle.vmx_model.specs.Deeds.{quiet_after}
use Rattle.vmx_model.specs.Ranges.{fits_deed, fits_from, is_within, is_in_turn}

fits_any : (queues : ℕ) (rss : Bool) (d : Deed) → fits_deed queues rss d ≡ true → fits_deed queues true d ≡ true
fits_any queues rss deed.Quiesce h = refl
fits_any queues rss deed.Activate h = refl
fits_any queues rss deed.Reset h = refl
fits_any queues rss (deed.Mode m) h = h
fits_any queues rss (deed.Multicast t) h = h
fits_any queues rss (deed.Vlans t) h = refl
fits_any queues true (deed.Rss n t) h = h
fits_any queues false (deed.Rss n t) h = absurd (cc h)

fits_at : (queues : ℕ) (rss quiet : Bool) (at : ℕ) (script : List Action) → fits_from queues rss quiet at script ≡ true → (i : ℕ) (d : Action) → i < length script → fits_deed queues true (get_or script i d).deed ≡ true
fits_at queues rss quiet at [] h i d lt = absurd (omega arith)
fits_at queues rss quiet at (a ∷ rest) h zero d lt = fits_any queues rss a.deed (and_parts _ _ (and_parts _ _ h).1).0
fits_at queues rss quiet at (a ∷ rest) h (suc i) d lt =
    let tail : fits_from queues rss (quiet_after quiet a.deed) a.at rest ≡ true = (and_parts (is_in_turn quiet a.deed) _ (and_parts (fits_deed queues rss a.deed) _ (and_parts (is_within at 262144 a.at) _ h).1).1).1 in
    fits_at queues rss (quiet_after quiet a.deed) a.at rest tail i d (omega arith)

-- an action of a plan fits a setup with as many receive queues
pub script_fits_at : (g : GuestPlan) (i : ℕ) (a : Action) (queues : ℕ) → i < length g.script → a ≡ get_or g.script i a → queues ≡ g.setup.rx_queues → fits_deed queues true a.deed ≡ true
script_fits_at g i a queues lt is same = ap (λ (q : ℕ). fits_deed q true a.deed) same ∙ ap (λ (x : Action). fits_deed g.setup.rx_queues true x.deed) is ∙ fits_at g.setup.rx_queues _ false 0 g.script g.script_fits i a lt

filter_low : {X : Type 0} (test : X → Bool) (xs : List X) (i : ℕ) → length (filter test (take i xs)) ≤ length xs
filter_low test [] zero = omega arith
filter_low test [] (suc i) = omega arith
filter_low test (x ∷ xs) zero = omega arith
filter_low test (x ∷ xs) (suc i) = by_test (test x) (filter_low test xs i)
  where
    by_test : (b : Bool) → length (filter test (take i xs)) ≤ length xs → length (cond b (x ∷ filter test (take i xs)) (filter test (take i xs))) ≤ suc (length xs)
    by_test true le = omega arith
    by_test false le = omega arith

-- a script has few actions
pub few_actions : (g : GuestPlan) (n i : ℕ) → length (filter (λ (a : Action). nat_eq a.at n) (take i g.script)) ≤ 256
few_actions g n i = let low = filter_low (λ (a : Action). nat_eq a.at n) g.script i in let most = g.script_length in omega arith

-- one action more
pub acted_next : {S : Type 0} (act : S → Action → S) (test : Action → Bool) (script : List Action) (i : ℕ) (a : Action) (start now new : S) → i < length script → a ≡ get_or script i a → now ≡ fold act start (filter test (take i script)) → new ≡ (if test a then act now a else now) → new ≡ fold act start (filter test (take (i + 1) script))
acted_next {S} act test script i a start now new lt is was e =
    let before : List Action = filter test (take i script) in
    let more : filter test (take (i + 1) script) ≡ before ++ filter test (a ∷ []) = ap (filter test) (take_more script i a lt) ∙ filter-append test (take i script) (get_or script i a ∷ []) ∙ ap (λ (x : Action). before ++ filter test (x ∷ [])) (sym is) in
    e ∙ by_test (test a) before now was ∙ ap (fold act start) (sym more)
  where
    last : (xs : List Action) (s : S) → fold act s (xs ++ a ∷ []) ≡ act (fold act s xs) a
    last [] s = refl
    last (x ∷ xs) s = last xs (act s x)

    by_test : (b : Bool) (before : List Action) (now : S) → now ≡ fold act start before → (if b then act now a else now) ≡ fold act start (before ++ cond b (a ∷ []) [])
    by_test true before now was = ap (λ (s : S). act s a) was ∙ sym (last before start)
    by_test false before now was = was ∙ ap (fold act start) (sym (append-nil before))
