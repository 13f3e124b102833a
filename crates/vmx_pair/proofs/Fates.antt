-- Frames that are sent, one by one.
use Rattle.std.proofs.Common.{◌≡◌, ℕ, ◌+◌, ◌≤◌, Bool, true, false, cond, List, [], ◌∷◌, ◌++◌, length, refl, sym, ap, ◌∙◌, arith, subst, All, append-nil}
use Rattle.std.specs.Prelude.{filter}
use Rattle.std.proofs.lemmas.Bool.Decides.{nat_tests}
use Rattle.std.specs.List.{AllByRecursion}
use Rattle.std.proofs.lemmas.List.Elements.{All-from_recursion}
use Rattle.vmx_pcap.specs.declared.records.Stamped.{Stamped}
use Rattle.vmx_model.specs.declared.guest.GuestPlan.{GuestPlan}
use Rattle.vmx_model.specs.declared.journal.Fate.{Fate}
use Rattle.vmx_pair_plan.specs.Plan.{IsPlain}
use Rattle.vmx_pair_plan.specs.Lengths.{is_sent}
use Rattle.vmx_pair_plan.specs.Fates.{sent_records}
use Rattle.vmx_pair_plan.proofs.Verdicts.{fates_from, sent_by_length}

-- nothing waits any more
pub all_told : (mtu place : ℕ) (waiting : List Stamped) (fates all : List Fate) → fates ++ fates_from mtu place waiting ≡ all → waiting ≡ [] → fates ≡ all
all_told mtu place waiting fates all so_far done = sym (append-nil fates) ∙ ap (λ x. fates ++ fates_from mtu place x) (sym done) ∙ so_far

pub all_sent : (mtu : ℕ) (waiting queue all : List Stamped) → queue ++ filter (is_sent mtu) waiting ≡ all → waiting ≡ [] → queue ≡ all
all_sent mtu waiting queue all so_far done = sym (append-nil queue) ∙ ap (λ x. queue ++ filter (is_sent mtu) x) (sym done) ∙ so_far

cond_front : (b : Bool) (r : Stamped) (rs : List Stamped) → cond b (r ∷ rs) rs ≡ cond b (r ∷ []) [] ++ rs
cond_front true r rs = refl
cond_front false r rs = refl

-- a frame in front of those that are sent
pub sent_more : (mtu : ℕ) (r : Stamped) (rs : List Stamped) → filter (is_sent mtu) (r ∷ rs) ≡ filter (is_sent mtu) (r ∷ []) ++ filter (is_sent mtu) rs
sent_more mtu r rs = cond_front (is_sent mtu r) r (filter (is_sent mtu) rs)

sent_short : (mtu : ℕ) (r : Stamped) → is_sent mtu r ≡ true → length r.frame ≤ mtu + 18
sent_short mtu r is = grind (arith, nat_tests)

kept : (P : Stamped → Type 0) (b : Bool) (r : Stamped) (rs : List Stamped) → (b ≡ true → P r) → AllByRecursion P rs → AllByRecursion P (cond b (r ∷ rs) rs)
kept P true r rs here rest = (here refl, rest)
kept P false r rs here rest = rest

short_by_recursion : (mtu : ℕ) (rs : List Stamped) → mtu ≤ 9000 → AllByRecursion (λ r. length r.frame ≤ 65535) (filter (is_sent mtu) rs)
short_by_recursion mtu [] low = tt
short_by_recursion mtu (r ∷ rs) low =
    kept (λ x. length x.frame ≤ 65535) (is_sent mtu r) r (filter (is_sent mtu) rs) (λ passes. let s = sent_short mtu r passes in omega arith) (short_by_recursion mtu rs low)

-- the frames that are sent are short enough for a capture
pub all_short : (g : GuestPlan) → IsPlain g → All (λ r. length r.frame ≤ 65535) (sent_records g)
all_short g p = subst (All (λ r. length r.frame ≤ 65535)) (sent_by_length g p) (All-from_recursion _ _ (short_by_recursion g.setup.mtu g.capture.records g.setup.mtu_high))
