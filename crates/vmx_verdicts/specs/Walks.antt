-- A walk over a guest's captured frames: what it keeps, and that it gives the verdicts.
use Rattle.std.proofs.lemmas.Bool.Decides.{nat_tests, eqb_tells}
use Rattle.std.proofs.Common.{◌≡◌, ℕ, zero, suc, ◌+◌, ◌<◌, ◌≤◌, Bool, true, false, not, ◌&&◌, true≢false, List, [], ◌∷◌, ◌++◌, length, length-append, length-take, take, get_or, set, refl, ap, sym, ◌∙◌, subst, arith, Some, nat_le, nat_lt, nat_eq, if◌then◌else◌, append-nil, inl, inr}
use Rattle.std.specs.List.{filter, slice_get, AllByRecursion}
use Rattle.std.proofs.lemmas.Option.{slice_get_within}
use Rattle.std.proofs.lemmas.List.{length-set, get_or_past, get_or-set_same, get_or-set_other}
use Rattle.std.proofs.lemmas.List.Elements.{filter-append}
use Rattle.std.proofs.lemmas.Bool.{and_parts}
use Rattle.vmx_frame.specs.declared.ethernet.TheConstants.{HEADER_LEN}
use Rattle.vmx_layout.specs.declared.register.TheConstants.{MAX_QUEUES}
use Rattle.vmx_model.specs.declared.limits.TheConstants.{ABOVE_MTU, MAX_ACTIONS}
use Rattle.vmx_model.specs.declared.sending.Sending.{Sending}
use Rattle.vmx_model.specs.declared.sending.Sending.TheVariants as sending
use Rattle.vmx_pcap.specs.declared.records.Stamped.{Stamped}
use Rattle.vmx_model.specs.declared.guest.GuestPlan.{GuestPlan}
use Rattle.vmx_model.specs.declared.deeds.Action.{Action}
use Rattle.vmx_model.specs.Lists.{count}
use Rattle.vmx_model.specs.Deeds.{begins, quiet_after, is_quiet}
use Rattle.vmx_model.specs.Wire.{tx_queue, wire_form, posted_form}
use Rattle.vmx_model.specs.Plan.{past, captured_as, goes_on, place_of, is_down, activation_at, verdict_on}
use Rattle.vmx_model.specs.PlanSteps.{place_next, place_low}
use Rattle.vmx_model.specs.QueueSteps.{take_more}
use Rattle.vmx_model.proofs.Lists.{all_weaker}
use Rattle.vmx_model.proofs.Tags.{all_append}
use Rattle.vmx_plan_bounds.proofs.Few.{filter_few}
use Rattle.vmx_verdicts.specs.Ordered.{is_later, past_from}

-- a walk: its guest, and the number of the frame that is next
pub record Walk : Type 0 where
  pub guest : GuestPlan
  pub next : ℕ

-- what a walk keeps beside: the actions so far, whether they leave the guest quiet, which activation is in hand, and its queues' numbers of frames
pub record IsWalk (g : GuestPlan) (next done : ℕ) (quiet : Bool) (activation : ℕ) (counts : List ℕ) : Type 0 where
  pub done_low : done ≤ length g.script
  pub next_low : next ≤ length g.capture.records
  pub quiet_is : quiet ≡ is_quiet false (take done g.script)
  pub activation_is : activation ≡ count (λ (a : Action). begins a.deed) (take done g.script)
  pub reached : AllByRecursion (λ (a : Action). a.at ≤ next) (take done g.script)
  pub counts_length : length counts ≡ MAX_QUEUES
  pub places : (q : ℕ) → q < MAX_QUEUES → get_or counts q 0 ≡ place_of g activation q next
  pub none_yet : (a q : ℕ) → activation < a → place_of g a q next ≡ 0

-- a verdict, and what it makes of the counts
pub record NextFound (g : GuestPlan) (frame : List ℕ) (quiet : Bool) (activation : ℕ) (counts counts' : List ℕ) (x : Sending) : Type 0 where
  pub down : quiet ≡ true → (x ≡ sending.Down) × (counts' ≡ counts)
  pub short : quiet ≡ false → nat_lt (length frame) HEADER_LEN ≡ true → (x ≡ sending.Short) × (counts' ≡ counts)
  pub long : quiet ≡ false → nat_lt (length frame) HEADER_LEN ≡ false → nat_lt (g.setup.mtu + ABOVE_MTU) (length (wire_form (posted_form g frame))) ≡ true → (x ≡ sending.TooLong) × (counts' ≡ counts)
  pub sent : quiet ≡ false → nat_lt (length frame) HEADER_LEN ≡ false → nat_lt (g.setup.mtu + ABOVE_MTU) (length (wire_form (posted_form g frame))) ≡ false
      → (x ≡ sending.Sent activation (tx_queue frame g.setup.tx_queues) (get_or counts (tx_queue frame g.setup.tx_queues) 0))
      × (counts' ≡ set counts (tx_queue frame g.setup.tx_queues) (get_or counts (tx_queue frame g.setup.tx_queues) 0 + 1)) × (tx_queue frame g.setup.tx_queues < MAX_QUEUES)

pub starts : (g : GuestPlan) → IsWalk g 0 0 false 0 (0 ∷ 0 ∷ 0 ∷ 0 ∷ 0 ∷ 0 ∷ 0 ∷ 0 ∷ [])
starts g = record {
  done_low = omega arith;
  next_low = omega arith;
  quiet_is = refl;
  activation_is = refl;
  reached = tt;
  counts_length = refl;
  places = zeros;
  none_yet = λ a q lt. refl;
}
  where
    zeros : (q : ℕ) → q < MAX_QUEUES → ◌≡◌ {A = ℕ} (get_or (0 ∷ 0 ∷ 0 ∷ 0 ∷ 0 ∷ 0 ∷ 0 ∷ 0 ∷ []) q 0) 0
    zeros zero lt = refl
    zeros (suc zero) lt = refl
    zeros (suc (suc zero)) lt = refl
    zeros (suc (suc (suc zero))) lt = refl
    zeros (suc (suc (suc (suc zero)))) lt = refl
    zeros (suc (suc (suc (suc (suc zero))))) lt = refl
    zeros (suc (suc (suc (suc (suc (suc zero)))))) lt = refl
    zeros (suc (suc (suc (suc (suc (suc (suc zero))))))) lt = refl
    zeros (suc (suc (suc (suc (suc (suc (suc (suc q)))))))) lt = refl

quiet_last : (q : Bool) (acts : List Action) (a : Action) → is_quiet q (acts ++ a ∷ []) ≡ quiet_after (is_quiet q acts) a.deed
quiet_last q [] a = refl
quiet_last q (x ∷ acts) a = quiet_last (quiet_after q x.deed) acts a

raised : (n : ℕ) (acts : List Action) → AllByRecursion (λ (a : Action). a.at ≤ n) acts → AllByRecursion (λ (a : Action). a.at ≤ n + 1) acts
raised n acts h = all_weaker (λ (a : Action). a.at ≤ n) (λ (a : Action). a.at ≤ n + 1) (λ a le. omega (arith, le)) acts h

-- one action on, and the activation and counts that it leaves
pub acts_on : (g : GuestPlan) (next done : ℕ) (quiet : Bool) (activation : ℕ) (counts : List ℕ) (a : Action) → IsWalk g next done quiet activation counts → slice_get g.script done ≡ Some a → a.at ≤ next
    → (activation' : ℕ) (counts' : List ℕ) → (begins a.deed ≡ false → (activation' ≡ activation) × (counts' ≡ counts)) → (begins a.deed ≡ true → (activation' ≡ activation + 1) × (counts' ≡ 0 ∷ 0 ∷ 0 ∷ 0 ∷ 0 ∷ 0 ∷ 0 ∷ 0 ∷ []))
    → IsWalk g next (done + 1) (quiet_after quiet a.deed) activation' counts'
acts_on g next done quiet activation counts a w there low activation' counts' same new = step (begins a.deed) refl
  where
    begun : take (done + 1) g.script ≡ take done g.script ++ a ∷ []
    begun = take_more g.script done a there

    many : (b : Bool) → begins a.deed ≡ b → count (λ (x : Action). begins x.deed) (take (done + 1) g.script) ≡ count (λ (x : Action). begins x.deed) (take done g.script) + (if b then 1 else 0)
    many true e = ap (count (λ (x : Action). begins x.deed)) begun ∙ ap length (filter-append (λ (x : Action). begins x.deed) (take done g.script) (a ∷ [])) ∙ rw e (length-append (filter (λ (x : Action). begins x.deed) (take done g.script)) (a ∷ []))
    many false e = ap (count (λ (x : Action). begins x.deed)) begun ∙ ap length (filter-append (λ (x : Action). begins x.deed) (take done g.script) (a ∷ [])) ∙ rw e (ap length (append-nil (filter (λ (x : Action). begins x.deed) (take done g.script))) ∙ (let z : count (λ (x : Action). begins x.deed) (take done g.script) ≡ count (λ (x : Action). begins x.deed) (take done g.script) + 0 = omega arith in z))

    within : done < length g.script
    within = slice_get_within g.script done a there

    step : (b : Bool) → begins a.deed ≡ b → IsWalk g next (done + 1) (quiet_after quiet a.deed) activation' counts'
    step true e = let n = new e in let m = many true e in let was = w.activation_is in let is = n.0 in record {
      done_low = let lt = within in omega (arith, lt);
      next_low = w.next_low;
      quiet_is = ap (λ (q : Bool). quiet_after q a.deed) w.quiet_is ∙ sym (quiet_last false (take done g.script) a) ∙ ap (is_quiet false) (sym begun);
      activation_is = omega (arith, was, is, m);
      reached = subst (AllByRecursion (λ (x : Action). x.at ≤ next)) (sym begun) (all_append (λ (x : Action). x.at ≤ next) (take done g.script) (a ∷ []) w.reached (low, tt));
      counts_length = ap length n.1;
      places = λ q lt. ap (λ (xs : List ℕ). get_or xs q 0) n.1 ∙ (starts g).places q lt ∙ sym (w.none_yet activation' q (omega (arith, is)));
      none_yet = λ x q lt. w.none_yet x q (omega (arith, lt, is));
    }
    step false e = let n = same e in let m = many false e in let was = w.activation_is in let is = n.0 in record {
      done_low = let lt = within in omega (arith, lt);
      next_low = w.next_low;
      quiet_is = ap (λ (q : Bool). quiet_after q a.deed) w.quiet_is ∙ sym (quiet_last false (take done g.script) a) ∙ ap (is_quiet false) (sym begun);
      activation_is = omega (arith, was, is, m);
      reached = subst (AllByRecursion (λ (x : Action). x.at ≤ next)) (sym begun) (all_append (λ (x : Action). x.at ≤ next) (take done g.script) (a ∷ []) w.reached (low, tt));
      counts_length = ap length n.1 ∙ w.counts_length;
      places = λ q lt. ap (λ (xs : List ℕ). get_or xs q 0) n.1 ∙ w.places q lt ∙ ap (λ (x : ℕ). place_of g x q next) (sym is);
      none_yet = λ x q lt. w.none_yet x q (omega (arith, lt, is));
    }

module _ (g : GuestPlan) (next done : ℕ) (quiet : Bool) (activation : ℕ) (counts : List ℕ) (w : IsWalk g next done quiet activation counts) (later : is_later next (slice_get g.script done) ≡ true) (r : Stamped) (there : slice_get g.capture.records next ≡ Some r) where
  past_is : past next g.script ≡ take done g.script
  past_is = past_from g.setup.rx_queues _ false 0 next g.script done g.script_fits w.reached later

  down_is : is_down g next ≡ quiet
  down_is = ap (is_quiet false) past_is ∙ sym w.quiet_is

  at_is : activation_at g next ≡ activation
  at_is = ap (count (λ (a : Action). begins a.deed)) past_is ∙ sym w.activation_is

  -- the frame is sent, where its guest is up and its length fits
  abbrev fits : Bool
  fits = nat_le HEADER_LEN (length r.frame) && nat_le (length (wire_form (posted_form g r.frame))) (g.setup.mtu + ABOVE_MTU)

  abbrev queue : ℕ
  queue = tx_queue r.frame g.setup.tx_queues

  within : next < length g.capture.records
  within = slice_get_within g.capture.records next r there

  goes_as : (a q : ℕ) → goes_on g a q (captured_as g next r) ≡ (not quiet && (nat_le HEADER_LEN (length r.frame) && (nat_le (length (wire_form (posted_form g r.frame))) (g.setup.mtu + ABOVE_MTU) && (nat_eq activation a && nat_eq queue q))))
  goes_as a q = λ i. not (down_is i) && (nat_le HEADER_LEN (length r.frame) && (nat_le (length (wire_form (posted_form g r.frame))) (g.setup.mtu + ABOVE_MTU) && (nat_eq (at_is i) a && nat_eq queue q)))

  unsent : (d x y z : Bool) → (d ≡ true) → (not d && (x && (y && z))) ≡ false
  unsent true x y z e = refl
  unsent false x y z e = absurd (true≢false (sym e))

  unfit : (d x y z : Bool) → (x && y) ≡ false → (not d && (x && (y && z))) ≡ false
  unfit true x y z e = refl
  unfit false false y z e = refl
  unfit false true false z e = refl
  unfit false true true z e = absurd (true≢false e)

  -- a frame that is not sent leaves all counts
  stays : ((a q : ℕ) → goes_on g a q (captured_as g next r) ≡ false) → IsWalk g (next + 1) done quiet activation counts
  stays none = record {
    done_low = w.done_low;
    next_low = let lt = within in omega (arith, lt);
    quiet_is = w.quiet_is;
    activation_is = w.activation_is;
    reached = raised next (take done g.script) w.reached;
    counts_length = w.counts_length;
    places = λ q lt. w.places q lt ∙ sym (same activation q);
    none_yet = λ a q lt. same a q ∙ w.none_yet a q lt;
  }
    where
      same : (a q : ℕ) → place_of g a q (next + 1) ≡ place_of g a q next
      same a q = place_next g a q next r there ∙ (let n = none a q in rw n (let z : place_of g a q next + 0 ≡ place_of g a q next = omega arith in z))

  stays_down : quiet ≡ true → IsWalk g (next + 1) done quiet activation counts
  stays_down e = stays (λ a q. goes_as a q ∙ unsent quiet (nat_le HEADER_LEN (length r.frame)) (nat_le (length (wire_form (posted_form g r.frame))) (g.setup.mtu + ABOVE_MTU)) (nat_eq activation a && nat_eq queue q) e)

  stays_unfit : fits ≡ false → IsWalk g (next + 1) done quiet activation counts
  stays_unfit e = stays (λ a q. goes_as a q ∙ unfit quiet (nat_le HEADER_LEN (length r.frame)) (nat_le (length (wire_form (posted_form g r.frame))) (g.setup.mtu + ABOVE_MTU)) (nat_eq activation a && nat_eq queue q) e)

  -- a frame that is sent counts on its queue
  counts_on : (counts' : List ℕ) → quiet ≡ false → fits ≡ true → queue < MAX_QUEUES → counts' ≡ set counts queue (get_or counts queue 0 + 1) → IsWalk g (next + 1) done quiet activation counts'
  counts_on counts' up fit low is = record {
    done_low = w.done_low;
    next_low = let lt = within in omega (arith, lt);
    quiet_is = w.quiet_is;
    activation_is = w.activation_is;
    reached = raised next (take done g.script) w.reached;
    counts_length = ap length is ∙ length-set counts queue (get_or counts queue 0 + 1) ∙ w.counts_length;
    places = λ q lt. ap (λ (xs : List ℕ). get_or xs q 0) is ∙ by_queue q lt;
    none_yet = λ a q lt. other a q (λ e _. absurd (omega (arith, e, lt))) ∙ w.none_yet a q lt;
  }
    where
      h : (nat_le HEADER_LEN (length r.frame) ≡ true) × (nat_le (length (wire_form (posted_form g r.frame))) (g.setup.mtu + ABOVE_MTU) ≡ true)
      h = and_parts (nat_le HEADER_LEN (length r.frame)) _ fit

      tests : (b c e d : Bool) → quiet ≡ false → b ≡ true → c ≡ true → (not quiet && (b && (c && (e && d)))) ≡ (e && d)
      tests b c e d u x y = (λ i. not (u i) && (x i && (y i && (e && d))))

      goes : (a q : ℕ) → goes_on g a q (captured_as g next r) ≡ (nat_eq activation a && nat_eq queue q)
      goes a q = goes_as a q ∙ tests _ _ (nat_eq activation a) (nat_eq queue q) up h.0 h.1

      here : place_of g activation queue (next + 1) ≡ place_of g activation queue next + 1
      here = place_next g activation queue next r there ∙ ap (λ (b : Bool). place_of g activation queue next + (if b then 1 else 0)) (goes activation queue ∙ (let x : nat_eq activation activation ≡ true = grind (arith, nat_tests) in let y : nat_eq queue queue ≡ true = grind (arith, nat_tests) in λ i. x i && y i))

      no : (a q : ℕ) → ((a ≡ activation) → (q ≡ queue) → ⊥) → (nat_eq activation a && nat_eq queue q) ≡ false
      no a q f = elim (eqb_tells activation a) [
        | inl x ↦ elim (eqb_tells queue q) [
          | inl y ↦ absurd (f (sym x.1) (sym y.1))
          | inr y ↦ rw (x.0, y.0) refl
        ]
        | inr x ↦ rw x.0 refl
      ]

      other : (a q : ℕ) → ((a ≡ activation) → (q ≡ queue) → ⊥) → place_of g a q (next + 1) ≡ place_of g a q next
      other a q f = place_next g a q next r there ∙ ap (λ (b : Bool). place_of g a q next + (if b then 1 else 0)) (goes a q ∙ no a q f) ∙ (let z : place_of g a q next + 0 ≡ place_of g a q next = omega arith in z)

      by_queue : (q : ℕ) → q < MAX_QUEUES → get_or (set counts queue (get_or counts queue 0 + 1)) q 0 ≡ place_of g activation q (next + 1)
      by_queue q lt = let l = w.counts_length in elim (eqb_tells queue q) [
        | inl y ↦ subst (λ (k : ℕ). get_or (set counts queue (get_or counts queue 0 + 1)) k 0 ≡ place_of g activation k (next + 1)) y.1
            (get_or-set_same counts queue (get_or counts queue 0 + 1) 0 (omega (arith, low, l)) ∙ ap (λ (n : ℕ). n + 1) (w.places queue low) ∙ sym here)
        | inr y ↦ get_or-set_other counts queue q (get_or counts queue 0 + 1) 0 (λ e. y.1 (sym e)) ∙ w.places q lt ∙ sym (other activation q (λ _ e. y.1 (sym e)))
      ]

  -- the verdict by what the walk keeps
  abbrev found : Bool → Bool → Bool → ℕ → ℕ → Sending
  found q short long a place = if q then sending.Down else (if short then sending.Short else (if long then sending.TooLong else sending.Sent a queue place))

  abbrev is_short : Bool
  is_short = nat_lt (length r.frame) HEADER_LEN

  abbrev is_long : Bool
  is_long = nat_lt (g.setup.mtu + ABOVE_MTU) (length (wire_form (posted_form g r.frame)))

  verdict_is : verdict_on g (captured_as g next r) ≡ found quiet is_short is_long activation (place_of g activation queue next)
  verdict_is = λ i. found (down_is i) is_short is_long (at_is i) (place_of g (at_is i) queue next)

  fits_by : (short long : Bool) → is_short ≡ short → is_long ≡ long → fits ≡ (not short && not long)
  fits_by true long e f = let h : nat_le HEADER_LEN (length r.frame) ≡ false = grind (arith, nat_tests, e) in rw h refl
  fits_by false true e f = let h : nat_le HEADER_LEN (length r.frame) ≡ true = grind (arith, nat_tests, e) in let k : nat_le (length (wire_form (posted_form g r.frame))) (g.setup.mtu + ABOVE_MTU) ≡ false = grind (arith, nat_tests, f) in λ i. h i && k i
  fits_by false false e f = let h : nat_le HEADER_LEN (length r.frame) ≡ true = grind (arith, nat_tests, e) in let k : nat_le (length (wire_form (posted_form g r.frame))) (g.setup.mtu + ABOVE_MTU) ≡ true = grind (arith, nat_tests, f) in λ i. h i && k i

  -- one frame on: its verdict, and what the walk then keeps
  pub finish : (counts' : List ℕ) (x : Sending) → NextFound g r.frame quiet activation counts counts' x → (x ≡ verdict_on g (captured_as g next r)) × IsWalk g (next + 1) done quiet activation counts'
  finish counts' x f = by_quiet quiet refl
    where
      stay : counts' ≡ counts → IsWalk g (next + 1) done quiet activation counts → IsWalk g (next + 1) done quiet activation counts'
      stay e h = subst (IsWalk g (next + 1) done quiet activation) (sym e) h

      by_long : (b : Bool) → quiet ≡ false → is_short ≡ false → is_long ≡ b → (x ≡ verdict_on g (captured_as g next r)) × IsWalk g (next + 1) done quiet activation counts'
      by_long true u e h = let y = f.long u e h in
          (y.0 ∙ sym (verdict_is ∙ (λ i. found (u i) (e i) (h i) activation (place_of g activation queue next))), stay y.1 (stays_unfit (fits_by false true e h)))
      by_long false u e h = let y = f.sent u e h in (
        y.0 ∙ ap (λ (n : ℕ). sending.Sent activation queue n) (w.places queue y.2) ∙ sym (verdict_is ∙ (λ i. found (u i) (e i) (h i) activation (place_of g activation queue next))),
        counts_on counts' u (fits_by false false e h) y.2 y.1,
      )

      by_short : (b : Bool) → quiet ≡ false → is_short ≡ b → (x ≡ verdict_on g (captured_as g next r)) × IsWalk g (next + 1) done quiet activation counts'
      by_short true u e = let y = f.short u e in
          (y.0 ∙ sym (verdict_is ∙ (λ i. found (u i) (e i) is_long activation (place_of g activation queue next))), stay y.1 (stays_unfit (fits_by true is_long e refl)))
      by_short false u e = by_long is_long u e refl

      by_quiet : (b : Bool) → quiet ≡ b → (x ≡ verdict_on g (captured_as g next r)) × IsWalk g (next + 1) done quiet activation counts'
      by_quiet true u = let y = f.down u in
          (y.0 ∙ sym (verdict_is ∙ (λ i. found (u i) is_short is_long activation (place_of g activation queue next))), stay y.1 (stays_down u))
      by_quiet false u = by_short is_short u refl

-- numbers are small
pub few_done : (g : GuestPlan) (next done : ℕ) (quiet : Bool) (activation : ℕ) (counts : List ℕ) (a : Action) → IsWalk g next done quiet activation counts → slice_get g.script done ≡ Some a → (done < MAX_ACTIONS) × (activation < MAX_ACTIONS)
few_done g next done quiet activation counts a w there =
    let lt = slice_get_within g.script done a there in let most = g.script_length in
    let n = filter_few (λ (x : Action). begins x.deed) (take done g.script) in let before = length-take done g.script in let is = w.activation_is in
    (omega (arith, lt, most), omega (arith, lt, most, n, before, is))

pub few_counts : (g : GuestPlan) (next done : ℕ) (quiet : Bool) (activation : ℕ) (counts : List ℕ) → IsWalk g next done quiet activation counts → (q : ℕ) → get_or counts q 0 ≤ next
few_counts g next done quiet activation counts w q = by_low (nat_lt q MAX_QUEUES) refl
  where
    by_low : (b : Bool) → nat_lt q MAX_QUEUES ≡ b → get_or counts q 0 ≤ next
    by_low true e = let lt : q < MAX_QUEUES = grind (arith, nat_tests, e) in let n = w.places q lt in let low = place_low g activation q next in omega (arith, n, low)
    by_low false e = let l = w.counts_length in let z = get_or_past counts q 0 (let le : MAX_QUEUES ≤ q = grind (arith, nat_tests, e) in omega (arith, l, le)) in omega (arith, z)
