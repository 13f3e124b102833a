-- One captured frame on: cursors, keys and targets.
use Rattle.std.proofs.Common.{◌≡◌, ◌≢◌, ℕ, zero, suc, ◌+◌, ◌*◌, ◌<◌, ◌≤◌, Bool, true, false, nat_eq, nat_le, not, ◌&&◌, ◌||◌, ◌==◌, if◌then◌else◌, List, [], ◌∷◌, ◌++◌, length, length-append, map, take, drop, get_or, set, replicate, refl, ap, sym, ◌∙◌, subst, append_assoc, arith, add-one, inl, inr, Option, Some, None}
use Rattle.std.specs.Prelude.{nat_lt}
use Rattle.std.specs.List.{slice_get, filter, flat_map, range_with_len, AllByRecursion}
use Rattle.std.proofs.lemmas.Bool.Decides.{nat_tests, eqb_tells}
use Rattle.std.proofs.lemmas.List.{get_or-set_same, get_or-set_other, flat_map_more}
use Rattle.std.proofs.lemmas.List.Elements.{filter_agree}
use Rattle.std.proofs.lemmas.Option.{slice_get_within}
use Rattle.vmx_layout.specs.declared.register.TheConstants.{MAX_QUEUES}
use Rattle.vmx_frame.specs.Ethernet.{class_of, destination, names_group, is_tagged}
use Rattle.vmx_frame.specs.Tags.{put_of}
use Rattle.vmx_switch.specs.Ports.{Wiring, is_target, target_ports, owns, sniffs}
use Rattle.vmx_pcap.specs.declared.records.Stamped.{Stamped}
use Rattle.vmx_model.specs.declared.guest.GuestPlan.{GuestPlan}
use Rattle.vmx_model.specs.declared.deeds.Action.{Action}
use Rattle.vmx_model.specs.declared.journal.Entry.{Entry}
use Rattle.vmx_model.specs.declared.journal.Fate.{Fate}
use Rattle.vmx_model.specs.declared.sending.Sending.{Sending}
use Rattle.vmx_model.specs.declared.sending.Sending.TheVariants as sending
use Rattle.vmx_model.specs.Lists.{count}
use Rattle.vmx_model.specs.Deeds.{begins}
use Rattle.vmx_model.specs.Wire.{targets, posted_form, wire_form, wire_class, tx_queue}
use Rattle.vmx_model.specs.Plan.{Captured, captured, captured_as, verdict_on, activation_at, place_of}
use Rattle.vmx_model.specs.PlanSteps.{captured_there}
use Rattle.vmx_model.specs.QueueSteps.{take_more as take_more_at}
use Rattle.vmx_model.specs.Account.{activations}
use Rattle.vmx_model.proofs.Copies.{tx_queue_below}
use Rattle.vmx_model.proofs.Found.{activation_within}
use Rattle.vmx_buckets.specs.declared.sends.Switched.{Switched}
use Rattle.vmx_buckets.specs.Buckets.{key, switched_on}
use Rattle.vmx_copies.specs.declared.copy.FrameCopy.{FrameCopy}
use Rattle.vmx_copies.specs.Join.{IsPassed, before, frame_rows, guest_rows, rows_from, entries_in}
use Rattle.vmx_copies.proofs.Verdict.{sends_on, sent_parts, places_next}

-- ------------------------------------------------------------ targets

put_destination : (f : List ℕ) (t : ℕ) → 14 ≤ length f → destination (put_of f t) ≡ destination f
unfolding put_of
put_destination (b0 ∷ b1 ∷ b2 ∷ b3 ∷ b4 ∷ b5 ∷ b6 ∷ b7 ∷ b8 ∷ b9 ∷ b10 ∷ b11 ∷ b12 ∷ b13 ∷ rest) t h = refl
put_destination f t h = absurd (omega (arith, h))

wire_destination : (p : GuestPlan) (f : List ℕ) → 14 ≤ length f → destination (wire_form (posted_form p f)) ≡ destination f
wire_destination p f h = step (is_tagged f) p.vlan refl refl
  where
    long : nat_le 14 (length f) ≡ true
    long = grind (arith, nat_tests, h)

    step : (b : Bool) (o : Option ℕ) → is_tagged f ≡ b → p.vlan ≡ o → destination (wire_form (posted_form p f)) ≡ destination f
    step true o e k = rw (long, e) refl
    step false None e k = rw (long, e, k) refl
    step false (Some x) e k = rw (long, e, k) (put_destination f x h)

-- a tag changes nothing of a frame's targets
pub wire_targets : (w : Wiring) (g : ℕ) (p : GuestPlan) (f : List ℕ) → 14 ≤ length f → targets w g (wire_form (posted_form p f)) ≡ targets w g f
unfolding target_ports is_target
wire_targets w g p f h = filter_agree (is_target w g (wire_form (posted_form p f))) (is_target w g f)
    (λ x. λ i. not (x == g) && (names_group (wire_class p f i) || owns w x (wire_destination p f h i) || sniffs w x)) (range_with_len 0 (length w.macs))

-- ------------------------------------------------------------ keys

count_few : (test : Action → Bool) (acts : List Action) → count test acts ≤ length acts
count_few test [] = omega arith
count_few test (a ∷ acts) = step (test a) refl (count_few test acts)
  where
    step : (b : Bool) → test a ≡ b → count test acts ≤ length acts → count test (a ∷ acts) ≤ suc (length acts)
    step true e h = rw e (omega (arith, h))
    step false e h = rw e (omega (arith, h))

few_activations : (p : GuestPlan) → activations p ≤ length p.script + 1
few_activations p = let n = count_few (λ (x : Action). begins x.deed) p.script in omega (arith, n)

-- the queue of a frame that is sent is one of its guest's
pub there_is : (p : GuestPlan) (c : Captured) (a q k : ℕ) → sending.Sent a q k ≡ verdict_on p c → (a < activations p) × (q < p.setup.tx_queues)
there_is p c a q k e =
    let parts = sent_parts p c a q k e in
    let low = p.setup.tx_queues_low in
    (subst (λ (x : ℕ). x < activations p) (sym parts.0) (activation_within p c.number), subst (λ (x : ℕ). x < p.setup.tx_queues) (sym parts.1) (tx_queue_below c.posted.frame p.setup.tx_queues (omega (arith, low))))

pub key_within : (p : GuestPlan) (c : Captured) (a q k : ℕ) → sending.Sent a q k ≡ verdict_on p c → (q < MAX_QUEUES) × (key a q < (length p.script + 1) * MAX_QUEUES)
key_within p c a q k e =
    let t = there_is p c a q k e in
    let few = few_activations p in
    let high = p.setup.tx_queues_high in
    let low : q < MAX_QUEUES = let lt = t.1 in omega (arith, lt, high) in
    let la = t.0 in
    (low, omega (arith, low, la, few))

-- ------------------------------------------------------------ cursors

zeros : (n k : ℕ) → get_or {A = ℕ} (replicate n 0) k 0 ≡ 0
zeros zero k = refl
zeros (suc n) zero = refl
zeros (suc n) (suc k) = zeros n k

none_first : (xs : List Switched) → length (before 0 xs) ≡ 0
none_first [] = refl
none_first (x ∷ xs) = let e : nat_lt x.place 0 ≡ false = grind (arith, nat_tests) in rw e (none_first xs)

-- before the first frame nothing is passed
pub passed_none : (p : GuestPlan) (es : List Entry) (n : ℕ) → IsPassed p es 0 (replicate n 0)
passed_none p es n = record { each = λ a q la lq. zeros n (key a q) ∙ sym (none_first (switched_on a q es)) }

-- what a frame's verdict makes of the cursors
abbrev pub PassesBy : List Entry → List ℕ → List ℕ → Sending → Type 0
PassesBy es old new (sending.Sent a q k) = (key a q < length old) × (new ≡ set old (key a q) (length (before (k + 1) (switched_on a q es))))
PassesBy es old new sending.Down = new ≡ old
PassesBy es old new sending.Short = new ≡ old
PassesBy es old new sending.TooLong = new ≡ old

module _ (p : GuestPlan) (es : List Entry) (i : ℕ) (r : Stamped) (there : slice_get p.capture.records i ≡ Some r) (old new : List ℕ) (was : IsPassed p es i old) where
  stays : (s : Sending) → s ≡ verdict_on p (captured_as p i r) → (a q : ℕ) → sends_on a q s ≡ false → place_of p a q (i + 1) ≡ place_of p a q i
  stays s e a q off = places_next p i r s there e a q ∙ rw off (let z : place_of p a q i + 0 ≡ place_of p a q i = omega arith in z)

  idle : (s : Sending) → s ≡ verdict_on p (captured_as p i r) → ((a q : ℕ) → sends_on a q s ≡ false) → new ≡ old → IsPassed p es (i + 1) new
  idle s e off same = record { each = λ a q la lq. ap (λ (xs : List ℕ). get_or xs (key a q) 0) same ∙ was.each a q la lq ∙ ap (λ (n : ℕ). length (before n (switched_on a q es))) (sym (stays s e a q (off a q))) }

  sent : (a q k : ℕ) → sending.Sent a q k ≡ verdict_on p (captured_as p i r) → key a q < length old → new ≡ set old (key a q) (length (before (k + 1) (switched_on a q es))) → IsPassed p es (i + 1) new
  sent a q k e within is = record { each = each }
    where
      parts : (a ≡ activation_at p i) × (q ≡ tx_queue r.frame p.setup.tx_queues) × (k ≡ place_of p a q i) × (14 ≤ length r.frame)
      parts = sent_parts p (captured_as p i r) a q k e

      end : ℕ
      end = length (before (k + 1) (switched_on a q es))

      here : place_of p a q (i + 1) ≡ k + 1
      here = let x : nat_eq a a ≡ true = grind (arith, nat_tests) in let y : nat_eq q q ≡ true = grind (arith, nat_tests) in
          places_next p i r (sending.Sent a q k) there e a q ∙ rw (x, y) (ap (λ (n : ℕ). n + 1) (sym parts.2))

      own : get_or new (key a q) 0 ≡ length (before (place_of p a q (i + 1)) (switched_on a q es))
      own = ap (λ (xs : List ℕ). get_or xs (key a q) 0) is ∙ get_or-set_same old (key a q) (length (before (k + 1) (switched_on a q es))) 0 within ∙ ap (λ (n : ℕ). length (before n (switched_on a q es))) (sym here)

      other : (b t : ℕ) → b < activations p → t < p.setup.tx_queues → sends_on b t (sending.Sent a q k) ≡ false → key b t ≢ key a q → get_or new (key b t) 0 ≡ length (before (place_of p b t (i + 1)) (switched_on b t es))
      other b t lb lt off apart = ap (λ (xs : List ℕ). get_or xs (key b t) 0) is ∙ get_or-set_other old (key a q) (key b t) (length (before (k + 1) (switched_on a q es))) 0 apart
          ∙ was.each b t lb lt ∙ ap (λ (n : ℕ). length (before n (switched_on b t es))) (sym (stays (sending.Sent a q k) e b t off))

      high : p.setup.tx_queues ≤ MAX_QUEUES
      high = p.setup.tx_queues_high

      lq : q < p.setup.tx_queues
      lq = (there_is p (captured_as p i r) a q k e).1

      apart : (b t : ℕ) → t < p.setup.tx_queues → (b ≡ a → t ≡ q → ⊥) → key b t ≢ key a q
      apart b t lt ne same = let l = lq in let h = high in let x : b ≡ a = omega (arith, same, lt, l, h) in ne x (omega (arith, same, x))

      each : (b t : ℕ) → b < activations p → t < p.setup.tx_queues → get_or new (key b t) 0 ≡ length (before (place_of p b t (i + 1)) (switched_on b t es))
      each b t lb lt = elim (eqb_tells a b) [
        | inl x ↦ elim (eqb_tells q t) [
          | inl y ↦ subst (λ (n : ℕ). get_or new (key n t) 0 ≡ length (before (place_of p n t (i + 1)) (switched_on n t es))) x.1 (subst (λ (n : ℕ). get_or new (key a n) 0 ≡ length (before (place_of p a n (i + 1)) (switched_on a n es))) y.1 own)
          | inr y ↦ other b t lb lt (rw (x.0, y.0) refl) (apart b t lt (λ e f. y.1 (sym f)))
        ]
        | inr x ↦ other b t lb lt (rw x.0 refl) (apart b t lt (λ e f. x.1 (sym e)))
      ]

  -- one frame on
  pub passed_next : (s : Sending) → s ≡ verdict_on p (captured_as p i r) → PassesBy es old new s → IsPassed p es (i + 1) new
  passed_next (sending.Sent a q k) e h = sent a q k e h.0 h.1
  passed_next sending.Down e h = idle sending.Down e (λ a q. refl) h
  passed_next sending.Short e h = idle sending.Short e (λ a q. refl) h
  passed_next sending.TooLong e h = idle sending.TooLong e (λ a q. refl) h

-- ------------------------------------------------------------ rows

-- one captured frame more
pub frames_next : (f : Captured → List FrameCopy) (p : GuestPlan) (n : ℕ) (r : Stamped) (old now new : List FrameCopy) → slice_get p.capture.records n ≡ Some r → now ≡ old ++ flat_map f (take n (captured p)) → new ≡ now ++ f (captured_as p n r) → new ≡ old ++ flat_map f (take (n + 1) (captured p))
frames_next f p n r old now new at was is =
    is ∙ ap (λ (xs : List FrameCopy). xs ++ f (captured_as p n r)) was ∙ flat_map_more f old (take n (captured p)) (captured_as p n r)
    ∙ ap (λ (xs : List Captured). old ++ flat_map f xs) (sym (taken_on (captured p) n (captured_as p n r) (captured_there p n r at)))
  where
    taken_on : {X : Type 0} (xs : List X) (i : ℕ) (x : X) → slice_get xs i ≡ Some x → take (i + 1) xs ≡ take i xs ++ x ∷ []
    taken_on xs i x h = take_more_at xs i x h

-- one guest more
pub guests_next : (w : Wiring) (came : List (List (List Fate))) (js : List (List Entry)) (gs : List GuestPlan) (i : ℕ) (p : GuestPlan) (now new total : List FrameCopy) → i < length gs → p ≡ get_or gs i p
    → now ++ rows_from w came js i (drop i gs) ≡ total → new ≡ now ++ guest_rows w came (entries_in js i) i p → new ++ rows_from w came js (i + 1) (drop (i + 1) gs) ≡ total
guests_next w came js gs i p now new total lt is was e =
    let left : drop i gs ≡ p ∷ drop (i + 1) gs = rw add-one (dropped gs i lt is) in
    ap (λ (xs : List FrameCopy). xs ++ rows_from w came js (i + 1) (drop (i + 1) gs)) e ∙ append_assoc now (guest_rows w came (entries_in js i) i p) (rows_from w came js (i + 1) (drop (i + 1) gs))
    ∙ ap (λ (xs : List GuestPlan). now ++ rows_from w came js i xs) (sym left) ∙ was
  where
    dropped : (xs : List GuestPlan) (j : ℕ) → j < length xs → p ≡ get_or xs j p → drop j xs ≡ p ∷ drop (suc j) xs
    dropped [] j lt e = absurd (omega (arith, lt))
    dropped (x ∷ xs) zero lt e = ap (λ (y : GuestPlan). y ∷ xs) (sym e)
    dropped (x ∷ xs) (suc j) lt e = dropped xs j (omega (arith, lt)) e
