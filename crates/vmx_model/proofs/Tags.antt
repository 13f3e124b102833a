-- Tags rise: in a sender's journal, on its link, and in the target's journal.
use Rattle.std.proofs.Common.{◌≡◌, ℕ, ◌+◌, ◌<◌, ◌≤◌, List, [], ◌∷◌, ◌++◌, map, refl, arith, nat_eq, true, false, Bool, subst, inl, inr, Option, Some, None}
use Rattle.std.proofs.lemmas.Bool.Decides.{eqb_tells, nat_tests}
use Rattle.std.specs.List.{filter, filter_map, AllByRecursion}
use Rattle.vmx_model.specs.Types.{Tag, Packet, Entry, Setup}
use Rattle.vmx_model.specs.declared.journal.Entry.TheVariants as entry
use Rattle.vmx_model.specs.declared.journal.Way.TheVariants as way
use Rattle.vmx_model.specs.Lists.{Rises, EachAfter}
use Rattle.vmx_switch.specs.Ports.{Wiring}
use Rattle.vmx_model.specs.Wire.{targets}
use Rattle.vmx_model.specs.Journal.{Beside, IsLawful, activation_of}
use Rattle.vmx_model.specs.Fates.{tag_at}
use Rattle.vmx_model.specs.Account.{Send, send_of, of_queue, sends_on, frame_sends, planned, tag_to}
use Rattle.vmx_model.specs.Order.{IsBefore}
use Rattle.vmx_model.proofs.Lists.{all_weaker}
use Rattle.vmx_model.proofs.Order.{activation_more}
use Rattle.vmx_model.proofs.Fates.{goes_to, targets_rise}

-- ------------------------------------------------------------ rising lists

pub all_append : {X : Type 0} (P : X → Type 0) (xs ys : List X) → AllByRecursion P xs → AllByRecursion P ys → AllByRecursion P (xs ++ ys)
all_append P [] ys h k = k
all_append P (x ∷ xs) ys h k = (h.0, all_append P xs ys h.1 k)

pub rises_append : {X : Type 0} (R : X → X → Type 0) (xs ys : List X) → Rises R xs → Rises R ys → AllByRecursion (λ x. AllByRecursion (R x) ys) xs → Rises R (xs ++ ys)
rises_append R [] ys h k c = k
rises_append R (x ∷ xs) ys h k c = (all_append (R x) xs ys h.0 c.0, rises_append R xs ys h.1 k c.1)

all_filter : {X : Type 0} (P : X → Type 0) (test : X → Bool) (xs : List X) → AllByRecursion P (filter test xs) → AllByRecursion (λ x. test x ≡ true → P x) xs
all_filter P test [] h = tt
all_filter {X} P test (x ∷ xs) h = step (test x) refl (λ k. all_filter P test xs k)
  where
    step : (b : Bool) → test x ≡ b → (AllByRecursion P (filter test xs) → AllByRecursion (λ x. test x ≡ true → P x) xs) → AllByRecursion (λ x. test x ≡ true → P x) (x ∷ xs)
    step true e ih = let all : P x × AllByRecursion P (filter test xs) = rw e at h in (λ t. all.0, ih all.1)
    step false e ih = (λ t. absurd (cc (e, t)), ih (rw e at h))

-- ------------------------------------------------------------ the sender's journal

abbrev NotEarlier : Send → Send → Type 0
NotEarlier s t = s.tag.activation ≤ t.tag.activation

abbrev ActivationsRise : List Entry → List Entry → Type 0
ActivationsRise before es = AllByRecursion (λ (s : Send). activation_of before ≤ s.tag.activation) (filter_map send_of es) × Rises NotEarlier (filter_map send_of es)

pub later : (before : List Entry) (e : Entry) (es : List Entry) → AllByRecursion (λ (s : Send). activation_of (before ++ e ∷ []) ≤ s.tag.activation) (filter_map send_of es) → AllByRecursion (λ (s : Send). activation_of before ≤ s.tag.activation) (filter_map send_of es)
later before e es h = all_weaker (λ (s : Send). activation_of (before ++ e ∷ []) ≤ s.tag.activation) (λ (s : Send). activation_of before ≤ s.tag.activation) (λ s le. omega (arith, le, activation_more before e)) (filter_map send_of es) h

sent_here : (before : List Entry) (e : Entry) (s : Send) (es : List Entry) → send_of e ≡ Some s → s.tag.activation ≡ activation_of before → ActivationsRise (before ++ e ∷ []) es → ActivationsRise before (e ∷ es)
sent_here before e s es is at ih = rw is ((omega (arith, at), later before e es ih.0), (all_weaker (λ (x : Send). activation_of (before ++ e ∷ []) ≤ x.tag.activation) (λ (x : Send). s.tag.activation ≤ x.tag.activation) (λ x le. omega (arith, le, at, activation_more before e)) (filter_map send_of es) ih.0, ih.1))

-- activations rise along a journal
pub activations_rise : (b : Beside) (setups : List Setup) (before es : List Entry) → EachAfter (IsLawful b setups) before es → ActivationsRise before es
activations_rise b setups before [] h = (tt, tt)
activations_rise b setups before (entry.Setting number answer setup ∷ es) h = let ih = activations_rise b setups (before ++ entry.Setting number answer setup ∷ []) es h.1 in (later before (entry.Setting number answer setup) es ih.0, ih.1)
activations_rise b setups before (entry.In from place f ∷ es) h = let ih = activations_rise b setups (before ++ entry.In from place f ∷ []) es h.1 in (later before (entry.In from place f) es ih.0, ih.1)
activations_rise b setups before (entry.Out tag target w ∷ es) h = sent_here before (entry.Out tag target w) (record { tag = tag; target = Some target }) es refl h.0.1 (activations_rise b setups (before ++ entry.Out tag target w ∷ []) es h.1)
activations_rise b setups before (entry.Lost tag ∷ es) h = sent_here before (entry.Lost tag) (record { tag = tag; target = None }) es refl h.0.1 (activations_rise b setups (before ++ entry.Lost tag ∷ []) es h.1)

-- two frames given to one target, the first with the earlier place
abbrev PlacesTo : ℕ → Send → Send → Type 0
PlacesTo to s t = goes_to to s.target ≡ true → goes_to to t.target ≡ true → s.tag.place < t.tag.place

planned_places : (net : Wiring) (g a q j low : ℕ) (fs : List (List ℕ)) → low ≤ j → AllByRecursion (λ (s : Send). low ≤ s.tag.place) (planned net g a q j fs)
planned_places net g a q j low [] le = tt
planned_places net g a q j low (f ∷ fs) le = all_append (λ (s : Send). low ≤ s.tag.place) (frame_sends (tag_at g a q j) (targets net g f)) (planned net g a q (j + 1) fs) (each (targets net g f)) (planned_places net g a q (j + 1) low fs (omega arith))
  where
    mapped : (tos : List ℕ) → AllByRecursion (λ (s : Send). low ≤ s.tag.place) (map (λ x. record { tag = tag_at g a q j; target = Some x }) tos)
    mapped [] = tt
    mapped (to ∷ tos) = (le, mapped tos)

    each : (tos : List ℕ) → AllByRecursion (λ (s : Send). low ≤ s.tag.place) (frame_sends (tag_at g a q j) tos)
    each [] = (le, tt)
    each (to ∷ tos) = mapped (to ∷ tos)

-- the sends of one frame are to different targets
apart : (t : Tag) (to x : ℕ) (tos : List ℕ) → AllByRecursion (λ y. x < y) tos → AllByRecursion (PlacesTo to (record { tag = t; target = Some x })) (map (λ y. record { tag = t; target = Some y }) tos)
apart t to x [] h = tt
apart t to x (y ∷ ys) h = (λ e e'. absurd (differ e e'), apart t to x ys h.1)
  where
    differ : nat_eq x to ≡ true → nat_eq y to ≡ true → ⊥
    differ e e' = let lt = h.0 in elim (eqb_tells x to) [ inl p ↦ elim (eqb_tells y to) [ inl p' ↦ omega (arith, lt, p.1, p'.1) | inr p' ↦ cc (p'.0, e') ] | inr p ↦ cc (p.0, e) ]

mapped_rise : (t : Tag) (to : ℕ) (tos : List ℕ) → Rises (λ x y. x < y) tos → Rises (PlacesTo to) (map (λ y. record { tag = t; target = Some y }) tos)
mapped_rise t to [] h = tt
mapped_rise t to (x ∷ xs) h = (apart t to x xs h.0, mapped_rise t to xs h.1)

frame_rises : (t : Tag) (to : ℕ) (tos : List ℕ) → Rises (λ x y. x < y) tos → Rises (PlacesTo to) (frame_sends t tos)
frame_rises t to [] h = (tt, tt)
frame_rises t to (x ∷ xs) h = mapped_rise t to (x ∷ xs) h

frame_first : (P : Send → Type 0) (t : Tag) (tos : List ℕ) → ((o : Option ℕ) → P (record { tag = t; target = o })) → AllByRecursion P (frame_sends t tos)
frame_first P t [] h = (h None, tt)
frame_first P t (x ∷ xs) h = mapped (x ∷ xs)
  where
    mapped : (tos : List ℕ) → AllByRecursion P (map (λ x. record { tag = t; target = Some x }) tos)
    mapped [] = tt
    mapped (to ∷ tos) = (h (Some to), mapped tos)

-- along a queue's sends to one target the places rise
pub planned_rises : (net : Wiring) (g a q j to : ℕ) (fs : List (List ℕ)) → Rises (PlacesTo to) (planned net g a q j fs)
planned_rises net g a q j to [] = tt
planned_rises net g a q j to (f ∷ fs) = rises_append (PlacesTo to) (frame_sends (tag_at g a q j) (targets net g f)) (planned net g a q (j + 1) fs)
    (frame_rises (tag_at g a q j) to (targets net g f) (targets_rise net g f))
    (planned_rises net g a q (j + 1) to fs)
    (frame_first (λ s. AllByRecursion (PlacesTo to s) (planned net g a q (j + 1) fs)) (tag_at g a q j) (targets net g f)
    (λ o. all_weaker (λ (s : Send). j + 1 ≤ s.tag.place) (λ s. PlacesTo to (record { tag = tag_at g a q j; target = o }) s) (λ s le e e'. omega (arith, le)) (planned net g a q (j + 1) fs) (planned_places net g a q (j + 1) (j + 1) fs (omega arith))))

abbrev pub TagBefore : Tag → Tag → Type 0
TagBefore s t = IsBefore s.activation s.place t.activation t.place

-- two frames of a queue with facts given to one target, the first sent before the second
abbrev SentTo : (ℕ → Type 0) → ℕ → ℕ → Send → Send → Type 0
SentTo Has q to s t = Has s.tag.activation → s.tag.queue ≡ q → t.tag.queue ≡ q → goes_to to s.target ≡ true → goes_to to t.target ≡ true → TagBefore s.tag t.tag

sends_rise : (Has : ℕ → Type 0) (q to : ℕ) (ss : List Send) → Rises NotEarlier ss → ((a : ℕ) → Has a → Rises (PlacesTo to) (filter (of_queue a q) ss)) → Rises (SentTo Has q to) ss
sends_rise Has q to [] h k = tt
sends_rise Has q to (s ∷ ss) h k = (heads ss h.0 (λ has e. all_filter (PlacesTo to s) (of_queue s.tag.activation q) ss (first has e)), sends_rise Has q to ss h.1 (λ a has. rest a (of_queue a q s) refl (k a has)))
  where
    rest : (a : ℕ) (b : Bool) → of_queue a q s ≡ b → Rises (PlacesTo to) (filter (of_queue a q) (s ∷ ss)) → Rises (PlacesTo to) (filter (of_queue a q) ss)
    rest a true e r = (rw e at r).1
    rest a false e r = rw e at r

    first : Has s.tag.activation → s.tag.queue ≡ q → AllByRecursion (PlacesTo to s) (filter (of_queue s.tag.activation q) ss)
    first has e = let h1 : nat_eq s.tag.activation s.tag.activation ≡ true = grind (arith, nat_tests) in let h2 : nat_eq s.tag.queue q ≡ true = grind (arith, nat_tests) in
        let both : of_queue s.tag.activation q s ≡ true = rw (h1, h2) refl in (rw both at (k s.tag.activation has)).0

    heads : (xs : List Send) → AllByRecursion (NotEarlier s) xs → (Has s.tag.activation → s.tag.queue ≡ q → AllByRecursion (λ x. of_queue s.tag.activation q x ≡ true → PlacesTo to s x) xs) → AllByRecursion (SentTo Has q to s) xs
    heads [] le f = tt
    heads (x ∷ xs) le f = (
      λ has e e' t t'. elim (eqb_tells s.tag.activation x.tag.activation) [
        | inl p ↦ let h1 : nat_eq x.tag.activation s.tag.activation ≡ true = grind (arith, nat_tests) in let h2 : nat_eq x.tag.queue q ≡ true = grind (arith, nat_tests) in
            inr (p.1, (f has e).0 (rw (h1, h2) refl) t t')
        | inr p ↦ inl (omega (arith, le.0, p.1))
      ],
      heads xs le.1 (λ has e. (f has e).1),
    )

-- ------------------------------------------------------------ the link

pub tags_all : (to : ℕ) (P : Tag → Type 0) (es : List Entry) → AllByRecursion (λ (s : Send). goes_to to s.target ≡ true → P s.tag) (filter_map send_of es) → AllByRecursion P (filter_map (tag_to to) es)
tags_all to P [] h = tt
tags_all to P (entry.Setting number answer setup ∷ es) h = tags_all to P es h
tags_all to P (entry.In from place f ∷ es) h = tags_all to P es h
tags_all to P (entry.Lost tag ∷ es) h = tags_all to P es h.1
tags_all to P (entry.Out tag target (way.Full look) ∷ es) h = tags_all to P es h.1
tags_all to P (entry.Out tag target (way.Link place) ∷ es) h = step (nat_eq target to) refl (tags_all to P es h.1)
  where
    step : (b : Bool) → nat_eq target to ≡ b → AllByRecursion P (filter_map (tag_to to) es) → AllByRecursion P (filter_map (tag_to to) (entry.Out tag target (way.Link place) ∷ es))
    step true e ih = rw e (h.0 e, ih)
    step false e ih = rw e ih

-- what the sends to a target keep, the tags on its link keep
tags_rise : (to : ℕ) (R : Tag → Tag → Type 0) (es : List Entry) → Rises (λ (s t : Send). goes_to to s.target ≡ true → goes_to to t.target ≡ true → R s.tag t.tag) (filter_map send_of es) → Rises R (filter_map (tag_to to) es)
tags_rise to R [] h = tt
tags_rise to R (entry.Setting number answer setup ∷ es) h = tags_rise to R es h
tags_rise to R (entry.In from place f ∷ es) h = tags_rise to R es h
tags_rise to R (entry.Lost tag ∷ es) h = tags_rise to R es h.1
tags_rise to R (entry.Out tag target (way.Full look) ∷ es) h = tags_rise to R es h.1
tags_rise to R (entry.Out tag target (way.Link place) ∷ es) h = step (nat_eq target to) refl (tags_rise to R es h.1)
  where
    step : (b : Bool) → nat_eq target to ≡ b → Rises R (filter_map (tag_to to) es) → Rises R (filter_map (tag_to to) (entry.Out tag target (way.Link place) ∷ es))
    step true e ih = rw e (tags_all to (R tag) es (all_weaker (λ (t : Send). goes_to to (Some target) ≡ true → goes_to to t.target ≡ true → R tag t.tag) (λ (t : Send). goes_to to t.target ≡ true → R tag t.tag) (λ t k. k e) (filter_map send_of es) h.0), ih)
    step false e ih = rw e ih

pub rises_weaker : {X : Type 0} (R S : X → X → Type 0) → ((x y : X) → R x y → S x y) → (xs : List X) → Rises R xs → Rises S xs
rises_weaker R S k [] h = tt
rises_weaker R S k (x ∷ xs) h = (all_weaker (R x) (S x) (λ y r. k x y r) xs h.0, rises_weaker R S k xs h.1)

pub all_map_back : {X Y : Type 0} (f : X → Y) (P : Y → Type 0) (xs : List X) → AllByRecursion P (map f xs) → AllByRecursion (λ x. P (f x)) xs
all_map_back f P [] h = tt
all_map_back f P (x ∷ xs) h = (h.0, all_map_back f P xs h.1)

rises_map_back : {X Y : Type 0} (f : X → Y) (R : Y → Y → Type 0) (xs : List X) → Rises R (map f xs) → Rises (λ x y. R (f x) (f y)) xs
rises_map_back f R [] h = tt
rises_map_back f R (x ∷ xs) h = (all_map_back f (R (f x)) xs h.0, rises_map_back f R xs h.1)

rises_given : {X : Type 0} (P : X → Type 0) (R : X → X → Type 0) (xs : List X) → AllByRecursion P xs → Rises (λ x y. P x → R x y) xs → Rises R xs
rises_given P R [] h k = tt
rises_given P R (x ∷ xs) h k = (all_weaker (λ y. P x → R x y) (R x) (λ y f. f h.0) xs k.0, rises_given P R xs h.1 k.1)

-- two packets of one transmit queue, the first sent before the second
abbrev pub PacketsRise : ℕ → Packet → Packet → Type 0
PacketsRise q x y = x.tag.queue ≡ q → y.tag.queue ≡ q → TagBefore x.tag y.tag

-- on a link the packets of each transmit queue stand in the order in which they were sent
pub link_rises : (Has : ℕ → ℕ → Type 0) (net : Wiring) (g to : ℕ) (b : Beside) (setups : List Setup) (es : List Entry) (pushed : List Packet) → EachAfter (IsLawful b setups) [] es →
    ((a q : ℕ) → Has a q → (fs : List (List ℕ)) × (sends_on a q es ≡ planned net g a q 0 fs)) → map (λ (x : Packet). x.tag) pushed ≡ filter_map (tag_to to) es →
    AllByRecursion (λ (x : Packet). Has x.tag.activation x.tag.queue) pushed → (q : ℕ) → Rises (PacketsRise q) pushed
link_rises Has net g to b setups es pushed lawful facts tags has q =
    let sends : Rises (SentTo (λ a. Has a q) q to) (filter_map send_of es) = sends_rise (λ a. Has a q) q to (filter_map send_of es) (activations_rise b setups [] es lawful).1 (λ a h. let f = facts a q h in rw f.1 (planned_rises net g a q 0 to f.0)) in
    let on_link : Rises (λ (s t : Tag). Has s.activation q → s.queue ≡ q → t.queue ≡ q → TagBefore s t) (filter_map (tag_to to) es) = tags_rise to (λ (s t : Tag). Has s.activation q → s.queue ≡ q → t.queue ≡ q → TagBefore s t) es (rises_weaker (SentTo (λ a. Has a q) q to) (λ (s t : Send). goes_to to s.target ≡ true → goes_to to t.target ≡ true → Has s.tag.activation q → s.tag.queue ≡ q → t.tag.queue ≡ q → TagBefore s.tag t.tag) (λ s t k e e' h i i'. k h i i' e e') (filter_map send_of es) sends) in
    let packets = rises_map_back (λ (x : Packet). x.tag) (λ (s t : Tag). Has s.activation q → s.queue ≡ q → t.queue ≡ q → TagBefore s t) pushed (rw tags on_link) in
    rises_given (λ (x : Packet). Has x.tag.activation x.tag.queue) (PacketsRise q) pushed has
    (rises_weaker (λ (x y : Packet). Has x.tag.activation q → x.tag.queue ≡ q → y.tag.queue ≡ q → TagBefore x.tag y.tag) (λ (x y : Packet). Has x.tag.activation x.tag.queue → PacketsRise q x y)
    (λ x y k h e e'. k (subst (λ (n : ℕ). Has x.tag.activation n) e h) e e') pushed packets)
