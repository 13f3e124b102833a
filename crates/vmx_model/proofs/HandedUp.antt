-- What a driver handed up from the queues of a number is what came up there, in the order of the journal.
use Rattle.std.proofs.Common.{◌≡◌, ℕ, ◌+◌, ◌<◌, ◌≤◌, List, [], ◌∷◌, ◌++◌, map, refl, ap, sym, ◌∙◌, arith, nat_eq, true, false, Bool, ◌&&◌, inl, inr, Option, Some, None, append_assoc, subst}
use Rattle.std.proofs.lemmas.Bool.{cases_lt}
use Rattle.std.proofs.lemmas.Bool.Decides.{eqb_tells, nat_tests}
use Rattle.std.proofs.lemmas.List.Elements.{filter_map-append}
use Rattle.std.specs.List.{filter, filter_map, find, AllByRecursion}
use Rattle.vmx_filters.specs.declared.answer.Verdict.TheVariants as verdict
use Rattle.vmx_ends.specs.declared.frames.Delivery.{Delivery}
use Rattle.vmx_ends.specs.Receive.{RxView}
use Rattle.vmx_model.specs.declared.journal.Entry.TheVariants as entry
use Rattle.vmx_model.specs.declared.journal.Fate.TheVariants as fate
use Rattle.vmx_model.specs.Types.{GuestPlan, Packet, Entry, Setup, Verdict, Received}
use Rattle.vmx_model.specs.Lists.{count, Rises, EachAfter}
use Rattle.vmx_device_state.specs.SetupView.{SetupView}
use Rattle.vmx_model.specs.Setups.{admits}
use Rattle.vmx_model.specs.Wire.{rx_queue}
use Rattle.vmx_device_state.specs.DeviceState.{DeviceState, Idle, Active}
use Rattle.vmx_model.specs.Views.{GuestView}
use Rattle.vmx_frame.specs.Tags.{with_tag}
use Rattle.vmx_model.specs.Meta.{Arrival, arrival_of, delivered_as, put_back}
use Rattle.vmx_model.specs.Journal.{Beside, IsLawful, IsShown, IsAdmitted, state_at, packet_at, activation_of, ups, is_up, fate_in}
use Rattle.vmx_model.specs.Order.{CameUp, came_up, on_rx, Handed, handed_whole, came_of, on_queue, HandsUp, LiesBefore}
use Rattle.vmx_model.specs.Account.{AccountsRx, deliveries, is_lying, from_queue, received_from, rx_named}
use Rattle.vmx_model.proofs.Lists.{count-append}
use Rattle.vmx_model.proofs.Found.{Finds, found_passes, found_holds}
use Rattle.vmx_model.proofs.Copies.{same_name, all_map}
use Rattle.vmx_model.proofs.Order.{places_rise}
use Rattle.vmx_model.proofs.Tags.{rises_weaker}
use Rattle.vmx_model.proofs.Folds.{all_kept}

-- the queue that an active state chooses has facts
abbrev pub HasFacts : Beside → List RxView → List Entry → Type 0
HasFacts b rx es = (before after : List Entry) → es ≡ before ++ after → (s : SetupView) (f : List ℕ) → state_at b.told before ≡ Active s → Finds (rx_named (activation_of before) (rx_queue s.rss f)) rx

-- ------------------------------------------------------------ lists that rise

filter_and : {X : Type 0} (p w : X → Bool) (xs : List X) → filter p (filter w xs) ≡ filter (λ x. p x && w x) xs
filter_and p w [] = refl
filter_and {X} p w (x ∷ xs) = step (p x) (w x) refl refl (filter_and p w xs)
  where
    step : (b c : Bool) → p x ≡ b → w x ≡ c → filter p (filter w xs) ≡ filter (λ x. p x && w x) xs → filter p (filter w (x ∷ xs)) ≡ filter (λ x. p x && w x) (x ∷ xs)
    step true true e i ih = rw (i, e, ih) refl
    step true false e i ih = rw (i, e) ih
    step false true e i ih = rw (i, e) ih
    step false false e i ih = rw (i, e) ih

filter_mapped : {X Y : Type 0} (f : X → Y) (p : Y → Bool) (xs : List X) → filter p (map f xs) ≡ map f (filter (λ x. p (f x)) xs)
filter_mapped f p [] = refl
filter_mapped {X} {Y} f p (x ∷ xs) = step (p (f x)) refl (filter_mapped f p xs)
  where
    step : (b : Bool) → p (f x) ≡ b → filter p (map f xs) ≡ map f (filter (λ x. p (f x)) xs) → filter p (map f (x ∷ xs)) ≡ map f (filter (λ x. p (f x)) (x ∷ xs))
    step true e ih = rw (e, ih) refl
    step false e ih = rw e ih

rises_kept : {X : Type 0} (R : X → X → Type 0) (test : X → Bool) (xs : List X) → Rises R xs → Rises R (filter test xs)
rises_kept R test [] h = tt
rises_kept {X} R test (x ∷ xs) h = step (test x) refl (rises_kept R test xs h.1)
  where
    step : (b : Bool) → test x ≡ b → Rises R (filter test xs) → Rises R (filter test (x ∷ xs))
    step true e ih = rw e (all_kept (R x) test xs h.0, ih)
    step false e ih = rw e ih

rises_mapped : {X Y : Type 0} (f : X → Y) (R : Y → Y → Type 0) (xs : List X) → Rises (λ x y. R (f x) (f y)) xs → Rises R (map f xs)
rises_mapped f R [] h = tt
rises_mapped f R (x ∷ xs) h = (all_map f (R (f x)) xs h.0, rises_mapped f R xs h.1)

module _ {X : Type 0} (act : X → ℕ) where
  abbrev at : ℕ → X → Bool
  at a x = nat_eq (act x) a

  abbrev NotLess : X → X → Type 0
  NotLess x y = act x ≤ act y

  none_at : (a low : ℕ) (xs : List X) → a < low → AllByRecursion (λ x. low ≤ act x) xs → filter (at a) xs ≡ []
  none_at a low [] lt h = refl
  none_at a low (x ∷ xs) lt h = let le = h.0 in let ne : nat_eq (act x) a ≡ false = grind (arith, nat_tests) in rw ne (none_at a low xs lt h.1)

  shown : (x : X) (xs : List X) → filter (at (act x)) (x ∷ xs) ≡ [] → ⊥
  shown x xs h = let is : nat_eq (act x) (act x) ≡ true = grind (arith, nat_tests) in cc (rw is at h)

  -- two lists that rise and agree at each number are one
  merged : (xs ys : List X) → Rises NotLess xs → Rises NotLess ys → ((a : ℕ) → filter (at a) xs ≡ filter (at a) ys) → xs ≡ ys
  merged [] [] h k same = refl
  merged [] (y ∷ ys) h k same = absurd (shown y ys (sym (same (act y))))
  merged (x ∷ xs) [] h k same = absurd (shown x xs (same (act x)))
  merged (x ∷ xs) (y ∷ ys) h k same = elim (eqb_tells (act x) (act y)) [
    | inl e ↦
        let i1 : nat_eq (act x) (act x) ≡ true = grind (arith, nat_tests) in
        let back = sym e.1 in
        let i2 : nat_eq (act y) (act x) ≡ true = grind (arith, nat_tests) in
        let both : x ∷ filter (at (act x)) xs ≡ y ∷ filter (at (act x)) ys = rw (i1, i2) at (same (act x)) in
        let first : x ≡ y = cc both in
        let others : xs ≡ ys = merged xs ys h.1 k.1 (λ a. rest a e.1) in
        λ i. first i ∷ others i
    | inr e ↦ elim (cases_lt (act x) (act y)) [
      | inl lt ↦ absurd (shown x xs (same (act x) ∙ none_at (act x) (act y) (y ∷ ys) lt (omega arith, k.0)))
      | inr ge ↦ absurd (shown y ys (sym (same (act y)) ∙ none_at (act y) (act x) (x ∷ xs) (below ge e.1) (omega arith, h.0)))
    ]
  ]
    where
      below : act y ≤ act x → (act x ≡ act y → ⊥) → act y < act x
      below ge differ = elim (cases_lt (act y) (act x)) [ inl lt ↦ lt | inr le ↦ absurd (differ (omega (arith, ge, le))) ]

      rest : (a : ℕ) → act x ≡ act y → filter (at a) xs ≡ filter (at a) ys
      rest a e = elim (eqb_tells (act x) a) [
        | inl p ↦ let p' : nat_eq (act y) a ≡ true = rw e at p.0 in let both : x ∷ filter (at a) xs ≡ y ∷ filter (at a) ys = rw (p.0, p') at (same a) in cc both
        | inr p ↦ let p' : nat_eq (act y) a ≡ false = rw e at p.0 in rw (p.0, p') at (same a)
      ]

-- ------------------------------------------------------------ a queue of an activation

abbrev NamedUp : List Entry → List ℕ → ℕ → ℕ → ℕ → DeviceState → Type 0
NamedUp before frame a q k state = (s : SetupView) × (state ≡ Active s) × (a ≡ activation_of before) × (q ≡ rx_queue s.rss frame) × (k ≡ ups a q before)

up_by : (b : Beside) (before : List Entry) (s : SetupView) (frame : List ℕ) (a q k : ℕ) (w : Verdict) → IsAdmitted b before s frame (fate.Up a q k) w → NamedUp before frame a q k (Active s)
up_by b before s frame a q k verdict.Yes h = (s, refl, h.0, h.1, h.2)
up_by b before s frame a q k (verdict.No r) h = absurd (cc h)

up_named : (b : Beside) (before : List Entry) (frame : List ℕ) (a q k : ℕ) (state : DeviceState) → IsShown b before frame (fate.Up a q k) state → NamedUp before frame a q k state
up_named b before frame a q k Idle h = absurd (cc h)
up_named b before frame a q k (Active s) h = up_by b before s frame a q k (admits s b.mac frame) h

-- arrivals as they are handed up, with their tags put back and their places from k on
abbrev numbered_up : ℕ → ℕ → ℕ → List Arrival → List Handed
numbered_up a q k [] = []
numbered_up a q k (x ∷ xs) = record { activation = a; queue = q; place = k; frame = with_tag x.meta.tci x.frame } ∷ numbered_up a q (k + 1) xs

numbered_deliveries : (a q k : ℕ) (ds : List Delivery) → map handed_whole (received_from a q k ds) ≡ numbered_up a q k (map arrival_of ds)
numbered_deliveries a q k [] = refl
numbered_deliveries a q k (d ∷ ds) = ap (λ (xs : List Handed). record { activation = a; queue = q; place = k; frame = with_tag d.meta.tci d.frame } ∷ xs) (numbered_deliveries a q (k + 1) ds)

ups_last : (a q : ℕ) (before : List Entry) (e : Entry) → ups a q (before ++ e ∷ []) ≡ ups a q before + count (is_up a q) (filter_map fate_in (e ∷ []))
ups_last a q before e = ap (count (is_up a q)) (filter_map-append fate_in before (e ∷ [])) ∙ count-append (is_up a q) (filter_map fate_in before) (filter_map fate_in (e ∷ []))

abbrev lying : Beside → ℕ → ℕ → List Entry → List Handed
lying b a q es = map came_of (filter (is_lying a q) (came_up b.links b.port es))

-- an entry that brings nothing up on the queue
passed : (b : Beside) (a q : ℕ) (before : List Entry) (e : Entry) (es : List Entry) → lying b a q (e ∷ es) ≡ lying b a q es → deliveries b a q before (e ∷ es) ≡ deliveries b a q (before ++ e ∷ []) es → count (is_up a q) (filter_map fate_in (e ∷ [])) ≡ 0 →
    lying b a q es ≡ numbered_up a q (ups a q (before ++ e ∷ [])) (deliveries b a q (before ++ e ∷ []) es) → lying b a q (e ∷ es) ≡ numbered_up a q (ups a q before) (deliveries b a q before (e ∷ es))
passed b a q before e es same here none ih =
    let k : ups a q (before ++ e ∷ []) ≡ ups a q before = omega (arith, ups_last a q before e, none) in
    same ∙ ih ∙ ap (λ (n : ℕ). numbered_up a q n (deliveries b a q (before ++ e ∷ []) es)) k ∙ ap (numbered_up a q (ups a q before)) (sym here)

heads : (a' a q' q k n : ℕ) (frame frame' : List ℕ) (xs ys : List Handed) → a' ≡ a → q' ≡ q → k ≡ n → frame ≡ frame' → xs ≡ ys → record { activation = a'; queue = q'; place = k; frame = frame } ∷ xs ≡ record { activation = a; queue = q; place = n; frame = frame' } ∷ ys
heads a' a q' q k n frame frame' xs ys ea eq ek ef more = λ i. record { activation = ea i; queue = eq i; place = ek i; frame = ef i } ∷ more i

-- a frame that came up, on this queue or on another
lying_here : (b : Beside) (a q : ℕ) (before : List Entry) (from place a' q' k : ℕ) (es : List Entry) (p : Packet) → packet_at b.links from b.port place ≡ Some p → NamedUp before p.frame a' q' k (state_at b.told before) →
    lying b a q es ≡ numbered_up a q (ups a q (before ++ entry.In from place (fate.Up a' q' k) ∷ [])) (deliveries b a q (before ++ entry.In from place (fate.Up a' q' k) ∷ []) es) →
    lying b a q (entry.In from place (fate.Up a' q' k) ∷ es) ≡ numbered_up a q (ups a q before) (deliveries b a q before (entry.In from place (fate.Up a' q' k) ∷ es))
lying_here b a q before from place a' q' k es p at named ih = let e : Entry = entry.In from place (fate.Up a' q' k) in elim (eqb_tells a' a) [
  | inl ea ↦ elim (eqb_tells q' q) [
    | inl eq ↦
        let one : count (is_up a q) (fate.Up a' q' k ∷ []) ≡ 1 = rw (ea.0, eq.0) refl in
        let k1 : ups a q (before ++ e ∷ []) ≡ ups a q before + 1 = ups_last a q before e ∙ rw one refl in
        let lhs : lying b a q (e ∷ es) ≡ record { activation = a'; queue = q'; place = k; frame = p.frame } ∷ lying b a q es = rw (at, ea.0, eq.0) refl in
        let rhs : deliveries b a q before (e ∷ es) ≡ delivered_as named.0 p.frame ∷ deliveries b a q (before ++ e ∷ []) es = rw (ea.0, eq.0, at, named.1) refl in
        let ek : k ≡ ups a q before = named.4 ∙ ap (λ (x : ℕ). ups x q' before) ea.1 ∙ ap (λ (x : ℕ). ups a x before) eq.1 in
        let tail : lying b a q es ≡ numbered_up a q (ups a q before + 1) (deliveries b a q (before ++ e ∷ []) es) = ih ∙ ap (λ (n : ℕ). numbered_up a q n (deliveries b a q (before ++ e ∷ []) es)) k1 in
        lhs ∙ heads a' a q' q k (ups a q before) p.frame (with_tag (delivered_as named.0 p.frame).meta.tci (delivered_as named.0 p.frame).frame) (lying b a q es) (numbered_up a q (ups a q before + 1) (deliveries b a q (before ++ e ∷ []) es)) ea.1 eq.1 ek (sym (put_back named.0 p.frame p.octets)) tail ∙ ap (numbered_up a q (ups a q before)) (sym rhs)
    | inr eq ↦ passed b a q before e es (rw (at, ea.0, eq.0) refl) (rw (ea.0, eq.0) refl) (rw (ea.0, eq.0) refl) ih
  ]
  | inr ea ↦ passed b a q before e es (rw (at, ea.0) refl) (rw ea.0 refl) (rw ea.0 refl) ih
]

-- what came up on a queue of an activation has the places 0, 1 and so on
lying_from : (b : Beside) (setups : List Setup) (a q : ℕ) (before es : List Entry) → EachAfter (IsLawful b setups) before es → lying b a q es ≡ numbered_up a q (ups a q before) (deliveries b a q before es)
lying_from b setups a q before [] h = refl
lying_from b setups a q before (entry.Setting number answer setup ∷ es) h = passed b a q before (entry.Setting number answer setup) es refl refl refl (lying_from b setups a q (before ++ entry.Setting number answer setup ∷ []) es h.1)
lying_from b setups a q before (entry.Out tag target w ∷ es) h = passed b a q before (entry.Out tag target w) es refl refl refl (lying_from b setups a q (before ++ entry.Out tag target w ∷ []) es h.1)
lying_from b setups a q before (entry.Lost tag ∷ es) h = passed b a q before (entry.Lost tag) es refl refl refl (lying_from b setups a q (before ++ entry.Lost tag ∷ []) es h.1)
lying_from b setups a q before (entry.In from place (fate.Up a' q' k) ∷ es) h = lying_here b a q before from place a' q' k es h.0.0 h.0.1 (up_named b before h.0.0.frame a' q' k (state_at b.told before) h.0.2) (lying_from b setups a q (before ++ entry.In from place (fate.Up a' q' k) ∷ []) es h.1)
lying_from b setups a q before (entry.In from place f ∷ es) h = passed b a q before (entry.In from place f) es (rw h.0.1 refl) refl refl (lying_from b setups a q (before ++ entry.In from place f ∷ []) es h.1)

-- each frame that came up did so on a queue that has facts
came_found : (b : Beside) (setups : List Setup) (rx : List RxView) (es : List Entry) → HasFacts b rx es → (before after : List Entry) → es ≡ before ++ after → EachAfter (IsLawful b setups) before after → AllByRecursion (λ (u : CameUp). Finds (rx_named u.activation u.queue) rx) (came_up b.links b.port after)
came_found b setups rx es facts before [] split h = tt
came_found b setups rx es facts before (entry.Setting number answer setup ∷ after) split h = came_found b setups rx es facts (before ++ entry.Setting number answer setup ∷ []) after (split ∙ sym (append_assoc before (entry.Setting number answer setup ∷ []) after)) h.1
came_found b setups rx es facts before (entry.Out tag target w ∷ after) split h = came_found b setups rx es facts (before ++ entry.Out tag target w ∷ []) after (split ∙ sym (append_assoc before (entry.Out tag target w ∷ []) after)) h.1
came_found b setups rx es facts before (entry.Lost tag ∷ after) split h = came_found b setups rx es facts (before ++ entry.Lost tag ∷ []) after (split ∙ sym (append_assoc before (entry.Lost tag ∷ []) after)) h.1
came_found b setups rx es facts before (entry.In from place (fate.Up a q k) ∷ after) split h =
    let named : NamedUp before h.0.0.frame a q k (state_at b.told before) = up_named b before h.0.0.frame a q k (state_at b.told before) h.0.2 in
    let found : Finds (rx_named a q) rx = rw (named.2, named.3) (facts before (entry.In from place (fate.Up a q k) ∷ after) split named.0 h.0.0.frame named.1) in
    let ih = came_found b setups rx es facts (before ++ entry.In from place (fate.Up a q k) ∷ []) after (split ∙ sym (append_assoc before (entry.In from place (fate.Up a q k) ∷ []) after)) h.1 in
    rw h.0.1 (found, ih)
came_found b setups rx es facts before (entry.In from place f ∷ after) split h = rw h.0.1 (came_found b setups rx es facts (before ++ entry.In from place f ∷ []) after (split ∙ sym (append_assoc before (entry.In from place f ∷ []) after)) h.1)

-- nothing is named by what is not found
none_found : {X : Type 0} (rx : List RxView) (a q : ℕ) (activation queue : X → ℕ) → find (rx_named a q) rx ≡ None → (xs : List X) → AllByRecursion (λ x. Finds (rx_named (activation x) (queue x)) rx) xs → filter (λ x. nat_eq (activation x) a && nat_eq (queue x) q) xs ≡ []
none_found rx a q activation queue none [] h = refl
none_found {X} rx a q activation queue none (x ∷ xs) h = step (nat_eq (activation x) a && nat_eq (queue x) q) refl (none_found rx a q activation queue none xs h.1)
  where
    step : (b : Bool) → (nat_eq (activation x) a && nat_eq (queue x) q) ≡ b → filter (λ x. nat_eq (activation x) a && nat_eq (queue x) q) xs ≡ [] → filter (λ x. nat_eq (activation x) a && nat_eq (queue x) q) (x ∷ xs) ≡ []
    step false e ih = rw e ih
    step true e ih =
        let name = same_name (activation x) (queue x) a q e in
        let found : Finds (rx_named a q) rx = subst (λ (n : ℕ). Finds (rx_named a n) rx) name.1 (subst (λ (n : ℕ). Finds (rx_named n (queue x)) rx) name.0 h.0) in
        let no : None ≡ Some found.0 = sym none ∙ found.1 in absurd (cc no)

-- what was handed up from a queue of an activation is what came up there
handed_here : (b : Beside) (setups : List Setup) (v : GuestView) (p : GuestPlan) → HasFacts b v.rx v.entries → EachAfter (IsLawful b setups) [] v.entries → AllByRecursion (AccountsRx b p v) v.rx → AllByRecursion (λ (x : Received). (f : RxView) × (find (rx_named x.activation x.queue) v.rx ≡ Some f)) v.received →
    (a q : ℕ) → map handed_whole (filter (from_queue a q) v.received) ≡ lying b a q v.entries
handed_here b setups v p facts lawful rx received a q = step (find (rx_named a q) v.rx) refl
  where
    step : (o : Option RxView) → find (rx_named a q) v.rx ≡ o → map handed_whole (filter (from_queue a q) v.received) ≡ lying b a q v.entries
    step None e = ap (map handed_whole) (none_found v.rx a q (λ (x : Received). x.activation) (λ (x : Received). x.queue) e v.received received)
        ∙ sym (ap (map came_of) (none_found v.rx a q (λ (u : CameUp). u.activation) (λ (u : CameUp). u.queue) e (came_up b.links b.port v.entries) (came_found b setups v.rx v.entries facts [] v.entries refl lawful)))
    step (Some f) e =
        let k : AccountsRx b p v f = found_holds (AccountsRx b p v) (rx_named a q) v.rx f e rx in
        let name = same_name f.made.name.activation f.made.name.queue a q (found_passes (rx_named a q) v.rx f e) in
        let handed : filter (from_queue a q) v.received ≡ received_from a q 0 f.delivered = rw (name.0, name.1) at k.handed in
        let delivered : map arrival_of f.delivered ≡ deliveries b a q [] v.entries = rw (name.0, name.1) at k.delivered in
        ap (map handed_whole) handed ∙ numbered_deliveries a q 0 f.delivered ∙ ap (numbered_up a q 0) delivered ∙ sym (lying_from b setups a q [] v.entries lawful)

lies_later : (u w : CameUp) → LiesBefore u w → u.activation ≤ w.activation
lies_later u w (inl lt) = omega (arith, lt)
lies_later u w (inr e) = omega (arith, e.0)

pub hands_up : (b : Beside) (setups : List Setup) (v : GuestView) (p : GuestPlan) → HasFacts b v.rx v.entries → EachAfter (IsLawful b setups) [] v.entries → AllByRecursion (AccountsRx b p v) v.rx → AllByRecursion (λ (x : Received). (f : RxView) × (find (rx_named x.activation x.queue) v.rx ≡ Some f)) v.received →
    Rises (λ (x y : Received). x.activation ≤ y.activation) v.received → HandsUp v.received (came_up b.links b.port v.entries)
hands_up b setups v p facts lawful rx received rising q = merged (λ (x : Handed). x.activation) (map handed_whole up) (map came_of came)
    (rises_mapped handed_whole (λ (x y : Handed). x.activation ≤ y.activation) up (rises_kept (λ (x y : Received). x.activation ≤ y.activation) (on_queue q) v.received rising))
    (rises_mapped came_of (λ (x y : Handed). x.activation ≤ y.activation) came (rises_weaker LiesBefore (λ (u w : CameUp). u.activation ≤ w.activation) lies_later came (places_rise b setups q [] v.entries lawful).1))
    (λ a. filter_mapped handed_whole (λ (x : Handed). nat_eq x.activation a) up ∙ ap (map handed_whole) (filter_and (λ (x : Received). nat_eq x.activation a) (on_queue q) v.received) ∙ handed_here b setups v p facts lawful rx received a q
    ∙ sym (filter_mapped came_of (λ (x : Handed). nat_eq x.activation a) came ∙ ap (map came_of) (filter_and (λ (u : CameUp). nat_eq u.activation a) (on_rx q) (came_up b.links b.port v.entries))))
  where
    up : List Received
    up = filter (on_queue q) v.received

    came : List CameUp
    came = filter (on_rx q) (came_up b.links b.port v.entries)
