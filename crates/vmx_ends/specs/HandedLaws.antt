-- The numbers of an end determine what it did.
use Rattle.std.proofs.Common.{◌≡◌, ◌≢◌, ℕ, suc, ◌<◌, Some, None, ◌≤◌, ◌==◌, ◌&&◌, ◌||◌, List, [], ◌∷◌, ◌++◌, length, map, Bool, true, false, true≢false, sym, refl, ap, ap₂, ◌∙◌, arith, append_assoc, length-append, eq-eqb, ne_eqb, All}
use Rattle.std.proofs.lemmas.List.{length-map}
use Rattle.std.proofs.lemmas.List.Elements.{All-nil, All-cons, All-head, All-tail}
use Rattle.std.proofs.Math.Bridge.{le_prop}
use Rattle.std.proofs.lemmas.Bool.{eqb-true}
use mathlib.Core.HLevel.{is_prop→PathP}
use Rattle.vmx_ends.specs.Transmit.{TxDeviceView}
use Rattle.vmx_ends.specs.Receive.{RxDeviceView}
use Rattle.vmx_ends.specs.declared.meta.RxMeta.{RxMeta}
use Rattle.vmx_ends.specs.declared.meta.TxMark.{TxMark}
use Rattle.vmx_ends.specs.HandedEnds.{numbers, frame_numbers, tci_numbers, mark_numbers, taken_numbers, spot_numbers, delivery_numbers, look_numbers, tx_numbers, rx_numbers, all_of, any_of, is_whole_tx, is_whole_rx, is_fresh_tx, is_fresh_rx, ends_handed}

module _ {X : Type 0} where
  -- two lists of one length that begin two equal lists are equal, and so is what is left
  pub split_at : (xs ys us vs : List X) → length xs ≡ length ys → xs ++ us ≡ ys ++ vs → (xs ≡ ys) × (us ≡ vs)
  split_at [] [] us vs same e = (refl, e)
  split_at [] (y ∷ ys) us vs same e = absurd (omega arith)
  split_at (x ∷ xs) [] us vs same e = absurd (omega arith)
  split_at (x ∷ xs) (y ∷ ys) us vs same e =
      let head : x ≡ y = cc in let tail : xs ++ us ≡ ys ++ vs = cc in
      let r = split_at xs ys us vs (omega arith) tail in (ap₂ (λ (a : X) (l : List X). a ∷ l) head r.0, r.1)

-- what an item's numbers must do: they end by themselves, and determine the item
abbrev pub Determines : {X : Type 0} → (X → List ℕ) → Type 0
Determines {X} f = (x y : X) (us vs : List ℕ) → f x ++ us ≡ f y ++ vs → (x ≡ y) × (us ≡ vs)

pub determine_all : {X : Type 0} (f : X → List ℕ) → Determines f → (xs ys : List X) (us vs : List ℕ) → length xs ≡ length ys → numbers f xs ++ us ≡ numbers f ys ++ vs → (xs ≡ ys) × (us ≡ vs)
determine_all f d [] [] us vs same e = (refl, e)
determine_all f d [] (y ∷ ys) us vs same e = absurd (omega arith)
determine_all f d (x ∷ xs) [] us vs same e = absurd (omega arith)
determine_all {X} f d (x ∷ xs) (y ∷ ys) us vs same e =
    let here = d x y (numbers f xs ++ us) (numbers f ys ++ vs) (sym (append_assoc (f x) (numbers f xs) us) ∙ e ∙ append_assoc (f y) (numbers f ys) vs) in
    let rest = determine_all f d xs ys us vs (omega arith) here.1 in
    (ap₂ (λ (a : X) (l : List X). a ∷ l) here.0 rest.0, rest.1)

pub frames_determine : Determines frame_numbers
frames_determine x y us vs e =
    let same : length x ≡ length y = cc in let tail : x ++ us ≡ y ++ vs = cc in split_at x y us vs same tail

tci_determine : Determines tci_numbers
tci_determine None None us vs e = let tail : us ≡ vs = cc in (refl, tail)
tci_determine None (Some y) us vs e = let zero_is : ◌≡◌ {A = ℕ} 0 1 = cc in absurd (omega (arith, zero_is))
tci_determine (Some x) None us vs e = let one_is : ◌≡◌ {A = ℕ} 1 0 = cc in absurd (omega (arith, one_is))
tci_determine (Some x) (Some y) us vs e = let same : x ≡ y = cc in let tail : us ≡ vs = cc in (ap Some same, tail)

-- tag and offload are all of a mark
pub mark_same : (x y : TxMark) → x.tci ≡ y.tci → x.om ≡ y.om → x.hlen ≡ y.hlen → x.msscof ≡ y.msscof → x ≡ y
mark_same x y tci om hlen msscof = λ i. record {
  tci = tci i;
  om = om i;
  hlen = hlen i;
  msscof = msscof i;
  om_low = is_prop→PathP (λ j. om j < 4) (λ j. le_prop) x.om_low y.om_low i;
  om_lawful = is_prop→PathP (λ j. om j ≢ 1) (λ j. hlevel) x.om_lawful y.om_lawful i;
  hlen_low = is_prop→PathP (λ j. hlen j < 1024) (λ j. le_prop) x.hlen_low y.hlen_low i;
  msscof_low = is_prop→PathP (λ j. msscof j < 16384) (λ j. le_prop) x.msscof_low y.msscof_low i;
}

marks_determine : Determines mark_numbers
marks_determine x y us vs e =
    let om : x.om ≡ y.om = cc in let hlen : x.hlen ≡ y.hlen = cc in let msscof : x.msscof ≡ y.msscof = cc in
    let tail : tci_numbers x.tci ++ us ≡ tci_numbers y.tci ++ vs = cc in
    let r = tci_determine x.tci y.tci us vs tail in (mark_same x y r.0 om hlen msscof, r.1)

pub taken_determine : Determines taken_numbers
taken_determine x y us vs e =
    let count : x.descriptors ≡ y.descriptors = cc in
    let tail : (mark_numbers x.sent.mark ++ frame_numbers x.sent.frame) ++ us ≡ (mark_numbers y.sent.mark ++ frame_numbers y.sent.frame) ++ vs = cc in
    let mark = marks_determine x.sent.mark y.sent.mark (frame_numbers x.sent.frame ++ us) (frame_numbers y.sent.frame ++ vs) (sym (append_assoc (mark_numbers x.sent.mark) (frame_numbers x.sent.frame) us) ∙ tail ∙ append_assoc (mark_numbers y.sent.mark) (frame_numbers y.sent.frame) vs) in
    let r = frames_determine x.sent.frame y.sent.frame us vs mark.1 in
    ((λ i. record { sent = record { frame = r.0 i; mark = mark.0 i }; descriptors = count i }), r.1)

spots_determine : Determines spot_numbers
spots_determine x y us vs e =
    let ring : x.0 ≡ y.0 = cc in let position : x.1 ≡ y.1 = cc in let tail : us ≡ vs = cc in ((λ i. (ring i, position i)), tail)

looks_determine : Determines look_numbers
looks_determine x y us vs e =
    let ring : x.0 ≡ y.0 = cc in let position : x.1 ≡ y.1 = cc in let word : x.2 ≡ y.2 = cc in let tail : us ≡ vs = cc in ((λ i. (ring i, position i, word i)), tail)

-- the hash, its kind, which is at most 4, and the tag are all of a delivery's meta
pub meta_same : (x y : RxMeta) → x.hash ≡ y.hash → x.kind ≡ y.kind → x.tci ≡ y.tci → x ≡ y
meta_same x y hash kind tci = λ i. record { hash = hash i; kind = kind i; tci = tci i; kinds = is_prop→PathP (λ j. kind j ≤ 4) (λ j. le_prop) x.kinds y.kinds i }

pub deliveries_determine : Determines delivery_numbers
deliveries_determine x y us vs e =
    let hash : x.meta.hash ≡ y.meta.hash = cc in let kind : x.meta.kind ≡ y.meta.kind = cc in let passed : x.passed ≡ y.passed = cc in let many : length x.chain ≡ length y.chain = cc in
    let all : (tci_numbers x.meta.tci ++ (numbers spot_numbers x.chain ++ frame_numbers x.frame)) ++ us ≡ (tci_numbers y.meta.tci ++ (numbers spot_numbers y.chain ++ frame_numbers y.frame)) ++ vs = cc in
    let tci = tci_determine x.meta.tci y.meta.tci ((numbers spot_numbers x.chain ++ frame_numbers x.frame) ++ us) ((numbers spot_numbers y.chain ++ frame_numbers y.frame) ++ vs) (sym (append_assoc (tci_numbers x.meta.tci) (numbers spot_numbers x.chain ++ frame_numbers x.frame) us) ∙ all ∙ append_assoc (tci_numbers y.meta.tci) (numbers spot_numbers y.chain ++ frame_numbers y.frame) vs) in
    let spots = determine_all spot_numbers spots_determine x.chain y.chain (frame_numbers x.frame ++ us) (frame_numbers y.frame ++ vs) many (sym (append_assoc (numbers spot_numbers x.chain) (frame_numbers x.frame) us) ∙ tci.1 ∙ append_assoc (numbers spot_numbers y.chain) (frame_numbers y.frame) vs) in
    let frame = frames_determine x.frame y.frame us vs spots.1 in let meta = meta_same x.meta y.meta hash kind tci.0 in
    ((λ i. record { frame = frame.0 i; meta = meta i; passed = passed i; chain = spots.0 i }), frame.1)

-- equal numbers without a length before them: they are lists of one length, since no item has none
no_less : {X : Type 0} (f : X → List ℕ) → ((x : X) → 0 < length (f x)) → Determines f → (xs ys : List X) → numbers f xs ≡ numbers f ys → xs ≡ ys
no_less f some d [] [] e = refl
no_less f some d [] (y ∷ ys) e = let l = ap length e in let s = some y in let m = length-append (f y) (numbers f ys) in absurd (omega arith)
no_less f some d (x ∷ xs) [] e = let l = ap length e in let s = some x in let m = length-append (f x) (numbers f xs) in absurd (omega arith)
no_less {X} f some d (x ∷ xs) (y ∷ ys) e = let here = d x y (numbers f xs) (numbers f ys) e in ap₂ (λ (a : X) (l : List X). a ∷ l) here.0 (no_less f some d xs ys here.1)

-- the numbers of a transmit end determine its taken frames and its completed number
pub tx_tells : (v w : TxDeviceView) → tx_numbers v ≡ tx_numbers w → (v.completed ≡ w.completed) × (v.taken ≡ w.taken)
tx_tells v w e = let done : v.completed ≡ w.completed = cc in let tail : numbers taken_numbers v.taken ≡ numbers taken_numbers w.taken = cc in
    (done, no_less taken_numbers (λ t. omega arith) taken_determine v.taken w.taken tail)

-- the numbers of a receive end determine its delivered frames with their meta, and its refused looks
pub rx_tells : (v w : RxDeviceView) → rx_numbers v ≡ rx_numbers w → (v.delivered ≡ w.delivered) × (v.refused ≡ w.refused)
rx_tells v w e = let many : length v.delivered ≡ length w.delivered = cc in
    let tail : numbers delivery_numbers v.delivered ++ numbers look_numbers v.refused ≡ numbers delivery_numbers w.delivered ++ numbers look_numbers w.refused = cc in
    let r = determine_all delivery_numbers deliveries_determine v.delivered w.delivered (numbers look_numbers v.refused) (numbers look_numbers w.refused) many tail in
    (r.0, no_less look_numbers (λ t. omega arith) looks_determine v.refused w.refused r.1)

and_both : (a b : Bool) → (a && b) ≡ true → (a ≡ true) × (b ≡ true)
and_both true b e = (refl, e)
and_both false b e = absurd (true≢false (sym e))

none_in : {A : Type 0} (xs : List A) → (length xs == 0) ≡ true → xs ≡ []
none_in [] e = refl
none_in (x ∷ xs) e = absurd (true≢false (sym e ∙ ne_eqb (suc (length xs)) 0 (λ z. absurd (omega arith))))

-- fresh ends did nothing
pub fresh_tx : (v : TxDeviceView) → is_fresh_tx v ≡ true → (v.taken ≡ []) × (v.completed ≡ 0)
fresh_tx v e = let both = and_both (length v.taken == 0) (v.completed == 0) e in (none_in v.taken both.0, eqb-true v.completed 0 both.1)

pub fresh_rx : (v : RxDeviceView) → is_fresh_rx v ≡ true → (v.delivered ≡ []) × (v.refused ≡ [])
fresh_rx v e = let both = and_both (length v.delivered == 0) (length v.refused == 0) e in (none_in v.delivered both.0, none_in v.refused both.1)

-- whole ends have no frame taken and not completed, and are even
pub whole_tx : (v : TxDeviceView) → is_whole_tx v ≡ true → (v.completed ≡ length v.taken) × (v.notes_given ≡ v.notes_heard)
whole_tx v e = let both = and_both (v.completed == length v.taken) (v.notes_given == v.notes_heard) e in (eqb-true v.completed (length v.taken) both.0, eqb-true v.notes_given v.notes_heard both.1)

pub whole_rx : (v : RxDeviceView) → is_whole_rx v ≡ true → v.notes_given ≡ v.notes_heard
whole_rx v e = eqb-true v.notes_given v.notes_heard e

pub all_are : {X : Type 0} (f : X → Bool) (xs : List X) → all_of f xs ≡ true → All (λ x. f x ≡ true) xs
all_are {X} f [] e = All-nil (λ (x : X). f x ≡ true)
all_are {X} f (x ∷ xs) e = let both = and_both (f x) (all_of f xs) e in All-cons (λ (x : X). f x ≡ true) x xs both.0 (all_are f xs both.1)

-- what a device hands back has the lists of what was handed to it, end by end, where the counts are the same
pub ends_tell : (tx tx' : List TxDeviceView) (rx rx' : List RxDeviceView) → length tx ≡ length tx' → (ends_handed tx rx).lists ≡ (ends_handed tx' rx').lists
    → (map tx_numbers tx ≡ map tx_numbers tx') × (map rx_numbers rx ≡ map rx_numbers rx')
ends_tell tx tx' rx rx' same e = split_at (map tx_numbers tx) (map tx_numbers tx') (map rx_numbers rx) (map rx_numbers rx') (length-map tx tx_numbers ∙ same ∙ sym (length-map tx' tx_numbers)) e

-- ------------------------------------------------------------ whole, fresh and given, and the ends one by one

abbrev pub IsWholeTx : TxDeviceView → Type 0
IsWholeTx v = (v.completed ≡ length v.taken) × (v.notes_given ≡ v.notes_heard)

abbrev pub IsWholeRx : RxDeviceView → Type 0
IsWholeRx v = v.notes_given ≡ v.notes_heard

abbrev pub IsFreshTx : TxDeviceView → Type 0
IsFreshTx v = (v.taken ≡ []) × (v.completed ≡ 0)

abbrev pub IsFreshRx : RxDeviceView → Type 0
IsFreshRx v = (v.delivered ≡ []) × (v.refused ≡ [])

both_true : (a b : Bool) → a ≡ true → b ≡ true → (a && b) ≡ true
both_true a b p q = ap₂ (λ (x y : Bool). x && y) p q

or_neither : (a b : Bool) → (a || b) ≡ false → (a ≡ false) × (b ≡ false)
or_neither true b e = absurd (true≢false e)
or_neither false b e = (refl, e)

neither : (a b : Bool) → a ≡ false → b ≡ false → (a || b) ≡ false
neither a b p q = ap₂ (λ (x y : Bool). x || y) p q

pub is_whole_tx_by : (v : TxDeviceView) → IsWholeTx v → is_whole_tx v ≡ true
is_whole_tx_by v w = both_true (v.completed == length v.taken) (v.notes_given == v.notes_heard) (eq-eqb v.completed (length v.taken) w.0) (eq-eqb v.notes_given v.notes_heard w.1)

pub is_whole_rx_by : (v : RxDeviceView) → IsWholeRx v → is_whole_rx v ≡ true
is_whole_rx_by v w = eq-eqb v.notes_given v.notes_heard w

pub is_fresh_tx_by : (v : TxDeviceView) → IsFreshTx v → is_fresh_tx v ≡ true
is_fresh_tx_by v w = both_true (length v.taken == 0) (v.completed == 0) (eq-eqb (length v.taken) 0 (ap length w.0)) (eq-eqb v.completed 0 w.1)

pub is_fresh_rx_by : (v : RxDeviceView) → IsFreshRx v → is_fresh_rx v ≡ true
is_fresh_rx_by v w = both_true (length v.delivered == 0) (length v.refused == 0) (eq-eqb (length v.delivered) 0 (ap length w.0)) (eq-eqb (length v.refused) 0 (ap length w.1))

module _ {X : Type 0} (f : X → Bool) (P : X → Type 0) where
  -- what a test of all items says, where it says P of each
  all_that : ((x : X) → f x ≡ true → P x) → (xs : List X) → all_of f xs ≡ true → All P xs
  all_that says [] e = All-nil P
  all_that says (x ∷ xs) e = let both = and_both (f x) (all_of f xs) e in All-cons P x xs (says x both.0) (all_that says xs both.1)

  all_by : ((x : X) → P x → f x ≡ true) → (xs : List X) → All P xs → all_of f xs ≡ true
  all_by says [] a = refl
  all_by says (x ∷ xs) a = both_true (f x) (all_of f xs) (says x (All-head P x xs a)) (all_by says xs (All-tail P x xs a))

module _ {X : Type 0} (f : X → Bool) where
  none_that : (xs : List X) → any_of f xs ≡ false → All (λ (x : X). f x ≡ false) xs
  none_that [] e = All-nil (λ (x : X). f x ≡ false)
  none_that (x ∷ xs) e = let both = or_neither (f x) (any_of f xs) e in All-cons (λ (x : X). f x ≡ false) x xs both.0 (none_that xs both.1)

  none_by : (xs : List X) → All (λ (x : X). f x ≡ false) xs → any_of f xs ≡ false
  none_by [] a = refl
  none_by (x ∷ xs) a = neither (f x) (any_of f xs) (All-head (λ (x : X). f x ≡ false) x xs a) (none_by xs (All-tail (λ (x : X). f x ≡ false) x xs a))

module _ (tx : List TxDeviceView) (rx : List RxDeviceView) where
  -- the ends of a bag are whole, one by one
  pub are_whole : (ends_handed tx rx).whole ≡ true → All IsWholeTx tx × All IsWholeRx rx
  are_whole e = let both = and_both (all_of is_whole_tx tx) (all_of is_whole_rx rx) e in (all_that is_whole_tx IsWholeTx whole_tx tx both.0, all_that is_whole_rx IsWholeRx whole_rx rx both.1)

  pub whole_by : All IsWholeTx tx → All IsWholeRx rx → (ends_handed tx rx).whole ≡ true
  whole_by a b = both_true (all_of is_whole_tx tx) (all_of is_whole_rx rx) (all_by is_whole_tx IsWholeTx is_whole_tx_by tx a) (all_by is_whole_rx IsWholeRx is_whole_rx_by rx b)

  -- the ends of a bag did nothing, one by one
  pub are_fresh : (ends_handed tx rx).fresh ≡ true → All IsFreshTx tx × All IsFreshRx rx
  are_fresh e = let both = and_both (all_of is_fresh_tx tx) (all_of is_fresh_rx rx) e in (all_that is_fresh_tx IsFreshTx fresh_tx tx both.0, all_that is_fresh_rx IsFreshRx fresh_rx rx both.1)

  pub fresh_by : All IsFreshTx tx → All IsFreshRx rx → (ends_handed tx rx).fresh ≡ true
  fresh_by a b = both_true (all_of is_fresh_tx tx) (all_of is_fresh_rx rx) (all_by is_fresh_tx IsFreshTx is_fresh_tx_by tx a) (all_by is_fresh_rx IsFreshRx is_fresh_rx_by rx b)

  -- no end of a bag stands over given words, one by one
  pub not_given : (ends_handed tx rx).given ≡ false → All (λ (v : TxDeviceView). v.given ≡ false) tx × All (λ (v : RxDeviceView). v.given ≡ false) rx
  not_given e = let both = or_neither (any_of (λ v. v.given) tx) (any_of (λ v. v.given) rx) e in (none_that (λ (v : TxDeviceView). v.given) tx both.0, none_that (λ (v : RxDeviceView). v.given) rx both.1)

  pub not_given_by : All (λ (v : TxDeviceView). v.given ≡ false) tx → All (λ (v : RxDeviceView). v.given ≡ false) rx → (ends_handed tx rx).given ≡ false
  not_given_by a b = neither (any_of (λ v. v.given) tx) (any_of (λ v. v.given) rx) (none_by (λ (v : TxDeviceView). v.given) tx a) (none_by (λ (v : RxDeviceView). v.given) rx b)
