-- The first so many receive queues were looked at, one by one.
use Rattle.std.proofs.Common.{◌≡◌, ℕ, zero, suc, ◌+◌, ◌<◌, ◌≤◌, List, [], ◌∷◌, ◌++◌, length, length-append, map, get_or, set, refl, ap, sym, ◌∙◌, subst, arith, add-one, append-nil, append_assoc, ⊎_elim, All}
use Rattle.std.proofs.lemmas.List.{map-set, length-map}
use Rattle.vmx_io.specs.Views.{viewed}
use Rattle.vmx_ends.specs.Receive.{RxDriverView}
use Rattle.vmx_regs.specs.declared.known.Masks.{Masks}
use Rattle.vmx_model.specs.declared.journal.Received.{Received}
use Rattle.vmx_driver_steps.specs.Driver.{Keeps}
use Rattle.vmx_driver_steps.specs.Near.{looks_on}
use Rattle.vmx_driver_steps.specs.Receiving.{UpNext, ups}
use Rattle.vmx_driver_steps.specs.Driving.{PolledOne, Polls, HandsNext, FindsNoFrame}
use Rattle.vmx_driver_ends.specs.Founds.{PollsSo, PollsUp, KeepsOn}

module _ (n first a : ℕ) where
  -- of the queues from `from` on the first k were looked at, the others are as they were
  abbrev pub PollUpTo : ℕ → ℕ → List RxDriverView → List RxDriverView → List Received → Masks → Masks → Type 0
  PollUpTo zero from ds ds' up m m' = (ds' ≡ ds) × (up ≡ []) × (m' ≡ m)
  PollUpTo (suc k) from [] [] up m m' = (up ≡ []) × (m' ≡ m)
  PollUpTo (suc k) from (d ∷ ds) (d' ∷ ds') up m m' = (one : List Received) × (rest : List Received) × (mid : Masks) × (up ≡ one ++ rest) × PolledOne n first a from d d' one m mid × PollUpTo k (suc from) ds ds' rest mid m'
  PollUpTo (suc k) from [] (d' ∷ ds') up m m' = ⊥
  PollUpTo (suc k) from (d ∷ ds) [] up m m' = ⊥

  -- what holds of the queue that is next is what held of it
  pub still : (P : RxDriverView → Type 0) (k from : ℕ) (ds ds' : List RxDriverView) (up : List Received) (m m' : Masks) (d : RxDriverView) → PollUpTo k from ds ds' up m m' → k < length ds' → d ≡ get_or ds' k d → ((i : ℕ) (x : RxDriverView) → i < length ds → P (get_or ds i x)) → P d
  still P k from ds [] up m m' d h lt at all = absurd (omega (arith, lt))
  still P zero from ds (x' ∷ ds') up m m' d h lt at all = let l = ap length h.0 in subst P (sym (at ∙ ap (λ (xs : List RxDriverView). get_or xs 0 d) h.0)) (all 0 d (omega (arith, l)))
  still P (suc k) from [] (x' ∷ ds') up m m' d h lt at all = absurd h
  still P (suc k) from (x ∷ ds) (x' ∷ ds') up m m' d h lt at all = still P k (suc from) ds ds' h.1 h.2 m' d h.5 (omega (arith, lt)) at (λ i y less. all (suc i) y (omega (arith, less)))

  -- one queue more
  next : (k from : ℕ) (ds ds' : List RxDriverView) (up one : List Received) (m m' m'' : Masks) (d new : RxDriverView) → PollUpTo k from ds ds' up m m' → k < length ds' → d ≡ get_or ds' k d → PolledOne n first a (from + k) d new one m' m'' → PollUpTo (suc k) from ds (set ds' k new) (up ++ one) m m''
  next k from ds [] up one m m' m'' d new h lt at p = absurd (omega (arith, lt))
  next zero from [] (x' ∷ ds') up one m m' m'' d new h lt at p = let l = ap length h.0 in absurd (omega arith)
  next zero from (x ∷ ds) (x' ∷ ds') up one m m' m'' d new h lt at p =
      let same : x' ≡ x = cc h.0 in let rest : ds' ≡ ds = cc h.0 in let z : from + 0 ≡ from = omega arith in (
        one,
        [],
        m'',
        ap (λ (xs : List Received). xs ++ one) h.1 ∙ sym (append-nil one),
        subst (λ (y : ℕ × RxDriverView × Masks). PolledOne n first a y.0 y.1 new one y.2 m'') (λ i. (z i, (at ∙ same) i, h.2 i)) p,
        (rest, refl, refl),
      )
  next (suc k) from [] (x' ∷ ds') up one m m' m'' d new h lt at p = absurd h
  next (suc k) from (x ∷ ds) (x' ∷ ds') up one m m' m'' d new h lt at p =
      let e : from + suc k ≡ suc from + k = omega arith in (
        h.0,
        h.1 ++ one,
        h.2,
        ap (λ (xs : List Received). xs ++ one) h.3 ∙ append_assoc h.0 h.1 one,
        h.4,
        next k (suc from) ds ds' h.1 one h.2 m' m'' d new h.5 (omega (arith, lt)) at (subst (λ (q : ℕ). PolledOne n first a q d new one m' m'') e p),
      )

  -- all of them
  pub all_polled : (k from : ℕ) (ds ds' : List RxDriverView) (up : List Received) (m m' : Masks) → length ds' ≡ k → PollUpTo k from ds ds' up m m' → Polls n first a from ds ds' up m m'
  all_polled zero from ds (x ∷ ds') up m m' e h = absurd (omega (arith, e))
  all_polled zero from [] [] up m m' e h = (h.1, h.2)
  all_polled zero from (x ∷ ds) [] up m m' e h = let l = ap length h.0 in absurd (omega arith)
  all_polled (suc k) from ds [] up m m' e h = absurd (omega (arith, e))
  all_polled (suc k) from [] (x' ∷ ds') up m m' e h = absurd h
  all_polled (suc k) from (x ∷ ds) (x' ∷ ds') up m m' e h = (h.0, h.1, h.2, h.3, h.4, all_polled k (suc from) ds ds' h.1 h.2 m' (omega (arith, e)) h.5)

  module _ {E : Type 0} (view : E → RxDriverView) where
    pub one_more : (k : ℕ) (ds : List RxDriverView) (es : List E) (up : List Received) (m m' m'' : Masks) (e new : E) (one : List Received) → PollUpTo k 0 ds (map view es) up m m' → k < length es → e ≡ get_or es k e → PolledOne n first a k (view e) (view new) one m' m'' → PollUpTo (k + 1) 0 ds (map view (set es k new)) (up ++ one) m m''
    one_more k ds es up m m' m'' e new one h lt at p = let z : k ≡ 0 + k = omega arith in
        rw (map-set view es k new, add-one k) (next k 0 ds (map view es) up one m m' m'' (view e) (view new) h (rw length-map lt) (sym (viewed view es k e lt at)) (subst (λ (q : ℕ). PolledOne n first a q (view e) (view new) one m' m'') z p))

    pub still_so : (P : RxDriverView → Type 0) (k : ℕ) (ds : List RxDriverView) (es : List E) (up : List Received) (m m' : Masks) (e : E) → PollUpTo k 0 ds (map view es) up m m' → k < length es → e ≡ get_or es k e → All P ds → P (view e)
    still_so P k ds es up m m' e h lt at all = still P k 0 ds (map view es) up m m' (view e) h (rw length-map lt) (sym (viewed view es k e lt at)) (λ i x less. all i x less)

-- what always holds still holds after one queue more
module _ {E : Type 0} (view : E → RxDriverView) where
  pub keeps_more : (n first a k : ℕ) (ds : List RxDriverView) (es : List E) (received now later : List Received) (m m' : Masks) (c : ℕ) (e new : E) → KeepsOn a ds (map view es) received now → length es ≡ length ds → k < length es → e ≡ get_or es k e
      → PollsSo n first a k (view e) (view new) now later m m' c → KeepsOn a ds (map view (set es k new)) received later
  keeps_more n first a k ds es received now later m m' c e new keeps same lt at p v h hand ended rx_is received_is many =
      let low : k < length (map view es) = rw length-map lt in
      let there : view e ≡ get_or (map view es) k (view e) = sym (viewed view es k e lt at) in
      let was = keeps v h hand ended rx_is received_is many in
      let set_is : set (map view es) k (view new) ≡ map view (set es k new) = sym (map-set view es k new) in
      let l = length-map es view in
      ⊎_elim
      (λ (u : (x : Received) × (p.one ≡ x ∷ []) × HandsNext n a k (view e) (view new) x m m').
      let up = subst (λ (b : ℕ). UpNext b k (view e) (view new) u.0) (sym ended) u.2.up in
      let list_is : now ++ u.0 ∷ [] ≡ later = ap (λ (xs : List Received). now ++ xs) (sym u.1) ∙ sym p.is in
      subst (λ (z : List RxDriverView × List Received). Keeps (record v { rx = z.0; received = z.1 })) (λ i. (set_is i, list_is i))
      (ups (record v { rx = map view es; received = now }) k (view e) (view new) u.0 was hand there low (omega (arith, low, l, same, many)) up))
      (λ (u : (p.one ≡ []) × FindsNoFrame first k (view e) (view new) m m').
      let list_is : now ≡ later = sym (append-nil now) ∙ ap (λ (xs : List Received). now ++ xs) (sym u.0) ∙ sym p.is in
      subst (λ (z : List RxDriverView × List Received). Keeps (record v { rx = z.0; received = z.1 })) (λ i. (set_is i, list_is i))
      (looks_on (record v { rx = map view es; received = now }) k (view e) (view new) was there low u.1.none))
      p.polled

-- the first k queues were looked at, and the n frames that they handed up go last
pub record PollsTo (interrupts first a k : ℕ) (ds ds' : List RxDriverView) (received received' : List Received) (m m' : Masks) (n : ℕ) : Type 0 where
  pub up : List Received
  pub is : received' ≡ received ++ up
  pub count : n ≡ length up
  pub polls : PollUpTo interrupts first a k 0 ds ds' up m m'

pub polls_none : (interrupts first a : ℕ) (ds : List RxDriverView) (received : List Received) (m : Masks) → PollsTo interrupts first a 0 ds ds received received m m 0
polls_none interrupts first a ds received m = record { up = []; is = sym (append-nil received); count = refl; polls = (refl, refl, refl) }

pub polls_more : {E : Type 0} (view : E → RxDriverView) (interrupts first a k : ℕ) (ds : List RxDriverView) (es : List E) (received now later : List Received) (m m' m'' : Masks) (e new : E) (n c : ℕ) → PollsTo interrupts first a k ds (map view es) received now m m' n → k < length es → e ≡ get_or es k e
    → PollsSo interrupts first a k (view e) (view new) now later m' m'' c → PollsTo interrupts first a (k + 1) ds (map view (set es k new)) received later m m'' (n + c)
polls_more view interrupts first a k ds es received now later m m' m'' e new n c h lt at p = record {
  up = h.up ++ p.one;
  is = p.is ∙ ap (λ (xs : List Received). xs ++ p.one) h.is ∙ append_assoc received h.up p.one;
  count = let x = h.count in let y = p.count in let l = length-append h.up p.one in omega (arith, x, y, l);
  polls = one_more interrupts first a view k ds es h.up m m' m'' e new p.one h.polls lt at p.polled;
}

pub polls_all : (interrupts first a k : ℕ) (ds ds' : List RxDriverView) (received received' : List Received) (m m' : Masks) (n : ℕ) → length ds' ≡ k → PollsTo interrupts first a k ds ds' received received' m m' n → PollsUp interrupts first a ds ds' received received' m m' n
polls_all interrupts first a k ds ds' received received' m m' n e h = record { up = h.up; is = h.is; count = h.count; polls = all_polled interrupts first a k 0 ds ds' h.up m m' e h.polls }

-- nothing was looked at yet
pub keeps_none : (a : ℕ) (ds : List RxDriverView) (received : List Received) → KeepsOn a ds ds received received
keeps_none a ds received v k hand ended rx_is received_is many = subst (λ (x : List RxDriverView × List Received). Keeps (record v { rx = x.0; received = x.1 })) (λ i. (rx_is i, received_is i)) k

-- a look gives at most a frame
pub one_at_most : (interrupts first a q : ℕ) (d d' : RxDriverView) (received received' : List Received) (m m' : Masks) (n : ℕ) → PollsSo interrupts first a q d d' received received' m m' n → n ≤ 1
one_at_most interrupts first a q d d' received received' m m' n p = ⊎_elim
    (λ (x : (x : Received) × (p.one ≡ x ∷ []) × HandsNext interrupts a q d d' x m m'). let e = ap length x.1 in let c = p.count in omega (arith, e, c))
    (λ (x : (p.one ≡ []) × FindsNoFrame first q d d' m m'). let e = ap length x.0 in let c = p.count in omega (arith, e, c))
    p.polled
