-- A frame is received and handed up.
use Rattle.std.proofs.Common.{◌≡◌, ◌≢◌, ℕ, zero, suc, ◌+◌, ◌<◌, ◌≤◌, true, false, List, [], ◌∷◌, ◌++◌, length, length-append, map, get_or, set, refl, ap, sym, ◌∙◌, subst, arith, append-nil, nat_eq, inl, inr}
use Rattle.std.proofs.lemmas.Bool.Decides.{nat_tests, eqb_tells}
use Rattle.std.specs.List.{AllByRecursion, filter}
use Rattle.std.proofs.lemmas.List.{length-set}
use Rattle.std.proofs.lemmas.List.Elements.{filter-append}
use Rattle.std.proofs.Math.Seq.{map-set_same}
use Rattle.vmx_layout.specs.declared.TheConstants.{COMPLETION_GENERATION_BIT}
use Rattle.vmx_ends.specs.Words.{IsMissed}
use Rattle.vmx_ends.specs.declared.frames.Delivery.{Delivery}
use Rattle.vmx_ends.specs.Transmit.{TxDriverView}
use Rattle.vmx_ends.specs.Receive.{RxDriverView, RxDeviceView, RxView, used, pieces_of}
use Rattle.vmx_device_state.specs.Deals.{Held as HeldEnds}
use Rattle.vmx_model.specs.declared.guest.GuestPlan.{GuestPlan}
use Rattle.vmx_model.specs.declared.journal.Received.{Received}
use Rattle.vmx_model.specs.Lists.{Rises}
use Rattle.vmx_model.specs.Account.{from_queue, received_from}
use Rattle.vmx_model.specs.Bags.{EachQueue, Pairwise, DriverSaysRx}
use Rattle.vmx_driver_steps.specs.declared.progress.Stage.{Stage}
use Rattle.vmx_driver_steps.specs.declared.progress.Stage.TheVariants.{Fresh, Active, Stopping, Held, Quiet, Ended}
use Rattle.vmx_driver_steps.specs.Progress.{in_hand}
use Rattle.vmx_driver_steps.specs.Driver.{DriverView, Keeps, Commands, AreHeld, IsHeldRx, HandsUp}
use Rattle.vmx_driver_steps.specs.Each.{each_set, each_at, every_two, are_below}

-- received, one frame more
from_more : (a q k : ℕ) (ds : List Delivery) (d : Delivery) → received_from a q k (ds ++ d ∷ []) ≡ received_from a q k ds ++ record { activation = a; queue = q; place = k + length ds; frame = d.frame; tci = d.meta.tci } ∷ []
from_more a q k [] d = let e : k ≡ k + 0 = omega arith in ap (λ (n : ℕ). record { activation = a; queue = q; place = n; frame = d.frame; tci = d.meta.tci } ∷ []) e
from_more a q k (x ∷ ds) d = let e : k + 1 + length ds ≡ k + suc (length ds) = omega arith in
    ap (λ (xs : List Received). record { activation = a; queue = q; place = k; frame = x.frame; tci = x.meta.tci } ∷ xs) (from_more a q (k + 1) ds d ∙ ap (λ (n : ℕ). received_from a q (k + 1) ds ++ record { activation = a; queue = q; place = n; frame = d.frame; tci = d.meta.tci } ∷ []) e)

-- what goes up from a queue stands in no other's list
filter_else : (a q a' q' : ℕ) (xs : List Received) (x : Received) → x.activation ≡ a → x.queue ≡ q → ((a' ≡ a) → (q' ≡ q) → ⊥) → filter (from_queue a' q') (xs ++ x ∷ []) ≡ filter (from_queue a' q') xs
filter_else a q a' q' xs x ea eq other = filter-append (from_queue a' q') xs (x ∷ []) ∙ elim (eqb_tells x.activation a') [
  | inl e ↦ elim (eqb_tells x.queue q') [
    | inl f ↦ absurd (other (sym e.1 ∙ ea) (sym f.1 ∙ eq))
    | inr f ↦ rw (e.0, f.0) (append-nil (filter (from_queue a' q') xs))
  ]
  | inr e ↦ rw e.0 (append-nil (filter (from_queue a' q') xs))
]

filter_here : (a q : ℕ) (xs : List Received) (x : Received) → x.activation ≡ a → x.queue ≡ q → filter (from_queue a q) (xs ++ x ∷ []) ≡ filter (from_queue a q) xs ++ x ∷ []
filter_here a q xs x ea eq = let one : nat_eq x.activation a ≡ true = grind (arith, nat_tests) in let two : nat_eq x.queue q ≡ true = grind (arith, nat_tests) in
    filter-append (from_queue a q) xs (x ∷ []) ∙ rw (one, two) refl

rises_more : (a : ℕ) (xs : List Received) (x : Received) → AllByRecursion (λ (y : Received). y.activation ≤ x.activation) xs → Rises (λ (y z : Received). y.activation ≤ z.activation) xs → Rises (λ (y z : Received). y.activation ≤ z.activation) (xs ++ x ∷ [])
rises_more a [] x h r = (tt, tt)
rises_more a (y ∷ xs) x h r = (every_more (λ (z : Received). y.activation ≤ z.activation) xs r.0 h.0, rises_more a xs x h.1 r.1)
  where
    every_more : (P : Received → Type 0) (xs : List Received) → AllByRecursion P xs → P x → AllByRecursion P (xs ++ x ∷ [])
    every_more P [] h p = (p, tt)
    every_more P (z ∷ xs) h p = (h.0, every_more P xs h.1 p)

-- a queue handed up its next frame
pub record UpNext (a q : ℕ) (d d' : RxDriverView) (x : Received) : Type 0 where
  pub activation : x.activation ≡ a
  pub queue : x.queue ≡ q
  pub place : x.place ≡ length d.received
  pub delivery : Delivery
  pub frame : x.frame ≡ delivery.frame
  pub tci : x.tci ≡ delivery.meta.tci
  pub is : d' ≡ record d { received = d.received ++ delivery ∷ [] }
  pub grows : used pieces_of d'.received ≤ used pieces_of d.received + 16

hands_up : (g : ℕ) (p : GuestPlan) (a q : ℕ) (received : List Received) (d d' : RxDriverView) (x : Received) → UpNext a q d d' x → HandsUp g p a received q d → HandsUp g p a (received ++ x ∷ []) q d'
hands_up g p a q received d d' x u h =
    let got : d'.received ≡ d.received ++ u.delivery ∷ [] = ap (λ (z : RxDriverView). z.received) u.is in
    let x_is : x ≡ record { activation = a; queue = q; place = 0 + length d.received; frame = u.delivery.frame; tci = u.delivery.meta.tci } = (let z : length d.received ≡ 0 + length d.received = omega arith in λ i. record { activation = u.activation i; queue = u.queue i; place = (u.place ∙ z) i; frame = u.frame i; tci = u.tci i }) in
    let few = h.positions in let grows = u.grows in let len = ap length got in let more = length-append d.received (u.delivery ∷ []) in record {
      made = ap (λ (z : RxDriverView). z.made) u.is ∙ h.made;
      handed = filter_here a q received x u.activation u.queue ∙ (λ i. h.handed i ++ x_is i ∷ []) ∙ sym (from_more a q 0 d.received u.delivery) ∙ ap (received_from a q 0) (sym got);
      positions = omega (arith, few, grows, len, more);
    }

pub hands_up_else : (g : ℕ) (p : GuestPlan) (a q : ℕ) (received : List Received) (q' : ℕ) (d : RxDriverView) (x : Received) → x.activation ≡ a → x.queue ≡ q → q' ≢ q → HandsUp g p a received q' d → HandsUp g p a (received ++ x ∷ []) q' d
hands_up_else g p a q received q' d x ea eq ne h = record { made = h.made; handed = filter_else a q a q' received x ea eq (λ _ e. ne e) ∙ h.handed; positions = h.positions }

-- each queue's list is what it handed up, one frame more
pub each_up : (g : ℕ) (p : GuestPlan) (a q : ℕ) (received : List Received) (rx : List RxDriverView) (d d' : RxDriverView) (x : Received) → d ≡ get_or rx q d → q < length rx → UpNext a q d d' x → EachQueue (HandsUp g p a received) 0 rx → EachQueue (HandsUp g p a (received ++ x ∷ [])) 0 (set rx q d')
each_up g p a q received rx d d' x at lt u k =
    let z : 0 + q ≡ q = omega arith in
    let was : HandsUp g p a received q d = subst (HandsUp g p a received q) (sym at) (subst (λ (n : ℕ). HandsUp g p a received n (get_or rx q d)) z (each_at (HandsUp g p a received) 0 rx q d lt k)) in
    each_set (HandsUp g p a received) (HandsUp g p a (received ++ x ∷ [])) 0 rx q d' (λ q' y ne h. hands_up_else g p a q received q' y x u.activation u.queue (λ e. ne (e ∙ sym z)) h) (subst (λ (n : ℕ). HandsUp g p a (received ++ x ∷ []) n d') (sym z) (hands_up g p a q received d d' x u was)) k

-- the facts of ended activations are as they were
pub facts_up : (p : GuestPlan) (a q : ℕ) (received : List Received) (fs : List RxView) (x : Received) → x.activation ≡ a → x.queue ≡ q → AllByRecursion (λ (f : RxView). f.made.name.activation < a) fs → AllByRecursion (λ (f : RxView). DriverSaysRx p received f) fs → AllByRecursion (λ (f : RxView). DriverSaysRx p (received ++ x ∷ []) f) fs
facts_up p a q received fs x ea eq low h = every_two (λ (f : RxView). DriverSaysRx p received f) (λ (f : RxView). f.made.name.activation < a) (λ (f : RxView). DriverSaysRx p (received ++ x ∷ []) f) fs
    (λ f s lt. record { made = s.made; met = s.met; drained = s.drained; looks = s.looks; handed = filter_else a q f.made.name.activation f.made.name.queue received x ea eq (λ e _. absurd (omega (arith, lt, e))) ∙ s.handed }) h low

-- one of the first of pairs is replaced
pub pair_set : {X Y : Type 0} (P : X → Y → Type 0) (xs : List X) (ys : List Y) (i : ℕ) (x new : X) → x ≡ get_or xs i x → i < length xs → ((y : Y) → P x y → P new y) → Pairwise P xs ys → Pairwise P (set xs i new) ys
pair_set P [] ys i x new at lt f h = absurd (omega (arith, lt))
pair_set P (z ∷ xs) [] i x new at lt f h = absurd h
pair_set P (z ∷ xs) (y ∷ ys) zero x new at lt f h = (f y (subst (λ w. P w y) (sym at) h.0), h.1)
pair_set P (z ∷ xs) (y ∷ ys) (suc i) x new at lt f h = (h.0, pair_set P xs ys i x new at (omega (arith, lt)) f h.1)

every_last : (P : Received → Type 0) (xs : List Received) (x : Received) → AllByRecursion P xs → P x → AllByRecursion P (xs ++ x ∷ [])
every_last P [] x h p = (p, tt)
every_last P (z ∷ xs) x h p = (h.0, every_last P xs x h.1 p)

every_weaker : (P Q : Received → Type 0) (xs : List Received) → ((x : Received) → P x → Q x) → AllByRecursion P xs → AllByRecursion Q xs
every_weaker P Q [] f h = tt
every_weaker P Q (x ∷ xs) f h = (f x h.0, every_weaker P Q xs f h.1)

-- a frame goes up from a queue in hand
pub ups : (v : DriverView) (q : ℕ) (d d' : RxDriverView) (x : Received) → Keeps v → in_hand v.at.stage ≡ 1 → d ≡ get_or v.rx q d → q < length v.rx → q < v.plan.setup.rx_queues → UpNext v.at.ended q d d' x → Keeps (record v { rx = set v.rx q d'; received = v.received ++ x ∷ [] })
ups v q d d' x k hand at lt less u = record {
  under = k.under;
  tx_count = k.tx_count;
  rx_count = length-set v.rx q d' ∙ k.rx_count;
  tx = k.tx;
  rx = each_up v.guest v.plan v.at.ended q v.received v.rx d d' x at lt u k.rx;
  held = holds v.at.stage k.held;
  parting = k.parting;
  commands = subst (λ (h : HeldEnds). Commands v.plan v.at h v.calls) (λ i. record { keys = map (λ (y : TxDriverView). y.key) v.tx ++ sym keys_same i; tx = length v.tx; rx = sym (length-set v.rx q d') i; given = false }) k.commands;
  bags = k.bags;
  bags_are = k.bags_are;
  gifts_are = k.gifts_are;
  got_back = k.got_back;
  tx_names = k.tx_names;
  rx_names = k.rx_names;
  tx_facts = k.tx_facts;
  rx_facts = facts_up v.plan v.at.ended q v.received v.rx_facts x u.activation u.queue (are_below v.guest v.plan.setup.rx_queues v.at.ended (λ (f : RxView). f.made.name) v.rx_facts k.rx_names) k.rx_facts;
  owned = every_last (λ (y : Received). (y.activation < v.at.ended + in_hand v.at.stage) × (y.queue < v.plan.setup.rx_queues)) v.received x k.owned (let e = u.activation in let f = u.queue in (omega (arith, e, hand), omega (arith, f, less)));
  rising = rises_more v.at.ended v.received x (every_weaker (λ (y : Received). (y.activation < v.at.ended + in_hand v.at.stage) × (y.queue < v.plan.setup.rx_queues)) (λ (y : Received). y.activation ≤ x.activation) v.received (λ y h. let l = h.0 in let e = u.activation in omega (arith, l, e, hand)) k.owned) k.rising;
  none_yet = k.none_yet;
}
  where
    key : d'.key ≡ d.key
    key = ap (λ (z : RxDriverView). z.key) u.is

    keys_same : map (λ (z : RxDriverView). z.key) (set v.rx q d') ≡ map (λ (z : RxDriverView). z.key) v.rx
    keys_same = map-set_same (λ (z : RxDriverView). z.key) v.rx q d' d (key ∙ ap (λ (z : RxDriverView). z.key) at)

    one : (e : RxDeviceView) → IsHeldRx d e → IsHeldRx d' e
    one e o = let told = o.told in let same = ap (λ (z : RxDriverView). length z.heard) u.is in record { one = record { key = ap (λ (z : RxDriverView). z.key) u.is ∙ o.one.key; even = o.one.even }; told = omega (arith, told, same) }

    holds : (g : Stage) → AreHeld g v.tx v.rx v.tx_held v.rx_held → AreHeld g v.tx (set v.rx q d') v.tx_held v.rx_held
    holds (Held t) o = (o.0, pair_set IsHeldRx v.rx v.rx_held q d d' at lt (λ e h. one e h) o.1)
    holds Active o = o
    holds Fresh o = o
    holds (Stopping t) o = o
    holds Quiet o = o
    holds Ended o = o

-- a look found no frame: the word that it found there, and that no note told of a frame
pub record IsEmptied (old new : RxDriverView) : Type 0 where
  pub word : ℕ
  pub missed : IsMissed COMPLETION_GENERATION_BIT (old.made.size1 + old.made.size2) (used pieces_of old.received) word
  pub looked : new.looks ≡ old.looks ++ (used pieces_of old.received, word) ∷ []
  pub is : new ≡ record old { looks = new.looks }
  pub heard : length new.heard ≤ length new.received
