-- All guests by their drivers and their devices: notes of links between the devices are notes between the guests.
use Rattle.std.proofs.Common.{◌≡◌, ℕ, zero, suc, List, [], ◌∷◌, length, map, set, refl, sym, ap, ◌∙◌, subst, arith, Some, inl, inr}
use Rattle.std.specs.List.{slice_get}
use Rattle.std.proofs.lemmas.Bool.Decides.{eqb_tells}
use Rattle.std.proofs.lemmas.List.{length-set, length-map}
use Rattle.vmx_device_looks.specs.Queues.{all_at, all_set}
use Rattle.vmx_device_laws.specs.Views.{DeviceView}
use Rattle.vmx_driver_steps.specs.Driver.{DriverView}
use Rattle.vmx_replay_settled.specs.Settled.{BothKeep}
use Rattle.vmx_replay_settled.specs.Linked.{LinkPassedOn, LinksPassedFrom}
use Rattle.vmx_replay_worlds.specs.Guests.{GuestView, joined}
use Rattle.vmx_replay_chains.specs.Chains.{devices_of, drivers_of, LinksOn, LinkOn}
use Rattle.vmx_replay_calls.specs.Resting.{guest_of, AllKeep}
use Rattle.vmx_replay_calls.proofs.Steps.{LinkTold, LinksTold}

-- ------------------------------------------------------------ two lists as one

module _ {X Y Z : Type 0} (f : X → Y → Z) where
  joined_set : (xs : List X) (ys : List Y) (n : ℕ) (x : X) (y : Y) → slice_get xs n ≡ Some x → joined f xs (set ys n y) ≡ set (joined f xs ys) n (f x y)
  joined_set [] ys n x y e = absurd (cc e)
  joined_set (a ∷ xs) [] n x y e = refl
  joined_set (a ∷ xs) (b ∷ ys) zero x y e = let same : a ≡ x = cc e in ap (λ (z : X). f z y ∷ joined f xs ys) same
  joined_set (a ∷ xs) (b ∷ ys) (suc n) x y e = ap (λ (zs : List Z). f a b ∷ zs) (joined_set xs ys n x y e)

  joined_at : (xs : List X) (ys : List Y) (n : ℕ) (x : X) (y : Y) → slice_get xs n ≡ Some x → slice_get ys n ≡ Some y → slice_get (joined f xs ys) n ≡ Some (f x y)
  joined_at [] ys n x y e g = absurd (cc e)
  joined_at (a ∷ xs) [] n x y e g = absurd (cc g)
  joined_at (a ∷ xs) (b ∷ ys) zero x y e g = let p : a ≡ x = cc e in let q : b ≡ y = cc g in λ i. Some (f (p i) (q i))
  joined_at (a ∷ xs) (b ∷ ys) (suc n) x y e g = joined_at xs ys n x y e g

other_at : {X Y : Type 0} (xs : List X) (ys : List Y) (n : ℕ) (y : Y) → length ys ≡ length xs → slice_get ys n ≡ Some y → (x : X) × (slice_get xs n ≡ Some x)
other_at xs [] n y long e = absurd (cc e)
other_at [] (b ∷ ys) n y long e = absurd (omega (arith, long))
other_at (a ∷ xs) (b ∷ ys) zero y long e = (a, refl)
other_at (a ∷ xs) (b ∷ ys) (suc n) y long e = other_at xs ys n y (omega (arith, long)) e

-- what is the same of two lists is the same of their elements
part_on : {X Y : Type 0} (f : X → Y) (n : ℕ) (xs ys : List X) (x y : X) → map f ys ≡ map f xs → slice_get xs n ≡ Some x → slice_get ys n ≡ Some y → f y ≡ f x
part_on f n [] ys x y e g h = absurd (cc g)
part_on f n (a ∷ xs) [] x y e g h = absurd (cc h)
part_on f zero (a ∷ xs) (b ∷ ys) x y e g h = let same : f b ≡ f a = cc e in let p : a ≡ x = cc g in let q : b ≡ y = cc h in sym (ap f q) ∙ same ∙ ap f p
part_on f (suc n) (a ∷ xs) (b ∷ ys) x y e g h = let tail : map f ys ≡ map f xs = cc e in part_on f n xs ys x y tail g h

-- ------------------------------------------------------------ guests of two lists

abbrev zipped : List DriverView → List DeviceView → List GuestView
zipped vs ds = joined guest_of vs ds

zipped_is : (rs : List GuestView) → zipped (drivers_of rs) (devices_of rs) ≡ rs
zipped_is [] = refl
zipped_is (r ∷ rs) = ap (λ (xs : List GuestView). r ∷ xs) (zipped_is rs)

-- ------------------------------------------------------------ one link

module _ (vs : List DriverView) (ds ds' : List DeviceView) (from to : ℕ) (long : length ds ≡ length vs) (p : LinkPassedOn from to ds ds') where
  v : (x : DriverView) × (slice_get vs from ≡ Some x)
  v = other_at vs ds from p.on.sender long p.on.sender_at

  w : (x : DriverView) × (slice_get vs to ≡ Some x)
  w = other_at vs ds to p.on.receiver long p.on.receiver_at

  zipped_as : zipped vs ds' ≡ set (set (zipped vs ds) from (guest_of v.0 p.sender')) to (guest_of w.0 p.receiver')
  zipped_as = ap (λ (xs : List DeviceView). zipped vs xs) p.is ∙ joined_set guest_of vs (set ds from p.sender') to w.0 p.receiver' w.1 ∙ ap (λ (xs : List GuestView). set xs to (guest_of w.0 p.receiver')) (joined_set guest_of vs ds from v.0 p.sender' v.1)

  told_one : LinkTold from to (zipped vs ds) (zipped vs ds')
  told_one = record {
    sender = guest_of v.0 p.on.sender;
    sender_at = joined_at guest_of vs ds from v.0 p.on.sender v.1 p.on.sender_at;
    receiver = guest_of w.0 p.on.receiver;
    receiver_at = joined_at guest_of vs ds to w.0 p.on.receiver w.1 p.on.receiver_at;
    sender' = p.sender';
    receiver' = p.receiver';
    passed = p.passed;
    is = zipped_as;
  }

  keeps_one : AllKeep (zipped vs ds) → AllKeep (zipped vs ds')
  keeps_one k =
      let s = all_at (λ (r : GuestView). BothKeep r.driver r.device) (zipped vs ds) from (guest_of v.0 p.on.sender) (joined_at guest_of vs ds from v.0 p.on.sender v.1 p.on.sender_at) k in
      let r = all_at (λ (r : GuestView). BothKeep r.driver r.device) (zipped vs ds) to (guest_of w.0 p.on.receiver) (joined_at guest_of vs ds to w.0 p.on.receiver w.1 p.on.receiver_at) k in
      let s' : BothKeep v.0 p.sender' = record { driver = s.driver; settled = s.settled; few = s.few; device = p.sender_keeps } in
      let r' : BothKeep w.0 p.receiver' = record { driver = r.driver; settled = r.settled; few = r.few; device = p.receiver_keeps } in
      subst AllKeep (sym zipped_as) (all_set (λ (r : GuestView). BothKeep r.driver r.device) (set (zipped vs ds) from (guest_of v.0 p.sender')) to (guest_of w.0 p.receiver') r'
      (all_set (λ (r : GuestView). BothKeep r.driver r.device) (zipped vs ds) from (guest_of v.0 p.sender') s' k))

  long_one : length ds' ≡ length ds
  long_one = ap length p.is ∙ length-set (set ds from p.sender') to p.receiver' ∙ length-set ds from p.sender'

-- ------------------------------------------------------------ all links to a port

long_from : (vs : List DriverView) (k to : ℕ) (ds ds' : List DeviceView) → length ds ≡ length vs → LinksPassedFrom k to ds ds' → length ds' ≡ length vs
long_from vs zero to ds ds' long h = ap length h ∙ long
long_from vs (suc k) to ds ds' long (mid, before, h) =
    let most = long_from vs k to ds mid long before in elim (eqb_tells k to) [
      | inl same ↦ ap length (h.own same.1) ∙ most
      | inr away ↦ long_one vs mid ds' k to most (h.another (away.1)) ∙ most
    ]

told_from : (vs : List DriverView) (k to : ℕ) (ds ds' : List DeviceView) → length ds ≡ length vs → LinksPassedFrom k to ds ds' → LinksTold to k (zipped vs ds) (zipped vs ds')
told_from vs zero to ds ds' long h = ap (λ (xs : List DeviceView). zipped vs xs) h
told_from vs (suc k) to ds ds' long (mid, before, h) =
    let most = long_from vs k to ds mid long before in let so_far = told_from vs k to ds mid long before in elim (eqb_tells k to) [
      | inl same ↦ (zipped vs mid, so_far, inl (same.1, ap (λ (xs : List DeviceView). zipped vs xs) (h.own same.1)))
      | inr away ↦ (zipped vs mid, so_far, inr (told_one vs mid ds' k to most (h.another (away.1))))
    ]

keeps_from : (vs : List DriverView) (k to : ℕ) (ds ds' : List DeviceView) → length ds ≡ length vs → LinksPassedFrom k to ds ds' → AllKeep (zipped vs ds) → AllKeep (zipped vs ds')
keeps_from vs zero to ds ds' long h k = subst (λ (xs : List DeviceView). AllKeep (zipped vs xs)) (sym h) k
keeps_from vs (suc n) to ds ds' long (mid, before, h) k =
    let most = long_from vs n to ds mid long before in let so_far = keeps_from vs n to ds mid long before k in elim (eqb_tells n to) [
      | inl same ↦ subst (λ (xs : List DeviceView). AllKeep (zipped vs xs)) (sym (h.own same.1)) so_far
      | inr away ↦ keeps_one vs mid ds' n to most (h.another (away.1)) so_far
    ]

-- ------------------------------------------------------------ notes between guests

as_long : (rs : List GuestView) → length (devices_of rs) ≡ length (drivers_of rs)
as_long rs = length-map rs (λ (r : GuestView). r.device) ∙ sym (length-map rs (λ (r : GuestView). r.driver))

zipped_after : (rs rs' : List GuestView) → drivers_of rs' ≡ drivers_of rs → zipped (drivers_of rs) (devices_of rs') ≡ rs'
zipped_after rs rs' e = ap (λ (vs : List DriverView). zipped vs (devices_of rs')) (sym e) ∙ zipped_is rs'

pub one_told : (from to : ℕ) (rs rs' : List GuestView) → LinkOn from to rs rs' → LinkTold from to rs rs'
one_told from to rs rs' l = subst (λ (x : List GuestView × List GuestView). LinkTold from to x.0 x.1) (λ i. (zipped_is rs i, zipped_after rs rs' l.drivers i)) (told_one (drivers_of rs) (devices_of rs) (devices_of rs') from to (as_long rs) l.devices)

pub all_told : (to : ℕ) (rs rs' : List GuestView) → LinksOn to rs rs' → LinksTold to (length rs) rs rs'
all_told to rs rs' l = subst (λ (x : ℕ × List GuestView × List GuestView). LinksTold to x.0 x.1 x.2) (λ i. (length-map rs (λ (r : GuestView). r.device) i, zipped_is rs i, zipped_after rs rs' l.drivers i))
    (told_from (drivers_of rs) (length (devices_of rs)) to (devices_of rs) (devices_of rs') (as_long rs) l.devices)

-- what always holds of the actors holds after them
pub link_keeps : (from to : ℕ) (rs rs' : List GuestView) → LinkOn from to rs rs' → AllKeep rs → AllKeep rs'
link_keeps from to rs rs' l k = subst AllKeep (zipped_after rs rs' l.drivers) (keeps_one (drivers_of rs) (devices_of rs) (devices_of rs') from to (as_long rs) l.devices (subst AllKeep (sym (zipped_is rs)) k))

pub links_keep : (to : ℕ) (rs rs' : List GuestView) → LinksOn to rs rs' → AllKeep rs → AllKeep rs'
links_keep to rs rs' l k = subst AllKeep (zipped_after rs rs' l.drivers) (keeps_from (drivers_of rs) (length (devices_of rs)) to (devices_of rs) (devices_of rs') (as_long rs) l.devices (subst AllKeep (sym (zipped_is rs)) k))

-- the driver at a port is as it was
pub driver_on : (n : ℕ) (xs ys : List GuestView) (x y : GuestView) → drivers_of ys ≡ drivers_of xs → slice_get xs n ≡ Some x → slice_get ys n ≡ Some y → y.driver ≡ x.driver
driver_on n xs ys x y e g h = part_on (λ (r : GuestView). r.driver) n xs ys x y e g h
