-- The links out of each port go to all others in order, and those to it come from them.
use Rattle.std.proofs.Common.{◌≡◌, ◌≢◌, ℕ, zero, suc, ◌+◌, ◌<◌, ◌≤◌, Bool, true, false, List, [], ◌∷◌, ◌++◌, length, map, refl, ap, ap₂, sym, ◌∙◌, arith, nat_eq, Option, Some, None, if◌then◌else◌, inl, inr}
use Rattle.std.specs.List.{filter, filter_map, flat_map, slice_get, AllByRecursion}
use Rattle.std.proofs.lemmas.Bool.Decides.{eqb_tells, nat_tests}
use Rattle.std.proofs.lemmas.List.{map-append}
use Rattle.std.proofs.lemmas.List.Elements.{filter-append}
use Rattle.vmx_link.specs.Views.{LinkOutView, LinkInView}
use Rattle.vmx_model.specs.Bags.{EachQueue}
use Rattle.vmx_model.specs.Lists.{upto}
use Rattle.vmx_model.specs.Account.{link_names}
use Rattle.vmx_model.proofs.Sends.{some_there}
use Rattle.vmx_device_looks.specs.Ports.{other, IsOther}
use Rattle.vmx_device_looks.specs.PortLaws.{other_is, other_not, is_other}
use Rattle.vmx_replay_worlds.specs.Guests.{GuestView}
use Rattle.vmx_replay_worlds.specs.Worlds.{goes_to}
use Rattle.vmx_replay_worlds.specs.Ports.{IsOutOf, IsInTo, IsAtPort, HasAll}
use Rattle.vmx_replay_worlds.proofs.Lists.{each_there}
use Rattle.vmx_replay_worlds.proofs.Queues.{OnlyAt}
use Rattle.vmx_replay_worlds.proofs.Out.{only_out}
use Rattle.vmx_replay_gather.specs.Records.{outs_in_order}

-- ------------------------------------------------------------ all ports but one

other_low : (port j : ℕ) → j < port → other port j ≡ j
other_low port j lt = elim (other_is port j) [ inl h ↦ h.1 | inr h ↦ absurd (let le = h.0 in omega (arith, le, lt)) ]

other_high : (port j : ℕ) → port ≤ j → other port j ≡ suc j
other_high port j le = elim (other_is port j) [ inl h ↦ absurd (let lt = h.0 in omega (arith, le, lt)) | inr h ↦ h.1 ]

module _ {X : Type 0} (port : ℕ) (f : ℕ → X) where
  abbrev pub but : ℕ → Option X
  but n = if nat_eq port n then None else Some (f n)

  above : (j m : ℕ) → port ≤ j → filter_map but (upto (suc j) m) ≡ map (λ (i : ℕ). f (other port i)) (upto j m)
  above j zero le = refl
  above j (suc m) le =
      let ne : port ≡ suc j → ⊥ = λ e. absurd (omega (arith, e, le)) in let no : nat_eq port (suc j) ≡ false = grind (arith, nat_tests) in
      let a : suc j + 1 ≡ suc (j + 1) = omega arith in
      let ih = above (j + 1) m (omega (arith, le)) in
      rw no (ap₂ (λ (t : ℕ) (xs : List X). f t ∷ xs) (sym (other_high port j le)) (ap (λ (n : ℕ). filter_map but (upto n m)) a ∙ ih))

  below : (j m : ℕ) → j ≤ port → port < j + suc m → filter_map but (upto j (suc m)) ≡ map (λ (i : ℕ). f (other port i)) (upto j m)
  below j zero le lt =
      let e : port ≡ j = omega (arith, le, lt) in let yes : nat_eq port j ≡ true = grind (arith, nat_tests) in rw yes refl
  below j (suc m) le lt = elim (eqb_tells port j) [
    | inl same ↦ (
        let a : j + 1 ≡ suc j = omega arith in
        rw same.0 (ap (λ (n : ℕ). filter_map but (upto n (suc m))) a ∙ above j (suc m) (let e = same.1 in omega (arith, e)))
        )
    | inr away ↦ (
        let less : j < port = (let ne = away.1 in omega (arith, le, ne)) in
        rw away.0 (ap₂ (λ (t : ℕ) (xs : List X). f t ∷ xs) (sym (other_low port j less)) (below (j + 1) m (omega (arith, less)) (omega (arith, lt))))
        )
  ]

  -- the other ports of one of so many and one
  pub but_one : (m : ℕ) → port < suc m → filter_map but (upto 0 (suc m)) ≡ map (λ (i : ℕ). f (other port i)) (upto 0 m)
  but_one m lt = below 0 m (omega arith) (omega (arith, lt))

-- ------------------------------------------------------------ the names of links

abbrev pub names_of_end : LinkOutView → ℕ × ℕ
names_of_end o = (o.from, o.to)

row_names : (port k : ℕ) (os : List LinkOutView) → EachQueue (IsOutOf port) k os → map names_of_end os ≡ map (λ (i : ℕ). (port, other port i)) (upto k (length os))
row_names port k [] h = refl
row_names port k (o ∷ os) h =
    let next : suc k ≡ k + 1 = omega arith in let here : names_of_end o ≡ (port, other port k) = λ i. (h.0.0 i, h.0.1 i) in
    ap₂ (λ (x : ℕ × ℕ) (xs : List (ℕ × ℕ)). x ∷ xs) here (row_names port (suc k) os h.1 ∙ ap (λ (n : ℕ). map (λ (i : ℕ). (port, other port i)) (upto n (length os))) next)

pub all_names : (n port : ℕ) (rs : List GuestView) → AllByRecursion (HasAll n) rs → EachQueue IsAtPort port rs → port + length rs ≤ n → map names_of_end (outs_in_order rs) ≡ flat_map (link_names n) (upto port (length rs))
all_names n port [] all at le = refl
all_names n port (r ∷ rs) all at le =
    let many = all.0.out in let next : suc port ≡ port + 1 = omega arith in
    let one : map names_of_end r.device.out ≡ link_names n port =
    row_names port 0 r.device.out at.0.out ∙ sym (but_one port (λ (to : ℕ). (port, to)) (length r.device.out) (omega (arith, le, many))) ∙ ap (λ (k : ℕ). link_names k port) many in
    map-append names_of_end r.device.out (outs_in_order rs)
    ∙ ap₂ (λ (xs ys : List (ℕ × ℕ)). xs ++ ys) one (all_names n (suc port) rs all.1 at.1 (omega (arith, le)) ∙ ap (λ (k : ℕ). flat_map (link_names n) (upto k (length rs))) next)

-- ------------------------------------------------------------ the senders of the links to a port

pub in_names : (port k : ℕ) (is : List LinkInView) → EachQueue (IsInTo port) k is → map (λ (i : LinkInView). i.from) is ≡ map (λ (i : ℕ). other port i) (upto k (length is))
in_names port k [] h = refl
in_names port k (i ∷ is) h =
    let next : suc k ≡ k + 1 = omega arith in
    ap₂ (λ (x : ℕ) (xs : List ℕ). x ∷ xs) h.0.1 (in_names port (suc k) is h.1 ∙ ap (λ (n : ℕ). map (λ (j : ℕ). other port j) (upto n (length is))) next)

filter_none : {X : Type 0} (test : X → Bool) (xs : List X) → AllByRecursion (λ x. test x ≡ false) xs → filter test xs ≡ []
filter_none test [] h = refl
filter_none test (x ∷ xs) h = rw h.0 (filter_none test xs h.1)

filter_only : {X : Type 0} (test : X → Bool) (q : ℕ) (xs : List X) (x : X) → OnlyAt test q xs → slice_get xs q ≡ Some x → filter test xs ≡ x ∷ []
filter_only test q [] x h e = absurd (cc e)
filter_only test zero (y ∷ xs) x h e = let same : y ≡ x = cc e in rw h.0 (ap₂ (λ z zs. z ∷ zs) same (filter_none test xs h.1))
filter_only test (suc q) (y ∷ xs) x h e = rw h.0 (filter_only test q xs x h.1 e)

own_none : (port k : ℕ) (os : List LinkOutView) → EachQueue (IsOutOf port) k os → AllByRecursion (λ (o : LinkOutView). goes_to port o ≡ false) os
own_none port k [] h = tt
own_none port k (o ∷ os) h =
    let is = h.0.1 in let ne : o.to ≡ port → ⊥ = λ e. other_not port k (sym is ∙ e) in let no : nat_eq o.to port ≡ false = grind (arith, nat_tests) in (no, own_none port (suc k) os h.1)

abbrev senders_of : List LinkOutView → List ℕ
senders_of os = map (λ (o : LinkOutView). o.from) os

row_other : (n to port : ℕ) (os : List LinkOutView) → EachQueue (IsOutOf port) 0 os → suc (length os) ≡ n → to < n → port < n → to ≢ port → senders_of (filter (goes_to to) os) ≡ port ∷ []
row_other n to port os h many high low ne =
    let j : IsOther port (length os) to = is_other port (length os) to (omega (arith, low, many)) (omega (arith, high, many)) ne in
    let o = some_there os j.0 j.1 in
    let one = filter_only (goes_to to) j.0 os o.0 (only_out port j.0 to os j.2 h) o.1 in
    ap senders_of one ∙ ap (λ (x : ℕ). x ∷ []) (each_there (IsOutOf port) 0 j.0 j.0 os o.0 (omega arith) h o.1).0

row_own : (port : ℕ) (os : List LinkOutView) → EachQueue (IsOutOf port) 0 os → senders_of (filter (goes_to port) os) ≡ []
row_own port os h = ap senders_of (filter_none (goes_to port) os (own_none port 0 os h))

pub all_senders : (n to port : ℕ) (rs : List GuestView) → to < n → AllByRecursion (HasAll n) rs → EachQueue IsAtPort port rs → port + length rs ≤ n → senders_of (filter (goes_to to) (outs_in_order rs)) ≡ filter_map (but to (λ (x : ℕ). x)) (upto port (length rs))
all_senders n to port [] high all at le = refl
all_senders n to port (r ∷ rs) high all at le =
    let next : suc port ≡ port + 1 = omega arith in
    let more : senders_of (filter (goes_to to) (outs_in_order rs)) ≡ filter_map (but to (λ (x : ℕ). x)) (upto (port + 1) (length rs)) =
    all_senders n to (suc port) rs high all.1 at.1 (omega (arith, le)) ∙ ap (λ (k : ℕ). filter_map (but to (λ (x : ℕ). x)) (upto k (length rs))) next in
    let two : senders_of (filter (goes_to to) (r.device.out ++ outs_in_order rs)) ≡ senders_of (filter (goes_to to) r.device.out) ++ senders_of (filter (goes_to to) (outs_in_order rs)) =
    ap senders_of (filter-append (goes_to to) r.device.out (outs_in_order rs)) ∙ map-append (λ (o : LinkOutView). o.from) (filter (goes_to to) r.device.out) (filter (goes_to to) (outs_in_order rs)) in
    elim (eqb_tells to port) [
      | inl own ↦ (
          let none : senders_of (filter (goes_to to) r.device.out) ≡ [] = ap (λ (k : ℕ). senders_of (filter (goes_to k) r.device.out)) own.1 ∙ row_own port r.device.out at.0.out in
          two ∙ ap₂ (λ (xs ys : List ℕ). xs ++ ys) none more ∙ here true own.0
          )
      | inr away ↦ (
          let one : senders_of (filter (goes_to to) r.device.out) ≡ port ∷ [] = row_other n to port r.device.out at.0.out all.0.out high (omega (arith, le)) away.1 in
          two ∙ ap₂ (λ (xs ys : List ℕ). xs ++ ys) one more ∙ here false away.0
          )
    ]
  where
    here : (b : Bool) → nat_eq to port ≡ b → (if b then [] else port ∷ []) ++ filter_map (but to (λ (x : ℕ). x)) (upto (port + 1) (length rs)) ≡ filter_map (but to (λ (x : ℕ). x)) (upto port (suc (length rs)))
    here true e = rw e refl
    here false e = rw e refl
