-- Runs of buffers, and the frames that have them.
use Rattle.std.proofs.Common.{◌≡◌, ℕ, zero, suc, ◌+◌, ◌-◌, ◌<◌, ◌≤◌, List, [], ◌∷◌, ◌++◌, length, take, drop, get_or, true, sym, refl, ap, ap₂, ◌∙◌, subst, arith, mod-eq_of_lt}
use Rattle.std.proofs.Math.Nat.{add-mod_right}
use Rattle.std.proofs.lemmas.List.{map-append, length-map, length_push, take-append-le, take_more, get_or_append_left, get_or_at}
use mathlib.Core.Logic.{dite}
use native.Mathlib.Decide.{dec_lt}
use Rattle.vmx_ends.specs.Receive.{is_body_index, used, took1, took2}
use Rattle.vmx_ends.specs.WalkCounts.{used-append}
use Rattle.vmx_ends.specs.declared.frames.Delivery.{Delivery}
use Rattle.vmx_ends.specs.declared.made.RxMade.{RxMade}
use Rattle.vmx_ends.specs.declared.made.Bodies.{Bodies}
use Rattle.vmx_queue_reference.specs.declared.rx.Buffer.{Buffer}
use Rattle.vmx_queue_reference.specs.declared.rx.RxFrame.{RxFrame}
use Rattle.vmx_queue_reference.specs.PlainSupplies.{buffer1, buffer2, run_of, as_delivery, deliveries, IsKept, AreKept}

module _ (f : ℕ → Buffer) where
  pub run_long : (from n : ℕ) → length (run_of f from n) ≡ n
  run_long from zero = refl
  run_long from (suc n) = ap suc (run_long (suc from) n)

  pub run_at : (from n i : ℕ) (d : Buffer) → i < n → get_or (run_of f from n) i d ≡ f (from + i)
  run_at from zero i d less = absurd (omega arith)
  run_at from (suc n) zero d less = let e : from ≡ from + 0 = omega arith in ap f e
  run_at from (suc n) (suc i) d less = run_at (suc from) n i d (omega arith) ∙ (let e : suc from + i ≡ from + suc i = omega arith in ap f e)

  pub run_take : (from n k : ℕ) → k ≤ n → take k (run_of f from n) ≡ run_of f from k
  run_take from n zero le = refl
  run_take from zero (suc k) le = absurd (omega arith)
  run_take from (suc n) (suc k) le = ap (λ (l : List Buffer). f from ∷ l) (run_take (suc from) n k (omega arith))

  pub run_drop : (from n k : ℕ) → k ≤ n → drop k (run_of f from n) ≡ run_of f (from + k) (n - k)
  run_drop from n zero le = let a : from ≡ from + 0 = omega arith in let b : n ≡ n - 0 = omega arith in ap₂ (λ (x y : ℕ). run_of f x y) a b
  run_drop from zero (suc k) le = absurd (omega arith)
  run_drop from (suc n) (suc k) le = run_drop (suc from) n k (omega arith) ∙ (let a : suc from + k ≡ from + suc k = omega arith in let b : n - k ≡ suc n - suc k = omega arith in ap₂ (λ (x y : ℕ). run_of f x y) a b)

  pub run_join : (from n k : ℕ) → run_of f from n ++ run_of f (from + n) k ≡ run_of f from (n + k)
  run_join from zero k = let a : from + 0 ≡ from = omega arith in let b : k ≡ 0 + k = omega arith in ap₂ (λ (x y : ℕ). run_of f x y) a b
  run_join from (suc n) k = let a : from + suc n ≡ suc from + n = omega arith in let b : suc (n + k) ≡ suc n + k = omega arith in
      ap (λ (z : ℕ). f from ∷ (run_of f (suc from) n ++ run_of f z k)) a ∙ ap (λ (l : List Buffer). f from ∷ l) (run_join (suc from) n k) ∙ ap (λ (z : ℕ). run_of f from z) b

  pub run_more : (from n : ℕ) → run_of f from (n + 1) ≡ run_of f from n ++ f (from + n) ∷ []
  run_more from n = sym (run_join from n 1)

  pub run_round : (s : ℕ) → ((p : ℕ) → f (p + s) ≡ f p) → (from n : ℕ) → run_of f (from + s) n ≡ run_of f from n
  run_round s round from zero = refl
  run_round s round from (suc n) = let e : suc (from + s) ≡ suc from + s = omega arith in
      ap₂ (λ (b : Buffer) (l : List Buffer). b ∷ l) (round from) (ap (λ (z : ℕ). run_of f z n) e ∙ run_round s round (suc from) n)

-- the buffer of an index of ring 1
abbrev numbered : Bodies → ℕ → Buffer
numbered b i = record { number = i; body = is_body_index b i }

abbrev numbered2 : ℕ → Buffer
numbered2 i = record { number = i; body = true }

pub round1 : (m : RxMade) (p : ℕ) → buffer1 m (p + m.size1) ≡ buffer1 m p
round1 m p = ap (numbered m.bodies) (add-mod_right p m.size1)

pub round2 : (m : RxMade) (p : ℕ) → buffer2 m (p + m.size2) ≡ buffer2 m p
round2 m p = ap numbered2 (add-mod_right p m.size2)

pub low1 : (m : RxMade) (p : ℕ) → p < m.size1 → numbered m.bodies p ≡ buffer1 m p
low1 m p less = sym (ap (numbered m.bodies) (mod-eq_of_lt less))

pub low2 : (m : RxMade) (p : ℕ) → p < m.size2 → numbered2 p ≡ buffer2 m p
low2 m p less = sym (ap numbered2 (mod-eq_of_lt less))

-- one frame more
pub deliveries_more : (ds : List RxFrame) (x : RxFrame) → deliveries (ds ++ x ∷ []) ≡ deliveries ds ++ as_delivery x ∷ []
deliveries_more ds x = map-append as_delivery ds (x ∷ [])

pub long_deliveries : (ds : List RxFrame) → length (deliveries ds) ≡ length ds
long_deliveries ds = length-map ds as_delivery

pub take_before : (ds : List RxFrame) (x : RxFrame) (i : ℕ) → i ≤ length ds → take i (deliveries (ds ++ x ∷ [])) ≡ take i (deliveries ds)
take_before ds x i le = let long = long_deliveries ds in ap (take i) (deliveries_more ds x) ∙ take-append-le i (deliveries ds) (as_delivery x ∷ []) (omega arith)

pub used_more : (g : Delivery → ℕ) (ds : List RxFrame) (x : RxFrame) → used g (deliveries (ds ++ x ∷ [])) ≡ used g (deliveries ds) + g (as_delivery x)
used_more g ds x = let a = ap (used g) (deliveries_more ds x) in let b = used-append g (deliveries ds) (as_delivery x ∷ []) in omega arith

at_frame : (ds : List RxFrame) (i : ℕ) (d : RxFrame) → i < length ds → get_or (deliveries ds) i (as_delivery d) ≡ as_delivery (get_or ds i d)
at_frame [] i d less = absurd (omega arith)
at_frame (x ∷ xs) zero d less = refl
at_frame (x ∷ xs) (suc i) d less = at_frame xs i d (omega arith)

pub used_next : (g : Delivery → ℕ) (ds : List RxFrame) (i : ℕ) (d : RxFrame) → i < length ds → used g (take (i + 1) (deliveries ds)) ≡ used g (take i (deliveries ds)) + g (as_delivery (get_or ds i d))
used_next g ds i d less = let long = long_deliveries ds in let a = ap (used g) (take_more (deliveries ds) i (as_delivery d) (omega arith)) in let b = used-append g (take i (deliveries ds)) (get_or (deliveries ds) i (as_delivery d) ∷ []) in
    let c = ap g (at_frame ds i d less) in omega arith

take_all : {A : Type 0} (xs ys : List A) → take (length xs) (xs ++ ys) ≡ xs
take_all [] ys = refl
take_all (x ∷ xs) ys = ap (λ l. x ∷ l) (take_all xs ys)

pub kept_more : (m : RxMade) (ds : List RxFrame) (x : RxFrame) → AreKept m ds → IsKept m (used took1 (deliveries ds)) (used took2 (deliveries ds)) x → AreKept m (ds ++ x ∷ [])
kept_more m ds x all one i d less = dite (dec_lt i (length ds))
    (λ low. subst (λ (z : List Delivery × RxFrame). IsKept m (used took1 z.0) (used took2 z.0) z.1) (λ j. (sym (take_before ds x i (omega arith)) j, sym (get_or_append_left ds (x ∷ []) d i low) j)) (all i d low))
    (λ high. let long = length_push ds x in let last : length ds ≡ i = omega arith in let k : i ≡ length (deliveries ds) = sym last ∙ sym (long_deliveries ds) in
    subst (λ (z : List Delivery × RxFrame). IsKept m (used took1 z.0) (used took2 z.0) z.1)
    (λ j. (sym (ap (take i) (deliveries_more ds x) ∙ ap (λ (n : ℕ). take n (deliveries ds ++ as_delivery x ∷ [])) k ∙ take_all (deliveries ds) (as_delivery x ∷ [])) j, sym (get_or_at ds x [] d i last) j)) one)
