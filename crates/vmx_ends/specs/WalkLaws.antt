-- What the walk by known numbers is, in the words of the contract.
use Rattle.std.proofs.Common.{◌≡◌, ◌≢◌, ℕ, zero, suc, ◌+◌, ◌-◌, ◌*◌, ◌/◌, ◌%◌, ◌<◌, ◌≤◌, ◌⊎◌, inl, inr, List, [], ◌∷◌, ◌++◌, length, Bool, true, false, true≢false, cond, not, ◌==◌, sym, refl, ap, ap₂, ◌∙◌, subst, ⊎_elim, arith, nat_lt, Option, Some, None, All, length-append, mod-eq_of_lt, mod-lt}
use Rattle.std.proofs.Math.Nat.{mul-mod_left, add-mod_right, mod-add-div'}
use Rattle.std.proofs.lemmas.Bool.{ltb-true, ltb-false}
use Rattle.std.proofs.lemmas.List.Elements.{All-nil}
use mathlib.Core.Logic.{dite}
use native.Mathlib.Decide.{ℕ_discrete}
use Rattle.vmx_layout.specs.declared.TheConstants.{RX_DESC_GENERATION_BIT}
use Rattle.vmx_ends.specs.declared.made.RxMade.{RxMade}
use Rattle.vmx_ends.specs.declared.made.Bodies.{Bodies}
use Rattle.vmx_ends.specs.declared.made.Bodies.TheVariants.{Every}
use Rattle.vmx_ends.specs.Receive.{is_body_index, is_body, in_ring}
use Rattle.vmx_ends.specs.Words.{IsMissed, missed_word}
use Rattle.vmx_ends.specs.Walk.{Stand, at_head, from_two, by_load, further, walk, AreBodies, IsHead}
use Rattle.vmx_ends.specs.Core.{head_from, finding, goes, takes, misses, ended, outcome}
use Rattle.vmx_ends.specs.WalkCounts.{head_from_up, counts_head, counts_goes}
use Rattle.vmx_ends.specs.LookWords.{missed_is}
use Rattle.vmx_ends.specs.Alls.{all_more}
use Rattle.vmx_ends.specs.WalkByNumbers.{head_most}

pub bodies_below : (m : RxMade) (fuel p q : ℕ) → p ≤ q → q < head_from m fuel p → is_body m q ≡ true
bodies_below m zero p q le less = absurd (omega arith)
bodies_below m (suc fuel) p q le less = by_case (is_body m p) refl (λ far. bodies_below m fuel (suc p) q far) less
  where
    by_case : (b : Bool) → is_body m p ≡ b → (suc p ≤ q → q < head_from m fuel (suc p) → is_body m q ≡ true) → q < cond b (head_from m fuel (suc p)) p → is_body m q ≡ true
    by_case true e later less' = dite (ℕ_discrete q p) (λ here. ap (is_body m) here ∙ e) (λ other. later (omega arith) less')
    by_case false e later less' = absurd (omega arith)

head_ends : (m : RxMade) (fuel p : ℕ) → (is_body m (head_from m fuel p) ≡ false) ⊎ (head_from m fuel p ≡ p + fuel)
head_ends m zero p = inr (omega arith)
head_ends m (suc fuel) p = by_case (is_body m p) refl (head_ends m fuel (suc p))
  where
    by_case : (b : Bool) → is_body m p ≡ b → (is_body m (head_from m fuel (suc p)) ≡ false) ⊎ (head_from m fuel (suc p) ≡ suc p + fuel)
        → (is_body m (cond b (head_from m fuel (suc p)) p) ≡ false) ⊎ (cond b (head_from m fuel (suc p)) p ≡ p + suc fuel)
    by_case true e later = ⊎_elim inl (λ far. inr (omega arith)) later
    by_case false e later = inl e

-- the buffer 0 of ring 1 is HEAD
pub first_is_head : (m : RxMade) (bodies q : ℕ) → m.bodies ≡ Every bodies → q % m.size1 ≡ 0 → is_body m q ≡ false
first_is_head m bodies q every e = ap₂ (λ (k : Bodies) (z : ℕ). is_body_index k z) every e ∙ (let low : 0 < bodies + 1 = omega arith in ap (λ (z : ℕ). not (z == 0)) (mod-eq_of_lt low))

pub head_near : (m : RxMade) (bodies p : ℕ) → m.bodies ≡ Every bodies → 0 < m.size1 → (q : ℕ) × (p ≤ q) × (q < p + m.size1) × (is_body m q ≡ false)
head_near m bodies p every pos = let s : ℕ = m.size1 in let low = mod-lt p pos in dite (ℕ_discrete (p % s) 0)
    (λ here. (p, omega arith, omega arith, first_is_head m bodies p every here))
    (λ other. let t : ℕ = p / s * s in let parts : p % s + t ≡ p = mod-add-div' p s in (t + s, omega arith, omega arith, first_is_head m bodies (t + s) every (add-mod_right t s ∙ mul-mod_left (p / s) s)))

pub head_is : (m : RxMade) (bodies p : ℕ) → m.bodies ≡ Every bodies → 0 < m.size1 → IsHead m p (head_from m m.size1 p)
head_is m bodies p every pos = (
  (head_from_up m m.size1 p, bodies_below m m.size1 p),
  ⊎_elim (λ e. e)
      (λ far. let near = head_near m bodies p every pos in let le = near.1 in let less = near.2 in absurd (true≢false (sym (bodies_below m m.size1 p near.0 le (omega arith)) ∙ near.3)))
      (head_ends m m.size1 p),
)

abbrev pub IsLookAt : RxMade → ℕ → ℕ × ℕ → Type 0
IsLookAt m posted1 look = IsMissed RX_DESC_GENERATION_BIT m.size1 look.0 look.1 × (posted1 ≤ look.0)

module _ (m : RxMade) (posted1 posted2 : ℕ) where
  looks_further : (a : Stand) → All (IsLookAt m posted1) a.looks → All (IsLookAt m posted1) (further m a (finding m posted1 a)).looks
  looks_further a all = by_body (is_body m a.next1)
    where
      by_load_ : (b : Bool) → nat_lt a.next1 posted1 ≡ b → All (IsLookAt m posted1) (by_load a (cond b None (Some (missed_word 31 m.size1 a.next1)))).looks
      by_load_ true e = all
      by_load_ false e = all_more (IsLookAt m posted1) a.looks _ all (missed_is _ _, ltb-false _ _ e)

      by_body : (b : Bool) → All (IsLookAt m posted1) (cond b (by_load a (finding m posted1 a)) (from_two a)).looks
      by_body true = by_load_ (nat_lt a.next1 posted1) refl
      by_body false = all

  looks_goes : (n : ℕ) (a : Stand) → All (IsLookAt m posted1) a.looks → All (IsLookAt m posted1) (goes m posted1 posted2 n a).looks
  looks_goes zero a all = all
  looks_goes (suc n) a all = let b : Stand = further m a (finding m posted1 a) in let more = looks_further a all in by_case (nat_lt posted2 b.next2) _ _ more (looks_goes n b more)
    where
      by_case : (c : Bool) (x y : Stand) → All (IsLookAt m posted1) x.looks → All (IsLookAt m posted1) y.looks → All (IsLookAt m posted1) (cond c x y).looks
      by_case true x y p q = p
      by_case false x y p q = q

  -- what the loads found
  pub record Found (n : ℕ) (a end : Stand) : Type 0 where
    pub found : List (Option ℕ)
    pub walked : end ≡ walk m a found
    pub most : length found ≤ n
    pub all : end.next2 ≤ posted2 → length found ≡ n
    pub long : length end.chain ≡ length a.chain + length found
    pub last : posted2 < end.next2 → a.next2 ≤ posted2 → (front : List (ℕ × ℕ)) × (end.chain ≡ front ++ (2, posted2) ∷ [])

  goes_found : (n : ℕ) (a : Stand) → Found n a (goes m posted1 posted2 n a)
  goes_found zero a = record { found = []; walked = refl; most = omega arith; all = λ _. refl; long = omega arith; last = λ less le. absurd (omega arith) }
  goes_found (suc n) a = let f : Option ℕ = finding m posted1 a in let b : Stand = further m a f in by_case f (nat_lt posted2 b.next2) refl (goes_found n b)
    where
      long_body : (f : Option ℕ) → length (by_load a f).chain ≡ length a.chain + 1
      long_body None = length-append a.chain _
      long_body (Some w) = length-append a.chain _

      long_on : (f : Option ℕ) (c : Bool) → length (cond c (by_load a f) (from_two a)).chain ≡ length a.chain + 1
      long_on f true = long_body f
      long_on f false = length-append a.chain _

      end_body : (f : Option ℕ) → posted2 < (by_load a f).next2 → a.next2 ≤ posted2 → (front : List (ℕ × ℕ)) × ((by_load a f).chain ≡ front ++ (2, posted2) ∷ [])
      end_body None less le = absurd (omega arith)
      end_body (Some w) less le = let e : a.next2 ≡ posted2 = omega arith in (a.chain, ap (λ (z : ℕ). a.chain ++ (2, z) ∷ []) e)

      end_on : (f : Option ℕ) (c : Bool) → posted2 < (cond c (by_load a f) (from_two a)).next2 → a.next2 ≤ posted2 → (front : List (ℕ × ℕ)) × ((cond c (by_load a f) (from_two a)).chain ≡ front ++ (2, posted2) ∷ [])
      end_on f true less le = end_body f less le
      end_on f false less le = let e : a.next2 ≡ posted2 = omega arith in (a.chain, ap (λ (z : ℕ). a.chain ++ (2, z) ∷ []) e)

      by_case : (f : Option ℕ) (c : Bool) → nat_lt posted2 (further m a f).next2 ≡ c → Found n (further m a f) (goes m posted1 posted2 n (further m a f)) → Found (suc n) a (cond c (further m a f) (goes m posted1 posted2 n (further m a f)))
      by_case f true e r = let less = ltb-true _ _ e in let long = long_on f (is_body m a.next1) in
          record { found = f ∷ []; walked = refl; most = omega arith; all = λ le. absurd (omega arith); long = omega arith; last = λ _ le. end_on f (is_body m a.next1) less le }
      by_case f false e r = let few = ltb-false _ _ e in let most = r.most in let long = long_on f (is_body m a.next1) in let more = r.long in
          record { found = f ∷ r.found; walked = r.walked; most = omega arith; all = λ le. let z = r.all le in omega arith; long = omega arith; last = λ less _. r.last less few }

takes_is : {a b : ℕ} {x y : Stand} → takes a x ≡ takes b y → (a ≡ b) × (x ≡ y)
takes_is e = (cc (e), cc (e))

not_takes : {a b c : ℕ} {ls : List (ℕ × ℕ)} {y : Stand} → misses a b ls ≢ takes c y
not_takes e = cc (e)

not_misses : {a b c : ℕ} {ls : List (ℕ × ℕ)} {y : Stand} → takes c y ≢ misses a b ls
not_misses e = cc (e)

misses_all : {a b c d : ℕ} {x y : List (ℕ × ℕ)} → misses a b x ≡ misses c d y → (a ≡ c) × (b ≡ d) × (x ≡ y)
misses_all e = (cc (e), cc (e), cc (e))

-- a walk that goes through
pub record Through (m : RxMade) (c1 c2 posted1 posted2 n passed : ℕ) (end : Stand) : Type 0 where
  pub found : List (Option ℕ)
  pub as_many : length found ≡ n
  pub head : IsHead m c1 (c1 + passed)
  pub walked : end ≡ walk m (at_head (c1 + passed) c2) found
  pub looked : All (IsLookAt m posted1) end.looks
  pub next1 : end.next1 ≤ posted1
  pub next2 : end.next2 ≤ posted2
  pub sum1 : c1 + (passed + in_ring 1 end.chain) ≡ end.next1
  pub sum2 : c2 + in_ring 2 end.chain ≡ end.next2
  pub pieces : length end.chain ≡ suc n
  pub near : passed ≤ m.size1

-- a walk that misses a piece of ring 2
pub record Short (m : RxMade) (c1 c2 posted1 posted2 n : ℕ) (looks : List (ℕ × ℕ)) : Type 0 where
  pub passed : ℕ
  pub found : List (Option ℕ)
  pub not_all : length found ≤ n
  pub head : IsHead m c1 (c1 + passed)
  pub end : Stand
  pub walked : end ≡ walk m (at_head (c1 + passed) c2) found
  pub needed : (front : List (ℕ × ℕ)) × (end.chain ≡ front ++ (2, posted2) ∷ [])
  pub looks_are : looks ≡ end.looks
  pub looked : All (IsLookAt m posted1) looks
  pub next1 : end.next1 ≤ posted1

module _ (m : RxMade) (bodies c1 c2 posted1 posted2 n : ℕ) (every : m.bodies ≡ Every bodies) (pos : 0 < m.size1) where
  abbrev h : ℕ
  h = head_from m m.size1 c1

  abbrev last : Stand
  last = goes m posted1 posted2 n (at_head h c2)

  back : c1 + (h - c1) ≡ h
  back = let up = head_from_up m m.size1 c1 in omega arith

  through_of : h < posted1 → last.next2 ≤ posted2 → Through m c1 c2 posted1 posted2 n (h - c1) last
  through_of less few = let f = goes_found m posted1 posted2 n (at_head h c2) in let c = counts_goes m h c2 posted1 posted2 n (at_head h c2) (counts_head m h c2 posted1 less) in
      let one = c.one in let two = c.two in let b = back in let long = f.long in let most = head_most m m.size1 c1 in let all = f.all few in record {
        found = f.found;
        as_many = all;
        head = subst (IsHead m c1) (sym back) (head_is m bodies c1 every pos);
        walked = f.walked ∙ ap (λ (z : ℕ). walk m (at_head z c2) f.found) (sym back);
        looked = looks_goes m posted1 posted2 n (at_head h c2) (All-nil (IsLookAt m posted1));
        next1 = c.within;
        next2 = few;
        sum1 = omega arith;
        sum2 = two;
        pieces = omega arith;
        near = omega arith;
      }

  short_of : h < posted1 → c2 ≤ posted2 → posted2 < last.next2 → Short m c1 c2 posted1 posted2 n last.looks
  short_of less le many = let f = goes_found m posted1 posted2 n (at_head h c2) in let c = counts_goes m h c2 posted1 posted2 n (at_head h c2) (counts_head m h c2 posted1 less) in record {
    passed = h - c1;
    found = f.found;
    not_all = f.most;
    head = subst (IsHead m c1) (sym back) (head_is m bodies c1 every pos);
    end = last;
    walked = f.walked ∙ ap (λ (z : ℕ). walk m (at_head z c2) f.found) (sym back);
    needed = f.last many le;
    looks_are = refl;
    looked = looks_goes m posted1 posted2 n (at_head h c2) (All-nil (IsLookAt m posted1));
    next1 = c.within;
  }

  pub through : (passed : ℕ) (end : Stand) → outcome m c1 c2 posted1 posted2 n ≡ takes passed end → Through m c1 c2 posted1 posted2 n passed end
  through passed end = by_head (nat_lt h posted1) refl
    where
      by_end : (b : Bool) → nat_lt posted2 last.next2 ≡ b → h < posted1 → cond b (misses 2 posted2 last.looks) (takes (h - c1) last) ≡ takes passed end → Through m c1 c2 posted1 posted2 n passed end
      by_end true e less is = absurd (not_takes is)
      by_end false e less is = let same = takes_is is in subst (λ (z : ℕ × Stand). Through m c1 c2 posted1 posted2 n z.0 z.1) (λ i. (same.0 i, same.1 i)) (through_of less (ltb-false _ _ e))

      by_head : (b : Bool) → nat_lt h posted1 ≡ b → cond b (ended (h - c1) posted2 last) (misses 1 posted1 []) ≡ takes passed end → Through m c1 c2 posted1 posted2 n passed end
      by_head true e is = by_end (nat_lt posted2 last.next2) refl (ltb-true _ _ e) is
      by_head false e is = absurd (not_takes is)

  pub short : (ring p : ℕ) (looks : List (ℕ × ℕ)) → c1 ≤ posted1 → c2 ≤ posted2 → outcome m c1 c2 posted1 posted2 n ≡ misses ring p looks
      → ((1 ≡ ring) × (posted1 ≡ p) × ([] ≡ looks) × AreBodies m c1 posted1) ⊎ ((2 ≡ ring) × (posted2 ≡ p) × Short m c1 c2 posted1 posted2 n looks)
  short ring p looks le1 le2 = by_head (nat_lt h posted1) refl
    where
      by_end : (b : Bool) → nat_lt posted2 last.next2 ≡ b → h < posted1 → cond b (misses 2 posted2 last.looks) (takes (h - c1) last) ≡ misses ring p looks
          → ((1 ≡ ring) × (posted1 ≡ p) × ([] ≡ looks) × AreBodies m c1 posted1) ⊎ ((2 ≡ ring) × (posted2 ≡ p) × Short m c1 c2 posted1 posted2 n looks)
      by_end true e less is = let same = misses_all is in inr (same.0, same.1, subst (Short m c1 c2 posted1 posted2 n) same.2 (short_of less le2 (ltb-true _ _ e)))
      by_end false e less is = absurd (not_misses is)

      by_head : (b : Bool) → nat_lt h posted1 ≡ b → cond b (ended (h - c1) posted2 last) (misses 1 posted1 []) ≡ misses ring p looks
          → ((1 ≡ ring) × (posted1 ≡ p) × ([] ≡ looks) × AreBodies m c1 posted1) ⊎ ((2 ≡ ring) × (posted2 ≡ p) × Short m c1 c2 posted1 posted2 n looks)
      by_head true e is = by_end (nat_lt posted2 last.next2) refl (ltb-true _ _ e) is
      by_head false e is = let same = misses_all is in let far = ltb-false _ _ e in inl (same.0, same.1, same.2, (le1, λ q le less. bodies_below m m.size1 c1 q le (omega arith)))
