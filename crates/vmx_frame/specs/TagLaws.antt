-- What holds of every frame into which a tag is put, and of every frame from which one is taken.
use Rattle.std.proofs.Common.{◌≡◌, ℕ, zero, suc, ◌+◌, ◌*◌, ◌/◌, ◌%◌, ◌<◌, ◌≤◌, ◌^◌, Bool, true, false, List, [], ◌∷◌, ◌++◌, length, take, drop, Some, refl, arith, nat_le, ◌==◌}
use Rattle.std.proofs.lemmas.Bool.Decides.{nat_tests}
use Rattle.std.proofs.lemmas.Bool.{and_parts, eqb-true}
use Rattle.vmx_frame.specs.Bytes.{u16_at}
use Rattle.vmx_frame.specs.Ethernet.{is_tagged, vlan_of, tag_of, class_of}
use Rattle.vmx_frame.specs.Internet.{flow_of}
use Rattle.vmx_frame.specs.Tags.{AreOctets, put_of, without_tag, strip_if, strip_of, with_tag}

-- four bytes more
pub put_length : (f : List ℕ) (t : ℕ) → 14 ≤ length f → length (put_of f t) ≡ length f + 4
unfolding put_of
put_length (b0 ∷ b1 ∷ b2 ∷ b3 ∷ b4 ∷ b5 ∷ b6 ∷ b7 ∷ b8 ∷ b9 ∷ b10 ∷ b11 ∷ b12 ∷ b13 ∷ rest) t h = omega arith
put_length f t h = absurd (omega (arith, h))

-- it has a tag
pub put_tagged : (f : List ℕ) (t : ℕ) → 14 ≤ length f → is_tagged (put_of f t) ≡ true
unfolding put_of is_tagged
put_tagged (b0 ∷ b1 ∷ b2 ∷ b3 ∷ b4 ∷ b5 ∷ b6 ∷ b7 ∷ b8 ∷ b9 ∷ b10 ∷ b11 ∷ b12 ∷ b13 ∷ rest) t h =
    let e : nat_le 18 (length (b0 ∷ b1 ∷ b2 ∷ b3 ∷ b4 ∷ b5 ∷ b6 ∷ b7 ∷ b8 ∷ b9 ∷ b10 ∷ b11 ∷ 0x81 ∷ 0x00 ∷ t / 256 ∷ t % 256 ∷ b12 ∷ b13 ∷ rest)) ≡ true = grind (arith, nat_tests) in rw e refl
put_tagged f t h = absurd (omega (arith, h))

-- whose VLAN is that of the two bytes
pub put_tag : (f : List ℕ) (t : ℕ) → 14 ≤ length f → tag_of (put_of f t) ≡ Some (vlan_of t)
unfolding put_of is_tagged tag_of
put_tag (b0 ∷ b1 ∷ b2 ∷ b3 ∷ b4 ∷ b5 ∷ b6 ∷ b7 ∷ b8 ∷ b9 ∷ b10 ∷ b11 ∷ b12 ∷ b13 ∷ rest) t h =
    let e : nat_le 18 (length (b0 ∷ b1 ∷ b2 ∷ b3 ∷ b4 ∷ b5 ∷ b6 ∷ b7 ∷ b8 ∷ b9 ∷ b10 ∷ b11 ∷ 0x81 ∷ 0x00 ∷ t / 256 ∷ t % 256 ∷ b12 ∷ b13 ∷ rest)) ≡ true = grind (arith, nat_tests) in
    let whole : t / 256 * 256 + t % 256 ≡ t = omega arith in rw (e, whole) refl
put_tag f t h = absurd (omega (arith, h))

-- its class is the frame's
pub put_class : (f : List ℕ) (t : ℕ) → 14 ≤ length f → class_of (put_of f t) ≡ class_of f
unfolding put_of class_of
put_class (b0 ∷ b1 ∷ b2 ∷ b3 ∷ b4 ∷ b5 ∷ b6 ∷ b7 ∷ b8 ∷ b9 ∷ b10 ∷ b11 ∷ b12 ∷ b13 ∷ rest) t h = refl
put_class f t h = absurd (omega (arith, h))

-- where the frame had no tag, its flow is the frame's
pub put_flow : (f : List ℕ) (t : ℕ) → 14 ≤ length f → is_tagged f ≡ false → flow_of (put_of f t) ≡ flow_of f
unfolding put_of flow_of
put_flow (b0 ∷ b1 ∷ b2 ∷ b3 ∷ b4 ∷ b5 ∷ b6 ∷ b7 ∷ b8 ∷ b9 ∷ b10 ∷ b11 ∷ b12 ∷ b13 ∷ rest) t h bare =
    rw (bare, put_tagged (b0 ∷ b1 ∷ b2 ∷ b3 ∷ b4 ∷ b5 ∷ b6 ∷ b7 ∷ b8 ∷ b9 ∷ b10 ∷ b11 ∷ b12 ∷ b13 ∷ rest) t h) refl
put_flow f t h bare = absurd (omega (arith, h))

-- a frame with a tag has at least 18 bytes, and the tag's type in its place
pub tagged_parts : (f : List ℕ) → is_tagged f ≡ true → (18 ≤ length f) × (u16_at f 12 ≡ 0x8100)
unfolding is_tagged
tagged_parts f h = let both = and_parts (nat_le 18 (length f)) (u16_at f 12 == 0x8100) h in (grind (arith, nat_tests, both.0), eqb-true (u16_at f 12) 0x8100 both.1)

-- a frame with a tag has at least 18 bytes
pub tagged_least : (f : List ℕ) → is_tagged f ≡ true → 18 ≤ length f
tagged_least f h = let parts = tagged_parts f h in parts.0

-- bytes taken out and put in again
explicit : (f : List ℕ) → AreOctets f → 18 ≤ length f → u16_at f 12 ≡ 0x8100 → put_of (without_tag f) (u16_at f 14) ≡ f
unfolding put_of
explicit (b0 ∷ b1 ∷ b2 ∷ b3 ∷ b4 ∷ b5 ∷ b6 ∷ b7 ∷ b8 ∷ b9 ∷ b10 ∷ b11 ∷ b12 ∷ b13 ∷ b14 ∷ b15 ∷ b16 ∷ b17 ∷ rest) oct h e =
    let o13 : b13 < 2 ^ 8 = oct 13 in
    let o15 : b15 < 2 ^ 8 = oct 15 in
    let e12 : 0x81 ≡ b12 = omega (arith, e, o13) in
    let e13 : 0x00 ≡ b13 = omega (arith, e, o13) in
    let e14 : (b14 * 256 + b15) / 256 ≡ b14 = omega (arith, o15) in
    let e15 : (b14 * 256 + b15) % 256 ≡ b15 = omega (arith, o15) in
    λ i. b0 ∷ b1 ∷ b2 ∷ b3 ∷ b4 ∷ b5 ∷ b6 ∷ b7 ∷ b8 ∷ b9 ∷ b10 ∷ b11 ∷ e12 i ∷ e13 i ∷ e14 i ∷ e15 i ∷ b16 ∷ b17 ∷ rest
explicit f oct h e = absurd (omega (arith, h))

-- a frame of bytes is what was taken out of it put in again
pub put_strip : (f : List ℕ) → AreOctets f → with_tag (strip_of f).tci (strip_of f).frame ≡ f
unfolding strip_of
put_strip f oct = step (is_tagged f) refl
  where
    step : (b : Bool) → is_tagged f ≡ b → with_tag (strip_if b f).tci (strip_if b f).frame ≡ f
    step true e = let parts = tagged_parts f e in explicit f oct parts.0 parts.1
    step false e = refl

-- it has 14 bytes still, and no more than it had
pub strip_least : (f : List ℕ) → 14 ≤ length f → 14 ≤ length (strip_of f).frame
unfolding strip_of
strip_least f h = step (is_tagged f) refl
  where
    tagged : (g : List ℕ) → 18 ≤ length g → 14 ≤ length (without_tag g)
    tagged (b0 ∷ b1 ∷ b2 ∷ b3 ∷ b4 ∷ b5 ∷ b6 ∷ b7 ∷ b8 ∷ b9 ∷ b10 ∷ b11 ∷ b12 ∷ b13 ∷ b14 ∷ b15 ∷ b16 ∷ b17 ∷ rest) k = omega arith
    tagged g k = absurd (omega (arith, k))

    step : (b : Bool) → is_tagged f ≡ b → 14 ≤ length (strip_if b f).frame
    step true e = let parts = tagged_parts f e in tagged f parts.0
    step false e = h

-- ------------------------------------------------------------ bytes

octets_cons : (x : ℕ) (xs : List ℕ) → x < 2 ^ 8 → AreOctets xs → AreOctets (x ∷ xs)
octets_cons x xs lt k zero = lt
octets_cons x xs lt k (suc i) = k i

octets_take : (n : ℕ) (xs : List ℕ) → AreOctets xs → AreOctets (take n xs)
octets_take zero xs k i = omega arith
octets_take (suc n) [] k i = omega arith
octets_take (suc n) (x ∷ xs) k zero = k 0
octets_take (suc n) (x ∷ xs) k (suc i) = octets_take n xs (λ j. k (suc j)) i

octets_drop : (n : ℕ) (xs : List ℕ) → AreOctets xs → AreOctets (drop n xs)
octets_drop zero xs k i = k i
octets_drop (suc n) [] k i = omega arith
octets_drop (suc n) (x ∷ xs) k i = octets_drop n xs (λ j. k (suc j)) i

octets_append : (xs ys : List ℕ) → AreOctets xs → AreOctets ys → AreOctets (xs ++ ys)
octets_append [] ys h k i = k i
octets_append (x ∷ xs) ys h k zero = h 0
octets_append (x ∷ xs) ys h k (suc i) = octets_append xs ys (λ j. h (suc j)) k i

-- bytes with a tag of two bytes put in are bytes
pub put_octets : (f : List ℕ) (t : ℕ) → t < 65536 → AreOctets f → AreOctets (put_of f t)
unfolding put_of
put_octets f t low oct =
    octets_append (take 12 f) (0x81 ∷ 0x00 ∷ t / 256 ∷ t % 256 ∷ drop 12 f) (octets_take 12 f oct)
    (octets_cons 0x81 (0x00 ∷ t / 256 ∷ t % 256 ∷ drop 12 f) (omega arith) (octets_cons 0x00 (t / 256 ∷ t % 256 ∷ drop 12 f) (omega arith)
    (octets_cons (t / 256) (t % 256 ∷ drop 12 f) (omega (arith, low)) (octets_cons (t % 256) (drop 12 f) (omega arith) (octets_drop 12 f oct)))))
