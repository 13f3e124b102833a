-- Eight guests make a plan.
use Rattle.std.proofs.lemmas.Bool.Decides.{nat_tests}
use Rattle.std.proofs.Common.{◌≡◌, ℕ, zero, suc, ◌+◌, ◌*◌, ◌==◌, ◌<◌, ◌≤◌, nat_le, Bool, true, ◌&&◌, List, [], ◌∷◌, ◌++◌, length, map, refl, ap, sym, ◌∙◌, subst, arith, add-one}
use Rattle.std.specs.Prelude.{codes}
use Rattle.std.specs.List.{AllZip, range_with_len}
use Rattle.std.specs.Fmt.{decimal}
use Rattle.std.proofs.lemmas.Fmt.{decimal_digit}
use Rattle.std.proofs.lemmas.List.{length-map}
use Rattle.vmx_device_state.specs.SetupView.{SetupView, setup_view}
use Rattle.vmx_switch.specs.Ports.{are_distinct, is_wiring}
use Rattle.vmx_model.specs.declared.guest.GuestPlan.{GuestPlan}
use Rattle.vmx_model.specs.Ranges.{is_name}
use Rattle.vmx_model.specs.Totals.{names_of, macs_of, sniffers_of, have_ports, descriptors_of, records_of, frame_bytes, bytes_of}
use Rattle.vmx_generator.specs.Frames.{address_of, first_frames}
use Rattle.vmx_generator.specs.Plans.{IsGuest}
use Rattle.vmx_generator.proofs.Making.{frames_count}
use Rattle.vmx_generator.proofs.Totals.{bytes_few}

-- what holds of each number below eight
below_eight : (P : ℕ → Type 0) → P 0 → P 1 → P 2 → P 3 → P 4 → P 5 → P 6 → P 7 → (g : ℕ) → g < 8 → P g
below_eight P a b c d e f h i zero lt = a
below_eight P a b c d e f h i (suc zero) lt = b
below_eight P a b c d e f h i (suc (suc zero)) lt = c
below_eight P a b c d e f h i (suc (suc (suc zero))) lt = d
below_eight P a b c d e f h i (suc (suc (suc (suc zero)))) lt = e
below_eight P a b c d e f h i (suc (suc (suc (suc (suc zero))))) lt = f
below_eight P a b c d e f h i (suc (suc (suc (suc (suc (suc zero)))))) lt = h
below_eight P a b c d e f h i (suc (suc (suc (suc (suc (suc (suc zero))))))) lt = i
below_eight P a b c d e f h i (suc (suc (suc (suc (suc (suc (suc (suc n)))))))) lt = absurd (omega (arith, lt))

-- the name of a guest is a name
pub is_named : (g : ℕ) → g < 8 → is_name (codes "g" ++ decimal g) ≡ true
is_named g lt =
    ap (λ (ds : List ℕ). is_name (codes "g" ++ ds)) (decimal_digit g (omega (arith, lt)))
    ∙ below_eight (λ (k : ℕ). is_name (codes "g" ++ (48 + k) ∷ []) ≡ true) refl refl refl refl refl refl refl refl g lt

-- a guest's number has one digit
names_eight : map (λ (g : ℕ). codes "g" ++ decimal g) (range_with_len 0 8) ≡ map (λ (g : ℕ). codes "g" ++ (48 + g) ∷ []) (range_with_len 0 8)
names_eight =
    let a = decimal_digit 0 (omega arith) in
    let b = decimal_digit 1 (omega arith) in
    let c = decimal_digit 2 (omega arith) in
    let d = decimal_digit 3 (omega arith) in
    let e = decimal_digit 4 (omega arith) in
    let f = decimal_digit 5 (omega arith) in
    let g = decimal_digit 6 (omega arith) in
    let h = decimal_digit 7 (omega arith) in
    λ i. (codes "g" ++ a i) ∷ (codes "g" ++ b i) ∷ (codes "g" ++ c i) ∷ (codes "g" ++ d i) ∷ (codes "g" ++ e i) ∷ (codes "g" ++ f i) ∷ (codes "g" ++ g i) ∷ (codes "g" ++ h i) ∷ []

numbers_more : (a n : ℕ) → range_with_len a (suc n) ≡ range_with_len a n ++ (a + n) ∷ []
numbers_more a zero = let end : a ≡ a + 0 = omega arith in ap (λ (k : ℕ). k ∷ []) end
numbers_more a (suc n) =
    let end : a + 1 + n ≡ a + suc n = omega arith in
    ap (λ (xs : List ℕ). a ∷ xs) (numbers_more (a + 1) n ∙ ap (λ (m : ℕ). range_with_len (a + 1) n ++ m ∷ []) end)

zip_push : {A B : Type 0} (R : A → B → Type 0) (xs : List A) (ys : List B) (x : A) (y : B) → AllZip R xs ys → R x y → AllZip R (xs ++ x ∷ []) (ys ++ y ∷ [])
zip_push R [] [] x y h r = (r, tt)
zip_push R [] (b ∷ ys) x y h r = absurd h
zip_push R (a ∷ xs) [] x y h r = absurd h
zip_push R (a ∷ xs) (b ∷ ys) x y h r = (h.0, zip_push R xs ys x y h.1 r)

-- one guest more
pub guests_more : (number n : ℕ) (gs : List GuestPlan) (g : GuestPlan) → AllZip (IsGuest number) (range_with_len 0 n) gs → IsGuest number n g → AllZip (IsGuest number) (range_with_len 0 (n + 1)) (gs ++ g ∷ [])
guests_more number n gs g all one =
    let end : 0 + n ≡ n = omega arith in
    let range : range_with_len 0 (n + 1) ≡ range_with_len 0 n ++ n ∷ [] = ap (range_with_len 0) (add-one n) ∙ numbers_more 0 n ∙ ap (λ (m : ℕ). range_with_len 0 n ++ m ∷ []) end in
    subst (λ (ks : List ℕ). AllZip (IsGuest number) ks (gs ++ g ∷ [])) (sym range) (zip_push (IsGuest number) (range_with_len 0 n) gs n g all one)

names_same : (number : ℕ) (ks : List ℕ) (gs : List GuestPlan) → AllZip (IsGuest number) ks gs → names_of gs ≡ map (λ (g : ℕ). codes "g" ++ decimal g) ks
names_same number [] [] h = refl
names_same number [] (g ∷ gs) h = absurd h
names_same number (k ∷ ks) [] h = absurd h
names_same number (k ∷ ks) (g ∷ gs) h = λ i. h.0.name i ∷ names_same number ks gs h.1 i

macs_same : (number : ℕ) (ks : List ℕ) (gs : List GuestPlan) → AllZip (IsGuest number) ks gs → macs_of gs ≡ map address_of ks
macs_same number [] [] h = refl
macs_same number [] (g ∷ gs) h = absurd h
macs_same number (k ∷ ks) [] h = absurd h
macs_same number (k ∷ ks) (g ∷ gs) h = λ i. h.0.mac i ∷ macs_same number ks gs h.1 i

sniffers_same : (number : ℕ) (ks : List ℕ) (gs : List GuestPlan) → AllZip (IsGuest number) ks gs → sniffers_of gs ≡ map (λ (g : ℕ). g == 7) ks
sniffers_same number [] [] h = refl
sniffers_same number [] (g ∷ gs) h = absurd h
sniffers_same number (k ∷ ks) [] h = absurd h
sniffers_same number (k ∷ ks) (g ∷ gs) h = λ i. h.0.sniffer i ∷ sniffers_same number ks gs h.1 i

-- names and addresses differ
pub names_differ : (number : ℕ) (gs : List GuestPlan) → AllZip (IsGuest number) (range_with_len 0 8) gs → are_distinct (names_of gs) ≡ true
names_differ number gs h = ap are_distinct (names_same number (range_with_len 0 8) gs h ∙ names_eight)

pub ports : (number : ℕ) (gs : List GuestPlan) → AllZip (IsGuest number) (range_with_len 0 8) gs → have_ports gs ≡ true
ports number gs h = λ i. is_wiring (macs_same number (range_with_len 0 8) gs h i) (sniffers_same number (range_with_len 0 8) gs h i)

-- 3,072 descriptors a guest
descriptors_each : (number : ℕ) (ks : List ℕ) (gs : List GuestPlan) → AllZip (IsGuest number) ks gs → descriptors_of gs ≡ length ks * 3072
descriptors_each number [] [] h = refl
descriptors_each number [] (g ∷ gs) h = absurd h
descriptors_each number (k ∷ ks) [] h = absurd h
descriptors_each number (k ∷ ks) (g ∷ gs) h =
    let here : all (setup_view g.setup) ≡ 3072 = ap all h.0.setup in
    let rest = descriptors_each number ks gs h.1 in
    omega (arith, here, rest)
  where
    all : SetupView → ℕ
    all v = v.tx_queues * v.tx_ring + v.rx_queues * (v.rx_ring1 + v.rx_ring2)

pub descriptors_few : (number : ℕ) (gs : List GuestPlan) → AllZip (IsGuest number) (range_with_len 0 8) gs → descriptors_of gs ≤ 65536
descriptors_few number gs h = let all : descriptors_of gs ≡ 8 * 3072 = descriptors_each number (range_with_len 0 8) gs h in omega (arith, all)

records_each : (number : ℕ) (ks : List ℕ) (gs : List GuestPlan) → AllZip (IsGuest number) ks gs → records_of gs ≡ length ks * 2000
records_each number [] [] h = refl
records_each number [] (g ∷ gs) h = absurd h
records_each number (k ∷ ks) [] h = absurd h
records_each number (k ∷ ks) (g ∷ gs) h =
    let here = ap length h.0.records ∙ frames_count number k 2000 in
    let rest = records_each number ks gs h.1 in
    omega (arith, here, rest)

pub records_few : (number : ℕ) (gs : List GuestPlan) → AllZip (IsGuest number) (range_with_len 0 8) gs → records_of gs ≤ 262144
records_few number gs h = let all : records_of gs ≡ 8 * 2000 = records_each number (range_with_len 0 8) gs h in omega (arith, all)

bytes_each : (number : ℕ) (ks : List ℕ) (gs : List GuestPlan) → AllZip (IsGuest number) ks gs → bytes_of gs ≤ length ks * 3060000
bytes_each number [] [] h = omega arith
bytes_each number [] (g ∷ gs) h = absurd h
bytes_each number (k ∷ ks) [] h = absurd h
bytes_each number (k ∷ ks) (g ∷ gs) h =
    let same = ap frame_bytes h.0.records in
    let few : frame_bytes (first_frames number k 2000) ≤ 2000 * 1530 = bytes_few number k 2000 in
    let tail = h.0.tail in
    let rest = bytes_each number ks gs h.1 in
    omega (arith, same, few, tail, rest)

pub bytes_few_all : (number : ℕ) (gs : List GuestPlan) → AllZip (IsGuest number) (range_with_len 0 8) gs → bytes_of gs ≤ 67108864
bytes_few_all number gs h = let all : bytes_of gs ≤ 8 * 3060000 = bytes_each number (range_with_len 0 8) gs h in omega (arith, all)
