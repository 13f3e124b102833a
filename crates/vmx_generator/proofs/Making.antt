-- One frame more, and the bytes of frames.
use Rattle.std.proofs.Common.{◌≡◌, ℕ, zero, suc, ◌+◌, ◌-◌, ◌*◌, ◌/◌, ◌%◌, ◌==◌, ◌<◌, ◌≤◌, Bool, true, false, List, [], ◌∷◌, ◌++◌, length, refl, sym, ap, ◌∙◌, subst, add-one, arith, length-append}
use Rattle.std.specs.Prelude.{if◌then◌else◌, replicate}
use Rattle.std.proofs.lemmas.List.FromFn.{map-range_with_len_more, length-map-range_with_len}
use Rattle.vmx_pcap.specs.declared.records.Stamped.{Stamped}
use Rattle.vmx_generator.specs.declared.draws.Draws.{Draws}
use Rattle.vmx_generator.specs.Draws.{draws_of}
use Rattle.vmx_generator.specs.Frames.{address_of, destination_of, length_of, ipv4_header, tcp_header, body, frame_of, stamped_of, first_frames}

-- no byte yet
pub body_none : (n : ℕ) → body n 0 ≡ []
unfolding body
body_none n = refl

-- one byte more
pub body_more : (n j : ℕ) → body n (j + 1) ≡ body n j ++ ((n + j) % 256) ∷ []
unfolding body
body_more n j = map-range_with_len_more (λ (k : ℕ). (n + k) % 256) 0 j j (omega arith)

body_length : (n count : ℕ) → length (body n count) ≡ count
unfolding body
body_length n count = length-map-range_with_len (λ (k : ℕ). (n + k) % 256) 0 count

-- no frame yet
pub frames_none : (number g : ℕ) → first_frames number g 0 ≡ []
unfolding first_frames
frames_none number g = refl

-- one frame more
pub frames_more : (number g n : ℕ) → first_frames number g (n + 1) ≡ first_frames number g n ++ stamped_of number g n ∷ []
unfolding first_frames
frames_more number g n = map-range_with_len_more (stamped_of number g) 0 n n (omega arith)

pub frames_count : (number g count : ℕ) → length (first_frames number g count) ≡ count
unfolding first_frames
frames_count number g count = length-map-range_with_len (stamped_of number g) 0 count

destination_length : (d : ℕ) → length (destination_of d) ≡ 6
unfolding destination_of
destination_length d = by_tests (d % 10 == 0) (d % 10 == 1)
  where
    by_tests : (a b : Bool) → length (if a then replicate 6 0xFF else if b then 0x00 ∷ 0x50 ∷ 0x56 ∷ 0x00 ∷ 0x02 ∷ 0x00 ∷ [] else address_of (d / 10 % 8)) ≡ 6
    by_tests true b = refl
    by_tests false true = refl
    by_tests false false = refl

ipv4_length : (g n len d : ℕ) → length (ipv4_header g n len d) ≡ 20
unfolding ipv4_header
ipv4_length g n len d = refl

tcp_length : (n d : ℕ) → length (tcp_header n d) ≡ 20
unfolding tcp_header
tcp_length n d = refl

-- a frame has 60 to 1,514 bytes
pub frame_length : (g n : ℕ) (d : Draws) → length (frame_of g n d) ≡ length_of d.size
unfolding frame_of
frame_length g n d =
    let a = destination_of d.destination in
    let b = ipv4_header g n (length_of d.size) d.flow in
    let c = tcp_header n d.flow in
    let e = body n (length_of d.size - 54) in
    let la = destination_length d.destination in
    let lb = ipv4_length g n (length_of d.size) d.flow in
    let lc = tcp_length n d.flow in
    let le = body_length n (length_of d.size - 54) in
    simp length-append (omega (arith, la, lb, lc, le))

-- what is appended piece by piece is a frame
pub framed : {len : ℕ} {to from ip tcp : List ℕ} {none one two three four five six : List ℕ} (g n : ℕ) (d : Draws) → len ≡ length_of d.size
    → to ≡ destination_of d.destination → from ≡ address_of g → ip ≡ ipv4_header g n len d.flow → tcp ≡ tcp_header n d.flow
    → none ≡ [] → one ≡ none ++ to → two ≡ one ++ from → three ≡ two ++ (0x08 ∷ 0x00 ∷ []) → four ≡ three ++ ip → five ≡ four ++ tcp → six ≡ five ++ body n (len - 54)
    → six ≡ frame_of g n d
unfolding frame_of
framed {ip} {tcp} {one} {two} {three} {four} {five} g n d size to_is from_is ip_is tcp_is z a b c e f h =
    let target = destination_of d.destination in
    let begun : one ≡ target = a ∙ (λ i. z i ++ to_is i) in
    let ports : two ≡ target ++ address_of g = b ∙ (λ i. begun i ++ from_is i) in
    let ethernet : three ≡ target ++ address_of g ++ (0x08 ∷ 0x00 ∷ []) = c ∙ ap (λ (xs : List ℕ). xs ++ (0x08 ∷ 0x00 ∷ [])) ports in
    let header : ip ≡ ipv4_header g n (length_of d.size) d.flow = ip_is ∙ ap (λ (k : ℕ). ipv4_header g n k d.flow) size in
    let internet : four ≡ target ++ address_of g ++ (0x08 ∷ 0x00 ∷ []) ++ ipv4_header g n (length_of d.size) d.flow = e ∙ (λ i. ethernet i ++ header i) in
    let transport : five ≡ target ++ address_of g ++ (0x08 ∷ 0x00 ∷ []) ++ ipv4_header g n (length_of d.size) d.flow ++ tcp_header n d.flow = f ∙ (λ i. internet i ++ tcp_is i) in
    h ∙ (λ i. transport i ++ body n (size i - 54))
