-- The completions of a frame determine it.
use Rattle.std.proofs.Common.{◌≡◌, ℕ, ◌+◌, ◌*◌, ◌^◌, ◌≤◌, List, [], ◌∷◌, ◌++◌, length, take, drop, Bool, true, false, Option, Some, None, sym, refl, ap, ◌∙◌, arith, take-append-drop, append-nil}
use mathlib.Core.HLevel.{is_prop→PathP}
use mathlib.Core.Option.{some-injective, some-ne-none}
use lib.ListN.{get_elem?}
use Rattle.std.proofs.Props.{props}
use Rattle.vmx_ends.specs.declared.made.RxMade.{RxMade}
use Rattle.vmx_ends.specs.declared.meta.RxMeta.{RxMeta}
use Rattle.vmx_ends.specs.declared.frames.Delivery.{Delivery}
use Rattle.vmx_rx_ring.specs.declared.known.Entry.{Entry}
use Rattle.vmx_rx_ring.specs.Words.{first_word, body_word, room_of, entries_from, entries}
use Rattle.vmx_rx_ring.proofs.Layouts as layout
use Rattle.vmx_rx_ring.proofs.Layouts.{hash_sum, tag_sum, first_sum}
use Rattle.vmx_rx_ring.specs.Rule.{IsPlaced}

abbrev spots : List Entry → List (ℕ × ℕ)
spots [] = []
spots (e ∷ es) = (e.ring, e.position) ∷ spots es

abbrev joined : List Entry → List ℕ
joined [] = []
joined (e ∷ es) = e.bytes ++ joined es

abbrev first_in : List Entry → ℕ
first_in [] = 0
first_in (e ∷ es) = e.first

spots_are : (m : RxMade) (sop : Bool) (meta : RxMeta) (chain : List (ℕ × ℕ)) (bytes : List ℕ) → spots (entries_from m sop meta chain bytes) ≡ chain
spots_are m sop meta [] bytes = refl
spots_are m sop meta (s ∷ []) bytes = refl
spots_are m sop meta (s ∷ t ∷ more) bytes = ap (λ l. s ∷ l) (spots_are m false meta (t ∷ more) _)

pub joined_are : (m : RxMade) (sop : Bool) (meta : RxMeta) (s : ℕ × ℕ) (chain : List (ℕ × ℕ)) (bytes : List ℕ) → joined (entries_from m sop meta (s ∷ chain) bytes) ≡ bytes
joined_are m sop meta s [] bytes = append-nil bytes
joined_are m sop meta s (t ∷ more) bytes = ap (λ l. take (room_of sop) bytes ++ l) (joined_are m false meta t more (drop (room_of sop) bytes)) ∙ take-append-drop (room_of sop) bytes

pub meta_is : (a b : RxMeta) → a.hash ≡ b.hash → a.kind ≡ b.kind → a.tci ≡ b.tci → a ≡ b
meta_is a b hash kind tci = λ i. record { hash = hash i; kind = kind i; tci = tci i; kinds = is_prop→PathP (λ j. kind j ≤ 4) (λ j. hlevel props) a.kinds b.kinds i }

-- a tag by its word
same_tag : (a b : Option ℕ) → tag_sum a ≡ tag_sum b → a ≡ b
same_tag None None e = refl
same_tag None (Some y) e = absurd (omega arith)
same_tag (Some x) None e = absurd (omega arith)
same_tag (Some x) (Some y) e = let same : x ≡ y = omega arith in ap Some same

same_meta : (a b : RxMeta) → hash_sum true a ≡ hash_sum true b → tag_sum a.tci ≡ tag_sum b.tci → a ≡ b
same_meta a b e tags = let ka = a.kinds in let kb = b.kinds in let hash : a.hash ≡ b.hash = omega arith in let kind : a.kind ≡ b.kind = omega arith in
    meta_is a b hash kind (same_tag a.tci b.tci tags)

abbrev spot : ℕ → ℕ → ℕ × ℕ
spot r p = (r, p)

abbrev ends_here : List (ℕ × ℕ) → Bool
ends_here [] = true
ends_here (t ∷ more) = false

-- the length of a frame's first piece, and of its last
abbrev first_len : List (ℕ × ℕ) → List ℕ → ℕ
first_len [] bytes = length bytes
first_len (t ∷ more) bytes = length (take (room_of true) bytes)

abbrev last_len : Bool → List (ℕ × ℕ) → List ℕ → ℕ
last_len sop [] bytes = length bytes
last_len sop (t ∷ more) bytes = last_len false more (drop (room_of sop) bytes)

abbrev last_in : List Entry → ℕ
last_in [] = 0
last_in (e ∷ []) = e.body
last_in (e ∷ x ∷ more) = last_in (x ∷ more)

-- the last completion has the tag
last_is : (m : RxMade) (sop : Bool) (meta : RxMeta) (s : ℕ × ℕ) (chain : List (ℕ × ℕ)) (bytes : List ℕ) → last_in (entries_from m sop meta (s ∷ chain) bytes) ≡ body_word meta.tci (last_len sop chain bytes)
last_is m sop meta s [] bytes = refl
last_is m sop meta s (t ∷ []) bytes = refl
last_is m sop meta s (t ∷ u ∷ more) bytes = last_is m false meta t (u ∷ more) (drop (room_of sop) bytes)

first_is : (m : RxMade) (meta : RxMeta) (s : ℕ × ℕ) (chain : List (ℕ × ℕ)) (bytes : List ℕ) → first_in (entries_from m true meta (s ∷ chain) bytes) ≡ first_word m true (ends_here chain) meta s (first_len chain bytes)
first_is m meta s [] bytes = refl
first_is m meta s (t ∷ more) bytes = refl

add_left : (x a b : ℕ) → x + a ≡ x + b → a ≡ b
add_left x a b e = omega arith

middle : (x a b y : ℕ) → x + a + y ≡ x + b + y → a ≡ b
middle x a b y e = omega arith

-- frames with the same completions, behind the same frames
pub same_delivery : (m : RxMade) (c1 c2 : ℕ) (d e : Delivery) → IsPlaced c1 c2 d → IsPlaced c1 c2 e → entries m d ≡ entries m e → d ≡ e
same_delivery m c1 c2 d e p q same = by_chain d.chain e.chain refl refl
  where
    chains : d.chain ≡ e.chain
    chains = sym (spots_are m true d.meta d.chain d.frame) ∙ ap spots same ∙ spots_are m true e.meta e.chain e.frame

    passed : d.passed ≡ e.passed
    passed = let at : spot 1 (c1 + d.passed) ≡ spot 1 (c1 + e.passed) = some-injective (1, c1 + d.passed) (1, c1 + e.passed) (sym p.head ∙ ap (λ (l : List (ℕ × ℕ)). get_elem? l 0) chains ∙ q.head) in add_left c1 d.passed e.passed (ap (λ (z : ℕ × ℕ). z.1) at)

    by_chain : (k l : List (ℕ × ℕ)) → d.chain ≡ k → e.chain ≡ l → d ≡ e
    by_chain [] l is is' = absurd (some-ne-none (1, c1 + d.passed) (sym (ap (λ (l : List (ℕ × ℕ)). get_elem? l 0) (sym is) ∙ p.head)))
    by_chain (s ∷ k) l is is' = let ed = ap (λ (c : List (ℕ × ℕ)). entries_from m true d.meta c d.frame) is in let ee = ap (λ (c : List (ℕ × ℕ)). entries_from m true e.meta c e.frame) (sym chains ∙ is) in
        let all : entries_from m true d.meta (s ∷ k) d.frame ≡ entries_from m true e.meta (s ∷ k) e.frame = sym ed ∙ same ∙ ee in
        let frame : d.frame ≡ e.frame = sym (joined_are m true d.meta s k d.frame) ∙ ap joined all ∙ joined_are m true e.meta s k e.frame in
        let first : first_word m true (ends_here k) d.meta s (first_len k d.frame) ≡ first_word m true (ends_here k) e.meta s (first_len k d.frame) = sym (first_is m d.meta s k d.frame) ∙ ap first_in all ∙ first_is m e.meta s k e.frame ∙ ap (λ (l : List ℕ). first_word m true (ends_here k) e.meta s (first_len k l)) (sym frame) in
        let firsts : first_sum m true (ends_here k) d.meta s (first_len k d.frame) ≡ first_sum m true (ends_here k) e.meta s (first_len k d.frame) = sym (layout.first_is m true (ends_here k) d.meta s (first_len k d.frame)) ∙ first ∙ layout.first_is m true (ends_here k) e.meta s (first_len k d.frame) in
        let last : body_word d.meta.tci (last_len true k d.frame) ≡ body_word e.meta.tci (last_len true k d.frame) = sym (last_is m true d.meta s k d.frame) ∙ ap last_in all ∙ last_is m true e.meta s k e.frame ∙ ap (λ (l : List ℕ). body_word e.meta.tci (last_len true k l)) (sym frame) in
        let lasts = sym (layout.body_is d.meta.tci (last_len true k d.frame)) ∙ last ∙ layout.body_is e.meta.tci (last_len true k d.frame) in
        let meta : d.meta ≡ e.meta = same_meta d.meta e.meta (add_left _ _ _ firsts) (middle (last_len true k d.frame) (tag_sum d.meta.tci) (tag_sum e.meta.tci) (3 * 2 ^ 56) lasts) in
        λ i. record { frame = frame i; meta = meta i; passed = passed i; chain = chains i }
