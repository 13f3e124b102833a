-- The words of descriptors and completions as sums.
use Rattle.std.proofs.Common.{◌≡◌, ℕ, ◌+◌, ◌*◌, ◌^◌, ◌<◌, Bool, true, false, Option, Some, None, refl, arith}
use Rattle.vmx_layout.specs.RxComp as completion
use Rattle.vmx_ends.specs.declared.made.RxMade.{RxMade}
use Rattle.vmx_ends.specs.declared.meta.RxMeta.{RxMeta}
use Rattle.vmx_rx_ring.specs.Words.{with_bit, posted_word, index_in, ring_id, in_data, first_word, body_word, TagFits}

-- a descriptor's second word without its generation
abbrev pub kind : Bool → ℕ
kind true = 20480
kind false = 2048

pub kind_small : (b : Bool) → kind b < 2 ^ 31
kind_small true = omega arith
kind_small false = omega arith

pub posted_is : (body g : Bool) → posted_word body g ≡ with_bit 31 (kind body) g
posted_is true true = refl
posted_is true false = refl
posted_is false true = refl
posted_is false false = refl

-- a truth value as a number
abbrev pub one_if : Bool → ℕ
one_if true = 1
one_if false = 0

abbrev pub hash_sum : Bool → RxMeta → ℕ
hash_sum true meta = 67108864 * meta.kind + 4294967296 * meta.hash
hash_sum false meta = 0

abbrev pub first_sum : RxMade → Bool → Bool → RxMeta → ℕ × ℕ → ℕ → ℕ
first_sum m sop eop meta spot len = index_in m spot + 16384 * one_if eop + 32768 * one_if sop + 65536 * ring_id m (in_data m sop eop len) spot.0 + hash_sum sop meta

stacked : (i e b r k h : ℕ) → completion.first_word (record { rxd_idx = i; eop = e; sop = b; rq_id = r; rss_type = k; cnc = 0; rss_hash = h }) ≡ i + 16384 * e + 32768 * b + 65536 * r + (67108864 * k + 4294967296 * h)
stacked i e b r k h = omega arith

pub first_is : (m : RxMade) (sop eop : Bool) (meta : RxMeta) (spot : ℕ × ℕ) (len : ℕ) → first_word m sop eop meta spot len ≡ first_sum m sop eop meta spot len
first_is m true true meta spot len = stacked (index_in m spot) 1 1 (ring_id m (in_data m true true len) spot.0) meta.kind meta.hash
first_is m true false meta spot len = stacked (index_in m spot) 0 1 (ring_id m (in_data m true false len) spot.0) meta.kind meta.hash
first_is m false true meta spot len = stacked (index_in m spot) 1 0 (ring_id m (in_data m false true len) spot.0) 0 0
first_is m false false meta spot len = stacked (index_in m spot) 0 0 (ring_id m (in_data m false false len) spot.0) 0 0

-- a tag's part of a second word
abbrev pub tag_sum : Option ℕ → ℕ
tag_sum None = 0
tag_sum (Some tci) = 2 ^ 15 + 2 ^ 16 * tci

pub body_is : (tag : Option ℕ) (len : ℕ) → body_word tag len ≡ len + tag_sum tag + 3 * 2 ^ 56
body_is None len = omega arith
body_is (Some tci) len = omega arith

-- it leaves the generation's bit free
pub body_low : (tag : Option ℕ) (len : ℕ) → TagFits tag → len < 2 ^ 14 → body_word tag len < 2 ^ 63
body_low None len fits short = omega arith
body_low (Some tci) len fits short = let low : tci < 65536 = fits in omega arith
