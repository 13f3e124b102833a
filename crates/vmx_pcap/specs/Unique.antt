-- Bytes read as one capture or one fault.
use Rattle.std.proofs.Common.{◌≡◌, ℕ, zero, suc, ◌+◌, ◌-◌, ◌≤◌, nat_le, true, false, List, [], ◌∷◌, length, drop, Option, Some, None, Result, Ok, Err, refl, sym, ap, ◌∙◌, subst, arith, inl, inr}
use Rattle.vmx_pcap.specs.declared.records.Stamped.{Stamped}
use Rattle.vmx_pcap.specs.declared.records.Capture.{Capture}
use Rattle.vmx_pcap.specs.declared.kinds.Encoding.{Encoding}
use Rattle.vmx_pcap.specs.declared.fault.CaptureFault.{CaptureFault}
use Rattle.vmx_pcap.specs.declared.fault.CaptureFault.TheVariants.{Long, Many, Memory}
use Rattle.vmx_pcap.specs.declared.format.TheConstants.{FILE_HEADER_SIZE}
use Rattle.vmx_pcap.specs.Encodings.{encoding_of}
use Rattle.vmx_pcap.specs.Capture.{AreRecords, IsWhole, IsLong, IsTail, IsCapture, captured_length, after_record, magic_at}
use Rattle.vmx_pcap.specs.Faults.{is_long, is_whole, record_fault, fault_at, HasFault, Reads, Answers}

whole_is_short : (e : Encoding) (bytes : List ℕ) → IsWhole e bytes → is_long e bytes ≡ false
whole_is_short e bytes w = let limit = w.limit in grind (arith, limit)

whole_is_whole : (e : Encoding) (bytes : List ℕ) → IsWhole e bytes → is_whole e bytes ≡ true
whole_is_whole e bytes w = let header = w.header in let frame = w.frame in grind (arith, header, frame)

long_is_long : (e : Encoding) (bytes : List ℕ) → IsLong e bytes → is_long e bytes ≡ true
long_is_long e bytes l = let header = l.header in let limit = l.limit in grind (arith, header, limit)

tail_is_short : (e : Encoding) (bytes : List ℕ) → IsTail e bytes → is_long e bytes ≡ false
tail_is_short e bytes (inl short) = grind arith
tail_is_short e bytes (inr cut) = grind arith

tail_is_cut : (e : Encoding) (bytes : List ℕ) → IsTail e bytes → is_whole e bytes ≡ false
tail_is_cut e bytes (inl short) = grind arith
tail_is_cut e bytes (inr cut) = grind arith

whole_step : (e : Encoding) (i most : ℕ) (bytes : List ℕ) → IsWhole e bytes → record_fault e i (suc most) bytes ≡ record_fault e (i + 1) most (after_record e bytes)
unfolding record_fault
whole_step e i most bytes w = rw (whole_is_short e bytes w, whole_is_whole e bytes w) refl

-- after these whole records the checks go on
after_records : (e : Encoding) (bytes : List ℕ) (rs : List Stamped) (rest : List ℕ) (i most more : ℕ) → AreRecords e bytes rs rest → most ≡ length rs + more → record_fault e i most bytes ≡ record_fault e (i + length rs) more rest
after_records e bytes [] rest i most more are is =
    let same : most ≡ more = omega arith in
    let here : i ≡ i + length {A = Stamped} [] = omega arith in
    ap (record_fault e i most) are ∙ ap (λ n. record_fault e i n rest) same ∙ ap (λ n. record_fault e n more rest) here
after_records e bytes (r ∷ rs) rest i most more (whole, same, are) is =
    let one : most ≡ suc (length rs + more) = omega arith in
    let on : i + 1 + length rs ≡ i + length (r ∷ rs) = omega arith in
    ap (λ n. record_fault e i n bytes) one ∙ whole_step e i (length rs + more) bytes whole ∙ after_records e (after_record e bytes) rs rest (i + 1) (length rs + more) more are refl ∙ ap (λ n. record_fault e n more rest) on

long_here : (e : Encoding) (i most : ℕ) (bytes : List ℕ) → IsLong e bytes → record_fault e i most bytes ≡ Some (Long i (captured_length e bytes))
unfolding record_fault
long_here e i zero bytes l = rw (long_is_long e bytes l) refl
long_here e i (suc most) bytes l = rw (long_is_long e bytes l) refl

tail_here : (e : Encoding) (i most : ℕ) (bytes : List ℕ) → IsTail e bytes → record_fault e i most bytes ≡ None
unfolding record_fault
tail_here e i zero bytes t = rw (tail_is_short e bytes t, tail_is_cut e bytes t) refl
tail_here e i (suc most) bytes t = rw (tail_is_short e bytes t, tail_is_cut e bytes t) refl

many_here : (e : Encoding) (i : ℕ) (bytes : List ℕ) → IsWhole e bytes → record_fault e i 0 bytes ≡ Some (Many i)
unfolding record_fault
many_here e i bytes w = rw (whole_is_short e bytes w, whole_is_whole e bytes w) refl

from_start : (e : Encoding) (bytes : List ℕ) (rs : List Stamped) (rest : List ℕ) (index most : ℕ) → AreRecords e bytes rs rest → length rs ≡ index → index ≤ most → record_fault e 0 most bytes ≡ record_fault e index (most - index) rest
from_start e bytes rs rest index most are count fit = after_records e bytes rs rest 0 most (most - index) are (omega arith) ∙ ap (λ n. record_fault e n (most - index) rest) (omega arith)

-- a captured length above the limit after whole records
pub long_fault : (e : Encoding) (bytes : List ℕ) (rs : List Stamped) (rest : List ℕ) (index most found : ℕ) → AreRecords e bytes rs rest → length rs ≡ index → index ≤ most → IsLong e rest → found ≡ captured_length e rest → record_fault e 0 most bytes ≡ Some (Long index found)
long_fault e bytes rs rest index most found are count fit long is =
    from_start e bytes rs rest index most are count fit ∙ long_here e index (most - index) rest long ∙ ap (λ n. Some (Long index n)) (sym is)

-- a whole record after as many as are wanted
pub many_fault : (e : Encoding) (bytes : List ℕ) (rs : List Stamped) (rest : List ℕ) (most : ℕ) → AreRecords e bytes rs rest → length rs ≡ most → IsWhole e rest → record_fault e 0 most bytes ≡ Some (Many most)
many_fault e bytes rs rest most are count whole =
    let none : most - most ≡ 0 = omega arith in
    from_start e bytes rs rest most most are count (omega arith) ∙ ap (λ n. record_fault e most n rest) none ∙ many_here e most rest whole

-- whole records and a tail have no fault
tail_fault : (e : Encoding) (bytes : List ℕ) (rs : List Stamped) (rest : List ℕ) (most : ℕ) → AreRecords e bytes rs rest → length rs ≤ most → IsTail e rest → record_fault e 0 most bytes ≡ None
tail_fault e bytes rs rest most are fit tail = from_start e bytes rs rest (length rs) most are refl fit ∙ tail_here e (length rs) (most - length rs) rest tail

-- a capture has no fault
pub no_fault : (bytes : List ℕ) (most : ℕ) (records : List Stamped) (tail : ℕ) → IsCapture bytes records tail → length records ≤ most → fault_at bytes most ≡ None
unfolding fault_at
no_fault bytes most records tail c fit =
    let e = c.encoding in
    let h = c.header in
    let long : nat_le FILE_HEADER_SIZE (length bytes) ≡ true = let whole = h.whole in grind (arith, whole) in
    rw (long, h.magic, h.major, h.minor, h.link) (tail_fault e (drop FILE_HEADER_SIZE bytes) records c.rest most c.body fit c.ends)

tail_not_whole : (e : Encoding) (bytes : List ℕ) → IsTail e bytes → IsWhole e bytes → ⊥
tail_not_whole e bytes (inl short) whole = omega arith
tail_not_whole e bytes (inr cut) whole = omega arith

-- two ends that no whole record follows are one
same_end : (e : Encoding) (bytes : List ℕ) (rs qs : List Stamped) (a b : List ℕ) → AreRecords e bytes rs a → (IsWhole e a → ⊥) → AreRecords e bytes qs b → (IsWhole e b → ⊥) → (rs ≡ qs) × (a ≡ b)
same_end e bytes [] [] a b p na q nb = (refl, sym p ∙ q)
same_end e bytes [] (r ∷ qs) a b p na q nb = absurd (na (subst (IsWhole e) p q.0))
same_end e bytes (r ∷ rs) [] a b p na q nb = absurd (nb (subst (IsWhole e) q p.0))
same_end e bytes (r ∷ rs) (s ∷ qs) a b p na q nb =
    let rest = same_end e (after_record e bytes) rs qs a b p.2 na q.2 nb in
    (ap (λ x. x ∷ rs) (p.1 ∙ sym q.1) ∙ ap (λ x. s ∷ x) rest.0, rest.1)

same_encoding : (d e : Encoding) (o : Option Encoding) → o ≡ Some d → o ≡ Some e → d ≡ e
same_encoding d e o p q = let same : ◌≡◌ {A = Option Encoding} (Some d) (Some e) = sym p ∙ q in cc

-- bytes are at most one capture
pub same_capture : (bytes : List ℕ) (c d : Capture) → IsCapture bytes c.records c.tail → IsCapture bytes d.records d.tail → c ≡ d
same_capture bytes c d p q =
    let e = q.encoding in
    let coded : p.encoding ≡ e = same_encoding p.encoding e (encoding_of (magic_at bytes)) p.header.magic q.header.magic in
    let body : AreRecords e (drop FILE_HEADER_SIZE bytes) c.records p.rest = subst (λ x. AreRecords x (drop FILE_HEADER_SIZE bytes) c.records p.rest) coded p.body in
    let ends : IsTail e p.rest = subst (λ x. IsTail x p.rest) coded p.ends in
    let same = same_end e (drop FILE_HEADER_SIZE bytes) c.records d.records p.rest q.rest body (tail_not_whole e p.rest ends) q.body (tail_not_whole e q.rest q.ends) in
    let tails : c.tail ≡ d.tail = p.count ∙ ap length same.1 ∙ sym q.count in
    λ i. record { records = same.0 i; tail = tails i }

some_none : (e : CaptureFault) (o : Option CaptureFault) → o ≡ Some e → o ≡ None → ⊥
some_none e o p q = let same : ◌≡◌ {A = Option CaptureFault} (Some e) None = sym p ∙ q in cc

same_fault : (d e : CaptureFault) (o : Option CaptureFault) → o ≡ Some d → o ≡ Some e → d ≡ e
same_fault d e o p q = let same : ◌≡◌ {A = Option CaptureFault} (Some d) (Some e) = sym p ∙ q in cc

abbrev ok : Capture → Result Capture CaptureFault
ok c = Ok c

abbrev err : CaptureFault → Result Capture CaptureFault
err e = Err e

-- the first check that fails is the answer
pub fault_answers : (bytes : List ℕ) (most : ℕ) (answer : Result Capture CaptureFault) (e : CaptureFault) → Reads answer bytes most → fault_at bytes most ≡ Some e → Answers answer (Err e)
fault_answers bytes most (Ok c) e p is = absurd (some_none e (fault_at bytes most) is (no_fault bytes most c.records c.tail p.0 p.1))
fault_answers bytes most (Err f) e (inl memory) is = inr (ap err memory)
fault_answers bytes most (Err f) e (inr fault) is = inl (ap err (same_fault f e (fault_at bytes most) fault is))

-- a capture is the answer
pub capture_answers : (bytes : List ℕ) (most : ℕ) (answer : Result Capture CaptureFault) (c : Capture) → Reads answer bytes most → IsCapture bytes c.records c.tail → length c.records ≤ most → Answers answer (Ok c)
capture_answers bytes most (Ok d) c p is fit = inl (ap ok (same_capture bytes d c p.0 is))
capture_answers bytes most (Err f) c (inl memory) is fit = inr (ap err memory)
capture_answers bytes most (Err f) c (inr fault) is fit = absurd (some_none f (fault_at bytes most) fault (no_fault bytes most c.records c.tail is fit))

-- a fault that is no want of memory is the first check that fails
pub shown_fault : (bytes : List ℕ) (most : ℕ) (e : CaptureFault) → HasFault e bytes most → (e ≡ Memory → ⊥) → fault_at bytes most ≡ Some e
shown_fault bytes most e (inl memory) other = absurd (other memory)
shown_fault bytes most e (inr fault) other = fault

-- bytes are a capture or have a fault, and not both
pub capture_or_fault : (bytes : List ℕ) (most : ℕ) (records : List Stamped) (tail : ℕ) (e : CaptureFault) → IsCapture bytes records tail → length records ≤ most → HasFault e bytes most → e ≡ Memory
capture_or_fault bytes most records tail e p fit (inl memory) = memory
capture_or_fault bytes most records tail e p fit (inr fault) = absurd (some_none e (fault_at bytes most) fault (no_fault bytes most records tail p fit))
