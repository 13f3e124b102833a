-- What was written for records is read as these records.
use Rattle.std.proofs.Common.{◌≡◌, ℕ, ◌+◌, ◌^◌, ◌≤◌, ◌<◌, List, [], ◌∷◌, ◌++◌, length, take, drop, refl, sym, ap, ◌∙◌, subst, arith, inl, All, length-append, get_or}
use Rattle.std.specs.List.{flat_map, AllByRecursion}
use Rattle.std.proofs.lemmas.List.{take_at, drop_at, take_more, take_all}
use Rattle.std.proofs.lemmas.List.Elements.{recursion_from_All, All-more}
use Rattle.std.proofs.lemmas.List.Concat.{flat_map-cons}
use Rattle.byteorder.specs.Endian.{little_number}
use Rattle.byteorder.specs.Numbers.{little_number-reads_back}
use Rattle.vmx_pcap.specs.declared.records.Stamped.{Stamped}
use Rattle.vmx_pcap.specs.declared.kinds.Encoding.{Encoding}
use Rattle.vmx_pcap.specs.declared.kinds.Endian.TheVariants.{Little}
use Rattle.vmx_pcap.specs.declared.kinds.TimeUnit.TheVariants.{Micros}
use Rattle.vmx_pcap.specs.Fields.{u16_at, u32_at, u32_bytes}
use Rattle.vmx_pcap.specs.Capture.{AreRecords, IsWhole, IsHeader, IsCapture, captured_length, record_at, after_record}
use Rattle.vmx_pcap.specs.Written.{Fits, record_bytes, header_bytes, capture_bytes}
use Rattle.vmx_pcap.specs.Pushed.{capture_bytes-push}

-- what is written is little-endian, in microseconds
abbrev written : Encoding
written = record { endian = Little; unit = Micros }

field_again : (i n : ℕ) (bytes rest : List ℕ) → drop i bytes ≡ u32_bytes n ++ rest → n < 2 ^ 32 → u32_at Little i bytes ≡ n
unfolding u32_at u32_bytes
field_again i n bytes rest is fits = ap (little_number 4) is ∙ little_number-reads_back 4 n rest (omega arith)

length_record : (r : Stamped) → length (record_bytes r) ≡ 16 + length r.frame
unfolding u32_bytes
length_record r = omega arith

record Parts (r : Stamped) (more : List ℕ) : Type 0 where
  seconds : u32_at Little 0 (record_bytes r ++ more) ≡ r.seconds
  micros : u32_at Little 4 (record_bytes r ++ more) ≡ r.micros
  captured : captured_length written (record_bytes r ++ more) ≡ length r.frame
  long : length (record_bytes r ++ more) ≡ 16 + length r.frame + length more
  frame : drop 16 (record_bytes r ++ more) ≡ r.frame ++ more

parts : (r : Stamped) (more : List ℕ) → Fits r → Parts r more
unfolding u32_bytes
parts r more fits = record {
  seconds = field_again 0 r.seconds (record_bytes r ++ more) _ refl fits.seconds;
  micros = field_again 4 r.micros (record_bytes r ++ more) _ refl fits.micros;
  captured = field_again 8 (length r.frame) (record_bytes r ++ more) _ refl (omega (arith, fits.frame));
  long = omega (arith, length-append r.frame more);
  frame = refl;
}

record_again : (r : Stamped) (more : List ℕ) → Fits r → IsWhole written (record_bytes r ++ more) × (r ≡ record_at written (record_bytes r ++ more)) × (after_record written (record_bytes r ++ more) ≡ more)
record_again r more fits =
    let p = parts r more fits in
    let frame : take (captured_length written (record_bytes r ++ more)) (drop 16 (record_bytes r ++ more)) ≡ r.frame =
    ap (λ n. take n (drop 16 (record_bytes r ++ more))) p.captured ∙ ap (take (length r.frame)) p.frame ∙ take_at r.frame more _ refl in (
      record { header = omega (arith, p.long); limit = omega (arith, p.captured, fits.frame); frame = omega (arith, p.long, p.captured) },
      λ i. record { seconds = sym p.seconds i; micros = sym p.micros i; frame = sym frame i },
      ap (λ n. drop (16 + n) (record_bytes r ++ more)) p.captured ∙ drop_at (record_bytes r) more (16 + length r.frame) (length_record r),
    )

records_again : (rs : List Stamped) → AllByRecursion Fits rs → AreRecords written (flat_map record_bytes rs) rs []
records_again [] fits = refl
records_again (r ∷ rs) fits =
    let one = record_again r (flat_map record_bytes rs) fits.0 in
    subst (λ b. AreRecords written b (r ∷ rs) []) (sym (flat_map-cons record_bytes r rs)) (one.0, one.1, subst (λ b. AreRecords written b rs []) (sym one.2) (records_again rs fits.1))

header_again : (more : List ℕ) → IsHeader written (header_bytes ++ more)
unfolding u16_at u32_at header_bytes
header_again more = record { whole = omega arith; magic = refl; major = refl; minor = refl; link = refl }

length_header : length header_bytes ≡ 24
unfolding header_bytes
length_header = refl

pub capture_again : (rs : List Stamped) → All Fits rs → IsCapture (capture_bytes rs) rs 0
capture_again rs fits = record { encoding = written; header = header_again (flat_map record_bytes rs); rest = []; body = subst (λ b. AreRecords written b rs []) (sym (drop_at header_bytes (flat_map record_bytes rs) 24 length_header)) (records_again rs (recursion_from_All Fits rs fits)); ends = inl (omega arith); count = refl }

-- one record more was written
pub more_written : (rs : List Stamped) (i : ℕ) (r : Stamped) (out new : List ℕ) → i < length rs → r ≡ get_or rs i r → out ≡ capture_bytes (take i rs) → new ≡ out ++ record_bytes r → new ≡ capture_bytes (take (i + 1) rs)
more_written rs i r out new inside is so_far now =
    let front : take (i + 1) rs ≡ take i rs ++ r ∷ [] = take_more rs i r inside ∙ ap (λ x. take i rs ++ x ∷ []) (sym is) in
    now ∙ ap (λ x. x ++ record_bytes r) so_far ∙ sym (capture_bytes-push (take i rs) r) ∙ ap capture_bytes (sym front)

-- one frame more fits
pub more_fit : (rs : List Stamped) (i : ℕ) (r : Stamped) → i < length rs → r ≡ get_or rs i r → All Fits (take i rs) → Fits r → All Fits (take (i + 1) rs)
more_fit rs i r inside is so_far fits = All-more Fits rs i r inside so_far (subst Fits is fits)

-- all were written
pub all_written : (rs : List Stamped) (i : ℕ) (out b : List ℕ) → length rs ≤ i → out ≡ capture_bytes (take i rs) → All Fits (take i rs) → b ≡ out → IsCapture b rs 0
all_written rs i out b end so_far fits is =
    let whole : take i rs ≡ rs = take_all i rs end in
    subst (λ x. IsCapture x rs 0) (sym (is ∙ so_far ∙ ap capture_bytes whole)) (capture_again rs (subst (All Fits) whole fits))
