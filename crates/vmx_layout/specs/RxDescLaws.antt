-- Laws of the words of a receive descriptor.
use Rattle.std.proofs.Common.{◌≡◌, ℕ, ◌+◌, ◌-◌, ◌*◌, ◌^◌, ◌<◌, List, map, refl, sym, ap, ◌∙◌, arith}
use Rattle.std.specs.Prelude.{slice_index}
use Rattle.std.specs.Int.{bit_at}
use Rattle.std.specs.Int.Bits.{bit_xor, xor_add_and}
use Rattle.std.proofs.lemmas.Nat.Bits.{and_pow}
use mathlib.Core.HLevel.{is_prop→PathP}
use Rattle.std.specs.List.{AllByRecursion}
use Rattle.std.proofs.Props.{props}
use Rattle.vmx_layout.specs.Bits.{bit}
use Rattle.vmx_layout.specs.BufferType.{btype_same, btype_below}
use Rattle.vmx_layout.specs.RxDesc.{Second, second_fields, second_word, second_of, words_of, Tells, HasFields}
use Rattle.vmx_layout.specs.BitsLaws.{cuts, cuts-stack, width, value_at, bit_same, bit_below, FieldFits}
use Rattle.vmx_layout.specs.declared.rx_desc.TheConstants.{GENERATION, LEN_WIDTH}
use Rattle.vmx_layout.specs.declared.rx_desc.RxDesc.{RxDesc}

-- the numbers of a second word fit into their fields
pub record SecondFits (s : Second) : Type 0 where
  pub len : s.len < 2 ^ LEN_WIDTH
  pub btype : s.btype < 2 ^ 1
  pub dtype : s.dtype < 2 ^ 1
  pub generation : s.generation < 2 ^ 1

second-fits : (s : Second) → SecondFits s → AllByRecursion FieldFits (second_fields s)
second-fits s fit = (fit.len, (fit.btype, (fit.dtype, (omega arith, (fit.generation, (omega arith, tt))))))

-- the second word of these numbers tells them
pub second-tells : (s : Second) → SecondFits s → Tells (second_word s) s
second-tells s fit =
    let cut : cuts 0 (map width (second_fields s)) (second_word s) ≡ second_fields s = cuts-stack (second_fields s) (second-fits s fit) in
    record {
      len = sym (ap (value_at 0) cut);
      btype = sym (ap (value_at 1) cut);
      dtype = sym (ap (value_at 2) cut);
      generation = sym (ap (value_at 4) cut);
    }

-- with the generation's bit flipped, it is the second word with the other generation
pub second-flipped : (s : Second) → SecondFits s → bit_xor (second_word s) (2 ^ GENERATION) ≡ second_word (record s { generation = 1 - s.generation })
second-flipped s fit =
    let word : ℕ = second_word s in
    let is : bit_at word GENERATION ≡ s.generation = sym (second-tells s fit).generation in
    let one : s.generation < 2 ^ 1 = fit.generation in
    let sum : bit_xor word (2 ^ GENERATION) + bit_at word GENERATION * 2 ^ GENERATION * 2 ≡ word + 2 ^ GENERATION = ap (λ (z : ℕ). bit_xor word (2 ^ GENERATION) + z * 2) (sym (and_pow word GENERATION)) ∙ xor_add_and word (2 ^ GENERATION) in
    let sum' : bit_xor word (2 ^ GENERATION) + s.generation * 2 ^ GENERATION * 2 ≡ word + 2 ^ GENERATION = ap (λ (z : ℕ). bit_xor word (2 ^ GENERATION) + z * 2 ^ GENERATION * 2) (sym is) ∙ sum in
    omega arith

-- the numbers of a descriptor fit
pub second_of-fits : (d : RxDesc) → SecondFits (second_of d)
second_of-fits d = record {
  len = d.len_fits;
  btype = btype_below d.btype;
  dtype = bit_below d.dtype;
  generation = bit_below d.generation;
}

-- the words of a descriptor have its fields
pub HasFields-words_of : (d : RxDesc) → HasFields (words_of d) d
HasFields-words_of d = record { addr = refl; second = second-tells (second_of d) (second_of-fits d) }

-- the same words have the fields of one descriptor at most
pub same_fields : (words : List ℕ) (c d : RxDesc) → HasFields words c → HasFields words d → c ≡ d
same_fields words c d p q =
    let addr : c.addr ≡ d.addr = p.addr ∙ sym q.addr in
    let len : c.len ≡ d.len = p.second.len ∙ sym q.second.len in
    let btype : c.btype ≡ d.btype = btype_same c.btype d.btype (p.second.btype ∙ sym q.second.btype) in
    let dtype : c.dtype ≡ d.dtype = bit_same c.dtype d.dtype (p.second.dtype ∙ sym q.second.dtype) in
    let generation : c.generation ≡ d.generation = bit_same c.generation d.generation (p.second.generation ∙ sym q.second.generation) in
    λ i. record {
      addr = addr i;
      len = len i;
      btype = btype i;
      dtype = dtype i;
      generation = generation i;
      addr_fits = is_prop→PathP (λ j. addr j < 2 ^ 64) (λ j. hlevel props) c.addr_fits d.addr_fits i;
      len_fits = is_prop→PathP (λ j. len j < 2 ^ LEN_WIDTH) (λ j. hlevel props) c.len_fits d.len_fits i;
    }

-- the bit that tells the generation
pub generation_bit : (words : List ℕ) (d : RxDesc) → HasFields words d → bit_at (slice_index words 1) GENERATION ≡ bit d.generation
generation_bit words d has = sym has.second.generation
