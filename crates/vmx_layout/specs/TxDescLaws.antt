-- Laws of the words of a transmit descriptor.
use Rattle.std.proofs.Common.{◌≡◌, ℕ, ◌+◌, ◌-◌, ◌*◌, ◌^◌, ◌<◌, List, map, refl, sym, ap, ◌∙◌, arith}
use Rattle.std.specs.Prelude.{slice_index}
use Rattle.std.specs.Int.{bit_at}
use Rattle.std.specs.Int.Bits.{bit_xor, xor_add_and}
use Rattle.std.proofs.lemmas.Nat.Bits.{and_pow}
use mathlib.Core.HLevel.{is_prop→PathP}
use Rattle.std.specs.List.{AllByRecursion}
use Rattle.std.proofs.Props.{props}
use Rattle.vmx_layout.specs.Bits.{bit}
use Rattle.vmx_layout.specs.TxDesc.{Second, second_fields, second_word, second_of, words_of, Tells, HasFields}
use Rattle.vmx_layout.specs.BitsLaws.{cuts, cuts-stack, width, value_at, bit_same, bit_below, FieldFits}
use Rattle.vmx_layout.specs.declared.tx_desc.TheConstants.{GENERATION, LEN_WIDTH, MSSCOF_WIDTH, HLEN_WIDTH, OM_WIDTH, TCI_WIDTH}
use Rattle.vmx_layout.specs.declared.tx_desc.TxDesc.{TxDesc}

-- the numbers of a second word fit into their fields
pub record SecondFits (s : Second) : Type 0 where
  pub len : s.len < 2 ^ LEN_WIDTH
  pub generation : s.generation < 2 ^ 1
  pub dtype : s.dtype < 2 ^ 1
  pub ext1 : s.ext1 < 2 ^ 1
  pub msscof : s.msscof < 2 ^ MSSCOF_WIDTH
  pub hlen : s.hlen < 2 ^ HLEN_WIDTH
  pub om : s.om < 2 ^ OM_WIDTH
  pub eop : s.eop < 2 ^ 1
  pub cq : s.cq < 2 ^ 1
  pub ext2 : s.ext2 < 2 ^ 1
  pub ti : s.ti < 2 ^ 1
  pub tci : s.tci < 2 ^ TCI_WIDTH

second-fits : (s : Second) → SecondFits s → AllByRecursion FieldFits (second_fields s)
second-fits s fit = (fit.len, (fit.generation, (omega arith, (fit.dtype, (fit.ext1, (fit.msscof, (fit.hlen, (fit.om, (fit.eop, (fit.cq, (fit.ext2, (fit.ti, (fit.tci, tt)))))))))))))

-- the second word of these numbers tells them
pub second-tells : (s : Second) → SecondFits s → Tells (second_word s) s
second-tells s fit =
    let cut : cuts 0 (map width (second_fields s)) (second_word s) ≡ second_fields s = cuts-stack (second_fields s) (second-fits s fit) in
    record {
      len = sym (ap (value_at 0) cut);
      generation = sym (ap (value_at 1) cut);
      dtype = sym (ap (value_at 3) cut);
      ext1 = sym (ap (value_at 4) cut);
      msscof = sym (ap (value_at 5) cut);
      hlen = sym (ap (value_at 6) cut);
      om = sym (ap (value_at 7) cut);
      eop = sym (ap (value_at 8) cut);
      cq = sym (ap (value_at 9) cut);
      ext2 = sym (ap (value_at 10) cut);
      ti = sym (ap (value_at 11) cut);
      tci = sym (ap (value_at 12) cut);
    }

-- with the generation's bit flipped, it is the second word with the other generation
pub second-flipped : (s : Second) → SecondFits s → bit_xor (second_word s) (2 ^ GENERATION) ≡ second_word (record s { generation = 1 - s.generation })
second-flipped s fit =
    let word : ℕ = second_word s in
    let is : bit_at word GENERATION ≡ s.generation = sym (second-tells s fit).generation in
    let one : s.generation < 2 ^ 1 = fit.generation in
    let sum : bit_xor word (2 ^ GENERATION) + bit_at word GENERATION * 2 ^ GENERATION * 2 ≡ word + 2 ^ GENERATION = ap (λ (z : ℕ). bit_xor word (2 ^ GENERATION) + z * 2) (sym (and_pow word GENERATION)) ∙ xor_add_and word (2 ^ GENERATION) in
    let sum' : bit_xor word (2 ^ GENERATION) + s.generation * 2 ^ GENERATION * 2 ≡ word + 2 ^ GENERATION = ap (λ (z : ℕ). bit_xor word (2 ^ GENERATION) + z * 2 ^ GENERATION * 2) (sym is) ∙ sum in
    omega arith

-- the numbers of a descriptor fit
pub second_of-fits : (d : TxDesc) → SecondFits (second_of d)
second_of-fits d = record {
  len = d.len_fits;
  generation = bit_below d.generation;
  dtype = bit_below d.dtype;
  ext1 = bit_below d.ext1;
  msscof = d.msscof_fits;
  hlen = d.hlen_fits;
  om = d.om_fits;
  eop = bit_below d.eop;
  cq = bit_below d.cq;
  ext2 = bit_below d.ext2;
  ti = bit_below d.ti;
  tci = d.tci_fits;
}

-- the words of a descriptor have its fields
pub HasFields-words_of : (d : TxDesc) → HasFields (words_of d) d
HasFields-words_of d = record { addr = refl; second = second-tells (second_of d) (second_of-fits d) }

-- the same words have the fields of one descriptor at most
pub same_fields : (words : List ℕ) (c d : TxDesc) → HasFields words c → HasFields words d → c ≡ d
same_fields words c d p q =
    let addr : c.addr ≡ d.addr = p.addr ∙ sym q.addr in
    let len : c.len ≡ d.len = p.second.len ∙ sym q.second.len in
    let generation : c.generation ≡ d.generation = bit_same c.generation d.generation (p.second.generation ∙ sym q.second.generation) in
    let dtype : c.dtype ≡ d.dtype = bit_same c.dtype d.dtype (p.second.dtype ∙ sym q.second.dtype) in
    let ext1 : c.ext1 ≡ d.ext1 = bit_same c.ext1 d.ext1 (p.second.ext1 ∙ sym q.second.ext1) in
    let msscof : c.msscof ≡ d.msscof = p.second.msscof ∙ sym q.second.msscof in
    let hlen : c.hlen ≡ d.hlen = p.second.hlen ∙ sym q.second.hlen in
    let om : c.om ≡ d.om = p.second.om ∙ sym q.second.om in
    let eop : c.eop ≡ d.eop = bit_same c.eop d.eop (p.second.eop ∙ sym q.second.eop) in
    let cq : c.cq ≡ d.cq = bit_same c.cq d.cq (p.second.cq ∙ sym q.second.cq) in
    let ext2 : c.ext2 ≡ d.ext2 = bit_same c.ext2 d.ext2 (p.second.ext2 ∙ sym q.second.ext2) in
    let ti : c.ti ≡ d.ti = bit_same c.ti d.ti (p.second.ti ∙ sym q.second.ti) in
    let tci : c.tci ≡ d.tci = p.second.tci ∙ sym q.second.tci in
    λ i. record {
      addr = addr i;
      len = len i;
      generation = generation i;
      dtype = dtype i;
      ext1 = ext1 i;
      msscof = msscof i;
      hlen = hlen i;
      om = om i;
      eop = eop i;
      cq = cq i;
      ext2 = ext2 i;
      ti = ti i;
      tci = tci i;
      addr_fits = is_prop→PathP (λ j. addr j < 2 ^ 64) (λ j. hlevel props) c.addr_fits d.addr_fits i;
      len_fits = is_prop→PathP (λ j. len j < 2 ^ LEN_WIDTH) (λ j. hlevel props) c.len_fits d.len_fits i;
      msscof_fits = is_prop→PathP (λ j. msscof j < 2 ^ MSSCOF_WIDTH) (λ j. hlevel props) c.msscof_fits d.msscof_fits i;
      hlen_fits = is_prop→PathP (λ j. hlen j < 2 ^ HLEN_WIDTH) (λ j. hlevel props) c.hlen_fits d.hlen_fits i;
      om_fits = is_prop→PathP (λ j. om j < 2 ^ OM_WIDTH) (λ j. hlevel props) c.om_fits d.om_fits i;
      tci_fits = is_prop→PathP (λ j. tci j < 2 ^ TCI_WIDTH) (λ j. hlevel props) c.tci_fits d.tci_fits i;
    }

-- the bit that tells the generation
pub generation_bit : (words : List ℕ) (d : TxDesc) → HasFields words d → bit_at (slice_index words 1) GENERATION ≡ bit d.generation
generation_bit words d has = sym has.second.generation
