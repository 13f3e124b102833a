-- Laws of the words of a transmit completion.
use Rattle.std.proofs.Common.{◌≡◌, ℕ, ◌+◌, ◌-◌, ◌*◌, ◌^◌, ◌<◌, List, map, sym, ap, ◌∙◌, arith}
use Rattle.std.specs.Prelude.{slice_index}
use Rattle.std.specs.Int.{bit_at}
use Rattle.std.specs.Int.Bits.{bit_xor, xor_add_and}
use Rattle.std.proofs.lemmas.Nat.Bits.{and_pow}
use mathlib.Core.HLevel.{is_prop→PathP}
use Rattle.std.specs.List.{AllByRecursion}
use Rattle.std.proofs.Props.{props}
use Rattle.vmx_layout.specs.Bits.{bit}
use Rattle.vmx_layout.specs.TxComp.{Second, first_fields, second_fields, first_word, second_word, second_of, words_of, TellsIndex, Tells, HasFields}
use Rattle.vmx_layout.specs.BitsLaws.{cuts, cuts-stack, width, value_at, bit_same, bit_below, FieldFits}
use Rattle.vmx_layout.specs.declared.tx_comp.TheConstants.{GENERATION, KIND_WIDTH, TXD_IDX_WIDTH, TX_COMPLETION_TYPE}
use Rattle.vmx_layout.specs.declared.tx_comp.TxComp.{TxComp}

-- the first word of an index tells it
pub first-tells : (txd_idx : ℕ) → txd_idx < 2 ^ TXD_IDX_WIDTH → TellsIndex (first_word txd_idx) txd_idx
first-tells txd_idx fits =
    let fit : AllByRecursion FieldFits (first_fields txd_idx) = (fits, (omega arith, (omega arith, tt))) in
    sym (ap (value_at 0) (cuts-stack (first_fields txd_idx) fit))

-- the numbers of a second word fit into their fields
pub record SecondFits (s : Second) : Type 0 where
  pub kind : s.kind < 2 ^ KIND_WIDTH
  pub generation : s.generation < 2 ^ 1

second-fits : (s : Second) → SecondFits s → AllByRecursion FieldFits (second_fields s)
second-fits s fit = (omega arith, (omega arith, (fit.kind, (fit.generation, tt))))

-- the second word of these numbers tells them
pub second-tells : (s : Second) → SecondFits s → Tells (second_word s) s
second-tells s fit =
    let cut : cuts 0 (map width (second_fields s)) (second_word s) ≡ second_fields s = cuts-stack (second_fields s) (second-fits s fit) in
    record {
      kind = sym (ap (value_at 2) cut);
      generation = sym (ap (value_at 3) cut);
    }

-- with the generation's bit flipped, it is the second word with the other generation
pub second-flipped : (s : Second) → SecondFits s → bit_xor (second_word s) (2 ^ GENERATION) ≡ second_word (record s { generation = 1 - s.generation })
second-flipped s fit =
    let word : ℕ = second_word s in
    let is : bit_at word GENERATION ≡ s.generation = sym (second-tells s fit).generation in
    let one : s.generation < 2 ^ 1 = fit.generation in
    let sum : bit_xor word (2 ^ GENERATION) + bit_at word GENERATION * 2 ^ GENERATION * 2 ≡ word + 2 ^ GENERATION = ap (λ (z : ℕ). bit_xor word (2 ^ GENERATION) + z * 2) (sym (and_pow word GENERATION)) ∙ xor_add_and word (2 ^ GENERATION) in
    let sum' : bit_xor word (2 ^ GENERATION) + s.generation * 2 ^ GENERATION * 2 ≡ word + 2 ^ GENERATION = ap (λ (z : ℕ). bit_xor word (2 ^ GENERATION) + z * 2 ^ GENERATION * 2) (sym is) ∙ sum in
    omega arith

-- the numbers of a completion fit
pub second_of-fits : (d : TxComp) → SecondFits (second_of d)
second_of-fits d = record {
  kind = rw d.kind_is (omega arith);
  generation = bit_below d.generation;
}

-- the words of a completion have its fields
pub HasFields-words_of : (d : TxComp) → HasFields (words_of d) d
HasFields-words_of d = record { first = first-tells d.txd_idx d.txd_idx_fits; second = second-tells (second_of d) (second_of-fits d) }

-- the same words have the fields of one completion at most
pub same_fields : (words : List ℕ) (c d : TxComp) → HasFields words c → HasFields words d → c ≡ d
same_fields words c d p q =
    let txd_idx : c.txd_idx ≡ d.txd_idx = p.first ∙ sym q.first in
    let kind : c.kind ≡ d.kind = p.second.kind ∙ sym q.second.kind in
    let generation : c.generation ≡ d.generation = bit_same c.generation d.generation (p.second.generation ∙ sym q.second.generation) in
    λ i. record {
      txd_idx = txd_idx i;
      kind = kind i;
      generation = generation i;
      txd_idx_fits = is_prop→PathP (λ j. txd_idx j < 2 ^ TXD_IDX_WIDTH) (λ j. hlevel props) c.txd_idx_fits d.txd_idx_fits i;
      kind_is = is_prop→PathP (λ j. kind j ≡ TX_COMPLETION_TYPE) (λ j. hlevel props) c.kind_is d.kind_is i;
    }

-- the bit that tells the generation
pub generation_bit : (words : List ℕ) (d : TxComp) → HasFields words d → bit_at (slice_index words 1) GENERATION ≡ bit d.generation
generation_bit words d has = sym has.second.generation
