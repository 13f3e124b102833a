-- Laws of the words of a receive completion.
use Rattle.std.proofs.Common.{◌≡◌, ℕ, ◌+◌, ◌-◌, ◌*◌, ◌^◌, ◌<◌, List, map, sym, ap, ◌∙◌, arith}
use Rattle.std.specs.Prelude.{slice_index}
use Rattle.std.specs.Int.{bit_at}
use Rattle.std.specs.Int.Bits.{bit_xor, xor_add_and}
use Rattle.std.proofs.lemmas.Nat.Bits.{and_pow}
use mathlib.Core.HLevel.{is_prop→PathP}
use Rattle.std.specs.List.{AllByRecursion}
use Rattle.std.proofs.Props.{props}
use Rattle.vmx_layout.specs.Bits.{bit}
use Rattle.vmx_layout.specs.RxComp.{First, Second, first_fields, second_fields, first_word, second_word, first_of, second_of, words_of, TellsFirst, Tells, HasFields}
use Rattle.vmx_layout.specs.BitsLaws.{cuts, cuts-stack, width, value_at, bit_same, bit_below, FieldFits}
use Rattle.vmx_layout.specs.declared.rx_comp.TheConstants.{GENERATION, RXD_IDX_WIDTH, RQ_ID_WIDTH, RSS_TYPE_WIDTH, RSS_HASH_WIDTH, LEN_WIDTH, TCI_WIDTH, CSUM_WIDTH, KIND_WIDTH, RX_COMPLETION_TYPE}
use Rattle.vmx_layout.specs.declared.rx_comp.RxComp.{RxComp}

-- the numbers of a first word fit into their fields
pub record FirstFits (s : First) : Type 0 where
  pub rxd_idx : s.rxd_idx < 2 ^ RXD_IDX_WIDTH
  pub eop : s.eop < 2 ^ 1
  pub sop : s.sop < 2 ^ 1
  pub rq_id : s.rq_id < 2 ^ RQ_ID_WIDTH
  pub rss_type : s.rss_type < 2 ^ RSS_TYPE_WIDTH
  pub cnc : s.cnc < 2 ^ 1
  pub rss_hash : s.rss_hash < 2 ^ RSS_HASH_WIDTH

first-fits : (s : First) → FirstFits s → AllByRecursion FieldFits (first_fields s)
first-fits s fit = (fit.rxd_idx, (omega arith, (fit.eop, (fit.sop, (fit.rq_id, (fit.rss_type, (fit.cnc, (omega arith, (fit.rss_hash, tt)))))))))

-- the first word of these numbers tells them
pub first-tells : (s : First) → FirstFits s → TellsFirst (first_word s) s
first-tells s fit =
    let cut : cuts 0 (map width (first_fields s)) (first_word s) ≡ first_fields s = cuts-stack (first_fields s) (first-fits s fit) in
    record {
      rxd_idx = sym (ap (value_at 0) cut);
      eop = sym (ap (value_at 2) cut);
      sop = sym (ap (value_at 3) cut);
      rq_id = sym (ap (value_at 4) cut);
      rss_type = sym (ap (value_at 5) cut);
      cnc = sym (ap (value_at 6) cut);
      rss_hash = sym (ap (value_at 8) cut);
    }

-- the numbers of a second word fit into their fields
pub record SecondFits (s : Second) : Type 0 where
  pub len : s.len < 2 ^ LEN_WIDTH
  pub err : s.err < 2 ^ 1
  pub ts : s.ts < 2 ^ 1
  pub tci : s.tci < 2 ^ TCI_WIDTH
  pub csum : s.csum < 2 ^ CSUM_WIDTH
  pub tuc : s.tuc < 2 ^ 1
  pub udp : s.udp < 2 ^ 1
  pub tcp : s.tcp < 2 ^ 1
  pub ipc : s.ipc < 2 ^ 1
  pub v6 : s.v6 < 2 ^ 1
  pub v4 : s.v4 < 2 ^ 1
  pub frg : s.frg < 2 ^ 1
  pub fcs : s.fcs < 2 ^ 1
  pub kind : s.kind < 2 ^ KIND_WIDTH
  pub generation : s.generation < 2 ^ 1

second-fits : (s : Second) → SecondFits s → AllByRecursion FieldFits (second_fields s)
second-fits s fit = (fit.len, (fit.err, (fit.ts, (fit.tci, (fit.csum, (fit.tuc, (fit.udp, (fit.tcp, (fit.ipc, (fit.v6, (fit.v4, (fit.frg, (fit.fcs, (fit.kind, (fit.generation, tt)))))))))))))))

-- the second word of these numbers tells them
pub second-tells : (s : Second) → SecondFits s → Tells (second_word s) s
second-tells s fit =
    let cut : cuts 0 (map width (second_fields s)) (second_word s) ≡ second_fields s = cuts-stack (second_fields s) (second-fits s fit) in
    record {
      len = sym (ap (value_at 0) cut);
      err = sym (ap (value_at 1) cut);
      ts = sym (ap (value_at 2) cut);
      tci = sym (ap (value_at 3) cut);
      csum = sym (ap (value_at 4) cut);
      tuc = sym (ap (value_at 5) cut);
      udp = sym (ap (value_at 6) cut);
      tcp = sym (ap (value_at 7) cut);
      ipc = sym (ap (value_at 8) cut);
      v6 = sym (ap (value_at 9) cut);
      v4 = sym (ap (value_at 10) cut);
      frg = sym (ap (value_at 11) cut);
      fcs = sym (ap (value_at 12) cut);
      kind = sym (ap (value_at 13) cut);
      generation = sym (ap (value_at 14) cut);
    }

-- with the generation's bit flipped, it is the second word with the other generation
pub second-flipped : (s : Second) → SecondFits s → bit_xor (second_word s) (2 ^ GENERATION) ≡ second_word (record s { generation = 1 - s.generation })
second-flipped s fit =
    let word : ℕ = second_word s in
    let is : bit_at word GENERATION ≡ s.generation = sym (second-tells s fit).generation in
    let one : s.generation < 2 ^ 1 = fit.generation in
    let sum : bit_xor word (2 ^ GENERATION) + bit_at word GENERATION * 2 ^ GENERATION * 2 ≡ word + 2 ^ GENERATION = ap (λ (z : ℕ). bit_xor word (2 ^ GENERATION) + z * 2) (sym (and_pow word GENERATION)) ∙ xor_add_and word (2 ^ GENERATION) in
    let sum' : bit_xor word (2 ^ GENERATION) + s.generation * 2 ^ GENERATION * 2 ≡ word + 2 ^ GENERATION = ap (λ (z : ℕ). bit_xor word (2 ^ GENERATION) + z * 2 ^ GENERATION * 2) (sym is) ∙ sum in
    omega arith

-- the numbers of a completion fit
pub first_of-fits : (d : RxComp) → FirstFits (first_of d)
first_of-fits d = record {
  rxd_idx = d.rxd_idx_fits;
  eop = bit_below d.eop;
  sop = bit_below d.sop;
  rq_id = d.rq_id_fits;
  rss_type = d.rss_type_fits;
  cnc = bit_below d.cnc;
  rss_hash = d.rss_hash_fits;
}

-- the numbers of a completion fit
pub second_of-fits : (d : RxComp) → SecondFits (second_of d)
second_of-fits d = record {
  len = d.len_fits;
  err = bit_below d.err;
  ts = bit_below d.ts;
  tci = d.tci_fits;
  csum = d.csum_fits;
  tuc = bit_below d.tuc;
  udp = bit_below d.udp;
  tcp = bit_below d.tcp;
  ipc = bit_below d.ipc;
  v6 = bit_below d.v6;
  v4 = bit_below d.v4;
  frg = bit_below d.frg;
  fcs = bit_below d.fcs;
  kind = rw d.kind_is (omega arith);
  generation = bit_below d.generation;
}

-- the words of a completion have its fields
pub HasFields-words_of : (d : RxComp) → HasFields (words_of d) d
HasFields-words_of d = record { first = first-tells (first_of d) (first_of-fits d); second = second-tells (second_of d) (second_of-fits d) }

-- the same words have the fields of one completion at most
pub same_fields : (words : List ℕ) (c d : RxComp) → HasFields words c → HasFields words d → c ≡ d
same_fields words c d p q =
    let rxd_idx : c.rxd_idx ≡ d.rxd_idx = p.first.rxd_idx ∙ sym q.first.rxd_idx in
    let eop : c.eop ≡ d.eop = bit_same c.eop d.eop (p.first.eop ∙ sym q.first.eop) in
    let sop : c.sop ≡ d.sop = bit_same c.sop d.sop (p.first.sop ∙ sym q.first.sop) in
    let rq_id : c.rq_id ≡ d.rq_id = p.first.rq_id ∙ sym q.first.rq_id in
    let rss_type : c.rss_type ≡ d.rss_type = p.first.rss_type ∙ sym q.first.rss_type in
    let cnc : c.cnc ≡ d.cnc = bit_same c.cnc d.cnc (p.first.cnc ∙ sym q.first.cnc) in
    let rss_hash : c.rss_hash ≡ d.rss_hash = p.first.rss_hash ∙ sym q.first.rss_hash in
    let len : c.len ≡ d.len = p.second.len ∙ sym q.second.len in
    let err : c.err ≡ d.err = bit_same c.err d.err (p.second.err ∙ sym q.second.err) in
    let ts : c.ts ≡ d.ts = bit_same c.ts d.ts (p.second.ts ∙ sym q.second.ts) in
    let tci : c.tci ≡ d.tci = p.second.tci ∙ sym q.second.tci in
    let csum : c.csum ≡ d.csum = p.second.csum ∙ sym q.second.csum in
    let tuc : c.tuc ≡ d.tuc = bit_same c.tuc d.tuc (p.second.tuc ∙ sym q.second.tuc) in
    let udp : c.udp ≡ d.udp = bit_same c.udp d.udp (p.second.udp ∙ sym q.second.udp) in
    let tcp : c.tcp ≡ d.tcp = bit_same c.tcp d.tcp (p.second.tcp ∙ sym q.second.tcp) in
    let ipc : c.ipc ≡ d.ipc = bit_same c.ipc d.ipc (p.second.ipc ∙ sym q.second.ipc) in
    let v6 : c.v6 ≡ d.v6 = bit_same c.v6 d.v6 (p.second.v6 ∙ sym q.second.v6) in
    let v4 : c.v4 ≡ d.v4 = bit_same c.v4 d.v4 (p.second.v4 ∙ sym q.second.v4) in
    let frg : c.frg ≡ d.frg = bit_same c.frg d.frg (p.second.frg ∙ sym q.second.frg) in
    let fcs : c.fcs ≡ d.fcs = bit_same c.fcs d.fcs (p.second.fcs ∙ sym q.second.fcs) in
    let kind : c.kind ≡ d.kind = p.second.kind ∙ sym q.second.kind in
    let generation : c.generation ≡ d.generation = bit_same c.generation d.generation (p.second.generation ∙ sym q.second.generation) in
    λ i. record {
      rxd_idx = rxd_idx i;
      eop = eop i;
      sop = sop i;
      rq_id = rq_id i;
      rss_type = rss_type i;
      cnc = cnc i;
      rss_hash = rss_hash i;
      len = len i;
      err = err i;
      ts = ts i;
      tci = tci i;
      csum = csum i;
      tuc = tuc i;
      udp = udp i;
      tcp = tcp i;
      ipc = ipc i;
      v6 = v6 i;
      v4 = v4 i;
      frg = frg i;
      fcs = fcs i;
      kind = kind i;
      generation = generation i;
      rxd_idx_fits = is_prop→PathP (λ j. rxd_idx j < 2 ^ RXD_IDX_WIDTH) (λ j. hlevel props) c.rxd_idx_fits d.rxd_idx_fits i;
      rq_id_fits = is_prop→PathP (λ j. rq_id j < 2 ^ RQ_ID_WIDTH) (λ j. hlevel props) c.rq_id_fits d.rq_id_fits i;
      rss_type_fits = is_prop→PathP (λ j. rss_type j < 2 ^ RSS_TYPE_WIDTH) (λ j. hlevel props) c.rss_type_fits d.rss_type_fits i;
      rss_hash_fits = is_prop→PathP (λ j. rss_hash j < 2 ^ RSS_HASH_WIDTH) (λ j. hlevel props) c.rss_hash_fits d.rss_hash_fits i;
      len_fits = is_prop→PathP (λ j. len j < 2 ^ LEN_WIDTH) (λ j. hlevel props) c.len_fits d.len_fits i;
      tci_fits = is_prop→PathP (λ j. tci j < 2 ^ TCI_WIDTH) (λ j. hlevel props) c.tci_fits d.tci_fits i;
      csum_fits = is_prop→PathP (λ j. csum j < 2 ^ CSUM_WIDTH) (λ j. hlevel props) c.csum_fits d.csum_fits i;
      kind_is = is_prop→PathP (λ j. kind j ≡ RX_COMPLETION_TYPE) (λ j. hlevel props) c.kind_is d.kind_is i;
    }

-- the bit that tells the generation
pub generation_bit : (words : List ℕ) (d : RxComp) → HasFields words d → bit_at (slice_index words 1) GENERATION ≡ bit d.generation
generation_bit words d has = sym has.second.generation
