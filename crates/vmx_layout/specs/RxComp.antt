-- A receive completion as two words of 64 bits.
use Rattle.std.specs.Prelude.{◌≡◌, ℕ, List, [], ◌∷◌, Option, slice_index}
use Rattle.vmx_layout.specs.Bits.{bit, field, stack}
use Rattle.vmx_layout.specs.Fault.{first_reserved, other_kind}
use Rattle.vmx_layout.specs.declared.fault.FieldFault.{FieldFault}
use Rattle.vmx_layout.specs.declared.rx_comp.RxComp.{RxComp}
use Rattle.vmx_layout.specs.declared.rx_comp.TheConstants.{RX_COMPLETION_TYPE, RXD_IDX, UNNAMED, EOP, SOP, RQ_ID, RSS_TYPE, CNC, UNNAMED_LAST, RSS_HASH, LEN, ERR, TS, TCI, CSUM, TUC, UDP, TCP, IPC, V6, V4, FRG, FCS, KIND, GENERATION, RXD_IDX_WIDTH, UNNAMED_WIDTH, RQ_ID_WIDTH, RSS_TYPE_WIDTH, RSS_HASH_WIDTH, LEN_WIDTH, TCI_WIDTH, CSUM_WIDTH, KIND_WIDTH}

-- the numbers in the first word; a truth value is the number 0 or 1
pub record First : Type 0 where
  pub rxd_idx : ℕ
  pub eop : ℕ
  pub sop : ℕ
  pub rq_id : ℕ
  pub rss_type : ℕ
  pub cnc : ℕ
  pub rss_hash : ℕ

-- the numbers in the second word
pub record Second : Type 0 where
  pub len : ℕ
  pub err : ℕ
  pub ts : ℕ
  pub tci : ℕ
  pub csum : ℕ
  pub tuc : ℕ
  pub udp : ℕ
  pub tcp : ℕ
  pub ipc : ℕ
  pub v6 : ℕ
  pub v4 : ℕ
  pub frg : ℕ
  pub fcs : ℕ
  pub kind : ℕ
  pub generation : ℕ

-- parts 0 and 1, from the lowest bit up; a field without a name is 0
abbrev pub first_fields : First → List (ℕ × ℕ)
first_fields f =
    (RXD_IDX_WIDTH, f.rxd_idx) ∷ (UNNAMED_WIDTH, 0) ∷ (1, f.eop) ∷ (1, f.sop) ∷ (RQ_ID_WIDTH, f.rq_id) ∷ (RSS_TYPE_WIDTH, f.rss_type)
    ∷ (1, f.cnc) ∷ (1, 0) ∷ (RSS_HASH_WIDTH, f.rss_hash) ∷ []

-- parts 2 and 3, without a gap
abbrev pub second_fields : Second → List (ℕ × ℕ)
second_fields s =
    (LEN_WIDTH, s.len) ∷ (1, s.err) ∷ (1, s.ts) ∷ (TCI_WIDTH, s.tci) ∷ (CSUM_WIDTH, s.csum) ∷ (1, s.tuc)
    ∷ (1, s.udp) ∷ (1, s.tcp) ∷ (1, s.ipc) ∷ (1, s.v6) ∷ (1, s.v4) ∷ (1, s.frg)
    ∷ (1, s.fcs) ∷ (KIND_WIDTH, s.kind) ∷ (1, s.generation) ∷ []

-- the first word of these numbers
abbrev pub first_word : First → ℕ
first_word f = stack (first_fields f)

-- the second word of these numbers
abbrev pub second_word : Second → ℕ
second_word s = stack (second_fields s)

-- the numbers of a completion's first word
abbrev pub first_of : RxComp → First
first_of d = record {
  rxd_idx = d.rxd_idx;
  eop = bit d.eop;
  sop = bit d.sop;
  rq_id = d.rq_id;
  rss_type = d.rss_type;
  cnc = bit d.cnc;
  rss_hash = d.rss_hash;
}

-- the numbers of its second word
abbrev pub second_of : RxComp → Second
second_of d = record {
  len = d.len;
  err = bit d.err;
  ts = bit d.ts;
  tci = d.tci;
  csum = d.csum;
  tuc = bit d.tuc;
  udp = bit d.udp;
  tcp = bit d.tcp;
  ipc = bit d.ipc;
  v6 = bit d.v6;
  v4 = bit d.v4;
  frg = bit d.frg;
  fcs = bit d.fcs;
  kind = d.kind;
  generation = bit d.generation;
}

abbrev pub words_of : RxComp → List ℕ
words_of d = first_word (first_of d) ∷ second_word (second_of d) ∷ []

-- the bits without a name, from the lowest part up, and then the type
abbrev pub fault : List ℕ → Option FieldFault
fault words =
    first_reserved
    ((0, field (slice_index words 0) UNNAMED UNNAMED_WIDTH) ∷ (0, field (slice_index words 0) UNNAMED_LAST 1) ∷ [])
    (other_kind RX_COMPLETION_TYPE (field (slice_index words 1) KIND KIND_WIDTH))

-- where each number stands in the first word: its lowest bit and its width, part 1 from bit 32 on
pub record TellsFirst (word : ℕ) (f : First) : Type 0 where
  pub rxd_idx : f.rxd_idx ≡ field word RXD_IDX RXD_IDX_WIDTH
  pub eop : f.eop ≡ field word EOP 1
  pub sop : f.sop ≡ field word SOP 1
  pub rq_id : f.rq_id ≡ field word RQ_ID RQ_ID_WIDTH
  pub rss_type : f.rss_type ≡ field word RSS_TYPE RSS_TYPE_WIDTH
  pub cnc : f.cnc ≡ field word CNC 1
  pub rss_hash : f.rss_hash ≡ field word RSS_HASH RSS_HASH_WIDTH

-- where each number stands in the second word: its lowest bit and its width, part 3 from bit 32 on
pub record Tells (word : ℕ) (s : Second) : Type 0 where
  pub len : s.len ≡ field word LEN LEN_WIDTH
  pub err : s.err ≡ field word ERR 1
  pub ts : s.ts ≡ field word TS 1
  pub tci : s.tci ≡ field word TCI TCI_WIDTH
  pub csum : s.csum ≡ field word CSUM CSUM_WIDTH
  pub tuc : s.tuc ≡ field word TUC 1
  pub udp : s.udp ≡ field word UDP 1
  pub tcp : s.tcp ≡ field word TCP 1
  pub ipc : s.ipc ≡ field word IPC 1
  pub v6 : s.v6 ≡ field word V6 1
  pub v4 : s.v4 ≡ field word V4 1
  pub frg : s.frg ≡ field word FRG 1
  pub fcs : s.fcs ≡ field word FCS 1
  pub kind : s.kind ≡ field word KIND KIND_WIDTH
  pub generation : s.generation ≡ field word GENERATION 1

-- where each field stands in the words
pub record HasFields (words : List ℕ) (d : RxComp) : Type 0 where
  pub first : TellsFirst (slice_index words 0) (first_of d)
  pub second : Tells (slice_index words 1) (second_of d)
