use Rattle.std.proofs.Common.{◌≡◌, ℕ, ◌-◌, length, ap, sym, ◌∙◌, refl, arith, subst}
use Rattle.vmx_rx_ring.specs.declared.known.Entry.{Entry}
use Rattle.vmx_rx_ring.specs.Words.{count}
use Rattle.vmx_rx_ring.specs.Tells.{Seated, IsNext, Tells}
use Rattle.vmx_layout.specs.Bits.{bit as flag}
use Rattle.vmx_rx_walk.specs.Reading.{IsTagged, Reads, FrameRead, TagRead}
use Rattle.vmx_rx_ring.proofs.DriverSteps.{second_loads}
use Rattle.vmx_rx_walk.proofs.Stagings.{index_two, two_below}
use Rattle.vmx_rx_walk.proofs.Readings.{same_next}
use Rattle.vmx_rx_walk.proofs.Frames as f
use Rattle.vmx_rx_walk.proofs.reading.+read_frame.Goals as goal

pub read_piece-piece-requires-clause-small : goal.read_piece-piece-requires-clause-small
read_piece-piece-requires-clause-small g t c = let a = c.requires.at in let k = f.smalls c.args.shape.now c.args.seat.now.me c.args.fuel c.args.second (length c.args.into.now.items) c.requires.can c.requires.table.2 c.requires.driver.3 in
    let a0 = a.0 in let a1 = a.1 in let a2 = a.2 in let k0 = k.0 in let k1 = k.1 in let k2 = k.2 in (omega arith, omega arith, omega arith)

pub read_piece-piece-requires-clause-can : goal.read_piece-piece-requires-clause-can
read_piece-piece-requires-clause-can g t c = f.can_read c.args.shape.now c.args.seat.now.me c.args.fuel c.args.second (length c.args.into.now.items) c.requires.can c.requires.table.2 c.requires.driver.3

pub returns-then-ends_packet-clause-read : goal.returns-then-ends_packet-clause-read
returns-then-ends_packet-clause-read g t c r = let s = c.args.shape.now in let m = c.args.seat.now.me in let fuel = c.args.fuel in let room : ℕ = length c.args.into.now.items in let next = f.next s m fuel c.args.second room r c.requires.table.2 c.requires.driver.3 in
    let a = f.apart_now s m fuel c.args.second room r c.requires.table.2 c.requires.driver.3 _ (c.read_piece-piece.ensures.first _ next) in
    f.ends_now s m fuel c.args.second room r c.requires.table.2 c.requires.driver.3 c.read_piece-piece.new.seat.me c.args.into.now.items _ c.read_piece-piece.ensures.reads (f.is_last _ _ a.eop_is (sym c.ends_packet.ensures.field ∙ ap flag c.if-ends_packet.true))

pub load-second-requires : goal.load-second-requires
load-second-requires g t c = let s = c.args.shape.now in let m = c.args.seat.now.me in let fuel = c.args.fuel in let room : ℕ = length c.args.into.now.items in let r = c.requires.can in let n = c.count_of-n.ensures.count in let next = f.next s m fuel c.args.second room r c.requires.table.2 c.requires.driver.3 in
    let a = f.apart_now s m fuel c.args.second room r c.requires.table.2 c.requires.driver.3 _ (c.read_piece-piece.ensures.first _ next) in
    let later = f.next_later s m fuel c.args.second room r c.requires.table.2 c.requires.driver.3 c.read_piece-piece.new.seat.me c.args.into.now.items _ c.read_piece-piece.ensures.reads (f.is_not_last _ _ a.eop_is (sym c.ends_packet.ensures.field ∙ ap flag c.if-ends_packet.false)) in
    let now = (c.read_piece-piece.ensures.reads _ next).0 in (
      c.read_piece-piece.ensures.same.0 ∙ c.requires.table.0,
      two_below _ _ _ s c.count_of-n.result _ c.requires.table n,
      second_loads g.C.TellsVisible.counted _ _ _ _ later.0 (ap (λ (z : Seated). z.0.receives) now ∙ c.requires.driver.0) later.1 (index_two c.count_of-n.result _ _ _ (n ∙ ap count (sym c.requires.driver.3) ∙ ap (λ (z : Seated). count z.0.made) (sym now)) c.read_piece-piece.ensures.back.0),
    )

pub read_frame-rest-requires : goal.read_frame-rest-requires
read_frame-rest-requires g t c = λ lives outlives. let s = c.args.shape.now in let m = c.args.seat.now.me in let fuel = c.args.fuel in let room : ℕ = length c.args.into.now.items in let r = c.requires.can in let next = f.next s m fuel c.args.second room r c.requires.table.2 c.requires.driver.3 in
    let a = f.apart_now s m fuel c.args.second room r c.requires.table.2 c.requires.driver.3 _ (c.read_piece-piece.ensures.first _ next) in let not_last = f.is_not_last _ _ a.eop_is (sym c.ends_packet.ensures.field ∙ ap flag c.if-ends_packet.false) in
    let l = c.load-second.ensures in let m1 : Seated = c.read_piece-piece.new.seat.me in let m2 : Seated = c.load-second.new.seat.me in let same : m2 ≡ m1 = l.2.0 in let now = (c.read_piece-piece.ensures.reads _ next).0 in
    let word : (x : Entry) → IsNext m1.0 x → Tells x c.load-second.result = (λ x n. subst (λ (z : Entry). Tells z c.load-second.result) (same_next m1.0 l.2.1 x l.2.2 n) l.2.3) in
    let goes = f.goes_on s m fuel c.args.second room r c.requires.table.2 c.requires.driver.3 m1 c.load-second.result c.args.into.now.items c.read_piece-piece.new.into.items refl c.read_piece-piece.ensures.reads not_last word in let few = r.few in let dec = c.decreases in let b = c.read_piece-piece.ensures.back in let big = c.read_piece-piece.ensures.room in let had = c.requires.room in (
      omega arith,
      (
        outlives,
        (
          (l.0 ∙ c.read_piece-piece.ensures.same.0 ∙ c.requires.table.0, ap (λ z. z.words) (l.0 ∙ c.read_piece-piece.ensures.same.0) ∙ c.requires.table.1, c.requires.table.2),
          (
            (ap (λ (z : Seated). z.0.receives) (same ∙ now) ∙ c.requires.driver.0, ap (λ (z : Seated). z.0.delivers) (same ∙ now) ∙ c.requires.driver.1, ap (λ (z : Seated). z.1) (same ∙ now), ap (λ (z : Seated). z.0.made) (same ∙ now) ∙ c.requires.driver.3),
            (
              ap (λ (z : Seated). z.0.driver.reading) (same ∙ now),
              (
                (b.0 ∙ ap (λ (z : Seated). z.0.driver.read) (sym same), b.1 ∙ ap (λ (z : Seated). z.0.driver.back1) (sym same), b.2 ∙ ap (λ (z : Seated). z.0.driver.back2) (sym same)),
                (subst (λ (z : Seated). Reads s z (fuel - 1) c.load-second.result (length c.read_piece-piece.new.into.items)) (sym same) goes, omega arith),
              ),
            ),
          ),
        ),
      ),
    )

pub returns-clause-read : goal.returns-clause-read
returns-clause-read g t c r = let s = c.args.shape.now in let m = c.args.seat.now.me in let fuel = c.args.fuel in let room : ℕ = length c.args.into.now.items in let next = f.next s m fuel c.args.second room r c.requires.table.2 c.requires.driver.3 in
    let a = f.apart_now s m fuel c.args.second room r c.requires.table.2 c.requires.driver.3 _ (c.read_piece-piece.ensures.first _ next) in let not_last = f.is_not_last _ _ a.eop_is (sym c.ends_packet.ensures.field ∙ ap flag c.if-ends_packet.false) in
    let l = c.load-second.ensures in let m1 : Seated = c.read_piece-piece.new.seat.me in let m2 : Seated = c.load-second.new.seat.me in let same : m2 ≡ m1 = l.2.0 in
    let word : (x : Entry) → IsNext m1.0 x → Tells x c.load-second.result = (λ x n. subst (λ (z : Entry). Tells z c.load-second.result) (same_next m1.0 l.2.1 x l.2.2 n) l.2.3) in
    f.frame_on s m fuel c.args.second room r c.requires.table.2 c.requires.driver.3 m1 c.read_frame-rest.new.seat.me c.load-second.result c.args.into.now.items c.read_piece-piece.new.into.items c.read_frame-rest.new.into.items refl c.read_piece-piece.ensures.reads not_last word
    (subst (λ (z : Seated). FrameRead s z (fuel - 1) c.load-second.result c.read_piece-piece.new.into.items c.read_frame-rest.new.seat.me c.read_frame-rest.new.into.items) same c.read_frame-rest.ensures.read)

pub returns-then-ends_packet-clause-tag : goal.returns-then-ends_packet-clause-tag
returns-then-ends_packet-clause-tag g t c r = let s = c.args.shape.now in let m = c.args.seat.now.me in let fuel = c.args.fuel in let room : ℕ = length c.args.into.now.items in let next = f.next s m fuel c.args.second room r c.requires.table.2 c.requires.driver.3 in
    let a = f.apart_now s m fuel c.args.second room r c.requires.table.2 c.requires.driver.3 _ (c.read_piece-piece.ensures.first _ next) in
    subst (λ (w : ℕ). IsTagged w r.meta.tci) (sym c.read_piece-piece.ensures.tag) (f.tag_now s m fuel c.args.second room r c.requires.table.2 c.requires.driver.3 (f.is_last _ _ a.eop_is (sym c.ends_packet.ensures.field ∙ ap flag c.if-ends_packet.true)))

pub returns-clause-tag : goal.returns-clause-tag
returns-clause-tag g t c r = let s = c.args.shape.now in let m = c.args.seat.now.me in let fuel = c.args.fuel in let room : ℕ = length c.args.into.now.items in let next = f.next s m fuel c.args.second room r c.requires.table.2 c.requires.driver.3 in
    let a = f.apart_now s m fuel c.args.second room r c.requires.table.2 c.requires.driver.3 _ (c.read_piece-piece.ensures.first _ next) in let not_last = f.is_not_last _ _ a.eop_is (sym c.ends_packet.ensures.field ∙ ap flag c.if-ends_packet.false) in
    let l = c.load-second.ensures in let m1 : Seated = c.read_piece-piece.new.seat.me in let m2 : Seated = c.load-second.new.seat.me in let same : m2 ≡ m1 = l.2.0 in
    let word : (x : Entry) → IsNext m1.0 x → Tells x c.load-second.result = (λ x n. subst (λ (z : Entry). Tells z c.load-second.result) (same_next m1.0 l.2.1 x l.2.2 n) l.2.3) in
    f.tag_on s m fuel c.args.second room r c.requires.table.2 c.requires.driver.3 m1 c.load-second.result c.read_frame-rest.result.last c.args.into.now.items c.read_piece-piece.new.into.items refl c.read_piece-piece.ensures.reads not_last word
    (subst (λ (z : Seated). TagRead s z (fuel - 1) c.load-second.result c.read_piece-piece.new.into.items c.read_frame-rest.result.last) same c.read_frame-rest.ensures.tag)
