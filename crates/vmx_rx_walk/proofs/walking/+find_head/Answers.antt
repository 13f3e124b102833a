use Rattle.std.proofs.Common.{ℕ, ◌%◌, ap, ap₂, sym, ◌∙◌, arith, suc}
use Rattle.vmx_ends.specs.ReceiveClauses.{made_of}
use Rattle.vmx_rx_ring.proofs.DeviceLooks.{head_looks}
use Rattle.vmx_rx_walk.proofs.Walks.{word1_below, hit_in, fuel_left, nearer, larger_second}
use Rattle.vmx_rx_walk.proofs.walking.+find_head.Goals as goal

pub load-word-requires : goal.load-word-requires
load-word-requires g t c = let d = c.requires.device in let tb = c.requires.table in let a = c.requires.at in let size = ap (λ m. m.size1) d.3 in let here = a.0 in let low = a.1 in let high = a.2 in (
  tb.0,
  word1_below _ _ _ c.args.shape.now c.args.position tb,
  head_looks g.C.TellsVisible.counted _ _ _ _ d.0 d.1 d.2 (omega arith) (omega arith) (ap₂ (λ (x y : ℕ). x % y) here (sym size)),
)

pub find_head-requires : goal.find_head-requires
find_head-requires g t c = λ lives outlives. let d = c.requires.device in let tb = c.requires.table in let a = c.requires.at in let size = ap (λ m. m.size1) d.3 in let here = a.0 in let low = a.1 in let high = a.2 in let small = a.3 in
    let fuel = fuel_left (made_of c.args.shape.now) c.args.fuel c.args.position c.requires.near in let dec = c.decreases in
    let hit = hit_in _ _ _ _ _ (sym size) here (c.is_posted.ensures.posted c.if-not-is_posted.false) in let now = c.load-word.ensures.2.0 hit in let e = c.args.seat.now.me.0.device in
    let at = ap (λ m. m.0.device.next1) now in let gone = ap (λ m. m.0.device.gone1) now in let seen = ap (λ m. m.0.device.seen1) now in let more = larger_second e.seen1 (suc e.next1) in (
      omega arith,
      (
        outlives,
        (
          (c.load-word.ensures.0 ∙ tb.0, ap (λ z. z.words) c.load-word.ensures.0 ∙ tb.1, tb.2),
          (
            (ap (λ m. m.0.delivers) now ∙ d.0, ap (λ m. m.0.receives) now ∙ d.1, ap (λ m. m.1) now, ap (λ m. m.0.made) now ∙ d.3),
            (
              (omega arith, omega arith, omega arith, omega arith),
              nearer (made_of c.args.shape.now) c.args.fuel c.args.position c.requires.near (sym c.stands_body.ensures.body ∙ c.if-not-stands_body.false),
            ),
          ),
        ),
      ),
    )
