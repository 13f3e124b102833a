use Rattle.std.proofs.Common.{rules, ◌≡◌, ◌∙◌, ap, drop, take}
use Rattle.vmx_ends.specs.ReceiveClauses.{made_of}
use Rattle.vmx_rx_walk.proofs.Stagings.{frame_two, frame_three, reach_two, reach_three}
use Rattle.vmx_rx_walk.proofs.staging.stage_frame.Goals as goal

pub returns-then-n-eq1-clause-staged : goal.returns-then-n-eq1-clause-staged
returns-then-n-eq1-clause-staged g c = frame_two (made_of c.args.shape.now) c.args.seat.now.me c.args.meta.now c.args.first c.args.second c.args.third c.args.frame.now c.requires.none c.args.n _ _ c.stage_piece-2.new.seat.me c.stage_piece-then-n-eq1.new.seat.me
    (search rules) c.cut.ensures.front c.cut.ensures.back c.stage_piece-2.ensures.staged c.stage_piece-then-n-eq1.ensures.staged

pub stage_piece-requires-3-clause-reach : goal.stage_piece-requires-3-clause-reach
stage_piece-requires-3-clause-reach g c = let two : c.args.n ≡ 2 = search rules in reach_two (made_of c.args.shape.now) c.args.seat.now.me c.args.meta.now c.args.first c.args.second c.args.third c.args.frame.now c.requires.none c.args.n _ c.stage_piece-2.new.seat.me two c.requires.reach c.stage_piece-2.ensures.staged

pub stage_piece-requires-4-clause-reach : goal.stage_piece-requires-4-clause-reach
stage_piece-requires-4-clause-reach g c = let two : c.args.n ≡ 2 = search rules in reach_three (made_of c.args.shape.now) c.args.seat.now.me c.args.meta.now c.args.first c.args.second c.args.third c.args.frame.now c.requires.none c.args.n _ _ c.stage_piece-2.new.seat.me c.stage_piece-3.new.seat.me two c.requires.reach c.stage_piece-2.ensures.staged c.stage_piece-3.ensures.staged

pub returns-clause-staged : goal.returns-clause-staged
returns-clause-staged g c = let two : c.args.n ≡ 2 = search rules in frame_three (made_of c.args.shape.now) c.args.seat.now.me c.args.meta.now c.args.first c.args.second c.args.third c.args.frame.now c.requires.none c.args.n _ _ _ c.stage_piece-2.new.seat.me c.stage_piece-3.new.seat.me c.stage_piece-4.new.seat.me
    two c.cut.ensures.front (c.cut-2.ensures.front ∙ ap (take 4096) c.cut.ensures.back) (c.cut-2.ensures.back ∙ ap (drop 4096) c.cut.ensures.back) c.stage_piece-2.ensures.staged c.stage_piece-3.ensures.staged c.stage_piece-4.ensures.staged
