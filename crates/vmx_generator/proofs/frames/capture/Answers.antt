use Rattle.std.proofs.Common.{◌≡◌, ℕ, ◌∷◌, ◌++◌, [], ap, sym, ◌∙◌}
use Rattle.vmx_pcap.specs.declared.records.Stamped.{Stamped}
use Rattle.vmx_generator.specs.Frames.{frame_of, stamped_of}
use Rattle.vmx_generator.proofs.Making.{frames_none, frames_more}
use Rattle.vmx_generator.proofs.frames.capture.Goals as goal

pub loop-number-init : goal.loop-number-init
loop-number-init c = c.in_ok-records.ensures.items ∙ sym (frames_none c.args.draws.now.number c.args.guest)

pub loop-number-preserved : goal.loop-number-preserved
loop-number-preserved c =
    let number = c.args.draws.now.number in
    let g = c.args.guest in
    let n = c.loop-number.number in
    let one : ◌≡◌ {A = Stamped} (record { seconds = c.from.result; micros = c.from-in-loop-number.result; frame = c.in_ok-frame.frame }) (stamped_of number g n) = λ i. record {
      seconds = c.from.ensures i;
      micros = c.from-in-loop-number.ensures i;
      frame = (c.in_ok-frame.ensures.frame ∙ ap (frame_of g n) c.at.ensures.draws) i;
    } in
    c.in_ok-push.ensures.items ∙ (λ i. c.loop-number.invariant i ++ one i ∷ []) ∙ sym (frames_more number g n)
