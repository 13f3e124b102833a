use Rattle.std.proofs.Common.{rules, ◌≡◌, false, inl, inr, ap, ◌∙◌, sym}
use Rattle.std.specs.Prelude.{Ok, is_some}
use Rattle.vmx_shared_area.specs.Tells.{Reads}
use Rattle.vmx_device_state.specs.DeviceState.{Active}
use Rattle.vmx_device_state.specs.Agree.{setup_agrees}
use Rattle.vmx_device_state.specs.Plain.{state_of}
use Rattle.vmx_device_state.proofs.Answered.{is_idle, activates, refuses}
use Rattle.vmx_device_state.proofs.plain.PlainDevice.activate.Goals.{else-counts-from-via-then-counts-from+else-counts-from-2, else-counts-from-via-else-counts-from}
use Rattle.vmx_device_state.proofs.plain.PlainDevice.activate.Goals as goal

pub returns-then-counts-from-2-clause-answer : goal.returns-then-counts-from-2-clause-answer
returns-then-counts-from-2-clause-answer c =
    let idle : is_some c.args.self.now.setup ≡ false = search rules in
    activates (state_of c.args.self.now) c.args.image.now c.in-Ok.setup c.args.ends c.in-Some.counts (is_idle c.args.self.now.setup idle)
    (c.in-Ok.ensures.sound, c.in-Ok.ensures.found) (search rules) (search rules) (search rules)

pub returns-then-counts-from-2-clause-state : goal.returns-then-counts-from-2-clause-state
returns-then-counts-from-2-clause-state c = ap Active (setup_agrees c.args.image.now c.in-Ok.setup (c.in-Ok.ensures.sound, c.in-Ok.ensures.found))

pub returns-else-counts-from-clause-answer : goal.returns-else-counts-from-clause-answer
returns-else-counts-from-clause-answer c =
    let idle : is_some c.args.self.now.setup ≡ false = search rules in
    let told : Reads c.args.image.now (Ok c.in-Ok.setup) = (c.in-Ok.ensures.sound, c.in-Ok.ensures.found) in
    elim c.else-counts-from.branch [
      | else-counts-from-via-then-counts-from+else-counts-from-2 w ↦
          refuses (state_of c.args.self.now) c.args.image.now c.in-Ok.setup c.args.ends c.in-Some.counts (is_idle c.args.self.now.setup idle) told (search rules)
          (inr (λ e. w.if-counts-from-2.false (e ∙ sym w.from-then-counts-from.ensures)))
      | else-counts-from-via-else-counts-from w ↦
          refuses (state_of c.args.self.now) c.args.image.now c.in-Ok.setup c.args.ends c.in-Some.counts (is_idle c.args.self.now.setup idle) told (search rules)
          (inl (λ e. w.if-counts-from.false (e ∙ sym c.from.ensures)))
    ]
