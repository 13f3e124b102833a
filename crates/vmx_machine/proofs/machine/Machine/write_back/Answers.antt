use Rattle.std.proofs.Common.{length, refl, sym, ap, ◌∙◌}
use Rattle.vmx_machine_state.specs.Readings.{told_back}
use Rattle.vmx_machine.proofs.machine.Machine.write_back.Goals as goal

pub returns-clause-told : goal.returns-clause-told
returns-clause-told g c get =
    told_back _ (λ a. a.setup) (λ a. refl) c.self.inside.active c.self.inside.tx c.self.inside.rx c.self.invariant.0 c.self.invariant.1 _ c.args.self.now c.self.view_is refl refl refl
    c.args.command c.args.image.now c.write_queues.new.image (sym (ap length c.bytes-bytes.ensures.value) ∙ c.bytes-bytes.ensures.len) c.write_queues.ensures.image get
