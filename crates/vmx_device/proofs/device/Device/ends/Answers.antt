use Rattle.std.proofs.Common.{◌≡◌, refl, ap, ◌∙◌, subst, Some, None, Option}
use Rattle.std.specs.Prelude.{option_map}
use Rattle.vmx_machine_state.specs.Views.{ActiveView, ends_of}
use Rattle.vmx_device_laws.specs.Views.{DeviceView}
use Rattle.vmx_device_laws.specs.Keeps.{Keeps}
use Rattle.vmx_device.proofs.Rest.{at_rest}
use Rattle.vmx_device.proofs.device.Device.ends.Goals as goal

none_from : {X Y : Type 0} (f : X → Y) (o : Option X) → option_map f o ≡ None → o ≡ None
none_from f None h = refl
none_from f (Some x) h = absurd (cc h)

pub returns-clause-rest : goal.returns-clause-rest
returns-clause-rest g c r =
    let none = at_rest c.args.self.now (subst Keeps c.self.view_is c.self.invariant.keeps) r in
    none_from _ c.ends.result (c.ends.ensures.ends ∙ ap (λ (d : DeviceView). ends_of d.machine) c.self.view_is ∙ ap (option_map (λ (a : ActiveView). a.ends)) none)

pub returns-clause-ends : goal.returns-clause-ends
returns-clause-ends g c = c.ends.ensures.ends ∙ ap (λ (d : DeviceView). ends_of d.machine) c.self.view_is
