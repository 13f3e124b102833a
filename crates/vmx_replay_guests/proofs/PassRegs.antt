-- Notes both ways between the two sides of the registers, call by call.
use Rattle.std.proofs.Common.{◌≡◌, sym, ap, ap₂, ◌∙◌, subst}
use Rattle.vmx_regs.specs.declared.known.Calls.{Calls}
use Rattle.vmx_regs.specs.declared.known.Masks.{Masks}
use Rattle.vmx_regs.specs.Rule.{told_driver, driver_note, told_device, device_note, hears_driver, hears_device, DriverKnows, DeviceKnows}
use Rattle.vmx_regs.specs.Masks.{masks_note, hears_masks}
use Rattle.vmx_device_laws.specs.Views.{DeviceView}
use Rattle.vmx_driver_steps.specs.Driver.{DriverView}
use Rattle.vmx_replay_guests.specs.Passing.{RegsPassed}

module _ (v v1 v2 : DriverView) (d d1 d2 : DeviceView) (sent served : Calls) (masks : Masks)
    (gave : v1 ≡ record v { calls = told_driver v.calls }) (note : sent ≡ driver_note v.calls) (masks_are : masks ≡ masks_note v.masks)
    (heard : d1 ≡ record d { calls = hears_driver d.calls sent; masks = hears_masks d.masks masks }) (knows : DeviceKnows d1.calls)
    (gave_back : d2 ≡ record d1 { calls = told_device d1.calls }) (back : served ≡ device_note d1.calls)
    (heard_back : v2 ≡ record v1 { calls = hears_device v1.calls served }) (knows_back : DriverKnows v2.calls) where
  d1_calls : d1.calls ≡ hears_driver d.calls (driver_note v.calls)
  d1_calls = ap (λ (x : DeviceView). x.calls) heard ∙ ap (hears_driver d.calls) note

  d2_calls : d2.calls ≡ told_device (hears_driver d.calls (driver_note v.calls))
  d2_calls = ap (λ (x : DeviceView). x.calls) gave_back ∙ ap told_device d1_calls

  v2_calls : v2.calls ≡ hears_device (told_driver v.calls) (device_note d.calls)
  v2_calls = ap (λ (x : DriverView). x.calls) heard_back ∙ ap₂ (λ (x y : Calls). hears_device x y) (ap (λ (x : DriverView). x.calls) gave) (back ∙ ap device_note d1_calls)

  pub regs_passed : RegsPassed v d v2 d2
  regs_passed = record {
    regs = record { device = d2_calls; driver = v2_calls; device_knows = subst DeviceKnows d1_calls knows; driver_knows = knows_back };
    driver = heard_back ∙ ap (λ (x : DriverView). record x { calls = hears_device v1.calls served }) gave ∙ ap (λ (c : Calls). record v { calls = c }) (sym (ap (λ (x : DriverView). x.calls) heard_back));
    device = gave_back ∙ ap (λ (x : DeviceView). record x { calls = told_device d1.calls }) heard
        ∙ ap₂ (λ (c : Calls) (m : Masks). record d { calls = c; masks = hears_masks d.masks m }) (sym (ap (λ (x : DeviceView). x.calls) gave_back)) masks_are;
  }
