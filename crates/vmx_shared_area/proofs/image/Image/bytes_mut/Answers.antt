use Rattle.std.proofs.Common.{◌≡◌, length, refl, sym, ap, ◌∙◌}
use Rattle.vmx_shared_area.proofs.image.Image.bytes_mut.Goals as goal
use Rattle.vmx_shared_area.specs.declared.offsets.TheConstants.{IMAGE_SIZE}

pub returns : goal.returns
returns c =
    let len : c.self.inside.bytes.len ≡ IMAGE_SIZE = sym c.as_mut_slice.ensures.len ∙ ap length c.as_mut_slice.ensures.value ∙ c.self.invariant in
    ((refl, λ w. rw (len, c.self.view_is) refl), record { writes_back = tt; value = c.as_mut_slice.ensures.value ∙ c.self.view_is; len = ap length c.as_mut_slice.ensures.value ∙ c.self.invariant })
