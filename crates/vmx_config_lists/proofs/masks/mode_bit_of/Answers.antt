use Rattle.std.proofs.Common.{refl}
use Rattle.vmx_config_lists.proofs.Words.{bytes_ne}
use Rattle.vmx_config_lists.proofs.masks.mode_bit_of.Goals as goal

pub returns-in_default : goal.returns-in_default
returns-in_default c =
    let u = bytes_ne _ _ c.in_default.not-ucast in
    let m = bytes_ne _ _ c.in_default.not-mcast in
    let b = bytes_ne _ _ c.in_default.not-bcast in
    let a = bytes_ne _ _ c.in_default.not-allmulti in
    let p = bytes_ne _ _ c.in_default.not-promisc in
    record { bit = rw (u, m, b, a, p) refl }
