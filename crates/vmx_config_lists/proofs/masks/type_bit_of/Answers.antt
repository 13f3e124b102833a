use Rattle.std.proofs.Common.{refl}
use Rattle.vmx_config_lists.proofs.Words.{bytes_ne}
use Rattle.vmx_config_lists.proofs.masks.type_bit_of.Goals as goal

pub returns-in_default : goal.returns-in_default
returns-in_default c =
    let a = bytes_ne _ _ c.in_default.not-ipv4 in
    let b = bytes_ne _ _ c.in_default.not-tcp4 in
    let d = bytes_ne _ _ c.in_default.not-ipv6 in
    let e = bytes_ne _ _ c.in_default.not-tcp6 in
    record { bit = rw (a, b, d, e) refl }
