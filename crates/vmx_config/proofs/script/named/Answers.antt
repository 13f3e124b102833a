use Rattle.std.proofs.Common.{refl}
use Rattle.vmx_config_lists.proofs.Words.{bytes_ne}
use Rattle.vmx_config.proofs.script.named.Goals as goal

pub returns-in_default : goal.returns-in_default
returns-in_default c =
    let q = bytes_ne _ _ c.in_default.not-quiesce in
    let a = bytes_ne _ _ c.in_default.not-activate in
    let r = bytes_ne _ _ c.in_default.not-reset in
    let m = bytes_ne _ _ c.in_default.not-mode in
    let g = bytes_ne _ _ c.in_default.not-multicast in
    let v = bytes_ne _ _ c.in_default.not-vlans in
    let s = bytes_ne _ _ c.in_default.not-rss in
    record { kind = rw (q, a, r, m, g, v, s) refl }
