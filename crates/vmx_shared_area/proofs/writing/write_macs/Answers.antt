use Rattle.std.proofs.Common.{◌≡◌, ◌+◌, ◌*◌, ◌<◌, List, ℕ, [], length, get_or, append_assoc, refl, ap, ◌∙◌, arith}
use Rattle.std.proofs.lemmas.List.{take_all}
use Rattle.vmx_shared_area.specs.Macs.{zero_mac}
use Rattle.vmx_shared_area.proofs.Macs.{mac_bytes_step, within}
use Rattle.vmx_shared_area.proofs.writing.write_macs.Goals as goal
use Rattle.vmx_shared_area.specs.declared.offsets.TheConstants.{MAC_SIZE, MAX_MACS, MACS}

pub loop-i-preserved : goal.loop-i-preserved
loop-i-preserved c =
    let macs : List (List ℕ) = c.args.table.now.macs in
    let i : ℕ = c.loop-i.i in
    let lt : i < length macs = omega (arith, c.loop-i-test.true, c.args.table.now.macs_length) in
    let six : length (get_or macs i []) ≡ MAC_SIZE = ap length (within macs i [] zero_mac lt) ∙ c.args.table.now.mac_length i in
    let at : MACS + MAC_SIZE * (i + 1) ≡ MACS + MAC_SIZE * i + MAC_SIZE = omega arith in
    let put = rw six at c.put_bytes.ensures.put in
    rw (at, put, c.loop-i.invariant, mac_bytes_step macs i lt, append_assoc) refl

pub returns : goal.returns
returns c =
    let all = take_all c.loop-i.i c.args.table.now.macs (omega (arith, c.loop-i-test.false, c.args.table.now.macs_length)) in
    let end : c.loop-i.i ≡ MAX_MACS = omega (arith, c.loop-i-test.false, c.loop-i.auto.i-end) in
    let done = rw (all, end) at c.loop-i.invariant in
    record { written = done }
