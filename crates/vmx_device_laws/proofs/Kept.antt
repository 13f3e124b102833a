-- What holds of a device at all times, from a new device on and over its turns.
use Rattle.std.proofs.Common.{◌≡◌, ℕ, zero, suc, ◌≤◌, Bool, length, sym, ap, ◌∙◌, subst, arith}
use Rattle.vmx_device_laws.specs.Views.{DeviceView, tx_held}
use Rattle.vmx_device_laws.specs.Keeps.{Keeps}
use Rattle.vmx_device_laws.specs.Steps.{TxSteps, InSteps, TurnsOnce}
use Rattle.vmx_device_laws.proofs.News.{keeps_masks}
use Rattle.vmx_device_laws.proofs.TxKeeps.{keeps_tx}
use Rattle.vmx_device_laws.proofs.InLook.{keeps_in}
use Rattle.vmx_device_laws.proofs.CommandKeeps.{keeps_obeyed}
use Rattle.vmx_device_laws.proofs.Turns.{held_tx_step}

held_steps : (n : ℕ) (found : Bool) (d d' : DeviceView) → TxSteps n found d d' → tx_held d'.machine.active ≡ tx_held d.machine.active
held_steps zero found d d' s = ap (λ (x : DeviceView). tx_held x.machine.active) s.1
held_steps (suc n) found d d' (before, here, (mid, is, step, steps)) = held_tx_step mid d' n here step ∙ held_steps n before d mid steps

keeps_txs : (n : ℕ) (found : Bool) (d d' : DeviceView) → n ≤ tx_held d.machine.active → TxSteps n found d d' → Keeps d → Keeps d'
keeps_txs zero found d d' le s k = subst Keeps (sym s.1) k
keeps_txs (suc n) found d d' le (before, here, (mid, is, step, steps)) k =
    let same = held_steps n before d mid steps in keeps_tx mid d' (keeps_txs n before d mid (omega (arith, le)) steps k) n here (omega (arith, le, same)) step

keeps_ins : (n : ℕ) (found : Bool) (d d' : DeviceView) → InSteps n found d d' → Keeps d → Keeps d'
keeps_ins zero found d d' s k = subst Keeps (sym s.1) k
keeps_ins (suc n) found d d' (before, here, (mid, is, step, steps)) k = keeps_in mid d' (keeps_ins n before d mid steps k) n here step

-- over a whole turn
pub keeps_turn : (worked : Bool) (d d' : DeviceView) → TurnsOnce worked d d' → Keeps d → Keeps d'
keeps_turn worked d d' t k =
    let asked = keeps_obeyed d t.asked k t.answered t.command in
    let rung : Keeps t.rung = subst Keeps (sym t.bells.2) (keeps_masks t.asked asked t.bells.0) in
    let held : tx_held t.rung.machine.active ≡ tx_held t.asked.machine.active = ap (λ (x : DeviceView). tx_held x.machine.active) t.bells.2 in
    keeps_ins (length t.sent.input) t.pulled t.sent d' t.pulls (keeps_txs (tx_held t.asked.machine.active) t.taken t.rung t.sent (omega (arith, held)) t.takes rung)
