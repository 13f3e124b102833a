-- Notes between the two sides of the registers.
use Rattle.std.proofs.Common.{◌≡◌, ◌≤◌, List, [], ◌∷◌, ◌++◌, length, refl, sym, ap, ap₂, ◌∙◌, subst, arith, Option, None}
use Rattle.std.proofs.lemmas.List.{length-map}
use mathlib.Core.List.{IsPrefix}
use Rattle.vmx_device_state.specs.declared.turn.CommandView.{CommandView}
use Rattle.vmx_device_state.specs.declared.turn.Turn.{Turn}
use Rattle.vmx_regs.specs.declared.known.Calls.{Calls}
use Rattle.vmx_regs.specs.Rule.{commands_of, with_asked, sent_by, seen_of, told_driver, driver_note, told_device, device_note, hears_driver, hears_device, DriverKnows, DeviceKnows}
use Rattle.vmx_ring_laws.specs.Lists.{longer_second}
use Rattle.vmx_regs.specs.Agree.{same_turns}
use Rattle.vmx_note_laws.specs.Registers.{PassesRegs, AreTold, IsAsked, IsAnswered}
use Rattle.vmx_note_laws.proofs.Fronts.{one_longer, none_behind, last_same}

-- after a pass with none outstanding, both sides know the same turns
same_after : (v w : Calls) → DeviceKnows (hears_driver w (driver_note v)) → DriverKnows (hears_device (told_driver v) (device_note w)) → v.asked ≡ None → (v.turns ≡ w.served) × (w.serving ≡ None)
same_after v w k j none =
    let seen : IsPrefix (seen_of w) (commands_of v.turns) = subst (λ (o : Option CommandView). IsPrefix (seen_of w) (with_asked (commands_of v.turns) o)) none j.last_sent in
    same_turns v.turns w.served w.serving k.last_served (j.last_idle none) seen

pub passes_same : (v v' w w' : Calls) → PassesRegs v w v' w' → v.asked ≡ None → (v.turns ≡ w.served) × (w.serving ≡ None)
passes_same v v' w w' p none = same_after v w p.device_knows (subst DriverKnows p.driver p.driver_knows) none

told_after : (v w : Calls) → DeviceKnows (hears_driver w (driver_note v)) → DriverKnows (hears_device (told_driver v) (device_note w)) → AreTold (hears_device (told_driver v) (device_note w)) (told_device (hears_driver w (driver_note v)))
told_after v w k j = record {
  commands = longer_second w.heard_commands (sent_by v);
  served = longer_second v.heard_served w.served;
  device_knows = record { agrees = k.agrees; short = k.short; served = k.served; last_agrees = k.last_agrees; last_served = k.last_served };
  driver_knows = j;
  same = same_after v w k j;
}

pub passes_told : (v v' w w' : Calls) → PassesRegs v w v' w' → AreTold v' w'
passes_told v v' w w' p = subst (λ (x : Calls × Calls). AreTold x.0 x.1) (λ i. (sym p.driver i, sym p.device i)) (told_after v w p.device_knows (subst DriverKnows p.driver p.driver_knows))

-- ------------------------------------------------------------ the device's next look

-- with no command outstanding it answers none
pub answers_none : (v v' w n n' : Calls) (t : Turn) → v.asked ≡ None → v.turns ≡ w.served → n.served ≡ w.served ++ t ∷ [] → PassesRegs v n v' n' → ⊥
answers_none v v' w n n' t none same one p = none_behind w.served [] t (sym same ∙ (passes_same v v' n n' p none).0 ∙ one)

-- with one it finds it
pub finds_command : (v w : Calls) (c : CommandView) → AreTold v w → IsAsked v w c → length w.heard_commands ≤ length w.served → ⊥
finds_command v w c t a untold =
    let told = t.commands in let all = ap (λ (o : Option CommandView). length (with_asked (commands_of v.turns) o)) a.asked ∙ one_longer (commands_of v.turns) c in
    let same = length-map v.turns (λ (x : Turn). x.command) in let past = ap length a.served in absurd (omega (arith, untold, told, all, same, past))

commands_push : (ts : List Turn) (t : Turn) → commands_of (ts ++ t ∷ []) ≡ commands_of ts ++ t.command ∷ []
commands_push [] t = refl
commands_push (u ∷ ts) t = ap (λ (cs : List CommandView). u.command ∷ cs) (commands_push ts t)

-- and answers that very command
pub answers_asked : (v v' w n n' : Calls) (c : CommandView) (t : Turn) → IsAsked v w c → n.served ≡ w.served ++ t ∷ [] → n.serving ≡ None → PassesRegs v n v' n' → t.command ≡ c
answers_asked v v' w n n' c t a one none p =
    let knows : DriverKnows (hears_device (told_driver v) (device_note n)) = subst DriverKnows p.driver p.driver_knows in
    let front : IsPrefix (seen_of n) (sent_by v) = knows.last_sent in
    let seen : seen_of n ≡ commands_of v.turns ++ t.command ∷ [] = ap₂ (λ (ts : List Turn) (o : Option CommandView). with_asked (commands_of ts) o) (one ∙ ap (λ (ts : List Turn). ts ++ t ∷ []) a.served) none ∙ commands_push v.turns t in
    let sent : sent_by v ≡ commands_of v.turns ++ c ∷ [] = ap (with_asked (commands_of v.turns)) a.asked in
    last_same (commands_of v.turns) front.0 t.command c (ap (λ (cs : List CommandView). cs ++ front.0) (sym seen) ∙ front.1 ∙ sent)

-- ------------------------------------------------------------ the driver's next look

-- where the answer was given it finds it
pub finds_answer : (v w : Calls) (t : Turn) → AreTold v w → IsAnswered v w t → length v.heard_served ≤ length v.turns → ⊥
finds_answer v w t k a unheard = let told = k.served in let all = ap length a.served ∙ one_longer v.turns t in absurd (omega (arith, unheard, told, all))

-- and takes that very answer
pub takes_answered : (v n n' w w' : Calls) (t x : Turn) → IsAnswered v w t → n.turns ≡ v.turns ++ x ∷ [] → n.asked ≡ None → PassesRegs n w n' w' → x ≡ t
takes_answered v n n' w w' t x a one none p =
    last_same v.turns [] x t (ap (λ (ts : List Turn). ts ++ []) (sym one) ∙ ap (λ (ts : List Turn). ts ++ []) (passes_same n n' w w' p none).0 ∙ ap (λ (ts : List Turn). ts ++ []) a.served ∙ nil_behind (v.turns ++ t ∷ []))
  where
    nil_behind : (ts : List Turn) → ts ++ [] ≡ ts
    nil_behind [] = refl
    nil_behind (u ∷ ts) = ap (λ (xs : List Turn). u ∷ xs) (nil_behind ts)
