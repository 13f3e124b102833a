-- A device at rest holds no queue end.
use Rattle.std.proofs.Common.{◌≡◌, ℕ, Bool, true, true≢false, List, [], ◌∷◌, map, refl, sym, ap, ◌∙◌, subst, Some, None, Option}
use Rattle.std.specs.List.{filter_map}
use Rattle.vmx_device_state.specs.Deals.{Deal, Begins, Stops, Passes, Held, deal_of, held_by, held_of, held_from}
use Rattle.vmx_device_state.specs.declared.turn.Turn.{Turn}
use Rattle.vmx_machine_state.specs.Views.{ActiveView, MachineView, ends_of}
use Rattle.vmx_commands.specs.Replies.{held_in}
use Rattle.vmx_model.specs.declared.journal.Entry.{Entry}
use Rattle.vmx_model.specs.declared.journal.Entry.TheVariants as entry
use Rattle.vmx_model.specs.Account.{asked}
use Rattle.vmx_device_laws.specs.Views.{DeviceView}
use Rattle.vmx_device_laws.specs.Keeps.{Keeps, spoken}
use Rattle.vmx_device.specs.Rest.{rests_by, rests_from, is_at_rest}

pub dealt : (d : Deal) (now : Bool) (held given : Option Held) → (now ≡ true → held ≡ None) → rests_by d now ≡ true → held_by d held given ≡ None
dealt Begins now held given h r = absurd (true≢false (sym r))
dealt Stops now held given h r = refl
dealt Passes now held given h r = h r

held_rests : (es : List Entry) (ts : List Turn) (now : Bool) (held : Option Held) → (now ≡ true → held ≡ None) → filter_map asked es ≡ map spoken ts → rests_from now es ≡ true → held_from held ts ≡ None
held_rests [] [] now held h e r = h r
held_rests [] (t ∷ ts) now held h e r = absurd (cc e)
held_rests (entry.Setting number answer setup ∷ es) [] now held h e r = absurd (cc e)
held_rests (entry.Setting number answer setup ∷ es) (t ∷ ts) now held h e r =
    let both : (number, answer) ≡ spoken t = cc e in
    let n : t.command.number ≡ number = sym (ap (λ (x : ℕ × ℕ). x.0) both) in
    let a : t.answer.value ≡ answer = sym (ap (λ (x : ℕ × ℕ). x.1) both) in
    let rest : filter_map asked es ≡ map spoken ts = cc e in
    let same : deal_of t.command.number t.answer.value ≡ deal_of number answer = λ i. deal_of (n i) (a i) in
    held_rests es ts (rests_by (deal_of number answer) now) (held_by (deal_of t.command.number t.answer.value) held (held_of t.command.ends))
    (λ now'. subst (λ (d : Deal). held_by d held (held_of t.command.ends) ≡ None) (sym same) (dealt (deal_of number answer) now held (held_of t.command.ends) h now')) rest r
held_rests (entry.Out tag target w ∷ es) ts now held h e r = held_rests es ts now held h e r
held_rests (entry.Lost tag ∷ es) ts now held h e r = held_rests es ts now held h e r
held_rests (entry.In from place f ∷ es) ts now held h e r = held_rests es ts now held h e r

idle_of : (m : MachineView) (o : Option ActiveView) → m.active ≡ o → held_in (ends_of m) ≡ None → m.active ≡ None
idle_of m None act h = act
idle_of m (Some a) act h = absurd (cc (subst (λ (o : Option ActiveView). held_in (ends_of (record m { active = o })) ≡ None) act h))

pub at_rest : (d : DeviceView) → Keeps d → is_at_rest d.entries ≡ true → d.machine.active ≡ None
at_rest d k r = idle_of d.machine d.machine.active refl (sym k.tracks.held ∙ held_rests d.entries d.calls.served true None (λ _. refl) k.told r)
