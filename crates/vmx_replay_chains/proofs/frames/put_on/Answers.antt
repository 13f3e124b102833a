use Rattle.std.proofs.Common.{◌≡◌, ℕ, Bool, true, false, List, length, take, refl, sym, ap, ap₂, ◌∙◌, subst}
use Rattle.vmx_switch.specs.declared.answer.TheConstants.{MAX_PORTS}
use Rattle.vmx_model.specs.declared.journal.Entry.{Entry}
use Rattle.vmx_replay_due.specs.Standing.{is_frame}
use Rattle.vmx_replay_chains.specs.Views.{guest_view, guest_views}
use Rattle.vmx_replay_chains.specs.Chains.{PutsBy, due_at, entries_on}
use Rattle.vmx_replay_chains.specs.Targets.{targets_behind}
use Rattle.vmx_replay_chains.proofs.Ons.{port_below, below_on, due_here, entries_here}
use Rattle.vmx_replay_chains.proofs.AsMany.{sends_long, frame_is}
use Rattle.vmx_replay_chains.proofs.Targeting.{behind_end}
use Rattle.vmx_replay_chains.proofs.frames.put_on.Goals as goal

pub at-requires : goal.at-requires
at-requires g c = record { within = port_below guest_view c.args.guests.now c.args.port _ _ c.requires.pair }

pub returns-then-not-is_frame : goal.returns-then-not-is_frame
returns-then-not-is_frame g c =
    let gs = c.args.guests.now in let port = c.args.port in let lt = port_below guest_view gs port _ _ c.requires.pair in
    let due : due_at port (guest_views gs) ≡ c.due.result = due_here guest_view gs port c.at.result.now lt c.at.ensures.value ∙ sym c.due.ensures.due in
    let off : is_frame c.args.number (due_at port (guest_views gs)) ≡ false = ap (is_frame c.args.number) due ∙ sym c.is_frame.ensures.frame ∙ c.if-not-is_frame.true in record {
      puts = subst (λ (b : Bool). PutsBy b port (guest_views gs) (guest_views gs)) (sym off) refl;
      targets = ap (λ (n : ℕ). take n c.no_targets.result.ports) c.no_targets.ensures.none ∙ sym (ap (take MAX_PORTS) (behind_end (entries_on port (guest_views gs))));
      room = c.no_targets.ensures.room;
      paired = λ all. all;
    }

pub at-requires-2 : goal.at-requires-2
at-requires-2 g c = record { within = port_below guest_view c.args.guests.now c.args.port _ _ c.requires.pair }

pub send-requires-clause-due : goal.send-requires-clause-due
send-requires-clause-due g c κs within =
    let gs = c.args.guests.now in let port = c.args.port in let lt = port_below guest_view gs port _ _ c.requires.pair in
    let due : due_at port (guest_views gs) ≡ c.due.result = due_here guest_view gs port c.at.result.now lt c.at.ensures.value ∙ sym c.due.ensures.due in
    frame_is c.args.number (due_at port (guest_views gs)) (ap (is_frame c.args.number) due ∙ sym c.is_frame.ensures.frame ∙ c.if-not-is_frame.false)

pub at-requires-3 : goal.at-requires-3
at-requires-3 g c = record { within = below_on guest_view c.args.guests.now c.send.new.guests c.args.port (sends_long _ _ _ c.in_ok-send.ensures.sends) (port_below guest_view c.args.guests.now c.args.port _ _ c.requires.pair) }

pub returns : goal.returns
returns g c =
    let gs = c.args.guests.now in let gs' = c.send.new.guests in let port = c.args.port in let lt = port_below guest_view gs port _ _ c.requires.pair in
    let lt' = below_on guest_view gs gs' port (sends_long _ _ _ c.in_ok-send.ensures.sends) lt in
    let due : due_at port (guest_views gs) ≡ c.due.result = due_here guest_view gs port c.at.result.now lt c.at.ensures.value ∙ sym c.due.ensures.due in
    let on : is_frame c.args.number (due_at port (guest_views gs)) ≡ true = ap (is_frame c.args.number) due ∙ sym c.is_frame.ensures.frame ∙ c.if-not-is_frame.false in
    let before : c.len-before.result ≡ length (entries_on port (guest_views gs)) =
    c.len-before.ensures.len ∙ ap (λ (es : List Entry). length es) (c.journal.ensures.entries ∙ sym (entries_here guest_view gs port c.at-2.result.now lt c.at-2.ensures.value)) in
    let entries : c.as_slice-entries.result.now ≡ entries_on port (guest_views gs') =
    c.as_slice-entries.ensures.items ∙ c.journal-2.ensures.entries ∙ sym (entries_here guest_view gs' port c.at-3.result.now lt' c.at-3.ensures.value) in record {
      puts = subst (λ (b : Bool). PutsBy b port (guest_views gs) (guest_views gs')) (sym on) c.in_ok-send.ensures.sends;
      targets = c.targets_from.ensures.targets ∙ ap₂ (λ (n : ℕ) (es : List Entry). take MAX_PORTS (targets_behind n es)) before entries;
      room = c.targets_from.ensures.room;
      paired = c.in_ok-send.ensures.paired;
    }
