use Rattle.std.proofs.Common.{◌≡◌, nat_lt, length, sym, ap, ap₂, ◌∙◌, List}
use Rattle.vmx_model.specs.declared.journal.Entry.{Entry}
use Rattle.vmx_replay_chains.specs.Views.{guest_view, guest_views}
use Rattle.vmx_replay_chains.specs.Chains.{entries_on}
use Rattle.vmx_replay_chains.proofs.Ons.{port_below, below_on, entries_here}
use Rattle.vmx_replay_chains.proofs.AsMany.{looks_long}
use Rattle.vmx_replay_chains.proofs.frames.look_on.Goals as goal

pub at-requires : goal.at-requires
at-requires g c = record { within = port_below guest_view c.args.guests.now c.args.to _ _ c.requires.pair }

pub at-requires-2 : goal.at-requires-2
at-requires-2 g c = record { within = below_on guest_view c.args.guests.now c.look.new.guests c.args.to (looks_long _ _ _ _ c.in_ok-look.ensures.looks) (port_below guest_view c.args.guests.now c.args.to _ _ c.requires.pair) }

pub returns : goal.returns
returns g c =
    let gs = c.args.guests.now in let gs' = c.look.new.guests in let to = c.args.to in let lt = port_below guest_view gs to _ _ c.requires.pair in
    let lt' = below_on guest_view gs gs' to (looks_long _ _ _ _ c.in_ok-look.ensures.looks) lt in
    let before : c.len-before.result ≡ length (entries_on to (guest_views gs)) =
    c.len-before.ensures.len ∙ ap (λ (es : List Entry). length es) (c.journal.ensures.entries ∙ sym (entries_here guest_view gs to c.at.result.now lt c.at.ensures.value)) in
    let after : c.len.result ≡ length (entries_on to (guest_views gs')) =
    c.len.ensures.len ∙ ap (λ (es : List Entry). length es) (c.journal-2.ensures.entries ∙ sym (entries_here guest_view gs' to c.at-2.result.now lt' c.at-2.ensures.value)) in
    record { looks = c.in_ok-look.ensures.looks; found = ap₂ nat_lt before after; paired = c.in_ok-look.ensures.paired }
