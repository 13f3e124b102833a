use Rattle.std.proofs.Common.{map, sym, subst}
use Rattle.vmx_link.specs.Ends.{facts_view}
use Rattle.vmx_model.specs.Account.{Accounts}
use Rattle.vmx_model.specs.Record.{HasLists}
use Rattle.vmx_model.specs.Serial.{serial_run}
use Rattle.vmx_model.specs.Views.{RecordView}
use Rattle.vmx_replay_start.specs.Linking.{outs_view, ins_view}
use Rattle.vmx_replay_gather.proofs.Whole.{has_lists, accounts, is_record, ordered, linked}
use Rattle.vmx_replay_gather.proofs.gathering.gather.Goals as goal

pub meet_all-requires-clause-order : goal.meet_all-requires-clause-order
meet_all-requires-clause-order g c = let v = c.args.ended in let p = c.in_ok-guests in
    ordered v.plan v.guests c.part_all.ensures.ended (outs_view p.field-0.ends.out) (map ins_view p.field-0.ends.input) p.ensures.out p.ensures.input

pub meet_all-requires-clause-links : goal.meet_all-requires-clause-links
meet_all-requires-clause-links g c = let v = c.args.ended in let p = c.in_ok-guests in
    linked v.plan v.guests c.part_all.ensures.ended (outs_view p.field-0.ends.out) (map ins_view p.field-0.ends.input) p.ensures.out p.ensures.input

pub returns-clause-accounts : goal.returns-clause-accounts
returns-clause-accounts g c = let v = c.args.ended in let p = c.in_ok-guests in
    let is = is_record v.guests p.field-0.guests (map facts_view c.in_ok-links.links) (outs_view p.field-0.ends.out) (map ins_view p.field-0.ends.input) p.ensures.guests p.ensures.out p.ensures.input c.in_ok-links.ensures.met in
    subst (Accounts v.plan) (sym is) (accounts v.plan v.guests c.part_all.ensures.ended)

pub returns-clause-lists : goal.returns-clause-lists
returns-clause-lists g c = let v = c.args.ended in let p = c.in_ok-guests in
    let is = is_record v.guests p.field-0.guests (map facts_view c.in_ok-links.links) (outs_view p.field-0.ends.out) (map ins_view p.field-0.ends.input) p.ensures.guests p.ensures.out p.ensures.input c.in_ok-links.ensures.met in
    subst (λ (r : RecordView). HasLists r (serial_run v.plan)) (sym is) (has_lists v.plan v.guests c.part_all.ensures.ended)
