-- The table of copies in a run by the plan of `pair`.
use Rattle.std.proofs.Common.{◌≡◌, ℕ, List, [], ◌∷◌, ◌++◌, map, refl, ap, ◌∙◌, append-nil}
use Rattle.std.specs.List.{flat_map}
use Rattle.vmx_pcap.specs.declared.records.Capture.{Capture}
use Rattle.vmx_switch.specs.Ports.{Wiring}
use Rattle.vmx_model.specs.declared.guest.GuestPlan.{GuestPlan}
use Rattle.vmx_model.specs.declared.plan.Plan.{Plan}
use Rattle.vmx_model.specs.declared.journal.Fate.{Fate}
use Rattle.vmx_model.specs.declared.sending.Sending.{Sending}
use Rattle.vmx_model.specs.declared.sending.Sending.TheVariants as sending
use Rattle.vmx_model.specs.Plan.{Captured, captured, numbered, verdict_on, wire}
use Rattle.vmx_model.specs.Record.{HasLists}
use Rattle.vmx_model.specs.Serial.{serial_run}
use Rattle.vmx_model.specs.Totals.{wiring}
use Rattle.vmx_model.specs.Views.{RecordView}
use Rattle.vmx_model.specs.Wire.{targets}
use Rattle.vmx_copies.specs.declared.copy.FrameCopy.{FrameCopy}
use Rattle.vmx_copies.specs.Table.{CopyName, IsTable, all_names, fates_in_row, frame_names, guest_names, name_of, names_from, target_names, verdict_names}
use Rattle.vmx_pair_plan.specs.Plan.{IsPairPlan}
use Rattle.vmx_pair_plan.specs.Fates.{fate_by}
use Rattle.vmx_pair_run.proofs.Plans.{is_pair}
use Rattle.vmx_pair_run.proofs.Records.{alone, fates_here}
use Rattle.vmx_pair_run.proofs.Runs.{targets_here}
use Rattle.vmx_pair_table.specs.Rows.{row_by, rows_due}

-- ------------------------------------------------------------ names and fates determine a table

same_rows : (xs ys : List FrameCopy) → map name_of xs ≡ map name_of ys → map fates_in_row xs ≡ map fates_in_row ys → xs ≡ ys
same_rows [] [] n f = refl
same_rows [] (y ∷ ys) n f = absurd (cc n)
same_rows (x ∷ xs) [] n f = absurd (cc n)
same_rows (x ∷ xs) (y ∷ ys) n f =
    let name : name_of x ≡ name_of y = cc in
    let fates : fates_in_row x ≡ fates_in_row y = cc in
    let fate : x.fate ≡ y.fate = cc in
    let more_names : map name_of xs ≡ map name_of ys = cc in
    let more_fates : map fates_in_row xs ≡ map fates_in_row ys = cc in
    let rest = same_rows xs ys more_names more_fates in
    λ i. record { sender = (name i).sender; number = (name i).number; target = (name i).target; fate = fate i } ∷ rest i

-- ------------------------------------------------------------ the names

one_name : (w : Wiring) (i : ℕ) (frame : List ℕ) (s : Sending) → targets w 0 frame ≡ 1 ∷ [] → verdict_names w 0 i frame s ≡ name_of (row_by i s) ∷ []
one_name w i frame sending.Down tos = refl
one_name w i frame sending.Short tos = refl
one_name w i frame sending.TooLong tos = refl
one_name w i frame (sending.Sent a q k) tos = ap (target_names 0 i) tos

each_name : (w : Wiring) (g : GuestPlan) → ((frame : List ℕ) → targets w 0 frame ≡ 1 ∷ []) → (cs : List Captured) → flat_map (frame_names w 0 g) cs ≡ map name_of (map (λ (c : Captured). row_by c.number (verdict_on g c)) cs)
each_name w g tos [] = refl
each_name w g tos (c ∷ cs) = λ i. one_name w c.number (wire c) (verdict_on g c) (tos (wire c)) i ++ each_name w g tos cs i

names_here : (capture : Capture) (plan : Plan) (p : IsPairPlan capture plan) → all_names plan ≡ map name_of (rows_due p.a)
names_here capture plan p =
    let w : Wiring = wiring plan.guests in
    let silent : guest_names w 1 p.b ≡ [] = ap (λ (c : Capture). flat_map (frame_names w 1 p.b) (numbered p.b 0 c.records)) p.sniffer.capture in
    ap (names_from w 0) p.guests
    ∙ ap (λ (ns : List CopyName). guest_names w 0 p.a ++ (ns ++ [])) silent
    ∙ append-nil (guest_names w 0 p.a)
    ∙ each_name w p.a (targets_here plan p.a p.b (is_pair capture plan p)) (captured p.a)

-- ------------------------------------------------------------ the fates

each_fate : (g : GuestPlan) (cs : List Captured) → map alone (map (λ (c : Captured). fate_by (verdict_on g c)) cs) ≡ map fates_in_row (map (λ (c : Captured). row_by c.number (verdict_on g c)) cs)
each_fate g [] = refl
each_fate g (c ∷ cs) = ap (λ (fs : List (List Fate)). alone (fate_by (verdict_on g c)) ∷ fs) (each_fate g cs)

-- one row a captured frame
pub rows_here : (capture : Capture) (plan : Plan) (p : IsPairPlan capture plan) (r : RecordView) → HasLists r (serial_run plan) → (rows : List FrameCopy) → IsTable plan r rows → rows ≡ rows_due p.a
rows_here capture plan p r lists rows table =
    same_rows rows (rows_due p.a) (table.names ∙ names_here capture plan p) (table.fates ∙ fates_here capture plan p r lists ∙ each_fate p.a (captured p.a))
