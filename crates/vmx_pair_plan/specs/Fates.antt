-- What a replay in which each sent frame comes up at guest `b` tells of the frames of guest `a`.
use Rattle.std.specs.Prelude.{ℕ, ◌+◌, List, [], ◌∷◌, map, if◌then◌else◌, None}
use Rattle.vmx_pcap.specs.declared.records.Stamped.{Stamped}
use Rattle.vmx_model.specs.declared.guest.GuestPlan.{GuestPlan}
use Rattle.vmx_model.specs.declared.sending.Sending.{Sending}
use Rattle.vmx_model.specs.declared.journal.Fate.{Fate}
use Rattle.vmx_model.specs.declared.journal.Received.{Received}
use Rattle.vmx_model.specs.declared.sending.Sending.TheVariants as sending
use Rattle.vmx_model.specs.declared.journal.Fate.TheVariants as fate
use Rattle.vmx_model.specs.Plan.{captured, captured_as, verdict_on, goes_on}

-- the fate of a frame with this verdict
abbrev pub fate_by : Sending → Fate
fate_by (sending.Sent activation queue place) = fate.Up activation queue place
fate_by sending.Down = fate.Down
fate_by sending.Short = fate.Short
fate_by sending.TooLong = fate.TooLong

-- the fates of all captured frames of a guest, by the verdict on each
abbrev pub fates_due : GuestPlan → List Fate
fates_due g = map (λ c. fate_by (verdict_on g c)) (captured g)

-- frames that were handed up in order, with their places from k on
abbrev pub handed_up : ℕ → List (List ℕ) → List Received
handed_up k [] = []
handed_up k (frame ∷ frames) = record { activation = 0; queue = 0; place = k; frame = frame; tci = None } ∷ handed_up (k + 1) frames

-- those of a guest's records, from number i on, whose frames are sent on queue 0 of activation 0
abbrev pub sent_from : GuestPlan → ℕ → List Stamped → List Stamped
sent_from g i [] = []
sent_from g i (r ∷ rs) = if goes_on g 0 0 (captured_as g i r) then r ∷ sent_from g (i + 1) rs else sent_from g (i + 1) rs

-- the records of a guest's sent frames
abbrev pub sent_records : GuestPlan → List Stamped
sent_records g = sent_from g 0 g.capture.records
