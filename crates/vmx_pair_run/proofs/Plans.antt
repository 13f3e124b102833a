-- The plan of `pair` is what a run by it asks for, and what it leaves.
use Rattle.std.proofs.Common.{◌≡◌, ℕ, List, [], ◌∷◌, map, refl, sym, ap, ◌∙◌}
use Rattle.vmx_pcap.specs.declared.records.Capture.{Capture}
use Rattle.vmx_pcap.specs.declared.records.Stamped.{Stamped}
use Rattle.vmx_ends.specs.declared.made.Bodies.TheVariants.{Every}
use Rattle.vmx_model.specs.declared.plan.Plan.{Plan}
use Rattle.vmx_model.specs.Plan.{frames_of}
use Rattle.vmx_model.specs.Serial.{Seat, World, serial_run}
use Rattle.vmx_pair_plan.specs.Plan.{IsPairPlan}
use Rattle.vmx_pair_plan.specs.Fates.{handed_up}
use Rattle.vmx_pair_plan.proofs.Verdicts.{frames_sent, sender_plain, sent_here}
use Rattle.vmx_pair_run.proofs.Runs.{IsPair}
use Rattle.vmx_pair_run.proofs.Ends.{Ends, run_ends, sent_in}

pub is_pair : (capture : Capture) (plan : Plan) (p : IsPairPlan capture plan) → IsPair plan p.a p.b
is_pair capture plan p = record {
  guests = p.guests;
  every = p.poll_every;
  a_tx = p.sender.setup.tx_queues;
  a_rx = p.sender.setup.rx_queues;
  b_tx = p.sniffer.setup.tx_queues;
  b_rx = p.sniffer.setup.rx_queues;
  a_script = p.sender.script;
  b_script = p.sniffer.script;
  b_silent = ap (λ (c : Capture). c.records) p.sniffer.capture;
  b_sniffs = p.sniffer.sniffer;
  sniffing = record {
    mode = p.sniffer.setup.mode;
    rss = p.sniffer.setup.rss;
    strip = p.sniffer.setup.strip;
    ring = record { more = 255; size = p.sniffer.setup.rx_ring1; bodies = ap Every p.sniffer.bodies; full = refl };
  };
}

-- a whole run
pub pair_ends : (capture : Capture) (plan : Plan) (p : IsPairPlan capture plan) → Ends p.a p.b (sent_in capture.records) (serial_run plan)
pair_ends capture plan p = run_ends capture plan p.a p.b (is_pair capture plan p) p.sender

-- the frames that `a` sends
frames_here : (capture : Capture) (plan : Plan) (p : IsPairPlan capture plan) → map (λ (r : Stamped). r.frame) (sent_in capture.records) ≡ frames_of p.a 0 0
frames_here capture plan p = ap (map (λ (r : Stamped). r.frame)) (sym (sent_here capture p.a p.sender)) ∙ frames_sent p.a (sender_plain capture p.a p.sender)

pub received_here : (capture : Capture) (plan : Plan) (p : IsPairPlan capture plan) → map (λ (s : Seat). s.received) (serial_run plan).seats ≡ [] ∷ handed_up 0 (frames_of p.a 0 0) ∷ []
received_here capture plan p =
    ap (λ (w : World). map (λ (s : Seat). s.received) w.seats) (pair_ends capture plan p).is ∙ ap (λ (fs : List (List ℕ)). [] ∷ handed_up 0 fs ∷ []) (frames_here capture plan p)
