-- Records of the small replay that would account for its plan but for one fault.
use Rattle.std.proofs.Common.{ℕ, suc, ◌+◌, List, [], ◌∷◌, ◌++◌, map, take}
use Rattle.vmx_filters.specs.declared.answer.Rule.TheVariants as rule
use Rattle.vmx_model.specs.Lists.{upto}
use Rattle.vmx_model.specs.declared.journal.Entry.{Entry}
use Rattle.vmx_model.specs.Views.{GuestView, RecordView}
use Rattle.vmx_model.specs.declared.journal.Entry.TheVariants as entry
use Rattle.vmx_model.specs.declared.journal.Fate.TheVariants as fate
use Rattle.vmx_model_examples.specs.Guests.{quiesces}
use Rattle.vmx_model_examples.specs.RightRecord.{sender, target, links, ups, deliveries, tx_facts, rx_facts, first_counts, unicast, sender_view, target_view}

-- statistics that are one more than the counts are refused
abbrev pub one_more : List (List ℕ) → List (List ℕ)
one_more [] = []
one_more (cs ∷ rest) = map suc cs ∷ rest

-- frames went in a list beside the queues: their journals show fates, and what the queues' ends say is empty
abbrev pub idle_sender : List ℕ → GuestView
idle_sender image = record (sender_view image) { tx = tx_facts sender 0 [] ∷ []; tx_stats = first_counts (unicast 0 0 0) }

abbrev pub idle_target : List ℕ → GuestView
idle_target image = record (target_view image) { rx = rx_facts target 1 [] [] ∷ [] }

abbrev pub beside_queues : List ℕ → RecordView
beside_queues image = record { guests = idle_sender image ∷ idle_target image ∷ []; links = links }

-- the third frame is marked as filtered, though the target's filter lets it in, and the others come up
abbrev pub third_filtered : List Entry
third_filtered = take 3 ups ++ entry.In 0 2 (fate.Filtered rule.Unicast) ∷ (map (λ k. entry.In 0 (k + 1) (fate.Up 0 0 k)) (upto 2 9) ++ quiesces ∷ [])

abbrev pub filtering_target : List ℕ → List Entry → GuestView
filtering_target image es = record (target_view image) { entries = es; rx = rx_facts target 1 deliveries [] ∷ []; rx_stats = first_counts (unicast 11 0 0) }

abbrev pub filtering : List ℕ → List Entry → RecordView
filtering image es = record { guests = sender_view image ∷ filtering_target image es ∷ []; links = links }

-- the statistics of the target's receive queues, and of the sender's transmit queues
abbrev pub counting : List ℕ → List (List ℕ) → List (List ℕ) → RecordView
counting image sent_counts came_counts = record { guests = record (sender_view image) { tx_stats = sent_counts } ∷ record (target_view image) { rx_stats = came_counts } ∷ []; links = links }
