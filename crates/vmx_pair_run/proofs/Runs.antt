-- A run by the plan of `pair`, number by number.
use Rattle.std.proofs.Common.{◌≡◌, ℕ, zero, suc, ◌+◌, ◌≤◌, Bool, true, List, [], ◌∷◌, ◌++◌, length, map, refl, sym, ap, ◌∙◌, arith, nat_eq, Some, length-append}
use Rattle.std.proofs.lemmas.List.{length-map, map-append}
use Rattle.std.specs.List.{filter, flat_map, fold, slice_get}
use Rattle.vmx_pcap.specs.declared.records.Stamped.{Stamped}
use Rattle.vmx_ends.specs.declared.frames.Delivery.{Delivery}
use Rattle.vmx_ends.specs.declared.frames.Sent.{Sent}
use Rattle.vmx_ends.specs.declared.packet.Tag.{Tag}
use Rattle.vmx_model.specs.declared.deeds.Action.{Action}
use Rattle.vmx_model.specs.declared.guest.GuestPlan.{GuestPlan}
use Rattle.vmx_model.specs.declared.plan.Plan.{Plan}
use Rattle.vmx_model.specs.declared.journal.Entry.TheVariants as entry
use Rattle.vmx_model.specs.declared.journal.Way.TheVariants as way
use Rattle.vmx_model.specs.declared.journal.Received.{Received}
use Rattle.vmx_model.specs.declared.sending.Sending.TheVariants as sending
use Rattle.vmx_model.specs.Fates.{tag_at}
use Rattle.vmx_model.specs.Lists.{upto}
use Rattle.vmx_model.specs.Totals.{wiring}
use Rattle.vmx_model.specs.Wire.{targets, wire_form}
use Rattle.vmx_model.specs.Plan.{captured, numbered}
use Rattle.vmx_model.specs.Serial.{Carried, Seat, Wire, World, activated, acted, arrived, at_number, done, fresh, mac_of, new_rx, new_tx, noted, seats_from, sends, sent_by, spread, start, transmitted, turn, wires_from}
use Rattle.vmx_model.proofs.Sends.{turn_there}
use Rattle.vmx_pair_plan.specs.Fates.{handed_up}
use Rattle.vmx_pair_run.proofs.Targets.{sniffer_alone}
use Rattle.vmx_pair_run.proofs.Stands.{IsSniffing, arrived_here, delivery, seat_a, seat_b, up_at}

-- ------------------------------------------------------------ the world

-- a link whose packets were all pulled
abbrev pub emptied_wire : ℕ → ℕ → List Carried → Wire
emptied_wire from to ps = record { from = from; to = to; pushed = ps; pulled = ps }

abbrev pub both_wires : List Carried → List Wire
both_wires ps = emptied_wire 0 1 ps ∷ emptied_wire 1 0 [] ∷ []

-- once n frames were sent
abbrev pub world : GuestPlan → GuestPlan → ℕ → List Sent → ℕ → List Received → List Delivery → List Carried → World
world a b n sent seen received ds ps = record { seats = seat_a a n sent ∷ seat_b b n seen received ds ∷ []; wires = both_wires ps }

-- what matters of the plan
pub record IsPair (plan : Plan) (a b : GuestPlan) : Type 0 where
  pub guests : plan.guests ≡ a ∷ b ∷ []
  pub every : plan.poll_every ≡ 1
  pub a_tx : a.setup.tx_queues ≡ 1
  pub a_rx : a.setup.rx_queues ≡ 1
  pub b_tx : b.setup.tx_queues ≡ 1
  pub b_rx : b.setup.rx_queues ≡ 1
  pub a_script : a.script ≡ []
  pub b_script : b.script ≡ []
  pub b_silent : b.capture.records ≡ []
  pub b_sniffs : b.sniffer ≡ true
  pub sniffing : IsSniffing b

-- ------------------------------------------------------------ the start

one_tx : (port : ℕ) (g : GuestPlan) → g.setup.tx_queues ≡ 1 → map (new_tx port g 0) (upto 0 g.setup.tx_queues) ≡ new_tx port g 0 0 ∷ []
one_tx port g e = ap (λ (n : ℕ). map (new_tx port g 0) (upto 0 n)) e

one_rx : (port : ℕ) (g : GuestPlan) → g.setup.rx_queues ≡ 1 → map (new_rx port g 0) (upto 0 g.setup.rx_queues) ≡ new_rx port g 0 0 ∷ []
one_rx port g e = ap (λ (n : ℕ). map (new_rx port g 0) (upto 0 n)) e

starts_a : (a : GuestPlan) → a.setup.tx_queues ≡ 1 → a.setup.rx_queues ≡ 1 → activated 0 a (fresh a) ≡ seat_a a 0 []
starts_a a t r = λ i. record (seat_a a 0 []) { tx = one_tx 0 a t i; rx = one_rx 0 a r i }

starts_b : (b : GuestPlan) → b.setup.tx_queues ≡ 1 → b.setup.rx_queues ≡ 1 → activated 1 b (fresh b) ≡ seat_b b 0 0 [] []
starts_b b t r = λ i. record (seat_b b 0 0 [] []) { tx = one_tx 1 b t i; rx = one_rx 1 b r i }

start_of : List GuestPlan → World
start_of gs = record { seats = seats_from 0 gs; wires = flat_map (wires_from (length gs)) (upto 0 (length gs)) }

pub start_here : (plan : Plan) (a b : GuestPlan) → IsPair plan a b → start plan ≡ world a b 0 [] 0 [] [] []
unfolding start_of
start_here plan a b p =
    ap start_of p.guests ∙ (λ i. record { seats = starts_a a p.a_tx p.a_rx i ∷ starts_b b p.b_tx p.b_rx i ∷ []; wires = both_wires [] })

-- ------------------------------------------------------------ a turn

no_acts : (port : ℕ) (g : GuestPlan) (n : ℕ) (s : Seat) → g.script ≡ [] → acted port g n s ≡ s
no_acts port g n s e = ap (λ (script : List Action). fold (λ s (x : Action). done port g x.deed s) s (filter (λ (x : Action). nat_eq x.at n) script)) e

-- `a` sends the frame of the number, if there is one
pub turn_a : (plan : Plan) (a b : GuestPlan) → IsPair plan a b → (i n : ℕ) (sent : List Sent) (sb : Seat) (ws : List Wire) (w : World) → w ≡ record { seats = seat_a a n sent ∷ sb ∷ []; wires = ws }
    → turn plan i 0 w ≡ sends plan 0 a (slice_get (captured a) i) w
turn_a plan a b p i n sent sb ws w e =
    let first : slice_get plan.guests 0 ≡ Some a = ap (λ (gs : List GuestPlan). slice_get gs 0) p.guests in
    let rests : record w { seats = at_number 0 (acted 0 a i) w.seats } ≡ w =
    ap (λ (v : World). record v { seats = at_number 0 (acted 0 a i) v.seats }) e
    ∙ ap (λ (s : Seat). record { seats = s ∷ sb ∷ []; wires = ws }) (no_acts 0 a i (seat_a a n sent) p.a_script) ∙ sym e in
    sym (turn_there plan i 0 a w first) ∙ ap (sends plan 0 a (slice_get (captured a) i)) rests

-- `b` does nothing
pub turn_b : (plan : Plan) (a b : GuestPlan) → IsPair plan a b → (i : ℕ) (sa sb : Seat) (ws : List Wire) (w : World) → w ≡ record { seats = sa ∷ sb ∷ []; wires = ws } → turn plan i 1 w ≡ w
turn_b plan a b p i sa sb ws w e =
    let second : slice_get plan.guests 1 ≡ Some b = ap (λ (gs : List GuestPlan). slice_get gs 1) p.guests in
    let rests : record w { seats = at_number 1 (acted 1 b i) w.seats } ≡ w =
    ap (λ (v : World). record v { seats = at_number 1 (acted 1 b i) v.seats }) e
    ∙ ap (λ (s : Seat). record { seats = sa ∷ s ∷ []; wires = ws }) (no_acts 1 b i sb p.b_script) ∙ sym e in
    sym (turn_there plan i 1 b w second) ∙ ap (sends plan 1 b (slice_get (captured b) i)) rests ∙ ap (λ (rs : List Stamped). sends plan 1 b (slice_get (numbered b 0 rs) i) w) p.b_silent

-- ------------------------------------------------------------ a frame that is sent

pub targets_here : (plan : Plan) (a b : GuestPlan) → IsPair plan a b → (frame : List ℕ) → targets (wiring plan.guests) 0 frame ≡ 1 ∷ []
targets_here plan a b p frame =
    ap (λ (gs : List GuestPlan). targets (wiring gs) 0 frame) p.guests
    ∙ ap (λ (s : Bool). targets (record { macs = a.mac ∷ b.mac ∷ []; sniffers = a.sniffer ∷ s ∷ [] }) 0 frame) p.b_sniffs ∙ sniffer_alone a.mac b.mac a.sniffer frame

-- one more frame comes up at `b`
pub goes_here : (plan : Plan) (a b : GuestPlan) → IsPair plan a b → (n : ℕ) (sent : List Sent) (seen : ℕ) (received : List Received) (ds : List Delivery) (ps : List Carried) (frame : List ℕ) (posted : Sent) (k : ℕ)
    → wire_form posted ≡ frame → k ≡ n → length ds ≡ n → length ps ≡ n → length frame ≤ 1518
    → sent_by plan 0 posted (sending.Sent 0 0 k) (world a b n sent seen received ds ps)
    ≡ world a b (suc n) (sent ++ posted ∷ []) (seen + 1) (received ++ up_at n frame ∷ []) (ds ++ delivery b ds frame ∷ []) (ps ++ record { tag = tag_at 0 0 0 n; frame = frame } ∷ [])
goes_here plan a b p n sent seen received ds ps frame posted k wired here delivered pushed short =
    let posts : World = record (world a b n sent seen received ds ps) { seats = transmitted 0 0 posted (seat_a a n sent) ∷ seat_b b n seen received ds ∷ [] } in
    let packet : Carried = record { tag = tag_at 0 0 0 n; frame = frame } in
    let reached : ℕ → Seat → World = λ m s. record { seats = noted (entry.Out (tag_at 0 0 0 n) 1 (way.Link m)) (transmitted 0 0 posted (seat_a a n sent)) ∷ s ∷ []; wires = both_wires (ps ++ packet ∷ []) } in
    ap (λ (f : List ℕ). spread plan (tag_at 0 0 0 k) f (targets (wiring plan.guests) 0 f) posts) wired
    ∙ ap (λ (tos : List ℕ). spread plan (tag_at 0 0 0 k) frame tos posts) (targets_here plan a b p frame)
    ∙ ap (λ (x : ℕ). spread plan (tag_at 0 0 0 x) frame (1 ∷ []) posts) here
    ∙ ap (λ (m : ℕ). reached m (arrived plan.poll_every (mac_of plan 1) 0 m frame (seat_b b n seen received ds))) pushed
    ∙ ap (λ (e : ℕ). reached n (arrived e (mac_of plan 1) 0 n frame (seat_b b n seen received ds))) p.every
    ∙ ap (λ (s : Seat). reached n s) (arrived_here b p.sniffing n seen received ds (mac_of plan 1) frame delivered short)

-- ------------------------------------------------------------ what stands after the frames of some records

-- the frames of records as `b` hands them up
abbrev pub handed_of : List Stamped → List Received
handed_of rs = handed_up 0 (map (λ (r : Stamped). r.frame) rs)

-- the tags of the first n frames
abbrev pub tags_below : ℕ → List Tag
tags_below zero = []
tags_below (suc n) = tags_below n ++ tag_at 0 0 0 n ∷ []

abbrev pub tags_in : List Carried → List Tag
tags_in ps = map (λ (x : Carried). x.tag) ps

-- these records were sent
pub record Stands (a b : GuestPlan) (rs : List Stamped) (w : World) : Type 0 where
  pub sent : List Sent
  pub seen : ℕ
  pub delivered : List Delivery
  pub packets : List Carried
  pub all_sent : length sent ≡ length rs
  pub all_delivered : length delivered ≡ length rs
  pub all_pushed : length packets ≡ length rs
  pub tags : tags_in packets ≡ tags_below (length rs)
  pub is : w ≡ world a b (length rs) sent seen (handed_of rs) delivered packets

pub handed_more : (k : ℕ) (fs : List (List ℕ)) (f : List ℕ) → handed_up k (fs ++ f ∷ []) ≡ handed_up k fs ++ up_at (k + length fs) f ∷ []
handed_more k [] f = let e : k ≡ k + 0 = omega arith in ap (λ (n : ℕ). up_at n f ∷ []) e
handed_more k (x ∷ fs) f =
    let e : k + 1 + length fs ≡ k + length (x ∷ fs) = omega arith in
    ap (λ (us : List Received). up_at k x ∷ us) (handed_more (k + 1) fs f ∙ ap (λ (n : ℕ). handed_up (k + 1) fs ++ up_at n f ∷ []) e)

one_more : {X : Type 0} (xs : List X) (x : X) (n : ℕ) → length xs ≡ n → length (xs ++ x ∷ []) ≡ suc n
one_more xs x n e = let l = length-append xs (x ∷ []) in omega (arith, l, e)

-- one record more
pub stands_more : (a b : GuestPlan) (rs : List Stamped) (r : Stamped) (sent : List Sent) (seen : ℕ) (ds : List Delivery) (ps : List Carried) (posted : Sent) (d : Delivery) (x : Carried) (w : World)
    → length sent ≡ length rs → length ds ≡ length rs → length ps ≡ length rs → tags_in ps ≡ tags_below (length rs) → x.tag ≡ tag_at 0 0 0 (length rs)
    → w ≡ world a b (suc (length rs)) (sent ++ posted ∷ []) seen (handed_of rs ++ up_at (length rs) r.frame ∷ []) (ds ++ d ∷ []) (ps ++ x ∷ [])
    → Stands a b (rs ++ r ∷ []) w
stands_more a b rs r sent seen ds ps posted d x w s dl pl tl here e =
    let long : length (rs ++ r ∷ []) ≡ suc (length rs) = one_more rs r (length rs) refl in
    let frames : List (List ℕ) = map (λ (r : Stamped). r.frame) rs in
    let same : length frames ≡ length rs = length-map rs (λ (r : Stamped). r.frame) in
    let handed : handed_of (rs ++ r ∷ []) ≡ handed_of rs ++ up_at (length rs) r.frame ∷ [] =
    ap (handed_up 0) (map-append (λ (r : Stamped). r.frame) rs (r ∷ [])) ∙ handed_more 0 frames r.frame ∙ ap (λ (n : ℕ). handed_of rs ++ up_at n r.frame ∷ []) (omega (arith, same)) in
    record {
      sent = sent ++ posted ∷ [];
      seen = seen;
      delivered = ds ++ d ∷ [];
      packets = ps ++ x ∷ [];
      all_sent = one_more sent posted (length rs) s ∙ sym long;
      all_delivered = one_more ds d (length rs) dl ∙ sym long;
      all_pushed = one_more ps x (length rs) pl ∙ sym long;
      tags = map-append (λ (p : Carried). p.tag) ps (x ∷ []) ∙ (λ i. tl i ++ here i ∷ []) ∙ ap tags_below (sym long);
      is = e ∙ (λ i. world a b (sym long i) (sent ++ posted ∷ []) seen (sym handed i) (ds ++ d ∷ []) (ps ++ x ∷ []));
    }
