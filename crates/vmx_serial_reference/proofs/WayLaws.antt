-- How far each step of the serial run raises the numbers of all guests.
use Rattle.std.proofs.Common.{◌≡◌, ℕ, zero, suc, ◌+◌, ◌*◌, ◌<◌, ◌≤◌, Bool, true, false, cond, nat_eq, nat_le, List, [], ◌∷◌, length, map, refl, ap, ◌∙◌, arith, All, Option, Some, None, ◌&&◌, ◌==◌}
use Rattle.std.specs.List.{fold, filter, slice_get, range_with_len}
use Rattle.std.proofs.lemmas.List.{length-map}
use Rattle.std.proofs.lemmas.List.FromFn.{length-range_with_len}
use Rattle.std.proofs.lemmas.List.Elements.{All-nil, All-cons, All-head, All-tail, All-weaker}
use Rattle.std.proofs.lemmas.Bool.{and_parts, leb-true}
use Rattle.vmx_switch.specs.Ports.{target_ports, is_target, all_unicast, are_distinct}
use Rattle.vmx_switch.specs.Laws.{targets_below}
use Rattle.vmx_ends.specs.declared.packet.Tag.{Tag}
use Rattle.vmx_ends.specs.declared.frames.Sent.{Sent}
use Rattle.vmx_model.specs.declared.guest.GuestPlan.{GuestPlan}
use Rattle.vmx_model.specs.declared.plan.Plan.{Plan}
use Rattle.vmx_model.specs.declared.deeds.Action.{Action}
use Rattle.vmx_model.specs.declared.journal.Entry.TheVariants as entry
use Rattle.vmx_model.specs.declared.journal.Way.TheVariants as way
use Rattle.vmx_model.specs.declared.sending.Sending.{Sending}
use Rattle.vmx_model.specs.declared.sending.Sending.TheVariants as sending
use Rattle.vmx_model.specs.Totals.{wiring, macs_of, sniffers_of}
use Rattle.vmx_model.specs.Wire.{wire_form, targets}
use Rattle.vmx_model.specs.Plan.{Captured, captured, verdict_on}
use Rattle.vmx_model.specs.Serial.{Seat, World, at_number, noted, arrived, pushed_on, mac_of, reaches, spread, transmitted, sent_by, sends, acted, turn_of, turns, rounds}
use Rattle.vmx_plan_bounds.proofs.Few.{filter_few, guests_few, targets_few}
use Rattle.vmx_serial_seats.specs.Small.{IsSmall}
use Rattle.vmx_serial_reference.specs.Worlds.{IsOnTheWay}
use Rattle.vmx_serial_seats.proofs.SmallLaws.{queues_in, small_more, small_deeds, small_noted, small_transmitted, small_arrived, kept_deeds, kept_arrived}

-- ------------------------------------------------------------ one guest of all

pub at_small : (k m n : ℕ) (change : Seat → Seat) → k ≤ m → ((s : Seat) → IsSmall k s → IsSmall m (change s)) → (ss : List Seat) → All (IsSmall k) ss → All (IsSmall m) (at_number n change ss)
at_small k m n change le step [] all = All-nil (IsSmall m)
at_small k m zero change le step (s ∷ ss) all = All-cons (IsSmall m) _ _ (step s (All-head (IsSmall k) s ss all)) (All-weaker (IsSmall k) (IsSmall m) (small_more k m le) ss (All-tail (IsSmall k) s ss all))
at_small k m (suc n) change le step (s ∷ ss) all = All-cons (IsSmall m) _ _ (small_more k m le s (All-head (IsSmall k) s ss all)) (at_small k m n change le step ss (All-tail (IsSmall k) s ss all))

at_queues : (n : ℕ) (change : Seat → Seat) → ((s : Seat) → queues_in (change s) ≡ queues_in s) → (ss : List Seat) → map queues_in (at_number n change ss) ≡ map queues_in ss
at_queues n change same [] = refl
at_queues zero change same (s ∷ ss) = ap (λ (q : ℕ). q ∷ map queues_in ss) (same s)
at_queues (suc n) change same (s ∷ ss) = ap (λ (qs : List ℕ). queues_in s ∷ qs) (at_queues n change same ss)

-- ------------------------------------------------------------ steps

module _ (plan : Plan) where
  pub small_reaches : (k : ℕ) (t : Tag) (frame : List ℕ) (w : World) (to : ℕ) → All (IsSmall k) w.seats → All (IsSmall (k + 1)) (reaches plan t frame w to).seats
  small_reaches k t frame w to all =
      at_small k (k + 1) to (arrived plan.poll_every (mac_of plan to) t.guest (pushed_on w.wires t.guest to) frame) (omega arith) (small_arrived k plan.poll_every (mac_of plan to) t.guest (pushed_on w.wires t.guest to) frame) _
      (at_small k k t.guest (noted (entry.Out t to (way.Link (pushed_on w.wires t.guest to)))) (omega arith) (small_noted k (entry.Out t to (way.Link (pushed_on w.wires t.guest to)))) w.seats all)

  pub small_all : (k : ℕ) (t : Tag) (frame : List ℕ) (tos : List ℕ) (w : World) → All (IsSmall k) w.seats → All (IsSmall (k + length tos)) (fold (reaches plan t frame) w tos).seats
  small_all k t frame [] w all = All-weaker (IsSmall k) (IsSmall (k + 0)) (small_more k (k + 0) (omega arith)) w.seats all
  small_all k t frame (to ∷ tos) w all = All-weaker (IsSmall (k + 1 + length tos)) (IsSmall (k + suc (length tos))) (small_more (k + 1 + length tos) (k + suc (length tos)) (omega arith)) _ (small_all (k + 1) t frame tos (reaches plan t frame w to) (small_reaches k t frame w to all))

  queues_reaches : (t : Tag) (frame : List ℕ) (w : World) (to : ℕ) → map queues_in (reaches plan t frame w to).seats ≡ map queues_in w.seats
  queues_reaches t frame w to =
      at_queues to (arrived plan.poll_every (mac_of plan to) t.guest (pushed_on w.wires t.guest to) frame) (kept_arrived plan.poll_every (mac_of plan to) t.guest (pushed_on w.wires t.guest to) frame) _
      ∙ at_queues t.guest (noted (entry.Out t to (way.Link (pushed_on w.wires t.guest to)))) (λ s. refl) w.seats

  queues_all : (t : Tag) (frame : List ℕ) (tos : List ℕ) (w : World) → map queues_in (fold (reaches plan t frame) w tos).seats ≡ map queues_in w.seats
  queues_all t frame [] w = refl
  queues_all t frame (to ∷ tos) w = queues_all t frame tos (reaches plan t frame w to) ∙ queues_reaches t frame w to

  way_spread : (k : ℕ) (t : Tag) (frame : List ℕ) (tos : List ℕ) (w : World) → length tos ≤ 16 → IsOnTheWay plan k w → IsOnTheWay plan (k + 16) (spread plan t frame tos w)
  way_spread k t frame [] w few h = record {
    queues = at_queues t.guest (noted (entry.Lost t)) (λ s. refl) w.seats ∙ h.queues;
    small = at_small k (k + 16) t.guest (noted (entry.Lost t)) (omega arith) (λ s i. small_more k (k + 16) (omega arith) _ (small_noted k (entry.Lost t) s i)) w.seats h.small;
  }
  way_spread k t frame (to ∷ tos) w few h = record {
    queues = queues_all t frame (to ∷ tos) w ∙ h.queues;
    small = All-weaker (IsSmall (k + suc (length tos))) (IsSmall (k + 16)) (small_more (k + suc (length tos)) (k + 16) (omega arith)) _ (small_all k t frame (to ∷ tos) w h.small);
  }

  pub way_more : (k m : ℕ) (w : World) → k ≤ m → IsOnTheWay plan k w → IsOnTheWay plan m w
  way_more k m w le h = record { queues = h.queues; small = All-weaker (IsSmall k) (IsSmall m) (small_more k m le) w.seats h.small }

  way_sent_by : (k g : ℕ) (posted : Sent) (s : Sending) (w : World) → IsOnTheWay plan k w → IsOnTheWay plan (k + 16) (sent_by plan g posted s w)
  way_sent_by k g posted (sending.Sent a q place) w h = way_spread k (record { guest = g; activation = a; queue = q; place = place }) (wire_form posted) (targets (wiring plan.guests) g (wire_form posted)) (record w { seats = at_number g (transmitted a q posted) w.seats }) (targets_few plan g (wire_form posted))
      (record { queues = at_queues g (transmitted a q posted) (λ s. refl) w.seats ∙ h.queues; small = at_small k k g (transmitted a q posted) (omega arith) (small_transmitted k a q posted) w.seats h.small })
  way_sent_by k g posted sending.Down w h = way_more k (k + 16) w (omega arith) h
  way_sent_by k g posted sending.Short w h = way_more k (k + 16) w (omega arith) h
  way_sent_by k g posted sending.TooLong w h = way_more k (k + 16) w (omega arith) h

  way_sends : (k g : ℕ) (p : GuestPlan) (o : Option Captured) (w : World) → IsOnTheWay plan k w → IsOnTheWay plan (k + 16) (sends plan g p o w)
  way_sends k g p None w h = way_more k (k + 16) w (omega arith) h
  way_sends k g p (Some c) w h = way_sent_by k g c.posted (verdict_on p c) w h

  pub small_acted : (k g : ℕ) (p : GuestPlan) (n : ℕ) (s : Seat) → IsSmall k s → IsSmall (k + 256) (acted g p n s)
  small_acted k g p n s h = let actions = filter (λ (a : Action). nat_eq a.at n) p.script in let few = filter_few (λ (a : Action). nat_eq a.at n) p.script in let most = p.script_length in
      small_more (k + length actions) (k + 256) (omega arith) _ (small_deeds k g p actions s h)

  pub way_acted : (k g : ℕ) (p : GuestPlan) (n : ℕ) (w : World) → IsOnTheWay plan k w → IsOnTheWay plan (k + 256) (record w { seats = at_number g (acted g p n) w.seats })
  way_acted k g p n w h = record {
    queues = at_queues g (acted g p n) (λ s. kept_deeds g p (filter (λ a. nat_eq a.at n) p.script) s) w.seats ∙ h.queues;
    small = at_small k (k + 256) g (acted g p n) (omega arith) (small_acted k g p n) w.seats h.small;
  }

  way_turn_of : (k n g : ℕ) (o : Option GuestPlan) (w : World) → IsOnTheWay plan k w → IsOnTheWay plan (k + 272) (turn_of plan n g o w)
  way_turn_of k n g None w h = way_more k (k + 272) w (omega arith) h
  way_turn_of k n g (Some p) w h = way_more (k + 256 + 16) (k + 272) _ (omega arith) (way_sends (k + 256) g p (slice_get (captured p) n) (record w { seats = at_number g (acted g p n) w.seats }) (way_acted k g p n w h))

  pub way_turns : (k n g : ℕ) (w : World) → IsOnTheWay plan k w → IsOnTheWay plan (k + 272 * g) (turns plan n g w)
  unfolding turns
  way_turns k n zero w h = way_more k (k + 272 * 0) w (omega arith) h
  way_turns k n (suc g) w h = way_more (k + 272 * g + 272) (k + 272 * suc g) _ (omega arith) (way_turn_of (k + 272 * g) n g (slice_get plan.guests g) (turns plan n g w) (way_turns k n g w h))

  pub way_rounds : (k n : ℕ) (w : World) → IsOnTheWay plan k w → IsOnTheWay plan (k + 4352 * n) (rounds plan n w)
  unfolding rounds
  way_rounds k zero w h = way_more k (k + 4352 * 0) w (omega arith) h
  way_rounds k (suc n) w h = let few = guests_few plan in way_more (k + 4352 * n + 272 * length plan.guests) (k + 4352 * suc n) _ (omega arith) (way_turns (k + 4352 * n) n (length plan.guests) (rounds plan n w) (way_rounds k n w h))
