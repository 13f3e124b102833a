-- How many copies reached each guest: one more where a copy comes in, and else as many as before.
use Rattle.std.proofs.Common.{◌≡◌, ℕ, zero, suc, ◌+◌, ◌-◌, Bool, true, false, List, [], ◌∷◌, length, map, replicate, refl, ap, ◌∙◌, Option, Some, None, is_some, if◌then◌else◌}
use Rattle.std.specs.List.{fold}
use Rattle.vmx_ends.specs.declared.frames.Sent.{Sent}
use Rattle.vmx_ends.specs.declared.packet.Tag.{Tag}
use Rattle.vmx_model.specs.declared.plan.Plan.{Plan}
use Rattle.vmx_model.specs.declared.guest.GuestPlan.{GuestPlan}
use Rattle.vmx_model.specs.declared.deeds.Action.{Action}
use Rattle.vmx_model.specs.declared.deeds.Deed.{Deed}
use Rattle.vmx_model.specs.declared.deeds.Deed.TheVariants as deed
use Rattle.vmx_model.specs.declared.journal.Entry.TheVariants as entry
use Rattle.vmx_model.specs.declared.journal.Way.TheVariants as way
use Rattle.vmx_model.specs.declared.sending.Sending.{Sending}
use Rattle.vmx_model.specs.declared.sending.Sending.TheVariants as sending
use Rattle.vmx_model.specs.Plan.{quiesce_dev, reset_dev, update_rx_mode, update_mac_filters, update_vlan_filters, update_rssidt, changed}
use Rattle.vmx_model.specs.Serial.{Seat, World, Carried, at_number, quieted, quiet_setting, active_setting, activated, set_command, done, noted, closed, transmitted, emptied, pending, poll, polls, start, seats_from, pushed_on, mac_of}
use Rattle.vmx_model.specs.Turns.{at_guest, comes_in, pulled_on, put_out}
use Rattle.vmx_model.specs.Wire.{wire_form}
use Rattle.vmx_replay_runs.specs.Runs.{does, put_to, put_by, targets_of, live_poll, looked}
use Rattle.vmx_replay_actors.specs.Counts.{more_if, one_more_at}
use Rattle.vmx_replay_actors.specs.Runs.{seen_of}

-- ------------------------------------------------------------ one guest

polls_seen : (a n : ℕ) (s : Seat) → (polls a n s).seen ≡ s.seen
polls_seen a zero s = refl
polls_seen a (suc n) s = polls_seen a n (poll a s)

emptied_seen : (s : Seat) → (emptied s).seen ≡ s.seen
unfolding emptied
emptied_seen s = polls_seen (s.begun - 1) (pending s.rx) s

quieted_seen : (number : ℕ) (s : Seat) → (quieted number s).seen ≡ s.seen
quieted_seen number s = emptied_seen (record (quiet_setting number s) { active = false })

set_seen : (number : ℕ) (s : Seat) → (set_command s number).seen ≡ s.seen
set_seen number s = step s.active
  where
    step : (b : Bool) → (if b then active_setting number s else quiet_setting number s).seen ≡ s.seen
    step true = refl
    step false = refl

done_seen : (port : ℕ) (g : GuestPlan) (d : Deed) (s : Seat) → (done port g d s).seen ≡ s.seen
done_seen port g deed.Quiesce s = quieted_seen quiesce_dev s
done_seen port g deed.Activate s = step s.active
  where
    step : (b : Bool) → (if b then s else activated port g s).seen ≡ s.seen
    step true = refl
    step false = refl
done_seen port g deed.Reset s = quieted_seen reset_dev s
done_seen port g (deed.Mode m) s = set_seen update_rx_mode (record s { setup = changed s.setup (deed.Mode m) })
done_seen port g (deed.Multicast t) s = set_seen update_mac_filters (record s { setup = changed s.setup (deed.Multicast t) })
done_seen port g (deed.Vlans t) s = set_seen update_vlan_filters (record s { setup = changed s.setup (deed.Vlans t) })
done_seen port g (deed.Rss size t) s = set_seen update_rssidt (record s { setup = changed s.setup (deed.Rss size t) })

live_seen : (s : Seat) → (live_poll s).seen ≡ s.seen
live_seen s = step s.active
  where
    step : (b : Bool) → (if b then poll (s.begun - 1) s else s).seen ≡ s.seen
    step true = refl
    step false = refl

closed_seen : (s : Seat) → (closed s).seen ≡ s.seen
closed_seen s = step s.active
  where
    step : (b : Bool) → (if b then quieted quiesce_dev s else s).seen ≡ s.seen
    step true = quieted_seen quiesce_dev s
    step false = refl

-- ------------------------------------------------------------ all guests

at_seen : (n : ℕ) (change : Seat → Seat) → ((s : Seat) → (change s).seen ≡ s.seen) → (w : World) → seen_of (at_guest n change w) ≡ seen_of w
at_seen n change same w = all n w.seats
  where
    all : (n : ℕ) (ss : List Seat) → map (λ (s : Seat). s.seen) (at_number n change ss) ≡ map (λ (s : Seat). s.seen) ss
    all n [] = refl
    all zero (s ∷ ss) = ap (λ (k : ℕ). k ∷ map (λ (s : Seat). s.seen) ss) (same s)
    all (suc n) (s ∷ ss) = ap (λ (ks : List ℕ). s.seen ∷ ks) (all n ss)

pub does_seen : (port : ℕ) (o : Option GuestPlan) (a : Option Action) (w : World) → seen_of (does port o a w) ≡ seen_of w
does_seen port None a w = refl
does_seen port (Some p) None w = refl
does_seen port (Some p) (Some a) w = at_seen port (done port p a.deed) (done_seen port p a.deed) w

pub polled_seen : (port : ℕ) (w : World) → seen_of (at_guest port live_poll w) ≡ seen_of w
polled_seen port w = at_seen port live_poll live_seen w

pub closed_all_seen : (port : ℕ) (w : World) → seen_of (at_guest port closed w) ≡ seen_of w
closed_all_seen port w = at_seen port closed closed_seen w

outs_seen : (t : Tag) (f : List ℕ) (tos : List ℕ) (w : World) → seen_of (fold (put_out t f) w tos) ≡ seen_of w
outs_seen t f [] w = refl
outs_seen t f (to ∷ tos) w = outs_seen t f tos (put_out t f w to) ∙ at_seen t.guest (noted (entry.Out t to (way.Link (pushed_on w.wires t.guest to)))) (λ s. refl) w

put_seen : (t : Tag) (f : List ℕ) (tos : List ℕ) (w : World) → seen_of (put_to t f tos w) ≡ seen_of w
put_seen t f [] w = at_seen t.guest (noted (entry.Lost t)) (λ s. refl) w
put_seen t f (to ∷ tos) w = outs_seen t f (to ∷ tos) w

pub by_seen : (plan : Plan) (port : ℕ) (posted : Sent) (s : Sending) (w : World) → seen_of (put_by plan port posted s w) ≡ seen_of w
by_seen plan port posted (sending.Sent a q k) w =
    put_seen (record { guest = port; activation = a; queue = q; place = k }) (wire_form posted) (targets_of plan port posted) (at_guest port (transmitted a q posted) w)
    ∙ at_seen port (transmitted a q posted) (λ s. refl) w
by_seen plan port posted sending.Down w = refl
by_seen plan port posted sending.Short w = refl
by_seen plan port posted sending.TooLong w = refl

-- ------------------------------------------------------------ an arrival

comes_seen : (mac : List ℕ) (from place : ℕ) (frame : List ℕ) (to : ℕ) (ss : List Seat) → map (λ (s : Seat). s.seen) (at_number to (comes_in mac from place frame) ss) ≡ one_more_at to (map (λ (s : Seat). s.seen) ss)
comes_seen mac from place frame to [] = refl
comes_seen mac from place frame zero (s ∷ ss) = refl
comes_seen mac from place frame (suc to) (s ∷ ss) = ap (λ (ks : List ℕ). s.seen ∷ ks) (comes_seen mac from place frame to ss)

pub looked_seen : (plan : Plan) (from to : ℕ) (w : World) (o : Option Carried) → seen_of (looked plan from to w o) ≡ more_if (is_some o) to (seen_of w)
looked_seen plan from to w None = refl
looked_seen plan from to w (Some p) = comes_seen (mac_of plan to) from (pulled_on w.wires from to) p.frame to w.seats

-- ------------------------------------------------------------ the start

none_seen : (port : ℕ) (gs : List GuestPlan) → map (λ (s : Seat). s.seen) (seats_from port gs) ≡ replicate (length gs) 0
none_seen port [] = refl
none_seen port (g ∷ gs) = ap (λ (ks : List ℕ). 0 ∷ ks) (none_seen (port + 1) gs)

pub start_seen : (plan : Plan) → seen_of (start plan) ≡ replicate (length plan.guests) 0
start_seen plan = none_seen 0 plan.guests
