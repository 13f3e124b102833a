-- The record of guests that are over has the lists of the world that they stand for.
use Rattle.std.proofs.Common.{◌≡◌, ℕ, List, [], ◌∷◌, ◌++◌, length, map, take, refl, ap, ap₂, sym, ◌∙◌, true, false, true≢false, append-nil, Bool}
use Rattle.std.specs.Prelude.{◌&&◌}
use Rattle.std.specs.List.{AllByRecursion}
use Rattle.std.proofs.lemmas.List.{length-map, map-append}
use Rattle.std.proofs.Math.Seq.{take-append_seam}
use Rattle.vmx_ends.specs.declared.frames.Sent.{Sent}
use Rattle.vmx_ends.specs.declared.frames.Taken.{Taken}
use Rattle.vmx_ends.specs.declared.frames.Delivery.{Delivery}
use Rattle.vmx_ends.specs.declared.made.RxMade.{RxMade}
use Rattle.vmx_ends.specs.Frames.{sent_of}
use Rattle.vmx_ends.specs.Transmit.{TxDriverView, TxView}
use Rattle.vmx_ends.specs.Receive.{RxDriverView, RxView}
use Rattle.vmx_link.specs.Views.{LinkInView}
use Rattle.vmx_device_state.specs.SetupView.{setup_view}
use Rattle.vmx_model.specs.Views as model
use Rattle.vmx_model.specs.Account.{need}
use Rattle.vmx_model.specs.Bags.{DriverSaysRx}
use Rattle.vmx_model.specs.Record.{TxLists, RxLists, lists_of_tx, lists_of_tx_core, lists_of_rx, lists_of_rx_core, wire_of}
use Rattle.vmx_model.specs.Serial.{Wire, Seat, World}
use Rattle.vmx_driver_steps.specs.declared.progress.Stage.{Stage}
use Rattle.vmx_driver_steps.specs.declared.progress.Stage.TheVariants.{Fresh, Active, Stopping, Held, Quiet, Ended}
use Rattle.vmx_driver_steps.specs.Progress.{count_in, is_over, is_over_in}
use Rattle.vmx_driver_steps.specs.Driver.{Keeps, SentPlan}
use Rattle.vmx_replay_worlds.specs.Guests.{GuestView, met_tx, met_rx, live_tx, live_rx, plain_look, joined, seat_of, ends_of}
use Rattle.vmx_replay_worlds.specs.Worlds.{wires_by, outs_of, ins_of, world_of}
use Rattle.vmx_replay_worlds.proofs.Lists.{map_map}
use Rattle.vmx_replay_calls.specs.Resting.{AllKeep}
use Rattle.vmx_replay_gather.specs.Records.{left_by, link_by, outs_in_order, record_of}
use Rattle.vmx_replay_gather.specs.Ending.{AreOver}

-- the lists of a world, statistics and full links aside
pub record HasTheLists (r : model.RecordView) (w : World) : Type 0 where
  pub entries : map (λ (v : model.GuestView). v.entries) r.guests ≡ map (λ (s : Seat). s.entries) w.seats
  pub setups : map (λ (v : model.GuestView). map setup_view v.setups) r.guests ≡ map (λ (s : Seat). s.setups) w.seats
  pub received : map (λ (v : model.GuestView). v.received) r.guests ≡ map (λ (s : Seat). s.received) w.seats
  pub tx : map (λ (v : model.GuestView). map lists_of_tx v.tx) r.guests ≡ map (λ (s : Seat). map lists_of_tx_core s.tx) w.seats
  pub rx : map (λ (v : model.GuestView). map lists_of_rx v.rx) r.guests ≡ map (λ (s : Seat). map lists_of_rx_core s.rx) w.seats
  pub links : map wire_of r.links ≡ w.wires

-- ------------------------------------------------------------ queues whose ends have met

lists_tx : (p : _) (n : ℕ) (f : TxView) → SentPlan p n f → lists_of_tx f ≡ lists_of_tx_core (met_tx f)
lists_tx p n f m =
    let long : length (sent_of f.taken) ≡ length f.taken = length-map f.taken (λ (t : Taken). t.sent) in
    let same : sent_of f.taken ≡ take (length f.taken) f.sent = sym (take-append_seam (sent_of f.taken) m.met.0) ∙ ap₂ (λ (k : ℕ) (xs : List Sent). take k xs) long m.met.1 in
    ap₂ (λ (xs : List Sent) (k : ℕ). record { made = f.made; sent = f.sent; taken = xs; completed = f.completed; reaped = k }) same m.reaped

plain_needs : (m : RxMade) (xs : List (ℕ × ℕ × ℕ)) → map need xs ≡ map need (map (plain_look m) xs)
plain_needs m [] = refl
plain_needs m (x ∷ xs) = ap (λ (ys : List model.Need). need x ∷ ys) (plain_needs m xs)

lists_rx : (p : _) (received : _) (f : RxView) → DriverSaysRx p received f → lists_of_rx f ≡ lists_of_rx_core (met_rx f)
lists_rx p received f m =
    let same : f.received ≡ take (length f.received) f.delivered = sym (take-append_seam f.received m.met.0) ∙ ap (λ (xs : List Delivery). take (length f.received) xs) m.met.1 in
    ap₂ (λ (xs : List Delivery) (ns : List model.Need). record { made = f.made; delivered = f.delivered; received = xs; refused = ns }) same (plain_needs f.made f.refused)

all_tx : (p : _) (n : ℕ) (fs : List TxView) → AllByRecursion (SentPlan p n) fs → map lists_of_tx fs ≡ map lists_of_tx_core (map met_tx fs)
all_tx p n [] h = refl
all_tx p n (f ∷ fs) h = ap₂ (λ (x : TxLists) (xs : List TxLists). x ∷ xs) (lists_tx p n f h.0) (all_tx p n fs h.1)

all_rx : (p : _) (received : _) (fs : List RxView) → AllByRecursion (DriverSaysRx p received) fs → map lists_of_rx fs ≡ map lists_of_rx_core (map met_rx fs)
all_rx p received [] h = refl
all_rx p received (f ∷ fs) h = ap₂ (λ (x : RxLists) (xs : List RxLists). x ∷ xs) (lists_rx p received f h.0) (all_rx p received fs h.1)

-- ------------------------------------------------------------ a driver that is over has no queue in hand

empty_of : {X : Type 0} (xs : List X) → length xs ≡ 0 → xs ≡ []
empty_of [] e = refl
empty_of (x ∷ xs) e = absurd (cc e)

both : (a b : Bool) → (a && b) ≡ true → b ≡ true
both true b e = e
both false b e = absurd (true≢false (sym e))

none_in : (g : Stage) (n : ℕ) → is_over_in g ≡ true → count_in g n ≡ 0
none_in Quiet n e = refl
none_in Ended n e = refl
none_in Fresh n e = absurd (true≢false (sym e))
none_in Active n e = absurd (true≢false (sym e))
none_in (Stopping t) n e = absurd (true≢false (sym e))
none_in (Held t) n e = absurd (true≢false (sym e))

module _ (r : GuestView) (k : Keeps r.driver) (over : is_over r.driver.at ≡ true) where
  pub stage_over : is_over_in r.driver.at.stage ≡ true
  stage_over = both r.driver.at.closed (is_over_in r.driver.at.stage) over

  no_tx : r.driver.tx ≡ []
  no_tx = empty_of r.driver.tx (k.tx_count ∙ none_in r.driver.at.stage r.driver.plan.setup.tx_queues stage_over)

  no_rx : r.driver.rx ≡ []
  no_rx = empty_of r.driver.rx (k.rx_count ∙ none_in r.driver.at.stage r.driver.plan.setup.rx_queues stage_over)

  tx_here : map lists_of_tx r.driver.tx_facts ≡ map lists_of_tx_core (seat_of r).tx
  tx_here = all_tx r.driver.plan r.driver.at.next r.driver.tx_facts k.tx_facts
      ∙ ap (map lists_of_tx_core) (sym (append-nil (map met_tx r.driver.tx_facts)) ∙ ap (λ (ds : List TxDriverView). map met_tx r.driver.tx_facts ++ joined live_tx ds (ends_of r).tx) (sym no_tx))

  rx_here : map lists_of_rx r.driver.rx_facts ≡ map lists_of_rx_core (seat_of r).rx
  rx_here = all_rx r.driver.plan r.driver.received r.driver.rx_facts k.rx_facts
      ∙ ap (map lists_of_rx_core) (sym (append-nil (map met_rx r.driver.rx_facts)) ∙ ap (λ (ds : List RxDriverView). map met_rx r.driver.rx_facts ++ joined live_rx ds (ends_of r).rx) (sym no_rx))

-- ------------------------------------------------------------ all guests

each_same : {A : Type 0} (f : model.GuestView → A) (h : Seat → A) (rs : List GuestView) → AllByRecursion (λ (r : GuestView). f (left_by r) ≡ h (seat_of r)) rs → map f (map left_by rs) ≡ map h (map seat_of rs)
each_same f h [] e = refl
each_same f h (r ∷ rs) e = ap₂ (λ x xs. x ∷ xs) e.0 (each_same f h rs e.1)

all_of : (P : GuestView → Type 0) (rs : List GuestView) → ((r : GuestView) → P r) → AllByRecursion P rs
all_of P [] k = tt
all_of P (r ∷ rs) k = (k r, all_of P rs k)

all_two : (P Q S : GuestView → Type 0) → ((r : GuestView) → P r → Q r → S r) → (rs : List GuestView) → AllByRecursion P rs → AllByRecursion Q rs → AllByRecursion S rs
all_two P Q S k [] p q = tt
all_two P Q S k (r ∷ rs) p q = (k r p.0 q.0, all_two P Q S k rs p.1 q.1)

-- the links are the wires
links_are : (ins : List (List LinkInView)) (rs : List GuestView) → map wire_of (map (link_by ins) (outs_in_order rs)) ≡ wires_by (outs_of rs) ins
links_are ins [] = refl
links_are ins (r ∷ rs) =
    ap (map wire_of) (map-append (link_by ins) r.device.out (outs_in_order rs)) ∙ map-append wire_of (map (link_by ins) r.device.out) (map (link_by ins) (outs_in_order rs))
    ∙ ap₂ (λ (xs ys : List Wire). xs ++ ys) (map_map wire_of (link_by ins) r.device.out) (links_are ins rs)

pub the_lists : (rs : List GuestView) → AllKeep rs → AreOver rs → HasTheLists (record_of rs) (world_of rs)
the_lists rs keeps over = record {
  entries = each_same (λ (v : model.GuestView). v.entries) (λ (s : Seat). s.entries) rs (all_of (λ (r : GuestView). r.device.entries ≡ r.device.entries) rs (λ r. refl));
  setups = each_same (λ (v : model.GuestView). map setup_view v.setups) (λ (s : Seat). s.setups) rs (all_of (λ (r : GuestView). map setup_view r.device.setups ≡ map setup_view r.device.setups) rs (λ r. refl));
  received = each_same (λ (v : model.GuestView). v.received) (λ (s : Seat). s.received) rs (all_of (λ (r : GuestView). r.driver.received ≡ r.driver.received) rs (λ r. refl));
  tx = each_same (λ (v : model.GuestView). map lists_of_tx v.tx) (λ (s : Seat). map lists_of_tx_core s.tx) rs
      (all_two _ (λ (r : GuestView). is_over r.driver.at ≡ true) (λ (r : GuestView). map lists_of_tx r.driver.tx_facts ≡ map lists_of_tx_core (seat_of r).tx) (λ r k o. tx_here r k.driver o) rs keeps over);
  rx = each_same (λ (v : model.GuestView). map lists_of_rx v.rx) (λ (s : Seat). map lists_of_rx_core s.rx) rs
      (all_two _ (λ (r : GuestView). is_over r.driver.at ≡ true) (λ (r : GuestView). map lists_of_rx r.driver.rx_facts ≡ map lists_of_rx_core (seat_of r).rx) (λ r k o. rx_here r k.driver o) rs keeps over);
  links = links_are (ins_of rs) rs;
}
