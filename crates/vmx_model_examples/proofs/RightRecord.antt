-- The record of the small replay has the lists of its run, and its actors leave what they must.
use Rattle.vmx_model_examples.specs.RightRecord.{refused}
use Rattle.std.proofs.lemmas.List.Elements.{All-cons, All-nil}
use Rattle.vmx_ends.specs.ReceiveClauses.{IsRefusal}
use Rattle.std.proofs.Common.{◌≡◌, inl, ℕ, zero, suc, ◌≤◌, List, [], ◌∷◌, refl, sym, subst, arith, Some, None}
use Rattle.std.specs.List.{AllByRecursion, slice_get}
use Rattle.std.specs.Prelude.{Ok}
use Rattle.vmx_device_state.specs.Agree.{setup_agrees}
use Rattle.vmx_device_state.specs.ImageSetup.{image_setup}
use Rattle.vmx_device_state.specs.SetupView.{setup_view}
use Rattle.vmx_ends.specs.LookWords.{missed_is}
use Rattle.vmx_ends.specs.Receive.{RxView}
use Rattle.vmx_ends.specs.Transmit.{TxView}
use Rattle.vmx_frame.specs.Ethernet.{class_of, is_tagged, tag_of}
use Rattle.vmx_frame.specs.Internet.{flow_of, payload_flow}
use Rattle.vmx_model.specs.Account.{beside}
use Rattle.vmx_model.specs.Bags.{DeviceLeaves, DriverLeaves, Agree, GuestActors, Actors, AllGotBack}
use Rattle.vmx_model.specs.Left.{RunsInOrder}
use Rattle.vmx_model.specs.Lists.{Rises}
use Rattle.vmx_model.specs.Record.{HasLists}
use Rattle.vmx_model.specs.Serial.{serial_run, rounds, turns, emptied, drained, tried}
use Rattle.vmx_model.specs.Setups.{admits}
use Rattle.vmx_model.specs.Stats.{tx_counts, rx_counts}
use Rattle.vmx_model.specs.Totals.{wiring}
use Rattle.vmx_model.specs.declared.journal.Received.{Received}
use Rattle.vmx_model.specs.Views.{GuestView}
use Rattle.vmx_shared_area.specs.Tells.{Reads}
use Rattle.vmx_switch.specs.Ports.{target_ports, is_target}
use Rattle.vmx_model_examples.specs.RightRecord.{ends_of, back_of, new_of, sender_tx, sender_rx, target_tx, target_rx, turn, packet, plain, sender, target, twelve, received, sender_view, target_view, right}

-- its statistics are counts of its lists
stats_of : (image : List ℕ) (g : ℕ) (v : GuestView) → slice_get (right image).guests g ≡ Some v → (v.tx_stats ≡ tx_counts v.tx v.entries) × (v.rx_stats ≡ rx_counts (right image).links g v.entries)
unfolding class_of is_tagged
stats_of image zero v here = let same : sender_view image ≡ v = cc here in subst (λ (v : GuestView). (v.tx_stats ≡ tx_counts v.tx v.entries) × (v.rx_stats ≡ rx_counts (right image).links 0 v.entries)) same (refl, refl)
stats_of image (suc zero) v here = let same : target_view image ≡ v = cc here in subst (λ (v : GuestView). (v.tx_stats ≡ tx_counts v.tx v.entries) × (v.rx_stats ≡ rx_counts (right image).links 1 v.entries)) same (refl, refl)
stats_of image (suc (suc g)) v here = absurd (cc here)

-- it has the lists of the plan's serial run
pub has_lists : (image : List ℕ) → HasLists (right image) (serial_run twelve)
unfolding serial_run rounds turns emptied drained tried admits class_of is_tagged tag_of flow_of payload_flow target_ports is_target
has_lists image = record { entries = refl; setups = refl; received = refl; tx = refl; rx = refl; links = refl; tx_stats = λ g v here. (stats_of image g v here).0; rx_stats = λ g v here. (stats_of image g v here).1; never_full = refl }

-- what holds of all elements holds of them in weaker words
all_weaker : {X : Type 0} (P R : X → Type 0) → ((x : X) → P x → R x) → (xs : List X) → AllByRecursion P xs → AllByRecursion R xs
all_weaker P R f [] h = tt
all_weaker P R f (x ∷ xs) h = (f x h.0, all_weaker P R f xs h.1)

-- what the image says of the setup in force
pub says : (image : List ℕ) → Reads image (Ok plain) → image_setup image ≡ setup_view plain
says image holds = sym (setup_agrees image plain holds)

-- the law on the order of a serial run, at this record
abbrev pub IsOrdered : Type 0
IsOrdered = (image : List ℕ) → RunsInOrder twelve (right image)

-- frames of one activation rise by activation
rises_in_one : (xs : List Received) → AllByRecursion (λ (x : Received). x.activation ≡ 0) xs → Rises (λ (x y : Received). x.activation ≤ y.activation) xs
rises_in_one [] h = tt
rises_in_one (x ∷ xs) h = (all_weaker (λ (y : Received). y.activation ≡ 0) (λ (y : Received). x.activation ≤ y.activation) (λ y e. omega (arith, e, h.0)) xs h.1, rises_in_one xs h.1)

-- a driver got the ends of its one activation back, with the lists of its facts
got : (g : ℕ) (f : TxView) (x : RxView) → f.made.name ≡ record { guest = g; activation = 0; queue = 0 } → x.made.name ≡ record { guest = g; activation = 0; queue = 0 } → AllGotBack g 0 (back_of f x ∷ []) (f ∷ []) (x ∷ [])
got g f x named named' = (
  record {
    tx_now = f ∷ [];
    tx_later = [];
    rx_now = x ∷ [];
    rx_later = [];
    tx_are = refl;
    rx_are = refl;
    got = record { tx_ends = (ends_of f x).tx; rx_ends = (ends_of f x).rx; handed = refl; met_tx = (record { taken = refl; completed = refl }, tt); met_rx = (record { delivered = refl; refused = refl }, tt); tx_names = (named, tt); rx_names = (named', tt) };
  },
  (refl, refl),
)

-- what the sender's device, driver and both leave
sender_device : (image : List ℕ) → Reads image (Ok plain) → DeviceLeaves (wiring twelve.guests) (beside (right image) 0 sender (sender_view image)) (sender_view image)
unfolding admits class_of is_tagged tag_of flow_of payload_flow target_ports is_target
sender_device image holds = let e = says image holds in record {
  lawful = record {
    each = (((turn image 0xCAFE0000 (Some (new_of sender_tx sender_rx)) None, refl, refl, refl, rw (holds.0, e) refl, refl), (refl, (plain, refl, sym e))), ((rw e (refl, refl, omega arith)), ((rw e (refl, refl, omega arith)), ((rw e (refl, refl, omega arith)), ((rw e (refl, refl, omega arith)), ((rw e (refl, refl, omega arith)), ((rw e (refl, refl, omega arith)), ((rw e (refl, refl, omega arith)), ((rw e (refl, refl, omega arith)), ((rw e (refl, refl, omega arith)), ((rw e (refl, refl, omega arith)), ((rw e (refl, refl, omega arith)), ((rw e (refl, refl, omega arith)), (((turn image 0xCAFE0001 None (Some (back_of sender_tx sender_rx)), refl, refl, refl, refl, (refl, refl)), refl), tt))))))))))))));
    no_more = refl;
  };
  ends = ends_of sender_tx sender_rx ∷ [];
  handed = refl;
  hands_back = (record { took = (record { sends = refl; completed = refl; packets = (λ is. ((λ a q. (refl, refl)), ((λ a q. (refl, refl)), ((λ a q. (refl, refl)), ((λ a q. (refl, refl)), ((λ a q. (refl, refl)), ((λ a q. (refl, refl)), ((λ a q. (refl, refl)), ((λ a q. (refl, refl)), ((λ a q. (refl, refl)), ((λ a q. (refl, refl)), ((λ a q. (refl, refl)), ((λ a q. (refl, refl)), tt)))))))))))), (λ is. tt, tt)) }, tt); gave = (record { delivered = refl; refused = refl }, tt) }, tt);
  tx_stats = refl;
  rx_stats = refl;
}

sender_driver : (image : List ℕ) → Reads image (Ok plain) → DriverLeaves 0 sender (sender_view image)
unfolding admits class_of is_tagged tag_of flow_of payload_flow target_ports is_target
sender_driver image holds = let e = says image holds in record {
  tx_names = refl;
  rx_names = refl;
  got_back = got 0 sender_tx sender_rx refl refl;
  tx = (record { made = refl; sent = refl; met = ([], refl); reaped = refl; whole = λ k. refl }, tt);
  rx = (record { made = refl; met = ([], refl); drained = refl; looks = All-nil (IsRefusal sender_rx.made); handed = refl }, tt);
  received = tt;
  rising = tt;
  images = rw e refl;
}

sender_both : IsOrdered → (image : List ℕ) → Agree sender (sender_view image)
sender_both ordered image = record { told = refl; settings = refl; opens = (ordered image).opens.0; ends = (ordered image).ends 0 sender (sender_view image) refl refl }

-- the same of the target
target_device : (image : List ℕ) → Reads image (Ok plain) → DeviceLeaves (wiring twelve.guests) (beside (right image) 1 target (target_view image)) (target_view image)
unfolding admits class_of is_tagged tag_of flow_of payload_flow target_ports is_target
target_device image holds = let e = says image holds in record {
  lawful = record {
    each = (((turn image 0xCAFE0000 (Some (new_of target_tx target_rx)) None, refl, refl, refl, rw (holds.0, e) refl, refl), (refl, (plain, refl, sym e))), ((packet 0, refl, rw e (refl, refl, refl, refl)), ((packet 1, refl, rw e (refl, refl, refl, refl)), ((packet 2, refl, rw e (refl, refl, refl, refl)), ((packet 3, refl, rw e (refl, refl, refl, refl)), ((packet 4, refl, rw e (refl, refl, refl, refl)), ((packet 5, refl, rw e (refl, refl, refl, refl)), ((packet 6, refl, rw e (refl, refl, refl, refl)), ((packet 7, refl, rw e (refl, refl, refl, refl)), ((packet 8, refl, rw e (refl, refl, refl, refl)), ((packet 9, refl, rw e (refl, refl, refl, refl)), ((packet 10, refl, rw e (refl, refl, refl, refl)), ((packet 11, refl, rw e (refl, refl, refl, inl refl, refl)), (((turn image 0xCAFE0001 None (Some (back_of target_tx target_rx)), refl, refl, refl, refl, (refl, refl)), refl), tt))))))))))))));
    no_more = refl;
  };
  ends = ends_of target_tx target_rx ∷ [];
  handed = refl;
  hands_back = (record { took = (record { sends = refl; completed = refl; packets = (λ is. absurd (omega (arith, is)), (λ is. tt, tt)) }, tt); gave = (record { delivered = rw e refl; refused = refl }, tt) }, tt);
  tx_stats = refl;
  rx_stats = refl;
}

target_driver : (image : List ℕ) → Reads image (Ok plain) → DriverLeaves 1 target (target_view image)
unfolding admits class_of is_tagged tag_of flow_of payload_flow target_ports is_target
target_driver image holds = let e = says image holds in let f = target_rx in record {
  tx_names = refl;
  rx_names = refl;
  got_back = got 1 target_tx target_rx refl refl;
  tx = (record { made = refl; sent = refl; met = ([], refl); reaped = refl; whole = λ k. refl }, tt);
  rx = (record { made = refl; met = ([], refl); drained = refl; looks = All-cons (IsRefusal f.made) refused [] (missed_is 32 32, λ k. omega arith) (All-nil (IsRefusal f.made)); handed = refl }, tt);
  received = ((f, refl), ((f, refl), ((f, refl), ((f, refl), ((f, refl), ((f, refl), ((f, refl), ((f, refl), ((f, refl), ((f, refl), ((f, refl), tt)))))))))));
  rising = rises_in_one received (refl, (refl, (refl, (refl, (refl, (refl, (refl, (refl, (refl, (refl, (refl, tt)))))))))));
  images = rw e refl;
}

target_both : IsOrdered → (image : List ℕ) → Agree target (target_view image)
target_both ordered image = record { told = refl; settings = refl; opens = (ordered image).opens.1.0; ends = (ordered image).ends 1 target (target_view image) refl refl }

-- what holds of two guests holds of each
of_two : {X Y : Type 0} (P : ℕ → X → Y → Type 0) (a b : X) (v w : Y) → P 0 a v → P 1 b w → (g : ℕ) (p : X) (u : Y) → slice_get (a ∷ b ∷ []) g ≡ Some p → slice_get (v ∷ w ∷ []) g ≡ Some u → P g p u
of_two P a b v w h k zero p u at here =
    let same : a ≡ p = cc at in let same' : v ≡ u = cc here in subst (λ p. P 0 p u) same (subst (P 0 a) same' h)
of_two P a b v w h k (suc zero) p u at here =
    let same : b ≡ p = cc at in let same' : w ≡ u = cc here in subst (λ p. P 1 p u) same (subst (P 1 b) same' k)
of_two P a b v w h k (suc (suc g)) p u at here = absurd (cc at)

pub sender_actors : IsOrdered → (image : List ℕ) → Reads image (Ok plain) → GuestActors twelve (right image) 0 sender (sender_view image)
sender_actors ordered image holds = record { device = sender_device image holds; driver = sender_driver image holds; both = sender_both ordered image }

pub target_actors : IsOrdered → (image : List ℕ) → Reads image (Ok plain) → GuestActors twelve (right image) 1 target (target_view image)
target_actors ordered image holds = record { device = target_device image holds; driver = target_driver image holds; both = target_both ordered image }

pub actors : IsOrdered → (image : List ℕ) → Reads image (Ok plain) → Actors twelve (right image)
unfolding target_ports is_target
actors ordered image holds = record {
  guests = refl;
  link_order = refl;
  links = (
    record { sends = record { tags = refl; places = refl; looks = refl; full = tt }; pulls = record { arrivals = refl }; meets = record { met = ([], refl); drained = refl } },
    (record { sends = record { tags = refl; places = refl; looks = refl; full = tt }; pulls = record { arrivals = refl }; meets = record { met = ([], refl); drained = refl } }, tt),
  );
  each = of_two (GuestActors twelve (right image)) sender target (sender_view image) (target_view image) (sender_actors ordered image holds) (target_actors ordered image holds);
}
