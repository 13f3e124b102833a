-- What comes back in bags is what the facts say.
use Rattle.std.proofs.Common.{◌≡◌, ℕ, suc, ◌<◌, List, [], ◌∷◌, ◌++◌, length, map, refl, sym, ap, ap₂, ◌∙◌, subst, arith, append_assoc, nat_eq, if◌then◌else◌, Some}
use Rattle.std.specs.List.{AllByRecursion, filter_map, find}
use Rattle.vmx_io.specs.declared.handed.HandedView.{HandedView}
use Rattle.vmx_switch.specs.Ports.{Wiring}
use Rattle.vmx_ends.specs.Frames.{sent_of}
use Rattle.vmx_ends.specs.Transmit.{TxDeviceView, TxView}
use Rattle.vmx_ends.specs.Receive.{RxDeviceView, RxView}
use Rattle.vmx_ends.specs.HandedEnds.{tx_numbers, rx_numbers, EndsView, handed_of}
use Rattle.vmx_ends.specs.HandedLaws.{tx_tells, rx_tells, ends_tell}
use Rattle.vmx_ends.specs.declared.frames.Taken.{Taken}
use Rattle.vmx_ends.specs.declared.frames.Delivery.{Delivery}
use Rattle.vmx_ends.specs.declared.packet.QueueName.{QueueName}
use Rattle.vmx_device_state.specs.SetupView.{SetupView}
use Rattle.vmx_device_state.specs.DeviceState.{DeviceState, Idle, Active}
use Rattle.vmx_model.specs.declared.journal.Entry.TheVariants as entry
use Rattle.vmx_model.specs.Types.{Plan, GuestPlan, Entry, Setup}
use Rattle.vmx_model.specs.Lists.{count, upto, EachAfter}
use Rattle.vmx_model.specs.Totals.{wiring}
use Rattle.vmx_model.specs.Wire.{wire_form}
use Rattle.vmx_model.specs.Meta.{arrival_of}
use Rattle.vmx_model.specs.Journal.{Beside, IsLawful, HasTx, state_at, activation_of, is_setting, needs}
use Rattle.vmx_model.specs.Views.{GuestView, RecordView}
use Rattle.vmx_model.specs.Fates.{tx_named}
use Rattle.vmx_model.specs.Stats.{taken_on, counted, is_lost_on, tx_counts}
use Rattle.vmx_model.specs.Account.{Send, send_of, sends_on, planned, deliveries, need, beside, PushedOfEnd, AccountsTx, LeavesRx, LeavesGuest}
use Rattle.vmx_model.specs.Bags.{EachQueue, Pairwise, TookAsSaid, DeliveredAsSaid, HandsBack, AllHandBack, taken_by, ends_taken, ends_counts, MetTx, MetRx, GotBack, AllGotBack, FactsSayTx, FactsSayRx, DriverSaysTx, DriverSaysRx, GuestActors}
use Rattle.vmx_model.proofs.Lists.{all_weaker}
use Rattle.vmx_model.proofs.Tags.{all_append}
use Rattle.vmx_model.proofs.Found.{finds_tx}
use Rattle.vmx_model.proofs.Ranges.{activation_within, tx_queues_kept}

-- ends with equal numbers did the same
abbrev SameTx : TxDeviceView → TxDeviceView → Type 0
SameTx v w = (v.completed ≡ w.completed) × (v.taken ≡ w.taken)

abbrev SameRx : RxDeviceView → RxDeviceView → Type 0
SameRx v w = (v.delivered ≡ w.delivered) × (v.refused ≡ w.refused)

pub same_tx : (vs ws : List TxDeviceView) → map tx_numbers vs ≡ map tx_numbers ws → Pairwise SameTx vs ws
same_tx [] [] e = tt
same_tx [] (w ∷ ws) e = let l = ap length e in absurd (omega arith)
same_tx (v ∷ vs) [] e = let l = ap length e in absurd (omega arith)
same_tx (v ∷ vs) (w ∷ ws) e = (tx_tells v w (cc e), same_tx vs ws (cc e))

pub same_rx : (vs ws : List RxDeviceView) → map rx_numbers vs ≡ map rx_numbers ws → Pairwise SameRx vs ws
same_rx [] [] e = tt
same_rx [] (w ∷ ws) e = let l = ap length e in absurd (omega arith)
same_rx (v ∷ vs) [] e = let l = ap length e in absurd (omega arith)
same_rx (v ∷ vs) (w ∷ ws) e = (rx_tells v w (cc e), same_rx vs ws (cc e))

-- ------------------------------------------------------------ what was taken from a queue

taken_both : (q : ℕ) (xs ys : List TxView) → taken_on q (xs ++ ys) ≡ taken_on q xs ++ taken_on q ys
taken_both q [] ys = refl
taken_both q (x ∷ xs) ys = ap (λ (zs : List (List ℕ)). (if nat_eq x.made.name.queue q then map wire_form (sent_of x.taken) else []) ++ zs) (taken_both q xs ys)
    ∙ sym (append_assoc (if nat_eq x.made.name.queue q then map wire_form (sent_of x.taken) else []) (taken_on q xs) (taken_on q ys))

-- by facts and by ends
queues_taken : (q g a n : ℕ) (fs : List TxView) (vs ws : List TxDeviceView) → Pairwise SameTx vs ws → Pairwise MetTx fs ws
    → EachQueue (λ q (f : TxView). f.made.name ≡ record { guest = g; activation = a; queue = q }) n fs → taken_on q fs ≡ taken_by q n vs
queues_taken q g a n [] [] [] same met names = refl
queues_taken q g a n [] [] (w ∷ ws) same met names = absurd same
queues_taken q g a n [] (v ∷ vs) [] same met names = absurd same
queues_taken q g a n [] (v ∷ vs) (w ∷ ws) same met names = absurd met
queues_taken q g a n (f ∷ fs) [] [] same met names = absurd met
queues_taken q g a n (f ∷ fs) [] (w ∷ ws) same met names = absurd same
queues_taken q g a n (f ∷ fs) (v ∷ vs) [] same met names = absurd same
queues_taken q g a n (f ∷ fs) (v ∷ vs) (w ∷ ws) same met names =
    let queue : f.made.name.queue ≡ n = ap (λ (x : QueueName). x.queue) names.0 in
    let taken : f.taken ≡ v.taken = met.0.taken ∙ sym same.0.1 in
    ap₂ (λ (us vs : List (List ℕ)). us ++ vs) (λ i. if nat_eq (queue i) q then map wire_form (sent_of (taken i)) else []) (queues_taken q g a (suc n) fs vs ws same.1 met.1 names.1)

-- ------------------------------------------------------------ bags

module _ (net : Wiring) (b : Beside) (es : List Entry) where
  -- a queue's facts have what the device says of its end
  says_tx : (a q : ℕ) (f : TxView) (v w : TxDeviceView) → TookAsSaid net b es a q v → SameTx v w → MetTx f w → f.made.name ≡ record { guest = b.port; activation = a; queue = q } → FactsSayTx net b es f
  says_tx a q f v w took same met name =
      let taken : v.taken ≡ f.taken = same.1 ∙ sym met.taken in
      let sends = subst (λ (n : QueueName). sends_on n.activation n.queue es ≡ planned net b.port n.activation n.queue 0 (map wire_form (sent_of f.taken))) (sym name)
      (subst (λ (ts : List Taken). sends_on a q es ≡ planned net b.port a q 0 (map wire_form (sent_of ts))) taken took.sends) in
      let packets = subst (λ (n : QueueName). PushedOfEnd b.links b.port n.activation n.queue (sent_of f.taken)) (sym name)
      (subst (λ (ts : List Taken). PushedOfEnd b.links b.port a q (sent_of ts)) taken took.packets) in
      record { sends = sends; completed = met.completed ∙ sym same.0 ∙ took.completed ∙ ap length taken; packets = packets }

  says_rx : (a q : ℕ) (f : RxView) (v w : RxDeviceView) → DeliveredAsSaid b es a q v → SameRx v w → MetRx f w → f.made.name ≡ record { guest = b.port; activation = a; queue = q } → FactsSayRx b es f
  says_rx a q f v w gave same met name =
      let delivered : v.delivered ≡ f.delivered = same.0 ∙ sym met.delivered in
      let refused : v.refused ≡ f.refused = same.1 ∙ sym met.refused in
      record {
        delivered = subst (λ (n : QueueName). map arrival_of f.delivered ≡ deliveries b n.activation n.queue [] es) (sym name)
            (subst (λ (ds : List Delivery). map arrival_of ds ≡ deliveries b a q [] es) delivered gave.delivered);
        refused = subst (λ (n : QueueName). map need f.refused ≡ needs n.activation n.queue es) (sym name)
            (subst (λ (ls : List (ℕ × ℕ × ℕ)). map need ls ≡ needs a q es) refused gave.refused);
      }

  queues_tx : (a q : ℕ) (fs : List TxView) (vs ws : List TxDeviceView) → EachQueue (TookAsSaid net b es a) q vs → Pairwise SameTx vs ws → Pairwise MetTx fs ws
      → EachQueue (λ q (f : TxView). f.made.name ≡ record { guest = b.port; activation = a; queue = q }) q fs → AllByRecursion (FactsSayTx net b es) fs
  queues_tx a q [] [] [] took same met names = tt
  queues_tx a q [] [] (w ∷ ws) took same met names = absurd same
  queues_tx a q [] (v ∷ vs) [] took same met names = absurd same
  queues_tx a q [] (v ∷ vs) (w ∷ ws) took same met names = absurd met
  queues_tx a q (f ∷ fs) [] [] took same met names = absurd met
  queues_tx a q (f ∷ fs) [] (w ∷ ws) took same met names = absurd same
  queues_tx a q (f ∷ fs) (v ∷ vs) [] took same met names = absurd same
  queues_tx a q (f ∷ fs) (v ∷ vs) (w ∷ ws) took same met names = (says_tx a q f v w took.0 same.0 met.0 names.0, queues_tx a (suc q) fs vs ws took.1 same.1 met.1 names.1)

  queues_rx : (a q : ℕ) (fs : List RxView) (vs ws : List RxDeviceView) → EachQueue (DeliveredAsSaid b es a) q vs → Pairwise SameRx vs ws → Pairwise MetRx fs ws
      → EachQueue (λ q (f : RxView). f.made.name ≡ record { guest = b.port; activation = a; queue = q }) q fs → AllByRecursion (FactsSayRx b es) fs
  queues_rx a q [] [] [] gave same met names = tt
  queues_rx a q [] [] (w ∷ ws) gave same met names = absurd same
  queues_rx a q [] (v ∷ vs) [] gave same met names = absurd same
  queues_rx a q [] (v ∷ vs) (w ∷ ws) gave same met names = absurd met
  queues_rx a q (f ∷ fs) [] [] gave same met names = absurd met
  queues_rx a q (f ∷ fs) [] (w ∷ ws) gave same met names = absurd same
  queues_rx a q (f ∷ fs) (v ∷ vs) [] gave same met names = absurd same
  queues_rx a q (f ∷ fs) (v ∷ vs) (w ∷ ws) gave same met names = (says_rx a q f v w gave.0 same.0 met.0 names.0, queues_rx a (suc q) fs vs ws gave.1 same.1 met.1 names.1)

  -- one bag, as the device and as the driver know it
  bag_tells : (a : ℕ) (e : EndsView) (tx : List TxView) (rx : List RxView) → HandsBack net b es a e → GotBack b.port a (handed_of e) tx rx
      → AllByRecursion (FactsSayTx net b es) tx × AllByRecursion (FactsSayRx b es) rx × ((q : ℕ) → taken_on q tx ≡ taken_by q 0 e.tx)
  bag_tells a e tx rx here there =
      let many : length e.tx ≡ length there.tx_ends = ap (λ (h : HandedView). h.tx) there.handed in
      let lists = ends_tell e.tx there.tx_ends e.rx there.rx_ends many (ap (λ (h : HandedView). h.lists) there.handed) in (
        queues_tx a 0 tx e.tx there.tx_ends here.took (same_tx e.tx there.tx_ends lists.0) there.met_tx there.tx_names,
        queues_rx a 0 rx e.rx there.rx_ends here.gave (same_rx e.rx there.rx_ends lists.1) there.met_rx there.rx_names,
        λ q. queues_taken q b.port a 0 tx e.tx there.tx_ends (same_tx e.tx there.tx_ends lists.0) there.met_tx there.tx_names,
      )

  -- all bags
  bags_say : (a : ℕ) (ends : List EndsView) (tx : List TxView) (rx : List RxView) → AllHandBack net b es a ends → AllGotBack b.port a (map handed_of ends) tx rx
      → AllByRecursion (FactsSayTx net b es) tx × AllByRecursion (FactsSayRx b es) rx × ((q : ℕ) → taken_on q tx ≡ ends_taken q ends)
  bags_say a [] tx rx here there = (subst (AllByRecursion (FactsSayTx net b es)) (sym there.0) tt, subst (AllByRecursion (FactsSayRx b es)) (sym there.1) tt, λ q. ap (taken_on q) there.0)
  bags_say a (e ∷ ends) tx rx here there =
      let x = there.0 in
      let now = bag_tells a e x.tx_now x.rx_now here.0 x.got in
      let later = bags_say (suc a) ends x.tx_later x.rx_later here.1 there.1 in (
        subst (AllByRecursion (FactsSayTx net b es)) (sym x.tx_are) (all_append (FactsSayTx net b es) x.tx_now x.tx_later now.0 later.0),
        subst (AllByRecursion (FactsSayRx b es)) (sym x.rx_are) (all_append (FactsSayRx b es) x.rx_now x.rx_later now.1 later.1),
        λ q. ap (taken_on q) x.tx_are ∙ taken_both q x.tx_now x.tx_later ∙ ap₂ (λ (us vs : List (List ℕ)). us ++ vs) (now.2 q) (later.2 q),
      )

-- with what the driver says they are what a guest leaves
leaves_tx : (net : Wiring) (b : Beside) (p : GuestPlan) (es : List Entry) (fs : List TxView) → AllByRecursion (FactsSayTx net b es) fs → AllByRecursion (DriverSaysTx p) fs → AllByRecursion (AccountsTx net b.port p es) fs
leaves_tx net b p es [] says driver = tt
leaves_tx net b p es (f ∷ fs) says driver = (
  record { made = driver.0.made; sent = driver.0.sent; taken = driver.0.met; numbers = (driver.0.reaped ∙ says.0.completed, says.0.completed); whole = driver.0.whole; sends = says.0.sends },
  leaves_tx net b p es fs says.1 driver.1,
)

leaves_rx : (b : Beside) (p : GuestPlan) (v : GuestView) (fs : List RxView) → AllByRecursion (FactsSayRx b v.entries) fs → AllByRecursion (DriverSaysRx p v.received) fs → AllByRecursion (LeavesRx b p v) fs
leaves_rx b p v [] says driver = tt
leaves_rx b p v (f ∷ fs) says driver = (
  record { made = driver.0.made; delivered = says.0.delivered; met = driver.0.met; drained = driver.0.drained; refused = says.0.refused; looks = driver.0.looks; handed = driver.0.handed },
  leaves_rx b p v fs says.1 driver.1,
)

-- ------------------------------------------------------------ owned

has_below : (q n : ℕ) (d : DeviceState) → HasTx q d → ((s : SetupView) → d ≡ Active s → s.tx_queues ≡ n) → q < n
has_below q n Idle h k = absurd h
has_below q n (Active s) h k = let same = k s refl in omega (arith, h, same)

-- a frame of the guest, of a queue that has facts
abbrev pub IsOwned : ℕ → List TxView → Send → Type 0
IsOwned g tx s = (s.tag.guest ≡ g) × ((f : TxView) × (find (tx_named s.tag.activation s.tag.queue) tx ≡ Some f))

-- a device gives frames of its own queues alone to the switch
own_from : (b : Beside) (setups : List Setup) (tx : List TxView) (es : List Entry) → ((before after : List Entry) → es ≡ before ++ after → (q : ℕ) → HasTx q (state_at b.told before) → (f : TxView) × (find (tx_named (activation_of before) q) tx ≡ Some f))
    → (before after : List Entry) → es ≡ before ++ after → EachAfter (IsLawful b setups) before after → AllByRecursion (IsOwned b.port tx) (filter_map send_of after)
own_from b setups tx es facts before [] split h = tt
own_from b setups tx es facts before (entry.Setting number answer setup ∷ after) split h = own_from b setups tx es facts (before ++ entry.Setting number answer setup ∷ []) after (split ∙ sym (append_assoc before (entry.Setting number answer setup ∷ []) after)) h.1
own_from b setups tx es facts before (entry.In from place f ∷ after) split h = own_from b setups tx es facts (before ++ entry.In from place f ∷ []) after (split ∙ sym (append_assoc before (entry.In from place f ∷ []) after)) h.1
own_from b setups tx es facts before (entry.Out tag target w ∷ after) split h =
    let found : (f : TxView) × (find (tx_named tag.activation tag.queue) tx ≡ Some f) = rw h.0.1 (facts before (entry.Out tag target w ∷ after) split tag.queue h.0.2) in
    ((h.0.0, found), own_from b setups tx es facts (before ++ entry.Out tag target w ∷ []) after (split ∙ sym (append_assoc before (entry.Out tag target w ∷ []) after)) h.1)
own_from b setups tx es facts before (entry.Lost tag ∷ after) split h =
    let found : (f : TxView) × (find (tx_named tag.activation tag.queue) tx ≡ Some f) = rw h.0.1 (facts before (entry.Lost tag ∷ after) split tag.queue h.0.2) in
    ((h.0.0, found), own_from b setups tx es facts (before ++ entry.Lost tag ∷ []) after (split ∙ sym (append_assoc before (entry.Lost tag ∷ []) after)) h.1)

pub all_owned : (plan : Plan) (r : RecordView) (g : ℕ) (p : GuestPlan) (v : GuestView) → GuestActors plan r g p v → AllByRecursion (IsOwned g v.tx) (filter_map send_of v.entries)
all_owned plan r g p v actors =
    own_from (beside r g p v) v.setups v.tx v.entries
    (λ before after split q has. finds_tx p g p.setup.tx_queues (activation_of before) q v.tx actors.driver.tx_names (activation_within p v.entries before after actors.both.settings split)
    (has_below q p.setup.tx_queues (state_at v.told before) has (λ s is. tx_queues_kept p v.told (count is_setting before) s actors.driver.images is)))
    [] v.entries refl actors.device.lawful.each

-- ------------------------------------------------------------ a guest

-- the facts of a guest say what its device's journal says, and its statistics are counts of them
pub facts_say : (plan : Plan) (r : RecordView) (g : ℕ) (p : GuestPlan) (v : GuestView) (actors : GuestActors plan r g p v)
    → AllByRecursion (FactsSayTx (wiring plan.guests) (beside r g p v) v.entries) v.tx × AllByRecursion (FactsSayRx (beside r g p v) v.entries) v.rx × ((q : ℕ) → taken_on q v.tx ≡ ends_taken q actors.device.ends)
facts_say plan r g p v actors = bags_say (wiring plan.guests) (beside r g p v) v.entries 0 actors.device.ends v.tx v.rx actors.device.hands_back
    (subst (λ (bags : List HandedView). AllGotBack g 0 bags v.tx v.rx) actors.device.handed actors.driver.got_back)

pub guest_leaves : (plan : Plan) (r : RecordView) (g : ℕ) (p : GuestPlan) (v : GuestView) → GuestActors plan r g p v → LeavesGuest plan r g p v
guest_leaves plan r g p v actors =
    let device = actors.device in
    let driver = actors.driver in
    let both = actors.both in
    let says = facts_say plan r g p v actors in
    let counts : tx_counts v.tx v.entries ≡ ends_counts device.ends v.entries = λ i. map (λ q. counted (says.2 q i) 0 (count (is_lost_on q) v.entries)) (upto 0 8) in record {
      tx_names = driver.tx_names;
      rx_names = driver.rx_names;
      tx = leaves_tx (wiring plan.guests) (beside r g p v) p v.entries v.tx says.0 driver.tx;
      rx = leaves_rx (beside r g p v) p v v.rx says.1 driver.rx;
      received = driver.received;
      rising = driver.rising;
      owned = all_weaker (IsOwned g v.tx) (λ (s : Send). (f : TxView) × (find (tx_named s.tag.activation s.tag.queue) v.tx ≡ Some f)) (λ s k. k.1) (filter_map send_of v.entries) (all_owned plan r g p v actors);
      settings = both.settings;
      images = driver.images;
      tx_stats = device.tx_stats ∙ sym counts;
      rx_stats = device.rx_stats;
      told = both.told;
      opens = both.opens;
      ends = both.ends;
      lawful = device.lawful;
    }
