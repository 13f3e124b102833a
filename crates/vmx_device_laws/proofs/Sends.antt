-- The entries of a frame that was taken, and what they add to what is said of queues, links and journal.
use Rattle.std.proofs.Common.{◌≡◌, ◌≢◌, ℕ, suc, ◌+◌, ◌-◌, ◌≤◌, ◌⊎◌, inl, inr, Bool, true, false, nat_eq, ◌&&◌, List, [], ◌∷◌, ◌++◌, length, length-append, append-nil, append_assoc, map, take, refl, sym, ap, ◌∙◌, subst, arith, Some, None, Option}
use Rattle.std.specs.List.{filter, filter_map, AllByRecursion}
use Rattle.std.specs.Prelude.{⊤}
use Rattle.std.proofs.lemmas.List.Elements.{filter_map-append, filter-append}
use Rattle.std.proofs.lemmas.Bool.{eq-eqb, ne_eqb}
use Rattle.vmx_switch.specs.Ports.{Wiring, target_ports}
use Rattle.vmx_ends.specs.declared.frames.Sent.{Sent}
use Rattle.vmx_link.specs.Views.{LinkOutView}
use Rattle.vmx_ends.specs.declared.packet.Tag.{Tag}
use Rattle.vmx_ends.specs.declared.frames.Taken.{Taken}
use Rattle.vmx_ends.specs.Frames.{sent_of}
use Rattle.vmx_ends.specs.LinkView.{LinkView}
use Rattle.vmx_ends.specs.Transmit.{TxDeviceView, found_in}
use Rattle.vmx_device_state.specs.DeviceState.{state_from, Idle}
use Rattle.vmx_link.specs.Views.{LinkInView}
use Rattle.vmx_model.specs.Types.{Setup}
use Rattle.vmx_model.specs.declared.journal.Entry.{Entry}
use Rattle.vmx_model.specs.declared.journal.Way.{Way}
use Rattle.vmx_model.specs.declared.journal.Entry.TheVariants as entry
use Rattle.vmx_model.specs.Lists.{count, EachAfter}
use Rattle.vmx_model.specs.Wire.{wire_form}
use Rattle.vmx_model.specs.Journal.{Beside, IsLawful, IsLawfulJournal, HasTx, is_setting, is_activation, has_setup, activation_of, state_at, fate_in, fates_in, need_in, needs, ups, is_up, stopped_from, stopped_after}
use Rattle.vmx_model.specs.JournalSteps.{each_push}
use Rattle.vmx_model.specs.QueueSteps.{sends_on_more}
use Rattle.vmx_model.specs.DeliverySteps.{deliveries_push}
use Rattle.vmx_model.specs.Order.{came_up, up_in}
use Rattle.vmx_model.specs.Account.{Send, send_of, of_queue, sends_on, frame_sends, planned, deliveries, arrival_in, asked, place_from}
use Rattle.vmx_model.specs.declared.journal.Way.{Way}
use Rattle.vmx_device_looks.specs.Links.{PutsOut, PutsFrame}
use Rattle.vmx_device_laws.specs.Keeps.{frames_of, TookOn, InSays, stops_in}

-- entries that give a frame with this tag to these ports
abbrev pub AreSends : Tag → List ℕ → List Entry → Type 0
AreSends t [] [] = ⊤
AreSends t [] (e ∷ es) = ⊥
AreSends t (to ∷ tos) [] = ⊥
AreSends t (to ∷ tos) (e ∷ es) = ((w : Way) × (e ≡ entry.Out t to w)) × AreSends t tos es

-- the entries of a frame that was taken: one that it is lost, where it has no target
abbrev pub FrameSends : Tag → List ℕ → List Entry → Type 0
FrameSends t [] es = es ≡ entry.Lost t ∷ []
FrameSends t (to ∷ tos) es = AreSends t (to ∷ tos) es

puts_sends : (port : ℕ) (t : Tag) (frame tos : List ℕ) (es : List Entry) (old new : List LinkOutView) → PutsOut port t frame tos es old new → AreSends t tos es
puts_sends port t frame [] es old new h = subst (AreSends t []) (sym h.0) tt
puts_sends port t frame (to ∷ tos) es old new (w, (rest, (mid, is, one, more))) = subst (AreSends t (to ∷ tos)) (sym is) ((w, refl), puts_sends port t frame tos rest mid new more)

pub frame_puts : (port : ℕ) (t : Tag) (frame tos : List ℕ) (es : List Entry) (old new : List LinkOutView) → PutsFrame port t frame tos es old new → FrameSends t tos es
frame_puts port t frame [] es old new h = h.0
frame_puts port t frame (to ∷ tos) es old new h = puts_sends port t frame (to ∷ tos) es old new h

-- a transmit end after a frame was taken and completed
abbrev pub took : TxDeviceView → Sent → ℕ → TxDeviceView
took v s count = record v { taken = v.taken ++ record { sent = s; descriptors = count } ∷ []; completed = suc v.completed }

-- an entry that gives a frame with this tag to somebody or to nobody
abbrev pub IsSending : Tag → Entry → Type 0
IsSending t (entry.Out tag target w) = tag ≡ t
IsSending t (entry.Lost tag) = tag ≡ t
IsSending t (entry.Setting number answer setup) = ⊥
IsSending t (entry.In from place f) = ⊥

abbrev pub Sending : Tag → List Entry → Type 0
Sending t es = AllByRecursion (IsSending t) es

are_sending : (t : Tag) (tos : List ℕ) (es : List Entry) → AreSends t tos es → Sending t es
are_sending t [] [] h = tt
are_sending t [] (e ∷ es) h = absurd h
are_sending t (to ∷ tos) [] h = absurd h
are_sending t (to ∷ tos) (e ∷ es) h = (subst (IsSending t) (sym h.0.1) refl, are_sending t tos es h.1)

pub sending : (t : Tag) (tos : List ℕ) (es : List Entry) → FrameSends t tos es → Sending t es
sending t [] es h = subst (Sending t) (sym h) (refl, tt)
sending t (to ∷ tos) es h = are_sending t (to ∷ tos) es h

-- ------------------------------------------------------------ what they do not add to

pub none_more : {X : Type 0} (f : Entry → Option X) (t : Tag) → ((e : Entry) → IsSending t e → f e ≡ None) → (es more : List Entry) → Sending t more → filter_map f (es ++ more) ≡ filter_map f es
none_more {X} f t none es more are = filter_map-append f es more ∙ ap (λ (xs : List X). filter_map f es ++ xs) (empty more are) ∙ append-nil (filter_map f es)
  where
    empty : (more : List Entry) → Sending t more → filter_map f more ≡ []
    empty [] h = refl
    empty (e ∷ more) h = let is = none e h.0 in rw is (empty more h.1)

pub count_more : (f : Entry → Bool) (t : Tag) → ((e : Entry) → IsSending t e → f e ≡ false) → (es more : List Entry) → Sending t more → count f (es ++ more) ≡ count f es
count_more f t none es more are = ap length (filter-append f es more ∙ ap (λ (xs : List Entry). filter f es ++ xs) (empty more are) ∙ append-nil (filter f es))
  where
    empty : (more : List Entry) → Sending t more → filter f more ≡ []
    empty [] h = refl
    empty (e ∷ more) h = let is = none e h.0 in rw is (empty more h.1)

no_asked : (t : Tag) (e : Entry) → IsSending t e → asked e ≡ None
no_asked t (entry.Out tag target w) h = refl
no_asked t (entry.Lost tag) h = refl
no_asked t (entry.Setting number answer setup) h = absurd h
no_asked t (entry.In from place f) h = absurd h

no_fate : (t : Tag) (e : Entry) → IsSending t e → fate_in e ≡ None
no_fate t (entry.Out tag target w) h = refl
no_fate t (entry.Lost tag) h = refl
no_fate t (entry.Setting number answer setup) h = absurd h
no_fate t (entry.In from place f) h = absurd h

no_up : (links : List LinkView) (port : ℕ) (t : Tag) (e : Entry) → IsSending t e → up_in links port e ≡ None
no_up links port t (entry.Out tag target w) h = refl
no_up links port t (entry.Lost tag) h = refl
no_up links port t (entry.Setting number answer setup) h = absurd h
no_up links port t (entry.In from place f) h = absurd h

pub no_arrival : (from : ℕ) (t : Tag) (e : Entry) → IsSending t e → place_from from e ≡ None
no_arrival from t (entry.Out tag target w) h = refl
no_arrival from t (entry.Lost tag) h = refl
no_arrival from t (entry.Setting number answer setup) h = absurd h
no_arrival from t (entry.In sender place f) h = absurd h

no_setting : (t : Tag) (e : Entry) → IsSending t e → is_setting e ≡ false
no_setting t (entry.Out tag target w) h = refl
no_setting t (entry.Lost tag) h = refl
no_setting t (entry.Setting number answer setup) h = absurd h
no_setting t (entry.In from place f) h = absurd h

no_activation : (t : Tag) (e : Entry) → IsSending t e → is_activation e ≡ false
no_activation t (entry.Out tag target w) h = refl
no_activation t (entry.Lost tag) h = refl
no_activation t (entry.Setting number answer setup) h = absurd h
no_activation t (entry.In from place f) h = absurd h

no_setup : (t : Tag) (e : Entry) → IsSending t e → has_setup e ≡ false
no_setup t (entry.Out tag target w) h = refl
no_setup t (entry.Lost tag) h = refl
no_setup t (entry.Setting number answer setup) h = absurd h
no_setup t (entry.In from place f) h = absurd h

no_delivery : (b : Beside) (a q : ℕ) (before : List Entry) (t : Tag) (e : Entry) → IsSending t e → arrival_in b a q before e ≡ []
no_delivery b a q before t (entry.Out tag target w) h = refl
no_delivery b a q before t (entry.Lost tag) h = refl
no_delivery b a q before t (entry.Setting number answer setup) h = absurd h
no_delivery b a q before t (entry.In from place f) h = absurd h

no_stop : (t : Tag) (e : Entry) → IsSending t e → stops_in e ≡ false
no_stop t (entry.Out tag target w) h = refl
no_stop t (entry.Lost tag) h = refl
no_stop t (entry.Setting number answer setup) h = absurd h
no_stop t (entry.In from place f) h = absurd h

-- a queue stays stopped or not
pub stopped_stays : (t : Tag) (q : ℕ) (was : Bool) (es more : List Entry) → Sending t more → stopped_from q was (es ++ more) ≡ stopped_from q was es
stopped_stays t q was [] [] are = refl
stopped_stays t q was [] (entry.Out tag target w ∷ more) are = stopped_stays t q was [] more are.1
stopped_stays t q was [] (entry.Lost tag ∷ more) are = stopped_stays t q was [] more are.1
stopped_stays t q was [] (entry.Setting number answer setup ∷ more) are = absurd are.0
stopped_stays t q was [] (entry.In from place f ∷ more) are = absurd are.0
stopped_stays t q was (e ∷ es) more are = stopped_stays t q (stopped_after q was e) es more are

pub none_stops : (t : Tag) (es more : List Entry) → Sending t more → AllByRecursion (λ (e : Entry). stops_in e ≡ false) es → AllByRecursion (λ (e : Entry). stops_in e ≡ false) (es ++ more)
none_stops t [] [] are h = tt
none_stops t [] (e ∷ more) are h = (no_stop t e are.0, none_stops t [] more are.1 tt)
none_stops t (e ∷ es) more are h = (h.0, none_stops t es more are h.1)

module _ (t : Tag) (es more : List Entry) (are : Sending t more) where
  pub asked_stay : filter_map asked (es ++ more) ≡ filter_map asked es
  asked_stay = none_more asked t (no_asked t) es more are

  pub fates_stay : fates_in (es ++ more) ≡ fates_in es
  fates_stay = none_more fate_in t (no_fate t) es more are

  pub came_stays : (links : List LinkView) (port : ℕ) → came_up links port (es ++ more) ≡ came_up links port es
  came_stays links port = none_more (up_in links port) t (no_up links port t) es more are

  pub activations_stay : count is_activation (es ++ more) ≡ count is_activation es
  activations_stay = count_more is_activation t (no_activation t) es more are

  pub needs_stay : (a q : ℕ) → needs a q (es ++ more) ≡ needs a q es
  needs_stay a q = ap (filter_map (need_in a q)) fates_stay

  pub ups_stay : (a q : ℕ) → ups a q (es ++ more) ≡ ups a q es
  ups_stay a q = ap (count (is_up a q)) fates_stay

  pub in_stays : (port k : ℕ) (i : LinkInView) → InSays port es k i → InSays port (es ++ more) k i
  in_stays port k i says = record { to = says.to; from = says.from; capacity = says.capacity; arrivals = none_more (place_from i.from) t (no_arrival i.from t) es more are ∙ says.arrivals }

pub deliveries_stay : (b : Beside) (a q : ℕ) (t : Tag) (es more : List Entry) → Sending t more → deliveries b a q [] (es ++ more) ≡ deliveries b a q [] es
deliveries_stay b a q t es [] are = ap (deliveries b a q []) (append-nil es)
deliveries_stay b a q t es (e ∷ more) are =
    ap (deliveries b a q []) (sym (append_assoc es (e ∷ []) more)) ∙ deliveries_stay b a q t (es ++ e ∷ []) more are.1
    ∙ deliveries_push b a q [] es e ∙ ap (λ xs. deliveries b a q [] es ++ xs) (no_delivery b a q es t e are.0) ∙ append-nil (deliveries b a q [] es)

-- ------------------------------------------------------------ they are lawful where the device is active

module _ (b : Beside) (setups : List Setup) (t : Tag) (guest : t.guest ≡ b.port) where
  lawful_one : (before : List Entry) (e : Entry) → IsSending t e → t.activation ≡ activation_of before → HasTx t.queue (state_at b.told before) → IsLawful b setups before e
  lawful_one before (entry.Out tag target w) is now has = (ap (λ (x : Tag). x.guest) is ∙ guest, ap (λ (x : Tag). x.activation) is ∙ now, subst (λ (x : Tag). HasTx x.queue (state_at b.told before)) (sym is) has)
  lawful_one before (entry.Lost tag) is now has = (ap (λ (x : Tag). x.guest) is ∙ guest, ap (λ (x : Tag). x.activation) is ∙ now, subst (λ (x : Tag). HasTx x.queue (state_at b.told before)) (sym is) has)
  lawful_one before (entry.Setting number answer setup) is now has = absurd is
  lawful_one before (entry.In from place f) is now has = absurd is

  pub lawful_sends : (es more : List Entry) → Sending t more → t.activation ≡ activation_of es → HasTx t.queue (state_at b.told es) → EachAfter (IsLawful b setups) [] es → EachAfter (IsLawful b setups) [] (es ++ more)
  lawful_sends es [] are now has h = subst (EachAfter (IsLawful b setups) []) (sym (append-nil es)) h
  lawful_sends es (e ∷ more) are now has h =
      let one : Sending t (e ∷ []) = (are.0, tt) in
      let begun : count is_activation (es ++ e ∷ []) ≡ count is_activation es = activations_stay t es (e ∷ []) one in
      let settings : count is_setting (es ++ e ∷ []) ≡ count is_setting es = count_more is_setting t (no_setting t) es (e ∷ []) one in
      let now' : t.activation ≡ activation_of (es ++ e ∷ []) = now ∙ ap (λ (n : ℕ). n - 1) (sym begun) in
      let has' : HasTx t.queue (state_at b.told (es ++ e ∷ [])) = subst (λ (n : ℕ). HasTx t.queue (state_from Idle (take n b.told))) (sym settings) has in
      let h' : EachAfter (IsLawful b setups) [] (es ++ e ∷ []) = each_push (IsLawful b setups) [] es e h (lawful_one es e are.0 now has) in
      subst (EachAfter (IsLawful b setups) []) (append_assoc es (e ∷ []) more) (lawful_sends (es ++ e ∷ []) more are.1 now' has' h')

  pub journal_sends : (es more : List Entry) → Sending t more → t.activation ≡ activation_of es → HasTx t.queue (state_at b.told es) → IsLawfulJournal b es setups → IsLawfulJournal b (es ++ more) setups
  journal_sends es more are now has h = record {
    each = lawful_sends es more are now has h.each;
    no_more = h.no_more ∙ sym (count_more has_setup t (no_setup t) es more are);
  }

-- ------------------------------------------------------------ what they add to the frames given to the switch

some_sends : (t : Tag) (tos : List ℕ) (more : List Entry) → AreSends t tos more → filter_map send_of more ≡ map (λ x. record { tag = t; target = Some x }) tos
some_sends t [] [] h = refl
some_sends t [] (e ∷ more) h = absurd h
some_sends t (to ∷ tos) [] h = absurd h
some_sends t (to ∷ tos) (e ∷ more) h =
    let is : send_of e ≡ Some (record { tag = t; target = Some to }) = ap send_of h.0.1 in
    rw is (ap (λ (xs : List Send). record { tag = t; target = Some to } ∷ xs) (some_sends t tos more h.1))

pub all_sends : (t : Tag) (tos : List ℕ) (more : List Entry) → FrameSends t tos more → filter_map send_of more ≡ frame_sends t tos
all_sends t [] more h = ap (filter_map send_of) h
all_sends t (to ∷ tos) more h = some_sends t (to ∷ tos) more h

filter_all : (f : Send → Bool) (t : Tag) → ((target : Option ℕ) → f (record { tag = t; target = target }) ≡ true) → (tos : List ℕ) → filter f (frame_sends t tos) ≡ frame_sends t tos
filter_all f t all [] = let is = all None in rw is refl
filter_all f t all (to ∷ tos) = some (to ∷ tos)
  where
    some : (tos : List ℕ) → filter f (map (λ x. record { tag = t; target = Some x }) tos) ≡ map (λ x. record { tag = t; target = Some x }) tos
    some [] = refl
    some (to ∷ tos) = let is = all (Some to) in rw is (ap (λ (xs : List Send). record { tag = t; target = Some to } ∷ xs) (some tos))

filter_none : (f : Send → Bool) (t : Tag) → ((target : Option ℕ) → f (record { tag = t; target = target }) ≡ false) → (tos : List ℕ) → filter f (frame_sends t tos) ≡ []
filter_none f t none [] = let is = none None in rw is refl
filter_none f t none (to ∷ tos) = some (to ∷ tos)
  where
    some : (tos : List ℕ) → filter f (map (λ x. record { tag = t; target = Some x }) tos) ≡ []
    some [] = refl
    some (to ∷ tos) = let is = none (Some to) in rw is (some tos)

-- another queue, or another activation
pub both_not : (a q a' q' : ℕ) → (a ≢ a') ⊎ (q ≢ q') → (nat_eq a a' && nat_eq q q') ≡ false
both_not a q a' q' (inl ne) = rw (ne_eqb a a' ne) refl
both_not a q a' q' (inr ne) = step (nat_eq a a') (nat_eq q q') (ne_eqb q q' ne)
  where
    step : (x y : Bool) → y ≡ false → (x && y) ≡ false
    step true y e = e
    step false y e = refl

pub sends_elsewhere : (a q : ℕ) (t : Tag) (tos : List ℕ) (es more : List Entry) → FrameSends t tos more → (t.activation ≢ a) ⊎ (t.queue ≢ q) → sends_on a q (es ++ more) ≡ sends_on a q es
sends_elsewhere a q t tos es more are ne =
    sends_on_more a q es more
    ∙ ap (λ (xs : List Send). sends_on a q es ++ xs) (ap (filter (of_queue a q)) (all_sends t tos more are) ∙ filter_none (of_queue a q) t (λ target. both_not t.activation t.queue a q ne) tos)
    ∙ append-nil (sends_on a q es)

pub sends_here : (t : Tag) (tos : List ℕ) (es more : List Entry) → FrameSends t tos more → sends_on t.activation t.queue (es ++ more) ≡ sends_on t.activation t.queue es ++ frame_sends t tos
sends_here t tos es more are =
    sends_on_more t.activation t.queue es more
    ∙ ap (λ (xs : List Send). sends_on t.activation t.queue es ++ xs) (ap (filter (of_queue t.activation t.queue)) (all_sends t tos more are) ∙ filter_all (of_queue t.activation t.queue) t (λ target. same) tos)
  where
    same : (nat_eq t.activation t.activation && nat_eq t.queue t.queue) ≡ true
    same = rw (eq-eqb t.activation t.activation refl, eq-eqb t.queue t.queue refl) refl

-- one more frame of a queue
pub planned_more : (w : Wiring) (g a q k : ℕ) (fs : List (List ℕ)) (f : List ℕ) → planned w g a q k (fs ++ f ∷ []) ≡ planned w g a q k fs ++ frame_sends (record { guest = g; activation = a; queue = q; place = k + length fs }) (target_ports w g f)
planned_more w g a q k [] f = let e : k ≡ k + 0 = omega arith in append-nil (frame_sends (record { guest = g; activation = a; queue = q; place = k }) (target_ports w g f)) ∙ ap (λ (n : ℕ). frame_sends (record { guest = g; activation = a; queue = q; place = n }) (target_ports w g f)) e
planned_more w g a q k (h ∷ fs) f =
    let e : k + 1 + length fs ≡ k + length (h ∷ fs) = omega arith in
    let first : List Send = frame_sends (record { guest = g; activation = a; queue = q; place = k }) (target_ports w g h) in
    let ih = planned_more w g a q (k + 1) fs f ∙ ap (λ (n : ℕ). planned w g a q (k + 1) fs ++ frame_sends (record { guest = g; activation = a; queue = q; place = n }) (target_ports w g f)) e in
    ap (λ (xs : List Send). first ++ xs) ih ∙ sym (append_assoc first (planned w g a q (k + 1) fs) (frame_sends (record { guest = g; activation = a; queue = q; place = k + length (h ∷ fs) }) (target_ports w g f)))

pub frames_took : (v : TxDeviceView) (s : Sent) (count : ℕ) → frames_of (took v s count) ≡ frames_of v ++ wire_form s ∷ []
frames_took v s count = last v.taken
  where
    last : (ts : List Taken) → map wire_form (sent_of (ts ++ record { sent = s; descriptors = count } ∷ [])) ≡ map wire_form (sent_of ts) ++ wire_form s ∷ []
    last [] = refl
    last (t ∷ ts) = ap (λ (xs : List (List ℕ)). wire_form t.sent ∷ xs) (last ts)

found_took : (ts : List Taken) (t : Taken) → found_in (ts ++ t ∷ []) ≡ found_in ts + t.descriptors
found_took [] t = omega arith
found_took (x ∷ ts) t = omega (arith, found_took ts t)

pub length_frames : (v : TxDeviceView) → length (frames_of v) ≡ length v.taken
length_frames v = many v.taken
  where
    many : (ts : List Taken) → length (map wire_form (sent_of ts)) ≡ length ts
    many [] = refl
    many (t ∷ ts) = ap suc (many ts)

module _ (w : Wiring) (g a q : ℕ) (es more : List Entry) (v : TxDeviceView) (s : Sent) (many : ℕ) (few : many ≤ 16) where
  -- the queue from which the frame was taken
  pub took_here : FrameSends (record { guest = g; activation = a; queue = q; place = length v.taken }) (target_ports w g (wire_form s)) more → TookOn w g es a q v → TookOn w g (es ++ more) a q (took v s many)
  took_here are says =
      let t : Tag = record { guest = g; activation = a; queue = q; place = length v.taken } in
      let place : length (frames_of v) ≡ length v.taken = length_frames v in
      let zero_on : 0 + length (frames_of v) ≡ length v.taken = omega (arith, place) in
      let last : Taken = record { sent = s; descriptors = many } in
      let longer : length (v.taken ++ last ∷ []) ≡ suc (length v.taken) = length-append v.taken (last ∷ []) ∙ omega arith in record {
        sends = sends_here t (target_ports w g (wire_form s)) es more are
            ∙ ap (λ (xs : List Send). xs ++ frame_sends t (target_ports w g (wire_form s))) says.sends
            ∙ ap (λ (n : ℕ). planned w g a q 0 (frames_of v) ++ frame_sends (record { guest = g; activation = a; queue = q; place = n }) (target_ports w g (wire_form s))) (sym zero_on)
            ∙ sym (planned_more w g a q 0 (frames_of v) (wire_form s)) ∙ ap (planned w g a q 0) (sym (frames_took v s many));
        completed = ap suc says.completed ∙ sym longer;
        few = omega (arith, says.few, few, found_took v.taken last, longer);
      }
