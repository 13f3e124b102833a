-- Every copy of a plan has exactly one fate in a record whose parts are those of whole runs.
use Rattle.std.proofs.Common.{◌≡◌, ℕ, zero, suc, ◌+◌, ◌<◌, List, [], ◌∷◌, ◌++◌, length, map, refl, ◌∙◌, arith, nat_eq, true, false, Bool, subst, ◌&&◌, nat_le, inl, inr, Some, sym, ap, not, ◌%◌, if◌then◌else◌}
use Rattle.std.specs.Prelude.{◌==◌}
use Rattle.std.proofs.lemmas.Nat.{mod_below}
use Rattle.vmx_shared_area.specs.declared.rss.TheConstants.{MICROSOFT_KEY}
use Rattle.std.specs.Prelude.{nat_lt}
use Rattle.std.proofs.lemmas.Bool.{and_parts}
use Rattle.std.proofs.lemmas.Bool.Decides.{eqb_tells, nat_tests}
use Rattle.std.proofs.lemmas.Option.{slice_get-map, slice_get_within}
use Rattle.std.specs.List.{filter, filter_map, find, slice_get, AllByRecursion, range_with_len}
use Rattle.vmx_model.specs.Types.{GuestPlan, Plan, Tag, Stamped}
use Rattle.vmx_model.specs.declared.journal.Fate.TheVariants as fate
use Rattle.vmx_model.specs.Lists.{count, IsOne, upto}
use Rattle.vmx_switch.specs.Ports.{Wiring, target_ports, is_target}
use Rattle.vmx_ends.specs.declared.frames.Sent.{Sent}
use Rattle.vmx_ends.specs.declared.frames.Taken.{Taken}
use Rattle.vmx_ends.specs.Frames.{sent_of}
use Rattle.vmx_ends.specs.Transmit.{TxView}
use Rattle.vmx_ends.specs.LinkView.{LinkView}
use Rattle.vmx_rss.specs.Queues.{kind_of, flow_hash}
use Rattle.vmx_frame.specs.Internet.{flow_of}
use Rattle.vmx_model.specs.Totals.{wiring, macs_of}
use Rattle.vmx_model.specs.Wire.{wire_form, targets, tx_queue}
use Rattle.vmx_model.specs.Plan.{Captured, captured, wire, numbered, goes_on, sent_on, frames_of, place_of, is_down, activation_at}
use Rattle.vmx_model.specs.Views.{GuestView, RecordView}
use Rattle.vmx_model.specs.Journal.{is_link}
use Rattle.vmx_model.specs.Fates.{tx_named, taken_at, entries_at, copy_fates, sent_fates, fates_of, tag_at}
use Rattle.vmx_model.specs.Account.{Premises, LeavesGuest, LeavesLink, AccountsTx, place_to, place_from, planned, sends_on}
use Rattle.vmx_model.proofs.Lists.{filtered_at, all_weaker}
use Rattle.vmx_model.proofs.Fates.{targets_once, one_fate}
use Rattle.vmx_model.proofs.Found.{found_passes, found_holds, finds_tx, finds_link, activation_within}

-- a captured frame stands at its number
pub numbered_at : (g : GuestPlan) (j : ℕ) (rs : List Stamped) → AllByRecursion (λ (c : Captured). (n : ℕ) × (c.number ≡ j + n) × (slice_get (numbered g j rs) n ≡ Some c)) (numbered g j rs)
numbered_at g j [] = tt
numbered_at g j (r ∷ rs) = ((0, omega arith, refl), all_weaker (λ (c : Captured). (n : ℕ) × (c.number ≡ j + 1 + n) × (slice_get (numbered g (j + 1) rs) n ≡ Some c)) (λ (c : Captured). (n : ℕ) × (c.number ≡ j + n) × (slice_get (numbered g j (r ∷ rs)) n ≡ Some c)) (λ c h. (suc h.0, omega (arith, h.1), h.2)) (numbered g (j + 1) rs) (numbered_at g (j + 1) rs))

pub captured_at : (p : GuestPlan) → AllByRecursion (λ (c : Captured). slice_get (captured p) c.number ≡ Some c) (captured p)
captured_at p = all_weaker (λ (c : Captured). (n : ℕ) × (c.number ≡ 0 + n) × (slice_get (captured p) n ≡ Some c)) (λ (c : Captured). slice_get (captured p) c.number ≡ Some c) (λ c h. let e : h.0 ≡ c.number = omega (arith, h.1) in subst (λ (m : ℕ). slice_get (captured p) m ≡ Some c) e h.2) (captured p) (numbered_at p 0 p.capture.records)

-- the bytes of a sent frame's tag are its own
pub frame_at : (p : GuestPlan) (c : Captured) (a q : ℕ) → slice_get (captured p) c.number ≡ Some c → goes_on p a q c ≡ true → slice_get (frames_of p a q) (place_of p a q c.number) ≡ Some (wire c)
frame_at p c a q at goes = slice_get-map wire (filter (goes_on p a q) (captured p)) (place_of p a q c.number) ∙ rw (filtered_at (goes_on p a q) (captured p) c.number c at goes) refl

-- targets are other ports of the plan
pub kept_range : (test : ℕ → Bool) (sender from n : ℕ) → ((x : ℕ) → test x ≡ true → nat_eq x sender ≡ false) → AllByRecursion (λ x. (x < from + n) × (nat_eq x sender ≡ false)) (filter test (range_with_len from n))
kept_range test sender from zero other = tt
kept_range test sender from (suc n) other = step (test from) refl (all_weaker (λ x. (x < from + 1 + n) × (nat_eq x sender ≡ false)) (λ x. (x < from + suc n) × (nat_eq x sender ≡ false)) (λ x h. (omega (arith, h.0), h.1)) (filter test (range_with_len (from + 1) n)) (kept_range test sender (from + 1) n other))
  where
    step : (b : Bool) → test from ≡ b → AllByRecursion (λ x. (x < from + suc n) × (nat_eq x sender ≡ false)) (filter test (range_with_len (from + 1) n)) → AllByRecursion (λ x. (x < from + suc n) × (nat_eq x sender ≡ false)) (filter test (range_with_len from (suc n)))
    step true e ih = rw e ((omega arith, other from e), ih)
    step false e ih = rw e ih

pub not_sender : (w : Wiring) (sender : ℕ) (frame : List ℕ) (x : ℕ) → is_target w sender frame x ≡ true → nat_eq x sender ≡ false
unfolding is_target
not_sender w sender frame x h = step (nat_eq x sender) (and_parts (not (nat_eq x sender)) _ h).0
  where
    step : (b : Bool) → not b ≡ true → b ≡ false
    step true e = absurd (cc e)
    step false e = refl

pub guests_count : (gs : List GuestPlan) → length (macs_of gs) ≡ length gs
guests_count [] = refl
guests_count (g ∷ gs) = let ih = guests_count gs in omega (arith, ih)

pub targets_range : (gs : List GuestPlan) (from : ℕ) (frame : List ℕ) → AllByRecursion (λ x. (x < length gs) × (nat_eq x from ≡ false)) (targets (wiring gs) from frame)
unfolding target_ports
targets_range gs from frame = all_weaker (λ x. (x < 0 + length (macs_of gs)) × (nat_eq x from ≡ false)) (λ x. (x < length gs) × (nat_eq x from ≡ false)) (λ x h. (omega (arith, h.0, guests_count gs), h.1))
    (filter (is_target (wiring gs) from frame) (range_with_len 0 (length (macs_of gs)))) (kept_range (is_target (wiring gs) from frame) from 0 (length (macs_of gs)) (not_sender (wiring gs) from frame))

-- the transmit queue of a frame is there
pub tx_queue_below : (frame : List ℕ) (queues : ℕ) → 0 < queues → tx_queue frame queues < queues
tx_queue_below frame queues some = step (kind_of 15 (flow_of frame) == 0)
  where
    step : (b : Bool) → (if b then 0 else flow_hash MICROSOFT_KEY (kind_of 15 (flow_of frame)) (flow_of frame) % queues) < queues
    step true = some
    step false = mod_below (flow_hash MICROSOFT_KEY (kind_of 15 (flow_of frame)) (flow_of frame)) queues some

-- what was taken of a queue, in wire form, begins its frames
map_wire : (cs : List Captured) → map wire_form (map (λ (c : Captured). c.posted) cs) ≡ map wire cs
map_wire [] = refl
map_wire (c ∷ cs) = ap (λ (xs : List (List ℕ)). wire c ∷ xs) (map_wire cs)

map_both : (ss rest : List Sent) → map wire_form (ss ++ rest) ≡ map wire_form ss ++ map wire_form rest
map_both [] rest = refl
map_both (s ∷ ss) rest = ap (λ (xs : List (List ℕ)). wire_form s ∷ xs) (map_both ss rest)

pub wired : (ss rest : List Sent) (cs : List Captured) → ss ++ rest ≡ map (λ (c : Captured). c.posted) cs → map wire_form ss ++ map wire_form rest ≡ map wire cs
wired ss rest cs e = sym (map_both ss rest) ∙ ap (map wire_form) e ∙ map_wire cs

pub taken_count : (ts : List Taken) → length (map wire_form (sent_of ts)) ≡ length ts
taken_count [] = refl
taken_count (t ∷ ts) = let ih = taken_count ts in omega (arith, ih)

-- what the look-ups of a sent frame give
pub same_name : (m n a b : ℕ) → (nat_eq m a && nat_eq n b) ≡ true → (m ≡ a) × (n ≡ b)
same_name m n a b h = let p = and_parts (nat_eq m a) (nat_eq n b) h in
    (elim (eqb_tells m a) [ inl e ↦ e.1 | inr e ↦ absurd (cc (p.0, e.0)) ], elim (eqb_tells n b) [ inl e ↦ e.1 | inr e ↦ absurd (cc (p.1, e.0)) ])

pub all_both : {X : Type 0} (P Q : X → Type 0) (xs : List X) → AllByRecursion P xs → AllByRecursion Q xs → AllByRecursion (λ x. P x × Q x) xs
all_both P Q [] h k = tt
all_both P Q (x ∷ xs) h k = ((h.0, k.0), all_both P Q xs h.1 k.1)

pub all_map : {X Y : Type 0} (f : X → Y) (P : Y → Type 0) (xs : List X) → AllByRecursion (λ x. P (f x)) xs → AllByRecursion P (map f xs)
all_map f P [] h = tt
all_map f P (x ∷ xs) h = (h.0, all_map f P xs h.1)

pub all_at : {X : Type 0} (P : X → Type 0) (xs : List X) (i : ℕ) (x : X) → slice_get xs i ≡ Some x → AllByRecursion P xs → P x
all_at P [] i x h k = absurd (cc)
all_at P (y ∷ ys) zero x h k = let same : y ≡ x = cc in subst P same k.0
all_at P (y ∷ ys) (suc i) x h k = all_at P ys i x h k.1

-- a copy of a sent frame has one fate
sent_copy : (plan : Plan) (r : RecordView) (g : ℕ) (p : GuestPlan) (v : GuestView) (t : TxView) (l : LinkView) (a q k to : ℕ) (f : List ℕ) →
    slice_get r.guests g ≡ Some v → find (tx_named a q) v.tx ≡ Some t → find (is_link g to) r.links ≡ Some l →
    AccountsTx (wiring plan.guests) g p v.entries t → LeavesLink r (entries_at r l.from) (entries_at r l.to) l →
    slice_get (frames_of p a q) k ≡ Some f → count (λ z. nat_eq z to) (targets (wiring plan.guests) g f) ≡ 1 →
    IsOne (copy_fates (taken_at r g a q) (entries_at r g) (entries_at r to) (tag_at g a q k) to)
sent_copy plan r g p v t l a q k to f here found link tx leaves at once =
    let name = same_name t.made.name.activation t.made.name.queue a q (found_passes (tx_named a q) v.tx t found) in
    let ports = same_name l.from l.to g to (found_passes (is_link g to) r.links l link) in
    let fs : List (List ℕ) = map wire_form (sent_of t.taken) in
    let taken : taken_at r g a q ≡ length fs = rw (here, found) (sym (taken_count t.taken)) in
    let es : entries_at r g ≡ v.entries = rw here refl in
    let prefix : fs ++ map wire_form tx.taken.0 ≡ frames_of p a q = wired (sent_of t.taken) tx.taken.0 (sent_on p a q) (tx.taken.1 ∙ tx.sent ∙ rw (name.0, name.1) refl) in
    let sends : sends_on a q v.entries ≡ planned (wiring plan.guests) g a q 0 fs = rw (name.0, name.1) at tx.sends in
    let n : ℕ = length l.pushed in
    let places : filter_map (place_to to) v.entries ≡ upto 0 n = rw (ports.0, ports.1, here) at leaves.places in
    let arrives : filter_map (place_from g) (entries_at r to) ≡ upto 0 n = rw (ports.0, ports.1, leaves.drained) at leaves.arrivals in
    rw (taken, es) (one_fate (wiring plan.guests) g a q k to n v.entries (entries_at r to) fs (map wire_form tx.taken.0) (frames_of p a q) f sends prefix at once places arrives)

sent_all : (r : RecordView) (t : Tag) (tos : List ℕ) → AllByRecursion (λ to. IsOne (copy_fates (taken_at r t.guest t.activation t.queue) (entries_at r t.guest) (entries_at r to) t to)) tos → AllByRecursion IsOne (sent_fates r t tos)
sent_all r t [] h = ((fate.NoPort, refl), tt)
sent_all r t (to ∷ tos) h = all_map (λ to. copy_fates (taken_at r t.guest t.activation t.queue) (entries_at r t.guest) (entries_at r to) t to) IsOne (to ∷ tos) h

-- all copies of a frame that is sent on a queue
sent_copies : (plan : Plan) (r : RecordView) → Premises plan r → (g : ℕ) (p : GuestPlan) (v : GuestView) → slice_get plan.guests g ≡ Some p → slice_get r.guests g ≡ Some v →
    (c : Captured) → slice_get (captured p) c.number ≡ Some c → (a q : ℕ) → a ≡ activation_at p c.number → q ≡ tx_queue c.posted.frame p.setup.tx_queues → goes_on p a q c ≡ true →
    AllByRecursion IsOne (sent_fates r (tag_at g a q (place_of p a q c.number)) (targets (wiring plan.guests) g (wire c)))
sent_copies plan r prem g p v planned' here c at a q ea eq goes =
    let leaves : LeavesGuest plan r g p v = prem.each g p v planned' here in
    let some : 0 < p.setup.tx_queues = let low = p.setup.tx_queues_low in omega arith in
    let lq : q < p.setup.tx_queues = rw eq (tx_queue_below c.posted.frame p.setup.tx_queues some) in
    let la = activation_within p c.number in
    let found = finds_tx p g p.setup.tx_queues a q v.tx leaves.tx_names (rw ea la) lq in
    let tx : AccountsTx (wiring plan.guests) g p v.entries found.0 = found_holds (AccountsTx (wiring plan.guests) g p v.entries) (tx_named a q) v.tx found.0 found.1 leaves.tx in
    let lg : g < length plan.guests = slice_get_within plan.guests g p planned' in
    let bytes = frame_at p c a q at goes in
    sent_all r (tag_at g a q (place_of p a q c.number)) (targets (wiring plan.guests) g (wire c))
    (all_weaker (λ to. ((to < length plan.guests) × (nat_eq to g ≡ false)) × (count (λ z. nat_eq z to) (targets (wiring plan.guests) g (wire c)) ≡ 1))
    (λ to. IsOne (copy_fates (taken_at r g a q) (entries_at r g) (entries_at r to) (tag_at g a q (place_of p a q c.number)) to))
    (λ to h.
    let link = finds_link (length plan.guests) g to r.links prem.link_order lg (omega (arith, h.0.0)) h.0.1 in
    let l : LeavesLink r (entries_at r link.0.from) (entries_at r link.0.to) link.0 = found_holds (λ (l : LinkView). LeavesLink r (entries_at r l.from) (entries_at r l.to) l) (is_link g to) r.links link.0 link.1 prem.links in
    sent_copy plan r g p v found.0 link.0 a q (place_of p a q c.number) to (wire c) here found.1 link.1 tx l bytes h.1)
    (targets (wiring plan.guests) g (wire c))
    (all_both (λ to. (to < length plan.guests) × (nat_eq to g ≡ false)) (λ to. count (λ z. nat_eq z to) (targets (wiring plan.guests) g (wire c)) ≡ 1) (targets (wiring plan.guests) g (wire c)) (targets_range plan.guests g (wire c)) (targets_once (wiring plan.guests) g (wire c))))

-- all copies of a captured frame
frame_copies : (plan : Plan) (r : RecordView) → Premises plan r → (g : ℕ) (p : GuestPlan) (v : GuestView) → slice_get plan.guests g ≡ Some p → slice_get r.guests g ≡ Some v →
    (c : Captured) → slice_get (captured p) c.number ≡ Some c → AllByRecursion IsOne (fates_of plan r g p c)
frame_copies plan r prem g p v planned' here c at = step (is_down p c.number) (nat_lt (length c.posted.frame) 14) (nat_lt (p.setup.mtu + 18) (length (wire c))) refl refl refl
  where
    step : (b1 b2 b3 : Bool) → is_down p c.number ≡ b1 → nat_lt (length c.posted.frame) 14 ≡ b2 → nat_lt (p.setup.mtu + 18) (length (wire c)) ≡ b3 → AllByRecursion IsOne (fates_of plan r g p c)
    step true b2 b3 e1 e2 e3 = rw e1 ((fate.Down, refl), tt)
    step false true b3 e1 e2 e3 = rw (e1, e2) ((fate.Short, refl), tt)
    step false false true e1 e2 e3 = rw (e1, e2, e3) ((fate.TooLong, refl), tt)
    step false false false e1 e2 e3 =
        let l1 : nat_le 14 (length c.posted.frame) ≡ true = grind (arith, nat_tests) in
        let l2 : nat_le (length (wire c)) (p.setup.mtu + 18) ≡ true = grind (arith, nat_tests) in
        let sa : nat_eq (activation_at p c.number) (activation_at p c.number) ≡ true = grind (arith, nat_tests) in
        let sq : nat_eq (tx_queue c.posted.frame p.setup.tx_queues) (tx_queue c.posted.frame p.setup.tx_queues) ≡ true = grind (arith, nat_tests) in
        let goes : goes_on p (activation_at p c.number) (tx_queue c.posted.frame p.setup.tx_queues) c ≡ true = rw (e1, l1, l2, sa, sq) refl in
        rw (e1, e2, e3) (sent_copies plan r prem g p v planned' here c at (activation_at p c.number) (tx_queue c.posted.frame p.setup.tx_queues) refl refl goes)

-- each copy of a guest's captured frames has exactly one fate
pub one_fate_each : (plan : Plan) (r : RecordView) → Premises plan r → (g : ℕ) (p : GuestPlan) (v : GuestView) → slice_get plan.guests g ≡ Some p → slice_get r.guests g ≡ Some v →
    AllByRecursion (λ (c : Captured). AllByRecursion IsOne (fates_of plan r g p c)) (captured p)
one_fate_each plan r prem g p v planned' here = all_weaker (λ (c : Captured). slice_get (captured p) c.number ≡ Some c) (λ (c : Captured). AllByRecursion IsOne (fates_of plan r g p c)) (λ c at. frame_copies plan r prem g p v planned' here c at) (captured p) (captured_at p)
