-- The rows of all guests are the table of a record that accounts.
use Rattle.std.proofs.Common.{◌≡◌, ◌≢◌, ℕ, zero, suc, ◌+◌, ◌<◌, ◌≤◌, ◌^◌, Bool, true, false, nat_eq, not, ◌&&◌, List, [], ◌∷◌, ◌++◌, length, length-append, map, drop, get_or, refl, ap, sym, ◌∙◌, subst, append-nil, append_assoc, arith, Option, Some, None}
use Rattle.std.specs.Prelude.{nat_lt}
use Rattle.std.specs.Option.{option_to_list}
use Rattle.std.specs.List.{filter, filter_map, flat_map, find, slice_get, AllByRecursion, range_with_len}
use Rattle.std.proofs.lemmas.Bool.{and_parts}
use Rattle.std.proofs.lemmas.Bool.Decides.{nat_tests}
use Rattle.std.proofs.lemmas.List.{map-append}
use Rattle.std.proofs.lemmas.Option.{slice_get_within}
use Rattle.vmx_switch.specs.Ports.{Wiring, target_ports, is_target}
use Rattle.vmx_ends.specs.declared.frames.Sent.{Sent}
use Rattle.vmx_ends.specs.Frames.{sent_of}
use Rattle.vmx_ends.specs.Transmit.{TxView}
use Rattle.vmx_ends.specs.LinkView.{LinkView}
use Rattle.vmx_model.specs.declared.guest.GuestPlan.{GuestPlan}
use Rattle.vmx_model.specs.declared.plan.Plan.{Plan}
use Rattle.vmx_pcap.specs.declared.records.Stamped.{Stamped}
use Rattle.vmx_model.specs.declared.journal.Entry.{Entry}
use Rattle.vmx_model.specs.declared.journal.Fate.{Fate}
use Rattle.vmx_model.specs.declared.sending.Sending.{Sending}
use Rattle.vmx_model.specs.declared.sending.Sending.TheVariants as sending
use Rattle.vmx_model.specs.declared.journal.Fate.TheVariants as fate
use Rattle.vmx_model.specs.Lists.{IsOne, count, upto}
use Rattle.vmx_model.specs.Totals.{wiring, macs_of, records_of}
use Rattle.vmx_model.specs.Wire.{wire_form, targets, tx_queue}
use Rattle.vmx_model.specs.Plan.{Captured, captured, numbered, wire, verdict_on, sent_on, frames_of, activation_at, place_of}
use Rattle.vmx_model.specs.Views.{GuestView, RecordView}
use Rattle.vmx_model.specs.Journal.{is_link}
use Rattle.vmx_model.specs.Fates.{tx_named, tx_or_none, taken_of, entries_at, entries_or_none, taken_at, copy_fates, tag_at, sent_fates, verdict_fates, fates_of, guest_fates, fates_from, all_fates, arrivals}
use Rattle.vmx_model.specs.Account.{Accounts, AccountsGuest, AccountsTx, AccountsLink, Send, activations, sends_on, planned, place_from}
use Rattle.vmx_model.proofs.Lists.{all_weaker}
use Rattle.vmx_model.proofs.Fates.{one_way, targets_once, get-append}
use Rattle.vmx_model.proofs.Copies.{captured_at, frame_at, guests_count, same_name, taken_count, targets_range, tx_queue_below, wired}
use Rattle.vmx_model.proofs.Found.{found_passes, found_holds, finds_tx, finds_link, activation_within}
use Rattle.vmx_model.proofs.Sends.{some_there}
use Rattle.vmx_buckets.specs.declared.sends.Switched.{Switched}
use Rattle.vmx_buckets.specs.Buckets.{at_key, switched_on, came_from, HasArrivals}
use Rattle.vmx_copies.specs.declared.copy.FrameCopy.{FrameCopy}
use Rattle.vmx_copies.specs.Table.{CopyName, name_of, target_names, verdict_names, frame_names, guest_names, names_from, all_names, fates_in_row, IsTable}
use Rattle.vmx_copies.specs.Join.{entries_in, HaveArrivals, arrival_at, here, sent_rows, verdict_rows, frame_rows, guest_rows, rows_from, IsInOrder, AreInOrder, AllInOrder}
use Rattle.vmx_copies.proofs.Verdict.{sent_parts, goes_there}
use Rattle.vmx_copies.proofs.Sends.{aim, send_aim, aims, frame_aims, planned_aims, planned_are, planned_guest, in_order, here_aims, planned_at, planned_past, ways_here}
use Rattle.vmx_copies.proofs.Fates.{arrivals_at, IsKnown, IsRows, fates_by, taken_rows, untaken_rows}

-- a guest has its port at the switch, and few records
pub has_port : (gs : List GuestPlan) (i : ℕ) → i < length gs → i < length (macs_of gs)
has_port gs i lt = let n = guests_count gs in omega (arith, lt, n)

first_least : (a b : ℕ) → a ≤ a + b
first_least a b = omega arith

rest_least : (a b c : ℕ) → c ≤ b → c ≤ a + b
rest_least a b c h = omega arith

abbrev or_first : GuestPlan → Option GuestPlan → GuestPlan
or_first d None = d
or_first d (Some g) = g

records_in : (gs : List GuestPlan) (i : ℕ) (p : GuestPlan) → slice_get gs i ≡ Some p → length p.capture.records ≤ records_of gs
records_in [] i p at = absurd (cc at)
records_in (x ∷ gs) zero p at = subst (λ (y : GuestPlan). length y.capture.records ≤ length x.capture.records + records_of gs) (ap (or_first x) at) (first_least (length x.capture.records) (records_of gs))
records_in (x ∷ gs) (suc i) p at = rest_least (length x.capture.records) (records_of gs) (length p.capture.records) (records_in gs i p at)

pub records_few : (plan : Plan) (i : ℕ) (p : GuestPlan) → slice_get plan.guests i ≡ Some p → length p.capture.records < 2 ^ 32
records_few plan i p at = let n = records_in plan.guests i p at in let most = plan.records in omega (arith, n, most)

-- ------------------------------------------------------------ lists

entries_there : (gs : List GuestView) (g : ℕ) → get_or (map (λ (v : GuestView). v.entries) gs) g [] ≡ entries_or_none (slice_get gs g)
entries_there [] g = refl
entries_there (v ∷ gs) zero = refl
entries_there (v ∷ gs) (suc g) = entries_there gs g

all_three : {X : Type 0} (P Q R S : X → Type 0) → ((x : X) → P x → Q x → R x → S x) → (xs : List X) → AllByRecursion P xs → AllByRecursion Q xs → AllByRecursion R xs → AllByRecursion S xs
all_three P Q R S f [] h k l = tt
all_three P Q R S f (x ∷ xs) h k l = (f x h.0 k.0 l.0, all_three P Q R S f xs h.1 k.1 l.1)

each_one : (f : ℕ → List Fate) (ts : List ℕ) → AllByRecursion IsOne (map f ts) → AllByRecursion (λ x. IsOne (f x)) ts
each_one f [] h = tt
each_one f (t ∷ ts) h = (h.0, each_one f ts h.1)

nothing : (xs : List Switched) → map aim xs ≡ [] → xs ≡ []
nothing [] e = refl
nothing (x ∷ xs) e = absurd (cc e)

here_get : {X : Type 0} (before : List X) (x : X) (after : List X) → slice_get (before ++ x ∷ after) (length before) ≡ Some x
here_get [] x after = refl
here_get (y ∷ before) x after = here_get before x after

all_two : {X : Type 0} (P Q S : X → Type 0) → ((x : X) → P x → Q x → S x) → (xs : List X) → AllByRecursion P xs → AllByRecursion Q xs → AllByRecursion S xs
all_two P Q S f [] h k = tt
all_two P Q S f (x ∷ xs) h k = (f x h.0 k.0, all_two P Q S f xs h.1 k.1)

-- of a frame with targets
ones_by : (f : ℕ → List Fate) (ts : List ℕ) → AllByRecursion IsOne (fates_by f ts) → AllByRecursion (λ x. IsOne (f x)) ts
ones_by f [] h = tt
ones_by f (t ∷ ts) h = each_one f (t ∷ ts) h

pub rows_both : (rows more : List FrameCopy) (names names' : List CopyName) (fates fates' : List (List Fate)) → IsRows rows names fates → IsRows more names' fates' → IsRows (rows ++ more) (names ++ names') (fates ++ fates')
rows_both rows more names names' fates fates' h k = record {
  names_are = map-append name_of rows more ∙ (λ i. h.names_are i ++ k.names_are i);
  fates_are = map-append fates_in_row rows more ∙ (λ i. h.fates_are i ++ k.fates_are i);
}

flat_rows : (f : Captured → List FrameCopy) (n : Captured → List CopyName) (x : Captured → List (List Fate)) (cs : List Captured) → AllByRecursion (λ (c : Captured). IsRows (f c) (n c) (x c)) cs → IsRows (flat_map f cs) (flat_map n cs) (flat_map x cs)
flat_rows f n x [] h = record { names_are = refl; fates_are = refl }
flat_rows f n x (c ∷ cs) h = rows_both (f c) (flat_map f cs) (n c) (flat_map n cs) (x c) (flat_map x cs) h.0 (flat_rows f n x cs h.1)

-- ------------------------------------------------------------ a record that accounts

-- what is known of a queue that there is
record Facts (w : Wiring) (g : ℕ) (p : GuestPlan) (v : GuestView) (a q : ℕ) : Type 0 where
  queue : TxView
  found : find (tx_named a q) v.tx ≡ Some queue
  sends : sends_on a q v.entries ≡ planned w g a q 0 (map wire_form (sent_of queue.taken))
  rest : List (List ℕ)
  prefix : map wire_form (sent_of queue.taken) ++ rest ≡ frames_of p a q

module _ (plan : Plan) (r : RecordView) (acc : Accounts plan r) (journals : List (List Entry)) (js : map (λ (v : GuestView). v.entries) r.guests ≡ journals) (came : List (List (List Fate))) (arr : HaveArrivals journals came) where
  abbrev w : Wiring
  w = wiring plan.guests

  entries_are : (g : ℕ) → entries_in journals g ≡ entries_at r g
  entries_are g = ap (λ (xs : List (List Entry)). get_or xs g []) (sym js) ∙ entries_there r.guests g

  map_length : (gs : List GuestView) → length (map (λ (v : GuestView). v.entries) gs) ≡ length gs
  map_length [] = refl
  map_length (v ∷ gs) = ap suc (map_length gs)

  as_many : length journals ≡ length plan.guests
  as_many = sym (ap length js) ∙ map_length r.guests ∙ acc.guests

  -- arrivals at another port
  arrive : (g to : ℕ) → g < length plan.guests → to < length plan.guests → nat_eq to g ≡ false → (place : ℕ) → arrivals g place (entries_at r to) ≡ option_to_list (arrival_at came to g place)
  arrive g to lg lt ne place =
      let link = finds_link (length plan.guests) g to r.links acc.link_order lg lt ne in
      let l : AccountsLink plan r (entries_at r link.0.from) (entries_at r link.0.to) link.0 = found_holds (λ (l : LinkView). AccountsLink plan r (entries_at r l.from) (entries_at r l.to) l) (is_link g to) r.links link.0 link.1 acc.links in
      let ports = same_name link.0.from link.0.to g to (found_passes (is_link g to) r.links link.0 link.1) in
      let places : filter_map (place_from g) (entries_at r to) ≡ upto 0 (length link.0.pulled) = (λ i. filter_map (place_from (sym ports.0 i)) (entries_at r (sym ports.1 i))) ∙ l.arrivals in
      let many = as_many in
      let lists = arr.each to (omega (arith, lt, many)) in
      let there : at_key (at_key came to) g ≡ came_from g (entries_at r to) = lists.each g (omega (arith, lg, many)) ∙ ap (came_from g) (entries_are to) in
      let zero_on : 0 + place ≡ place = omega arith in
      ap (λ (x : ℕ). arrivals g x (entries_at r to)) (sym zero_on) ∙ arrivals_at g (entries_at r to) 0 (length link.0.pulled) place places
      ∙ ap (λ (xs : List Fate). option_to_list (slice_get xs place)) (sym there)

  module _ (g : ℕ) (p : GuestPlan) (v : GuestView) (planned_there : slice_get plan.guests g ≡ Some p) (there : slice_get r.guests g ≡ Some v) where
    accounts : AccountsGuest plan r g p v
    accounts = acc.each g p v planned_there there

    lg : g < length plan.guests
    lg = slice_get_within plan.guests g p planned_there

    own : entries_at r g ≡ v.entries
    own = ap entries_or_none there

    facts : (a q : ℕ) → a < activations p → q < p.setup.tx_queues → Facts w g p v a q
    facts a q la lq =
        let found = finds_tx p g p.setup.tx_queues a q v.tx accounts.tx_names la lq in
        let tx : AccountsTx w g p v.entries found.0 = found_holds (AccountsTx w g p v.entries) (tx_named a q) v.tx found.0 found.1 accounts.tx in
        let name = same_name found.0.made.name.activation found.0.made.name.queue a q (found_passes (tx_named a q) v.tx found.0 found.1) in
        let sends : sends_on a q v.entries ≡ planned w g a q 0 (map wire_form (sent_of found.0.taken)) = rw (name.0, name.1) at tx.sends in
        record { queue = found.0; found = found.1; sends = sends; rest = map wire_form tx.taken.0; prefix = wired (sent_of found.0.taken) tx.taken.0 (sent_on p a q) (tx.taken.1 ∙ tx.sent ∙ rw (name.0, name.1) refl) }

    pub are_in_order : AreInOrder p v.entries
    are_in_order a q la lq = let f = facts a q la lq in in_order w g a q v.entries (map wire_form (sent_of f.queue.taken)) f.sends

    -- a frame that is sent
    sent_frame : (c : Captured) → slice_get (captured p) c.number ≡ Some c → (a q k : ℕ) → sending.Sent a q k ≡ verdict_on p c → AllByRecursion IsOne (sent_fates r (tag_at g a q k) (targets w g (wire c)))
        → IsRows (sent_rows came g c.number (targets w g (wire c)) (here k (switched_on a q v.entries))) (target_names g c.number (targets w g (wire c))) (sent_fates r (tag_at g a q k) (targets w g (wire c)))
    sent_frame c at a q k verdict ones = subst (IsRows (sent_rows came g c.number ts (here k (switched_on a q v.entries))) (target_names g c.number ts)) (sym shown) (by_taken (nat_lt k (length fs)) refl)
      where
        ts : List ℕ
        ts = targets w g (wire c)

        parts : (a ≡ activation_at p c.number) × (q ≡ tx_queue c.posted.frame p.setup.tx_queues) × (k ≡ place_of p a q c.number) × (14 ≤ length c.posted.frame)
        parts = sent_parts p c a q k verdict

        la : a < activations p
        la = subst (λ (x : ℕ). x < activations p) (sym parts.0) (activation_within p c.number)

        lq : q < p.setup.tx_queues
        lq = let low = p.setup.tx_queues_low in subst (λ (x : ℕ). x < p.setup.tx_queues) (sym parts.1) (tx_queue_below c.posted.frame p.setup.tx_queues (omega (arith, low)))

        f : Facts w g p v a q
        f = facts a q la lq

        fs : List (List ℕ)
        fs = map wire_form (sent_of f.queue.taken)

        fates_to : ℕ → List Fate
        fates_to to = copy_fates (length fs) v.entries (entries_at r to) (tag_at g a q k) to

        taken_is : taken_at r g a q ≡ length fs
        taken_is = ap (λ (o : Option GuestView). taken_of (find (tx_named a q) (tx_or_none o))) there ∙ ap taken_of f.found ∙ sym (taken_count f.queue.taken)

        shown_by : (ts : List ℕ) → sent_fates r (tag_at g a q k) ts ≡ fates_by (λ to. copy_fates (length fs) v.entries (entries_at r to) (tag_at g a q k) to) ts
        shown_by [] = refl
        shown_by (t ∷ ts) = λ i. map (λ to. copy_fates (taken_is i) (own i) (entries_at r to) (tag_at g a q k) to) (t ∷ ts)

        shown : sent_fates r (tag_at g a q k) ts ≡ fates_by (λ to. copy_fates (length fs) v.entries (entries_at r to) (tag_at g a q k) to) ts
        shown = shown_by ts

        -- what was given of the frame
        given : map aim (here k (switched_on a q v.entries)) ≡ filter (λ (u : ℕ × Option ℕ). nat_eq u.0 k) (planned_aims w g 0 fs)
        given = here_aims k (switched_on a q v.entries) ∙ ap (filter (λ (u : ℕ × Option ℕ). nat_eq u.0 k)) (aims a q v.entries ∙ ap (map send_aim) f.sends ∙ planned_are w g a q 0 fs)

        guests : AllByRecursion (λ (s : Send). nat_eq s.tag.guest g ≡ true) (sends_on a q v.entries)
        guests = subst (AllByRecursion (λ (s : Send). nat_eq s.tag.guest g ≡ true)) (sym f.sends) (planned_guest w g a q 0 fs)

        by_taken : (b : Bool) → nat_lt k (length fs) ≡ b → IsRows (sent_rows came g c.number ts (here k (switched_on a q v.entries))) (target_names g c.number ts) (fates_by (λ to. copy_fates (length fs) v.entries (entries_at r to) (tag_at g a q k) to) ts)
        by_taken true e =
            let lt : k < length fs = grind (arith, nat_tests, e) in
            let in_frames : slice_get (frames_of p a q) k ≡ Some (wire c) = ap (slice_get (frames_of p a q)) parts.2 ∙ frame_at p c a q at (goes_there p c a q k verdict) in
            let frame : slice_get fs k ≡ Some (wire c) = sym (get-append fs f.rest k lt) ∙ ap (λ (xs : List (List ℕ)). slice_get xs k) f.prefix ∙ in_frames in
            let zero_on : 0 + k ≡ k = omega arith in
            taken_rows came g c.number a q k (length fs) v.entries (entries_at r) lt ts (here k (switched_on a q v.entries))
            (λ to. ways_here g a q k to v.entries guests) (given ∙ planned_at w g 0 k k fs (wire c) zero_on frame)
            (all_three (λ x. (x < length plan.guests) × (nat_eq x g ≡ false)) (λ x. count (λ z. nat_eq z x) ts ≡ 1) (λ x. IsOne (copy_fates (length fs) v.entries (entries_at r x) (tag_at g a q k) x)) (IsKnown came g (tag_at g a q k) (length fs) v.entries (entries_at r))
            (λ x range once one. record { one_way = one_way w g a q k x v.entries fs (wire c) f.sends frame once; one_fate = one; arrive = arrive g x lg range.0 range.1 })
            ts (targets_range plan.guests g (wire c)) (targets_once w g (wire c)) (ones_by (λ to. copy_fates (length fs) v.entries (entries_at r to) (tag_at g a q k) to) ts (subst (AllByRecursion IsOne) shown ones)))
        by_taken false e =
            let le : length fs ≤ k = grind (arith, nat_tests, e) in
            untaken_rows came g c.number a q k (length fs) v.entries (entries_at r) le ts (here k (switched_on a q v.entries)) (nothing (here k (switched_on a q v.entries)) (given ∙ planned_past w g 0 k fs (omega (arith, le))))

    -- a captured frame
    frame_by : (c : Captured) → slice_get (captured p) c.number ≡ Some c → (s : Sending) → s ≡ verdict_on p c → AllByRecursion IsOne (verdict_fates plan r g (wire c) s)
        → IsRows (verdict_rows w came v.entries g c.number (wire c) s) (verdict_names w g c.number (wire c) s) (verdict_fates plan r g (wire c) s)
    frame_by c at sending.Down e ones = record { names_are = refl; fates_are = refl }
    frame_by c at sending.Short e ones = record { names_are = refl; fates_are = refl }
    frame_by c at sending.TooLong e ones = record { names_are = refl; fates_are = refl }
    frame_by c at (sending.Sent a q k) e ones = sent_frame c at a q k e ones

    frame_is : (c : Captured) → slice_get (captured p) c.number ≡ Some c → AllByRecursion IsOne (fates_of plan r g p c) → IsRows (frame_rows w came v.entries g p c) (frame_names w g p c) (fates_of plan r g p c)
    frame_is c at ones = frame_by c at (verdict_on p c) refl ones

    -- all of a guest's
    guest_is : IsRows (guest_rows w came v.entries g p) (guest_names w g p) (guest_fates plan r g p)
    guest_is = flat_rows (frame_rows w came v.entries g p) (frame_names w g p) (fates_of plan r g p) (captured p)
        (all_two (λ (c : Captured). slice_get (captured p) c.number ≡ Some c) (λ (c : Captured). AllByRecursion IsOne (fates_of plan r g p c)) (λ (c : Captured). IsRows (frame_rows w came v.entries g p c) (frame_names w g p c) (fates_of plan r g p c))
        frame_is (captured p) (captured_at p) accounts.fates)

  guests_from : (before gs : List GuestPlan) (vs : List GuestView) → plan.guests ≡ before ++ gs → length vs ≡ length gs → ((i : ℕ) → slice_get r.guests (length before + i) ≡ slice_get vs i) → IsRows (rows_from w came journals (length before) gs) (names_from w (length before) gs) (fates_from plan r (length before) gs)
  guests_from before [] vs e l at = record { names_are = refl; fates_are = refl }
  guests_from before (p ∷ gs) [] e l at = absurd (omega (arith, l))
  guests_from before (p ∷ gs) (v ∷ vs) e l at =
      let g : ℕ = length before in
      let zero_on : length before + 0 ≡ length before = omega arith in
      let there : slice_get r.guests (length before) ≡ Some v = ap (slice_get r.guests) (sym zero_on) ∙ at 0 in
      let planned_there : slice_get plan.guests (length before) ≡ Some p = ap (λ (xs : List GuestPlan). slice_get xs (length before)) e ∙ here_get before p gs in
      let here_are : entries_in journals (length before) ≡ v.entries = entries_are (length before) ∙ ap entries_or_none there in
      let next : length (before ++ p ∷ []) ≡ length before + 1 = length-append before (p ∷ []) in
      let rest : IsRows (rows_from w came journals (length (before ++ p ∷ [])) gs) (names_from w (length (before ++ p ∷ [])) gs) (fates_from plan r (length (before ++ p ∷ [])) gs) =
      guests_from (before ++ p ∷ []) gs vs (e ∙ sym (append_assoc before (p ∷ []) gs)) (omega (arith, l)) (λ i. let on : length (before ++ p ∷ []) + i ≡ length before + suc i = omega (arith, next) in ap (slice_get r.guests) on ∙ at (suc i)) in
      let rest' : IsRows (rows_from w came journals (length before + 1) gs) (names_from w (length before + 1) gs) (fates_from plan r (length before + 1) gs) =
      subst (λ (n : ℕ). IsRows (rows_from w came journals n gs) (names_from w n gs) (fates_from plan r n gs)) next rest in
      subst (λ (es : List Entry). IsRows (guest_rows w came es (length before) p ++ rows_from w came journals (length before + 1) gs) (names_from w (length before) (p ∷ gs)) (fates_from plan r (length before) (p ∷ gs))) (sym here_are)
      (rows_both (guest_rows w came v.entries (length before) p) (rows_from w came journals (length before + 1) gs) (guest_names w (length before) p) (names_from w (length before + 1) gs) (guest_fates plan r (length before) p) (fates_from plan r (length before + 1) gs)
      (guest_is (length before) p v planned_there there) rest')

  -- the rows of all guests
  pub all_are_table : IsTable plan r (rows_from w came journals 0 plan.guests)
  all_are_table = let h = guests_from [] plan.guests r.guests refl acc.guests (λ i. let on : 0 + i ≡ i = omega arith in ap (slice_get r.guests) on) in record { names = h.names_are; fates = h.fates_are }

  -- each queue's frames stand in order in the journals
  order_in : (g : ℕ) (p : GuestPlan) → slice_get plan.guests g ≡ Some p → AreInOrder p (entries_in journals g)
  order_in g p planned_there =
      let lt = slice_get_within plan.guests g p planned_there in
      let many = acc.guests in
      let v = some_there r.guests g (omega (arith, lt, many)) in
      subst (AreInOrder p) (sym (entries_are g ∙ ap entries_or_none v.1)) (are_in_order g p v.0 planned_there v.1)

  pub each_in_order : AllInOrder plan.guests journals
  each_in_order = record { each = order_in }

  -- over the switch of the plan
  pub table_by : (switch : Wiring) → switch ≡ wiring plan.guests → (rows : List FrameCopy) → rows ≡ rows_from switch came journals 0 plan.guests → IsTable plan r rows
  table_by switch is rows e = subst (IsTable plan r) (sym (e ∙ ap (λ (x : Wiring). rows_from x came journals 0 plan.guests) is)) all_are_table

-- when all guests are gone over
pub none_left : (gs : List GuestPlan) (i : ℕ) → length gs ≤ i → drop i gs ≡ []
none_left [] zero le = refl
none_left [] (suc i) le = refl
none_left (x ∷ gs) zero le = absurd (omega (arith, le))
none_left (x ∷ gs) (suc i) le = none_left gs i (omega (arith, le))
