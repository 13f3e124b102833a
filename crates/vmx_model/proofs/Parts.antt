-- The law of parts: what whole runs leave accounts for the plan.
use Rattle.std.proofs.Common.{◌≡◌, ℕ, ◌+◌, ◌<◌, List, [], ◌∷◌, ◌++◌, length, map, refl, ap, sym, ◌∙◌, arith, nat_eq, true, length-append, append-nil, append_assoc, inl, inr, Option, Some, None}
use Rattle.std.proofs.lemmas.Bool.Decides.{eqb_tells, nat_tests}
use Rattle.std.proofs.lemmas.Option.{slice_get_within, slice_get_cases, slice_get-map}
use Rattle.std.specs.Option.{option_map}
use Rattle.std.proofs.lemmas.List.Elements.{filter_map-append}
use Rattle.std.specs.List.{filter_map, find, slice_get, AllByRecursion}
use Rattle.vmx_model.specs.Types.{GuestPlan, Plan, Packet, Entry, Setup, Verdict}
use Rattle.vmx_model.specs.declared.journal.Entry.TheVariants as entry
use Rattle.vmx_model.specs.declared.journal.Fate.TheVariants as fate
use Rattle.vmx_filters.specs.declared.answer.Verdict.TheVariants as verdict
use Rattle.vmx_model.specs.Lists.{count, Rises, upto, EachAfter}
use Rattle.vmx_model.specs.Wire.{wire_form, rx_queue}
use Rattle.vmx_model.specs.Plan.{wire, sent_on, frames_of, frame_of}
use Rattle.vmx_model.specs.Totals.{wiring}
use Rattle.vmx_frame.specs.Internet.{flow_of}
use Rattle.vmx_frame.specs.declared.kinds.Flow.{Flow}
use Rattle.vmx_ends.specs.declared.made.RxMade.{RxMade}
use Rattle.vmx_ends.specs.Frames.{sent_of}
use Rattle.vmx_ends.specs.Transmit.{TxView}
use Rattle.vmx_ends.specs.Receive.{RxView}
use Rattle.vmx_ends.specs.ReceiveClauses.{IsRefusal}
use Rattle.vmx_ends.specs.LinkView.{LinkView}
use Rattle.vmx_device_state.specs.SetupView.{SetupView, RssView}
use Rattle.vmx_model.specs.Setups.{admits, choice}
use Rattle.vmx_device_state.specs.DeviceState.{DeviceState, Idle, Active}
use Rattle.vmx_model.specs.Views.{Need, GuestView, RecordView}
use Rattle.vmx_model.specs.Journal.{Beside, IsLawful, IsShown, IsAdmitted, state_at, packet_at, is_link, is_setting, activation_of, needs, need_in, fate_in}
use Rattle.vmx_model.specs.Fates.{tx_named, entries_at}
use Rattle.vmx_model.specs.Account.{need, rx_named, IsCause, HasLook, Premises, LeavesGuest, LeavesLink, LeavesRx, Accounts, AccountsGuest, AccountsLink, AccountsRx, AccountsTx, WasTaken, beside, place_from}
use Rattle.vmx_model.specs.Order.{CameUp, CameUpUnder, KeepsOrder, KeepsFlows, came_up, WasSentBefore}
use Rattle.vmx_model.proofs.Lists.{by_recursion, all_weaker}
use Rattle.vmx_model.proofs.Fates.{get-append}
use Rattle.vmx_model.proofs.Found.{Finds, found_passes, found_holds, finds_rx}
use Rattle.vmx_model.proofs.Ranges.{queue_within, activation_within}
use Rattle.vmx_model.proofs.Copies.{one_fate_each, same_name, all_at, wired}
use Rattle.vmx_model.proofs.Order.{places_rise}
use Rattle.vmx_model.proofs.Tags.{PacketsRise, link_rises}
use Rattle.vmx_model.proofs.HandedUp.{HasFacts, hands_up}
use Rattle.vmx_model.proofs.Arrivals.{kept, OwnTags, Behind, kept_rises}

-- ------------------------------------------------------------ look-ups

-- the guest of a record has its plan
pub plan_of : (plan : Plan) (r : RecordView) (g : ℕ) (v : GuestView) → length r.guests ≡ length plan.guests → slice_get r.guests g ≡ Some v → (p : GuestPlan) × (slice_get plan.guests g ≡ Some p)
plan_of plan r g v same here = elim ((slice_get_cases plan.guests g).1) [
  | inl h ↦ (h.0, h.2)
  | inr h ↦ absurd (omega (arith, slice_get_within r.guests g v here, h.0))
]

-- a taken packet's guest is there, and its queue has facts
taken_from : (r : RecordView) (g : ℕ) (x : Packet) → WasTaken r g x → (v : GuestView) × ((slice_get r.guests g ≡ Some v) × ((f : TxView) × (find (tx_named x.tag.activation x.tag.queue) v.tx ≡ Some f) × (slice_get (map wire_form (sent_of f.taken)) x.tag.place ≡ Some x.frame)))
taken_from r g x h = step (slice_get r.guests g) refl
  where
    step : (o : Option GuestView) → slice_get r.guests g ≡ o → (v : GuestView) × ((slice_get r.guests g ≡ Some v) × ((f : TxView) × (find (tx_named x.tag.activation x.tag.queue) v.tx ≡ Some f) × (slice_get (map wire_form (sent_of f.taken)) x.tag.place ≡ Some x.frame)))
    step None e = absurd (cc (rw e at h.1.1))
    step (Some v) e = (v, (e, (h.1.0, rw e at h.1.1, h.1.2)))

-- a taken packet has its tag's frame
packet_frame : (plan : Plan) (r : RecordView) → Premises plan r → (g : ℕ) (x : Packet) → WasTaken r g x → frame_of plan x.tag ≡ Some x.frame
packet_frame plan r prem g x h =
    let at = taken_from r g x h in
    let v : GuestView = at.0 in
    let p = plan_of plan r g v prem.guests at.1.0 in
    let leaves : LeavesGuest plan r g p.0 v = prem.each g p.0 v p.1 at.1.0 in
    let f : TxView = at.1.1.0 in
    let tx : AccountsTx (wiring plan.guests) g p.0 v.entries f = found_holds (AccountsTx (wiring plan.guests) g p.0 v.entries) (tx_named x.tag.activation x.tag.queue) v.tx f at.1.1.1 leaves.tx in
    let name = same_name f.made.name.activation f.made.name.queue x.tag.activation x.tag.queue (found_passes (tx_named x.tag.activation x.tag.queue) v.tx f at.1.1.1) in
    let fs : List (List ℕ) = map wire_form (sent_of f.taken) in
    let prefix : fs ++ map wire_form tx.taken.0 ≡ frames_of p.0 x.tag.activation x.tag.queue = wired (sent_of f.taken) tx.taken.0 (sent_on p.0 x.tag.activation x.tag.queue) (tx.taken.1 ∙ tx.sent ∙ rw (name.0, name.1) refl) in
    let within : x.tag.place < length fs = slice_get_within fs x.tag.place x.frame at.1.1.2 in
    rw (h.0, p.1) (sym (slice_get-map wire (sent_on p.0 x.tag.activation x.tag.queue) x.tag.place) ∙ sym (ap (λ (fs : List (List ℕ)). slice_get fs x.tag.place) prefix) ∙ get-append fs (map wire_form tx.taken.0) x.tag.place within ∙ at.1.1.2)

whole : {X : Type 0} (xs rest ys : List X) → xs ++ rest ≡ ys → length xs ≡ length ys → xs ≡ ys
whole xs [] ys e same = sym (append-nil xs) ∙ e
whole xs (r ∷ rs) ys e same = absurd (omega (arith, length-append xs (r ∷ rs), ap length e))

all_pulled : (r : RecordView) (l : LinkView) → LeavesLink r (entries_at r l.from) (entries_at r l.to) l → l.pulled ≡ l.pushed
all_pulled r l h = whole l.pulled h.met.0 l.pushed h.met.1 h.drained

-- the packet at a place of a link between two ports
link_packet : (links : List LinkView) (from to place : ℕ) (p : Packet) → packet_at links from to place ≡ Some p → (l : LinkView) × (find (is_link from to) links ≡ Some l) × (slice_get l.pulled place ≡ Some p)
link_packet links from to place p h = step (find (is_link from to) links) refl
  where
    step : (o : Option LinkView) → find (is_link from to) links ≡ o → (l : LinkView) × (find (is_link from to) links ≡ Some l) × (slice_get l.pulled place ≡ Some p)
    step None e = absurd (cc (rw e at h))
    step (Some l) e = (l, e, rw e at h)

packet_taken : (plan : Plan) (r : RecordView) → Premises plan r → (from to place : ℕ) (p : Packet) → packet_at r.links from to place ≡ Some p → WasTaken r from p
packet_taken plan r prem from to place p h =
    let l = link_packet r.links from to place p h in
    let leaves : LeavesLink r (entries_at r l.0.from) (entries_at r l.0.to) l.0 = found_holds (λ (l : LinkView). LeavesLink r (entries_at r l.from) (entries_at r l.to) l) (is_link from to) r.links l.0 l.1 prem.links in
    let name = same_name l.0.from l.0.to from to (found_passes (is_link from to) r.links l.0 l.1) in
    let at : slice_get l.0.pushed place ≡ Some p = rw (all_pulled r l.0 leaves) at l.2 in
    rw name.0 at (all_at (WasTaken r l.0.from) l.0.pushed place p at leaves.taken)

came_up_all : (links : List LinkView) (port : ℕ) (P : Packet → Type 0) → ((from place : ℕ) (p : Packet) → packet_at links from port place ≡ Some p → P p) → (es : List Entry) → AllByRecursion (λ (u : CameUp). P u.packet) (came_up links port es)
came_up_all links port P k [] = tt
came_up_all links port P k (entry.Setting number answer setup ∷ es) = came_up_all links port P k es
came_up_all links port P k (entry.Out tag target w ∷ es) = came_up_all links port P k es
came_up_all links port P k (entry.Lost tag ∷ es) = came_up_all links port P k es
came_up_all links port P k (entry.In from place (fate.Up a q n) ∷ es) = step (packet_at links from port place) refl (came_up_all links port P k es)
  where
    step : (o : Option Packet) → packet_at links from port place ≡ o → AllByRecursion (λ (u : CameUp). P u.packet) (came_up links port es) → AllByRecursion (λ (u : CameUp). P u.packet) (came_up links port (entry.In from place (fate.Up a q n) ∷ es))
    step None e ih = rw e ih
    step (Some p) e ih = rw e (k from place p e, ih)
came_up_all links port P k (entry.In from place f ∷ es) = step (packet_at links from port place) refl (came_up_all links port P k es)
  where
    step : (o : Option Packet) → packet_at links from port place ≡ o → AllByRecursion (λ (u : CameUp). P u.packet) (came_up links port es) → AllByRecursion (λ (u : CameUp). P u.packet) (came_up links port (entry.In from place f ∷ es))
    step None e ih = rw e ih
    step (Some p) e ih = rw e ih

-- ------------------------------------------------------------ order

-- the packets of each transmit queue rise on a link
pushed_rises : (plan : Plan) (r : RecordView) → Premises plan r → (l : LinkView) (to : ℕ) → LeavesLink r (entries_at r l.from) (entries_at r to) l → (q : ℕ) → l.to ≡ to → Rises (PacketsRise q) l.pushed
pushed_rises plan r prem l to leaves q port = step (slice_get r.guests l.from) refl
  where
    none : (xs : List Packet) → map (λ (x : Packet). x.tag) xs ≡ [] → Rises (PacketsRise q) xs
    none [] e = tt
    none (x ∷ xs) e = absurd (cc e)

    step : (o : Option GuestView) → slice_get r.guests l.from ≡ o → Rises (PacketsRise q) l.pushed
    step None e = none l.pushed (rw e at leaves.tags)
    step (Some v) e =
        let p = plan_of plan r l.from v prem.guests e in
        let guest : LeavesGuest plan r l.from p.0 v = prem.each l.from p.0 v p.1 e in
        link_rises (λ a q. Finds (tx_named a q) v.tx) (wiring plan.guests) l.from l.to (beside r l.from p.0 v) v.setups v.entries l.pushed guest.lawful.each
        (λ a q h. let tx : AccountsTx (wiring plan.guests) l.from p.0 v.entries h.0 = found_holds (AccountsTx (wiring plan.guests) l.from p.0 v.entries) (tx_named a q) v.tx h.0 h.1 guest.tx in
        let name = same_name h.0.made.name.activation h.0.made.name.queue a q (found_passes (tx_named a q) v.tx h.0 h.1) in (map wire_form (sent_of h.0.taken), rw (name.0, name.1) at tx.sends))
        (rw e at leaves.tags)
        (all_weaker (WasTaken r l.from) (λ (x : Packet). Finds (tx_named x.tag.activation x.tag.queue) v.tx) (λ x h. (h.1.0, rw e at h.1.1)) l.pushed leaves.taken)
        q

-- nothing arrives over a link that is not there
pub no_arrivals : (b : Beside) (setups : List Setup) (g : ℕ) → find (is_link g b.port) b.links ≡ None → (before es : List Entry) → EachAfter (IsLawful b setups) before es → filter_map (place_from g) es ≡ []
no_arrivals b setups g none before [] h = refl
no_arrivals b setups g none before (entry.Setting number answer setup ∷ es) h = no_arrivals b setups g none (before ++ entry.Setting number answer setup ∷ []) es h.1
no_arrivals b setups g none before (entry.Out tag target w ∷ es) h = no_arrivals b setups g none (before ++ entry.Out tag target w ∷ []) es h.1
no_arrivals b setups g none before (entry.Lost tag ∷ es) h = no_arrivals b setups g none (before ++ entry.Lost tag ∷ []) es h.1
no_arrivals b setups g none before (entry.In from place f ∷ es) h = elim (eqb_tells from g) [
  | inl e ↦ let at : packet_at b.links g b.port place ≡ Some h.0.0 = rw e.1 at h.0.1 in absurd (cc (rw none at at))
  | inr e ↦ rw e.0 (no_arrivals b setups g none (before ++ entry.In from place f ∷ []) es h.1)
]

tags_rise : (plan : Plan) (r : RecordView) → Premises plan r → (t : ℕ) (p : GuestPlan) (v : GuestView) → slice_get r.guests t ≡ Some v → LeavesGuest plan r t p v → (q g q' : ℕ) → Rises WasSentBefore (kept r.links t q g q' v.entries)
tags_rise plan r prem t p v here guest q g q' = step (find (is_link g t) r.links) refl
  where
    own : OwnTags r.links t
    own from place x at = (packet_taken plan r prem from t place x at).0

    step : (o : Option LinkView) → find (is_link g t) r.links ≡ o → Rises WasSentBefore (kept r.links t q g q' v.entries)
    step None e = (kept_rises r.links t q g q' own 0 [] v.entries (λ i. rw e refl) (no_arrivals (beside r t p v) v.setups g e [] v.entries guest.lawful.each) tt).1
    step (Some l) e =
        let leaves : LeavesLink r (entries_at r l.from) (entries_at r l.to) l = found_holds (λ (l : LinkView). LeavesLink r (entries_at r l.from) (entries_at r l.to) l) (is_link g t) r.links l e prem.links in
        let name = same_name l.from l.to g t (found_passes (is_link g t) r.links l e) in
        let arrives : filter_map (place_from g) v.entries ≡ upto 0 (length l.pushed) = rw (name.0, name.1, here, leaves.drained) at leaves.arrivals in
        let behind : Behind r.links g t 0 l.pushed = λ i. let z : 0 + i ≡ i = omega arith in rw (z, e, all_pulled r l leaves) refl in
        (kept_rises r.links t q g q' own 0 l.pushed v.entries behind arrives (pushed_rises plan r prem l l.to leaves q' refl)).1

keeps_order : (plan : Plan) (r : RecordView) → Premises plan r → (t : ℕ) (p : GuestPlan) (v : GuestView) → slice_get r.guests t ≡ Some v → LeavesGuest plan r t p v → KeepsOrder plan r.links t v.entries
keeps_order plan r prem t p v here guest = record {
  places = λ q. (places_rise (beside r t p v) v.setups q [] v.entries guest.lawful.each).1;
  tags = λ q g q'. tags_rise plan r prem t p v here guest q g q';
  frames = came_up_all r.links t (λ (x : Packet). frame_of plan x.tag ≡ Some x.frame) (λ from place x at. packet_frame plan r prem from x (packet_taken plan r prem from t place x at)) v.entries;
}

-- ------------------------------------------------------------ flows

pub each_at : {X : Type 0} (P : List X → X → Type 0) (before xs : List X) (x : X) (ys : List X) → EachAfter P before (xs ++ x ∷ ys) → P (before ++ xs) x
each_at P before [] x ys h = rw (append-nil before) h.0
each_at {X} P before (y ∷ xs) x ys h = let e : (before ++ y ∷ []) ++ xs ≡ before ++ y ∷ xs = append_assoc before (y ∷ []) xs in rw e at (each_at P (before ++ y ∷ []) xs x ys h.1)

queue_by : (b : Beside) (before : List Entry) (s : SetupView) (frame : List ℕ) (a q k : ℕ) (w : Verdict) → IsAdmitted b before s frame (fate.Up a q k) w → q ≡ rx_queue s.rss frame
queue_by b before s frame a q k verdict.Yes h = h.1
queue_by b before s frame a q k (verdict.No x) h = absurd (cc h)

came_by_flow : (b : Beside) (setups : List Setup) (es : List Entry) → EachAfter (IsLawful b setups) [] es → (q : ℕ) (f : List ℕ) (s : SetupView) → CameUpUnder b es q f s → q ≡ rx_queue s.rss f
came_by_flow b setups es lawful q f s c =
    let at : IsLawful b setups c.before (entry.In c.from c.link_place (fate.Up c.activation q c.place)) = each_at (IsLawful b setups) [] c.before _ c.after (rw c.stands at lawful) in
    let same : Some at.0 ≡ Some c.packet = sym at.1 ∙ c.packet_is in
    let frame : at.0.frame ≡ f = ap (λ (x : Packet). x.frame) (inner same) ∙ c.frame_is in
    let shown : IsShown b c.before at.0.frame (fate.Up c.activation q c.place) (Active s) = rw c.setup_is at at.2 in
    queue_by b c.before s at.0.frame c.activation q c.place (admits s b.mac at.0.frame) shown ∙ ap (rx_queue s.rss) frame
  where
    inner : {X : Type 0} {x y : X} → Some x ≡ Some y → x ≡ y
    inner e = cc e

same_queue : (o : Option RssView) (f f' : List ℕ) → flow_of f ≡ flow_of f' → rx_queue o f ≡ rx_queue o f'
same_queue o f f' e = ap (λ (flow : Flow). (choice o flow).queue) e

keeps_flows : (b b' : Beside) (setups setups' : List Setup) (es es' : List Entry) → EachAfter (IsLawful b setups) [] es → EachAfter (IsLawful b' setups') [] es' → KeepsFlows b es b' es'
keeps_flows b b' setups setups' es es' lawful lawful' q q' f f' s s' c c' rss flow =
    came_by_flow b setups es lawful q f s c ∙ same_queue s.rss f f' flow ∙ ap (λ (o : Option RssView). rx_queue o f') rss ∙ sym (came_by_flow b' setups' es' lawful' q' f' s' c')

-- ------------------------------------------------------------ causes

at_length : {X : Type 0} (xs : List X) (y : X) (ys : List X) → slice_get (xs ++ y ∷ ys) (length xs) ≡ Some y
at_length [] y ys = refl
at_length (x ∷ xs) y ys = at_length xs y ys

abbrev NamedBy : List Entry → List ℕ → ℕ → ℕ → ℕ → DeviceState → Type 0
NamedBy before frame a q look state = (s : SetupView) × (state ≡ Active s) × (a ≡ activation_of before) × (q ≡ rx_queue s.rss frame) × (look ≡ length (needs a q before))

no_buffer_by : (b : Beside) (before : List Entry) (s : SetupView) (frame : List ℕ) (a q ring position look : ℕ) (w : Verdict) → IsAdmitted b before s frame (fate.NoBuffer a q ring position look) w → NamedBy before frame a q look (Active s)
no_buffer_by b before s frame a q ring position look verdict.Yes h = (s, refl, h.0, h.1, h.2)
no_buffer_by b before s frame a q ring position look (verdict.No x) h = absurd (cc h)

no_buffer_shown : (b : Beside) (before : List Entry) (frame : List ℕ) (a q ring position look : ℕ) (state : DeviceState) → IsShown b before frame (fate.NoBuffer a q ring position look) state → NamedBy before frame a q look state
no_buffer_shown b before frame a q ring position look Idle h = absurd (cc h)
no_buffer_shown b before frame a q ring position look (Active s) h = no_buffer_by b before s frame a q ring position look (admits s b.mac frame) h

-- a queue's refused looks are the fates without buffer, in order, and each look shows its cause
abbrev Refused : List Entry → RxView → Type 0
Refused es f = (map need f.refused ≡ needs f.made.name.activation f.made.name.queue es) × AllByRecursion (IsRefusal f.made) f.refused × (f.made.full ≡ true)

look_here : (rx : List RxView) (es before after : List Entry) (from place a q ring position look : ℕ) → es ≡ before ++ entry.In from place (fate.NoBuffer a q ring position look) ∷ after → AllByRecursion (Refused es) rx → look ≡ length (needs a q before) → (f : RxView) → find (rx_named a q) rx ≡ Some f → HasLook rx (fate.NoBuffer a q ring position look)
look_here rx es before after from place a q ring position look split all at f found = (f, found, step (slice_get f.refused look) refl)
  where
    holds : Refused es f
    holds = found_holds (Refused es) (rx_named a q) rx f found all

    list : needs a q es ≡ needs a q before ++ record { ring = ring; position = position } ∷ needs a q after
    list = let h1 : nat_eq a a ≡ true = grind (arith, nat_tests) in let h2 : nat_eq q q ≡ true = grind (arith, nat_tests) in
        ap (needs a q) split ∙ ap (filter_map (need_in a q)) (filter_map-append fate_in before (entry.In from place (fate.NoBuffer a q ring position look) ∷ after)) ∙ filter_map-append (need_in a q) (filter_map fate_in before) (filter_map fate_in (entry.In from place (fate.NoBuffer a q ring position look) ∷ after)) ∙ rw (h1, h2) refl

    needed : option_map need (slice_get f.refused look) ≡ Some (record { ring = ring; position = position })
    needed = let name = same_name f.made.name.activation f.made.name.queue a q (found_passes (rx_named a q) rx f found) in
        let same : map need f.refused ≡ needs a q before ++ record { ring = ring; position = position } ∷ needs a q after = holds.0 ∙ rw (name.0, name.1) list in
        sym (slice_get-map need f.refused look) ∙ ap (λ (xs : List Need). slice_get xs look) same ∙ rw at (at_length (needs a q before) (record { ring = ring; position = position }) (needs a q after))

    step : (o : Option (ℕ × ℕ × ℕ)) → slice_get f.refused look ≡ o → (x : ℕ × ℕ × ℕ) × (slice_get f.refused look ≡ Some x) × IsCause f.made ring position x
    step None e = absurd (cc (rw e at needed))
    step (Some x) e = let refused : IsRefusal f.made x = all_at (IsRefusal f.made) f.refused look x e holds.1 in (x, e, record { needed = inner (rw e at needed); refused = refused; past = refused.1 holds.2 })
      where
        inner : Some (need x) ≡ Some (record { ring = ring; position = position }) → need x ≡ record { ring = ring; position = position }
        inner k = cc k

has_looks : (b : Beside) (setups : List Setup) (rx : List RxView) (es : List Entry) → HasFacts b rx es → AllByRecursion (Refused es) rx → (before after : List Entry) → es ≡ before ++ after → EachAfter (IsLawful b setups) before after → AllByRecursion (HasLook rx) (filter_map fate_in after)
has_looks b setups rx es facts all before [] split h = tt
has_looks b setups rx es facts all before (entry.Setting number answer setup ∷ after) split h = has_looks b setups rx es facts all (before ++ entry.Setting number answer setup ∷ []) after (split ∙ sym (append_assoc before (entry.Setting number answer setup ∷ []) after)) h.1
has_looks b setups rx es facts all before (entry.Out tag target w ∷ after) split h = has_looks b setups rx es facts all (before ++ entry.Out tag target w ∷ []) after (split ∙ sym (append_assoc before (entry.Out tag target w ∷ []) after)) h.1
has_looks b setups rx es facts all before (entry.Lost tag ∷ after) split h = has_looks b setups rx es facts all (before ++ entry.Lost tag ∷ []) after (split ∙ sym (append_assoc before (entry.Lost tag ∷ []) after)) h.1
has_looks b setups rx es facts all before (entry.In from place (fate.NoBuffer a q ring position look) ∷ after) split h =
    let named : NamedBy before h.0.0.frame a q look (state_at b.told before) = no_buffer_shown b before h.0.0.frame a q ring position look (state_at b.told before) h.0.2 in
    let there : Finds (rx_named a q) rx = rw (named.2, named.3) (facts before (entry.In from place (fate.NoBuffer a q ring position look) ∷ after) split named.0 h.0.0.frame named.1) in (
      look_here rx es before after from place a q ring position look split all named.4 there.0 there.1,
      has_looks b setups rx es facts all (before ++ entry.In from place (fate.NoBuffer a q ring position look) ∷ []) after (split ∙ sym (append_assoc before (entry.In from place (fate.NoBuffer a q ring position look) ∷ []) after)) h.1,
    )
has_looks b setups rx es facts all before (entry.In from place f ∷ after) split h = (tt, has_looks b setups rx es facts all (before ++ entry.In from place f ∷ []) after (split ∙ sym (append_assoc before (entry.In from place f ∷ []) after)) h.1)

-- ------------------------------------------------------------ the law

link_accounts : (plan : Plan) (r : RecordView) → Premises plan r → (l : LinkView) → LeavesLink r (entries_at r l.from) (entries_at r l.to) l → AccountsLink plan r (entries_at r l.from) (entries_at r l.to) l
link_accounts plan r prem l h = record {
  tags = h.tags;
  places = h.places;
  frames = all_weaker (WasTaken r l.from) (λ (x : Packet). frame_of plan x.tag ≡ Some x.frame) (λ x t. packet_frame plan r prem l.from x t) l.pushed h.taken;
  looks = h.looks;
  full = h.full;
  pulled = all_pulled r l h;
  arrivals = h.arrivals;
}

rx_accounts : (b : Beside) (p : GuestPlan) (v : GuestView) (f : RxView) → LeavesRx b p v f → AccountsRx b p v f
rx_accounts b p v f h =
    let all : f.received ≡ f.delivered = whole f.received h.met.0 f.delivered h.met.1 h.drained in
    record { made = h.made; delivered = h.delivered; received = all; refused = h.refused; looks = h.looks; handed = rw all at h.handed }

guest_accounts : (plan : Plan) (r : RecordView) → Premises plan r → (g : ℕ) (p : GuestPlan) (v : GuestView) → slice_get plan.guests g ≡ Some p → slice_get r.guests g ≡ Some v → AccountsGuest plan r g p v
guest_accounts plan r prem g p v planned' here =
    let h : LeavesGuest plan r g p v = prem.each g p v planned' here in
    let facts : HasFacts (beside r g p v) v.rx v.entries = λ before after split s f is.
    finds_rx p g p.setup.rx_queues (activation_of before) (rx_queue s.rss f) v.rx h.rx_names (activation_within p v.entries before after h.settings split) (queue_within p v.told (count is_setting before) s f h.images is) in
    record {
      tx_names = h.tx_names;
      rx_names = h.rx_names;
      tx = h.tx;
      rx = all_weaker (LeavesRx (beside r g p v) p v) (AccountsRx (beside r g p v) p v) (λ f k. rx_accounts (beside r g p v) p v f k) v.rx h.rx;
      received = h.received;
      rising = h.rising;
      owned = h.owned;
      settings = h.settings;
      images = h.images;
      tx_stats = h.tx_stats;
      rx_stats = h.rx_stats;
      told = h.told;
      opens = h.opens;
      ends = h.ends;
      lawful = h.lawful;
      causes = has_looks (beside r g p v) v.setups v.rx v.entries facts (all_weaker (LeavesRx (beside r g p v) p v) (Refused v.entries) (λ f k. (k.refused, by_recursion (IsRefusal f.made) f.refused k.looks, ap (λ (m : RxMade). m.full) k.made)) v.rx h.rx) [] v.entries refl h.lawful.each;
      handed_up = hands_up (beside r g p v) v.setups v p facts h.lawful.each (all_weaker (LeavesRx (beside r g p v) p v) (AccountsRx (beside r g p v) p v) (λ f k. rx_accounts (beside r g p v) p v f k) v.rx h.rx) h.received h.rising;
      order = keeps_order plan r prem g p v here h;
      fates = one_fate_each plan r prem g p v planned' here;
    }

pub the_law : (plan : Plan) (r : RecordView) → Premises plan r → Accounts plan r
the_law plan r h = record {
  guests = h.guests;
  link_order = h.link_order;
  links = all_weaker (λ (l : LinkView). LeavesLink r (entries_at r l.from) (entries_at r l.to) l) (λ (l : LinkView). AccountsLink plan r (entries_at r l.from) (entries_at r l.to) l) (λ l k. link_accounts plan r h l k) r.links h.links;
  each = λ g p v planned' here. guest_accounts plan r h g p v planned' here;
  flows = λ g g' p p' v v' at here at' here'. keeps_flows (beside r g p v) (beside r g' p' v') v.setups v'.setups v.entries v'.entries (h.each g p v at here).lawful.each (h.each g' p' v' at' here').lawful.each;
}
