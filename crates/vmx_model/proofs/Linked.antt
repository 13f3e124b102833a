-- What the actors leave are the premises of the law: a packet on a link has the frame that its sender's device took.
use Rattle.std.proofs.Common.{◌≡◌, ℕ, suc, List, [], ◌∷◌, map, refl, sym, true, Option, Some, None}
use Rattle.std.specs.List.{AllByRecursion, filter_map, find, slice_get}
use Rattle.vmx_ends.specs.Frames.{sent_of}
use Rattle.vmx_ends.specs.Transmit.{TxView}
use Rattle.vmx_ends.specs.LinkView.{LinkView}
use Rattle.vmx_model.specs.Types.{Plan, GuestPlan, Packet, Tag}
use Rattle.vmx_model.specs.Totals.{wiring}
use Rattle.vmx_model.specs.Views.{GuestView, RecordView}
use Rattle.vmx_model.specs.Fates.{tx_named, entries_at}
use Rattle.vmx_model.specs.Account.{Send, send_of, tag_to, beside, IsOfEnd, WasTaken, LeavesLink, Premises}
use Rattle.vmx_model.specs.Bags.{FactsSayTx, GuestActors, LinkActors, Actors}
use Rattle.vmx_model.proofs.Lists.{all_weaker}
use Rattle.vmx_model.proofs.Found.{found_passes, found_holds}
use Rattle.vmx_model.proofs.Copies.{same_name, all_at}
use Rattle.vmx_model.proofs.Tags.{all_map_back, tags_all}
use Rattle.vmx_model.proofs.Fates.{goes_to}
use Rattle.vmx_model.proofs.Parts.{plan_of}
use Rattle.vmx_model.proofs.Returned.{IsOwned, all_owned, facts_say, guest_leaves}

all_from : {X : Type 0} (P : X → Type 0) (xs : List X) → ((i : ℕ) (x : X) → slice_get xs i ≡ Some x → P x) → AllByRecursion P xs
all_from P [] k = tt
all_from P (x ∷ xs) k = (k 0 x refl, all_from P xs (λ i y at. k (suc i) y at))

-- a tag's frame is the guest's, of a queue that has facts
abbrev OwnTag : ℕ → List TxView → Tag → Type 0
OwnTag g tx t = (t.guest ≡ g) × ((f : TxView) × (find (tx_named t.activation t.queue) tx ≡ Some f))

-- the packets of a guest's link
link_taken : (plan : Plan) (r : RecordView) (p : GuestPlan) (v : GuestView) (i : ℕ) (l : LinkView) → slice_get r.links i ≡ Some l → slice_get r.guests l.from ≡ Some v → GuestActors plan r l.from p v
    → map (λ (x : Packet). x.tag) l.pushed ≡ filter_map (tag_to l.to) v.entries → AllByRecursion (WasTaken r l.from) l.pushed
link_taken plan r p v i l at here actors tags =
    let owned = all_owned plan r l.from p v actors in
    let on_link : AllByRecursion (OwnTag l.from v.tx) (filter_map (tag_to l.to) v.entries) = tags_all l.to (OwnTag l.from v.tx) v.entries
    (all_weaker (IsOwned l.from v.tx) (λ (s : Send). goes_to l.to s.target ≡ true → OwnTag l.from v.tx s.tag) (λ s k e. k) (filter_map send_of v.entries) owned) in
    let packets : AllByRecursion (λ (x : Packet). OwnTag l.from v.tx x.tag) l.pushed = all_map_back (λ (x : Packet). x.tag) (OwnTag l.from v.tx) l.pushed (rw tags on_link) in
    let facts = (facts_say plan r l.from p v actors).0 in
    all_from (WasTaken r l.from) l.pushed (λ j x there.
    let own = all_at (λ (x : Packet). OwnTag l.from v.tx x.tag) l.pushed j x there packets in
    let f : TxView = own.1.0 in
    let says : FactsSayTx (wiring plan.guests) (beside r l.from p v) v.entries f = found_holds (FactsSayTx (wiring plan.guests) (beside r l.from p v) v.entries) (tx_named x.tag.activation x.tag.queue) v.tx f own.1.1 facts in
    let name = same_name f.made.name.activation f.made.name.queue x.tag.activation x.tag.queue (found_passes (tx_named x.tag.activation x.tag.queue) v.tx f own.1.1) in
    let pushed = all_at (λ (l' : LinkView). l'.from ≡ l.from → AllByRecursion (IsOfEnd l.from f.made.name.activation f.made.name.queue (sent_of f.taken)) l'.pushed) r.links i l at says.packets refl in
    let is = all_at (IsOfEnd l.from f.made.name.activation f.made.name.queue (sent_of f.taken)) l.pushed j x there pushed (sym name.0) (sym name.1) in
    (own.0, rw here (f, own.1.1, is.1)))

none_pushed : (r : RecordView) (g : ℕ) (xs : List Packet) → map (λ (x : Packet). x.tag) xs ≡ [] → AllByRecursion (WasTaken r g) xs
none_pushed r g [] e = tt
none_pushed r g (x ∷ xs) e = absurd (cc e)

-- a link leaves what its actors say
link_leaves : (plan : Plan) (r : RecordView) → Actors plan r → (i : ℕ) (l : LinkView) → slice_get r.links i ≡ Some l → LinkActors r l → LeavesLink r (entries_at r l.from) (entries_at r l.to) l
link_leaves plan r actors i l at h = record {
  tags = h.sends.tags;
  places = h.sends.places;
  taken = step (slice_get r.guests l.from) refl;
  looks = h.sends.looks;
  full = h.sends.full;
  met = h.meets.met;
  drained = h.meets.drained;
  arrivals = h.pulls.arrivals;
}
  where
    step : (o : Option GuestView) → slice_get r.guests l.from ≡ o → AllByRecursion (WasTaken r l.from) l.pushed
    step None e = none_pushed r l.from l.pushed (rw e at h.sends.tags)
    step (Some v) e = let p = plan_of plan r l.from v actors.guests e in link_taken plan r p.0 v i l at e (actors.each l.from p.0 v p.1 e) (rw e at h.sends.tags)

pub premises_of : (plan : Plan) (r : RecordView) → Actors plan r → Premises plan r
premises_of plan r actors = record {
  guests = actors.guests;
  link_order = actors.link_order;
  links = all_from (λ (l : LinkView). LeavesLink r (entries_at r l.from) (entries_at r l.to) l) r.links (λ i l at. link_leaves plan r actors i l at (all_at (LinkActors r) r.links i l at actors.links));
  each = λ g p v planned' here. guest_leaves plan r g p v (actors.each g p v planned' here);
}
