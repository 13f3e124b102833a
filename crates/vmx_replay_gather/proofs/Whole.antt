-- The record of guests that have ended has the lists of the serial run, and accounts for the plan.
use Rattle.std.proofs.Common.{◌≡◌, ℕ, zero, suc, List, [], ◌∷◌, length, map, refl, ap, ap₂, sym, ◌∙◌, subst, Some}
use Rattle.std.specs.Option.{option_map}
use Rattle.std.specs.List.{filter, filter_map, slice_get, AllByRecursion}
use Rattle.std.proofs.lemmas.List.{length-map}
use Rattle.vmx_ends.specs.LinkView.{LinkView}
use Rattle.vmx_link.specs.Views.{LinkOutView, LinkInView}
use Rattle.vmx_model.specs.declared.guest.GuestPlan.{GuestPlan}
use Rattle.vmx_model.specs.declared.plan.Plan.{Plan}
use Rattle.vmx_model.specs.declared.journal.Entry.{Entry}
use Rattle.vmx_model.specs.declared.journal.Entry.TheVariants as entry
use Rattle.vmx_model.specs.declared.journal.Way.TheVariants as way
use Rattle.vmx_model.specs.Lists.{upto, EachAfter}
use Rattle.vmx_model.specs.Plan.{is_set}
use Rattle.vmx_model.specs.Views as model
use Rattle.vmx_model.specs.Serial.{Wire, serial_run}
use Rattle.vmx_model.specs.Record.{HasLists, wire_of}
use Rattle.vmx_model.specs.Left.{IsNotFull, OpensWithCommand, EndsWithCommand, RunsInOrder}
use Rattle.vmx_model.specs.Account.{Accounts, LeavesGuest, asked, look_to}
use Rattle.vmx_model.specs.Bags.{Agree, GuestActors, LinkActors, Actors}
use Rattle.vmx_model.specs.Stats.{tx_counts, rx_counts}
use Rattle.vmx_model.proofs.Parts.{the_law}
use Rattle.vmx_model.proofs.Linked.{premises_of}
use Rattle.vmx_model.proofs.Returned.{guest_leaves}
use Rattle.vmx_model.proofs.Copies.{all_map}
use Rattle.vmx_model.proofs.Tags.{all_map_back}
use Rattle.vmx_device_looks.specs.Queues.{all_at}
use Rattle.vmx_replay_worlds.specs.Guests.{GuestView}
use Rattle.vmx_replay_worlds.specs.Worlds.{ins_of}
use Rattle.vmx_replay_worlds.proofs.Lists.{get_map}
use Rattle.vmx_replay_calls.proofs.Runs.{run_ports, run_all}
use Rattle.vmx_replay_gather.specs.Records.{left_by, link_by, outs_in_order, record_of}
use Rattle.vmx_replay_gather.specs.Ending.{HaveEnded}
use Rattle.vmx_replay_gather.specs.Meeting.{ComeInOrder, AreOfLinks}
use Rattle.vmx_replay_gather.proofs.Mates.{mate_of, all_outs, in_order, of_links}
use Rattle.vmx_replay_gather.proofs.Lists.{HasTheLists, the_lists}
use Rattle.vmx_replay_gather.proofs.Counts.{calm, counted, beside_it, runs_so, left_so}
use Rattle.vmx_replay_gather.proofs.Actors.{is_at, told_here, says, driver_leaves, device_leaves, link_order, link_actors}

-- a journal without a full link has no look at one
no_looks : (to : ℕ) (es : List Entry) → AllByRecursion IsNotFull es → filter_map (look_to to) es ≡ []
no_looks to [] h = refl
no_looks to (entry.Out tag target (way.Full look) ∷ es) h = absurd h.0
no_looks to (entry.Out tag target (way.Link place) ∷ es) h = no_looks to es h.1
no_looks to (entry.Lost tag ∷ es) h = no_looks to es h.1
no_looks to (entry.Setting number answer setup ∷ es) h = no_looks to es h.1
no_looks to (entry.In from place f ∷ es) h = no_looks to es h.1

none_in : {X : Type 0} (xs : List X) → upto 0 (length xs) ≡ [] → xs ≡ []
none_in [] e = refl
none_in (x ∷ xs) e = absurd (cc e)

never : (ls : List LinkView) (ws : List Wire) → map wire_of ls ≡ ws → AllByRecursion (λ (l : LinkView). l.full ≡ []) ls → map (λ (l : LinkView). l.full) ls ≡ map (λ (l : Wire). []) ws
never [] [] e h = refl
never [] (w ∷ ws) e h = absurd (cc e)
never (l ∷ ls) [] e h = absurd (cc e)
never (l ∷ ls) (w ∷ ws) e h = let rest : map wire_of ls ≡ ws = cc e in ap₂ (λ x xs. x ∷ xs) h.0 (never ls ws rest h.1)

all_apply : {X : Type 0} (P Q : X → Type 0) (xs : List X) → AllByRecursion (λ x. P x → Q x) xs → AllByRecursion P xs → AllByRecursion Q xs
all_apply P Q [] f h = tt
all_apply P Q (x ∷ xs) f h = (f.0 h.0, all_apply P Q xs f.1 h.1)

-- a guest of the record is one of those that have ended
guest_of : (rs : List GuestView) (g : ℕ) (v : model.GuestView) → slice_get (map left_by rs) g ≡ Some v → (r : GuestView) × ((slice_get rs g ≡ Some r) × (left_by r ≡ v))
guest_of [] g v e = absurd (cc e)
guest_of (r ∷ rs) zero v e = (r, (refl, cc e))
guest_of (r ∷ rs) (suc g) v e = guest_of rs g v e

module _ (plan : Plan) (rs : List GuestView) (e : HaveEnded plan rs) where
  lists : HasTheLists (record_of rs) (serial_run plan)
  lists = subst (HasTheLists (record_of rs)) e.run (the_lists rs e.keeps e.over)

  order : RunsInOrder plan (counted (record_of rs))
  order = runs_so plan (record_of rs) lists

  module _ (g : ℕ) (p : GuestPlan) (r : GuestView) (planned : slice_get plan.guests g ≡ Some p) (here : slice_get rs g ≡ Some r) where
    left_here : slice_get (record_of rs).guests g ≡ Some (left_by r)
    left_here = get_map left_by rs g ∙ ap (option_map left_by) here

    beside_here : (x : model.GuestView) × (slice_get (counted (record_of rs)).guests g ≡ Some x) × (x.entries ≡ r.device.entries)
    beside_here = beside_it plan (record_of rs) lists g (left_by r) left_here

    agree : Agree p (left_by r)
    agree = let x = beside_here in record {
      told = told_here plan rs e g r here;
      settings = ap (λ (es : List Entry). filter (λ (y : ℕ × ℕ). is_set y.0) (filter_map asked es)) (sym x.2) ∙ order.settings g p x.0 planned x.1;
      opens = subst (EachAfter OpensWithCommand []) x.2 (all_at (λ (v : model.GuestView). EachAfter OpensWithCommand [] v.entries) (counted (record_of rs)).guests g x.0 x.1 order.opens);
      ends = λ closing. subst (EachAfter (EndsWithCommand p) []) x.2 (order.ends g p x.0 planned x.1 closing);
    }

    pub guest_actors : GuestActors plan (record_of rs) g p (left_by r)
    guest_actors = record { device = device_leaves plan rs e g r here p planned; driver = driver_leaves plan rs e g r here p planned; both = agree }

    pub guest_left : LeavesGuest plan (record_of rs) g p (left_by r)
    guest_left = guest_leaves plan (record_of rs) g p (left_by r) guest_actors

    none_full : AllByRecursion IsNotFull r.device.entries
    none_full = let x = beside_here in subst (AllByRecursion IsNotFull) x.2 (all_at (λ (v : model.GuestView). AllByRecursion IsNotFull v.entries) (counted (record_of rs)).guests g x.0 x.1 order.no_link_full)

  -- ------------------------------------------------------------ links

  same_long : length (record_of rs).guests ≡ length plan.guests
  same_long = length-map rs left_by ∙ e.rests.count

  plan_at : (g : ℕ) (r : GuestView) → slice_get rs g ≡ Some r → (p : GuestPlan) × (slice_get plan.guests g ≡ Some p)
  plan_at g r here = let is = is_at plan rs e g r here in (is.guest, is.there_)

  never_full : AllByRecursion (λ (l : LinkView). l.full ≡ []) (record_of rs).links
  never_full = all_map (link_by (ins_of rs)) (λ (l : LinkView). l.full ≡ []) (outs_in_order rs) (all_outs (λ (o : LinkOutView). o.full ≡ []) rs each)
    where
      each : (s j : ℕ) (r : GuestView) (o : LinkOutView) → slice_get rs s ≡ Some r → slice_get r.device.out j ≡ Some o → o.full ≡ []
      each s j r o here at =
          let p = plan_at s r here in let m = mate_of rs (run_ports plan rs e.rests.guests) (run_all plan rs e.rests.guests e.rests.count) s j r o here at in
          let says_o = all_at _ r.device.out j o at (says plan rs e s r here).sends in
          let looks = (says_o m.lies.end).looks in
          none_in o.full (sym looks ∙ no_looks o.to r.device.entries (none_full s p.0 r p.1 here))

  -- ------------------------------------------------------------ the record

  pub has_lists : HasLists (record_of rs) (serial_run plan)
  has_lists = record {
    entries = lists.entries;
    setups = lists.setups;
    received = lists.received;
    tx = lists.tx;
    rx = lists.rx;
    links = lists.links;
    tx_stats = λ g v at. (let r = guest_of rs g v at in let p = plan_at g r.0 r.1.0 in subst (λ (x : model.GuestView). x.tx_stats ≡ tx_counts x.tx x.entries) r.1.1 (guest_left g p.0 r.0 p.1 r.1.0).tx_stats);
    rx_stats = λ g v at. (let r = guest_of rs g v at in let p = plan_at g r.0 r.1.0 in subst (λ (x : model.GuestView). x.rx_stats ≡ rx_counts (record_of rs).links g x.entries) r.1.1 (guest_left g p.0 r.0 p.1 r.1.0).rx_stats);
    never_full = never (record_of rs).links (serial_run plan).wires lists.links never_full;
  }

  drained : AllByRecursion (λ (o : LinkOutView). length (link_by (ins_of rs) o).pulled ≡ length o.pushed) (outs_in_order rs)
  drained = all_map_back (link_by (ins_of rs)) (λ (l : LinkView). length l.pulled ≡ length l.pushed) (outs_in_order rs)
      (all_map_back calm (λ (l : LinkView). length l.pulled ≡ length l.pushed) (record_of rs).links (left_so plan (record_of rs) lists).links)

  actors : Actors plan (record_of rs)
  actors = record {
    guests = same_long;
    link_order = link_order plan rs e;
    links = all_map (link_by (ins_of rs)) (LinkActors (record_of rs)) (outs_in_order rs)
        (all_apply (λ (o : LinkOutView). length (link_by (ins_of rs) o).pulled ≡ length o.pushed) (λ (o : LinkOutView). LinkActors (record_of rs) (link_by (ins_of rs) o)) (outs_in_order rs) (link_actors plan rs e) drained);
    each = λ g p v planned at. (let r = guest_of rs g v at in subst (GuestActors plan (record_of rs) g p) r.1.1 (guest_actors g p r.0 planned r.1.0));
  }

  pub accounts : Accounts plan (record_of rs)
  accounts = the_law plan (record_of rs) (premises_of plan (record_of rs) actors)

-- ------------------------------------------------------------ the call

-- what was left of all guests, and their links that have met, are the record
pub is_record : (rs : List GuestView) (guests : List model.GuestView) (links : List LinkView) (outs : List LinkOutView) (ins : List (List LinkInView)) → guests ≡ map left_by rs → outs ≡ outs_in_order rs → ins ≡ ins_of rs → links ≡ map (link_by ins) outs
    → record { guests = guests; links = links } ≡ record_of rs
is_record rs guests links outs ins a b c d =
    let all : links ≡ map (link_by (ins_of rs)) (outs_in_order rs) = d ∙ ap₂ (λ (x : List (List LinkInView)) (y : List LinkOutView). map (link_by x) y) c b in
    ap₂ (λ (x : List model.GuestView) (y : List LinkView). record { guests = x; links = y }) a all

-- so the ends may meet
module _ (plan : Plan) (rs : List GuestView) (e : HaveEnded plan rs) (outs : List LinkOutView) (ins : List (List LinkInView)) (a : outs ≡ outs_in_order rs) (b : ins ≡ ins_of rs) where
  pub ordered : ComeInOrder outs ins
  ordered = subst (λ (x : List LinkOutView × List (List LinkInView)). ComeInOrder x.0 x.1) (λ i. (sym a i, sym b i)) (in_order rs (run_ports plan rs e.rests.guests) (run_all plan rs e.rests.guests e.rests.count))

  pub linked : AreOfLinks ins outs ins
  linked = subst (λ (x : List LinkOutView × List (List LinkInView)). AreOfLinks x.1 x.0 x.1) (λ i. (sym a i, sym b i)) (of_links rs (run_ports plan rs e.rests.guests) (run_all plan rs e.rests.guests e.rests.count) e.rests.links e.sound)
