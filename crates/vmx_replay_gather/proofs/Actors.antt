-- What the actors of guests that have ended leave in their record.
use Rattle.std.proofs.Common.{◌≡◌, ◌≢◌, ℕ, suc, ◌<◌, true, List, [], ◌∷◌, length, map, refl, ap, ap₂, sym, ◌∙◌, subst, arith, append-nil, nat_eq, Option, Some, None, inl, inr}
use Rattle.std.specs.Option.{option_map, option_and_then}
use Rattle.std.specs.List.{find, filter_map, flat_map, slice_get, AllByRecursion}
use Rattle.std.proofs.lemmas.Bool.{eq-eqb, ne_eqb}
use Rattle.std.proofs.lemmas.Bool.Decides.{eqb_tells}
use Rattle.vmx_ends.specs.LinkView.{LinkView}
use Rattle.vmx_link.specs.Views.{LinkOutView, LinkInView}
use Rattle.vmx_link.specs.Ends.{met_view}
use Rattle.vmx_machine_state.specs.Views.{ActiveView, ends_of}
use Rattle.vmx_switch.specs.Ports.{Wiring}
use Rattle.vmx_model.specs.Types.{Packet}
use Rattle.vmx_model.specs.declared.guest.GuestPlan.{GuestPlan}
use Rattle.vmx_model.specs.declared.plan.Plan.{Plan}
use Rattle.vmx_model.specs.declared.journal.Entry.{Entry}
use Rattle.vmx_model.specs.Lists.{upto}
use Rattle.vmx_model.specs.Totals.{wiring}
use Rattle.vmx_model.specs.Journal.{Beside, is_link, packet_at}
use Rattle.vmx_model.specs.Fates.{entries_or_none, entries_at}
use Rattle.vmx_model.specs.Account.{asked, beside, link_names, SendsOnto, PullsFrom}
use Rattle.vmx_model.specs.Bags.{EachQueue, DeviceLeaves, DriverLeaves, LinkActors}
use Rattle.vmx_model.proofs.Copies.{same_name, all_map}
use Rattle.vmx_model.proofs.Found.{Finds, found_holds, found_passes, finds_link}
use Rattle.vmx_device_looks.specs.Ports.{other}
use Rattle.vmx_device_looks.specs.PortLaws.{other_not}
use Rattle.vmx_device_looks.specs.Queues.{all_at, get_lt}
use Rattle.vmx_device_laws.specs.Views.{own_link}
use Rattle.vmx_device_laws.specs.Leaves.{HasEnded, LinksSay}
use Rattle.vmx_device_laws.proofs.Parting.{leaves, links_say}
use Rattle.vmx_device_laws.proofs.PairingIn.{some_same}
use Rattle.vmx_driver_steps.specs.declared.progress.Stage.{Stage}
use Rattle.vmx_driver_steps.specs.declared.progress.Stage.TheVariants.{Fresh, Active, Stopping, Held, Quiet, Ended}
use Rattle.vmx_driver_steps.specs.Progress.{is_over, is_over_in}
use Rattle.vmx_driver_steps.specs.Leaves as driver
use Rattle.vmx_actor_laws.specs.Joint.{AreCaughtUp, GoWith}
use Rattle.vmx_actor_laws.proofs.Joint.{leads_its_device}
use Rattle.vmx_replay_worlds.specs.Guests.{GuestView}
use Rattle.vmx_replay_worlds.specs.Worlds.{pulled_by, input_by, ins_of}
use Rattle.vmx_replay_worlds.specs.Ports.{IsInTo, IsAtPort, AreAtPorts, HasAll, Lies}
use Rattle.vmx_replay_worlds.proofs.Lists.{each_there, get_map, map_map}
use Rattle.vmx_replay_worlds.proofs.Moved.{at_port}
use Rattle.vmx_replay_worlds.proofs.Linked.{other_below}
use Rattle.vmx_replay_settled.specs.Settled.{BothKeep}
use Rattle.vmx_replay_calls.specs.Resting.{IsGuestAt, Rests}
use Rattle.vmx_replay_calls.proofs.Runs.{run_ports, run_all, guest_at}
use Rattle.vmx_replay_kept.specs.Sound.{IsSound}
use Rattle.vmx_replay_gather.specs.Records.{left_by, link_by, outs_in_order, record_of}
use Rattle.vmx_replay_gather.specs.Ending.{HaveEnded}
use Rattle.vmx_replay_gather.proofs.Rows.{all_names}
use Rattle.vmx_replay_gather.proofs.Mates.{mate_of, all_outs}
use Rattle.vmx_replay_gather.proofs.Lists.{stage_over}

-- ------------------------------------------------------------ a device's own links

-- a packet that a device pulled is at its place on one of its links
record IsOwn (from : ℕ) (is : List LinkInView) (place : ℕ) (p : Packet) : Type 0 where
  end : LinkInView
  number : ℕ
  at : slice_get is number ≡ Some end
  from_is : end.from ≡ from
  found : input_by from (Some is) ≡ Some end
  there_ : slice_get end.pulled place ≡ Some p

own_found : (from port n : ℕ) (is : List LinkInView) → EachQueue (IsInTo port) n is → (place : ℕ) (p : Packet) → packet_at (map own_link is) from port place ≡ Some p → IsOwn from is place p
own_found from port n [] h place p at = absurd (cc at)
own_found from port n (i ∷ is) h place p at = elim (eqb_tells i.from from) [
  | inl same ↦ (
      let to : nat_eq i.to port ≡ true = eq-eqb i.to port h.0.0 in
      record { end = i; number = 0; at = refl; from_is = same.1; found = rw same.0 refl; there_ = rw (same.0, to) at at }
      )
  | inr away ↦ (
      let own = own_found from port (suc n) is h.1 place p (rw away.0 at at) in
      record { end = own.end; number = suc own.number; at = own.at; from_is = own.from_is; found = rw away.0 own.found; there_ = own.there_ }
      )
]

-- ------------------------------------------------------------ one guest

none_held : (o : Option ActiveView) → option_map (λ (a : ActiveView). a.ends) o ≡ None → o ≡ None
none_held None e = refl
none_held (Some a) e = absurd (cc e)

-- a device whose driver is over holds no ends
pub idle_of : (r : GuestView) → BothKeep r.driver r.device → AreCaughtUp r.driver r.device → is_over r.driver.at ≡ true → r.device.machine.active ≡ None
idle_of r keeps up over = by_stage r.driver.at.stage (stage_over r keeps.driver over) (leads_its_device r.driver r.device keeps.driver keeps.device up).ends
  where
    by_stage : (g : Stage) → is_over_in g ≡ true → GoWith g r.driver (ends_of r.device.machine) → r.device.machine.active ≡ None
    by_stage Quiet on h = none_held r.device.machine.active h
    by_stage Ended on h = none_held r.device.machine.active h
    by_stage Fresh on h = none_held r.device.machine.active h
    by_stage (Stopping t) on h = none_held r.device.machine.active h
    by_stage (Held t) on h = none_held r.device.machine.active h
    by_stage Active on h = absurd (cc on)

module _ (plan : Plan) (rs : List GuestView) (e : HaveEnded plan rs) where
  ports : AreAtPorts rs
  ports = run_ports plan rs e.rests.guests

  all : AllByRecursion (HasAll (length rs)) rs
  all = run_all plan rs e.rests.guests e.rests.count

  -- ------------------------------------------------------------ the guest at a port

  module _ (g : ℕ) (r : GuestView) (here : slice_get rs g ≡ Some r) where
    pub is_at : IsGuestAt plan g r
    is_at = guest_at plan rs g r e.rests.guests here

    keeps : BothKeep r.driver r.device
    keeps = all_at (λ (x : GuestView). BothKeep x.driver x.device) rs g r here e.keeps

    rests : Rests r
    rests = all_at Rests rs g r here e.rests.rest

    over : is_over r.driver.at ≡ true
    over = all_at (λ (x : GuestView). is_over x.driver.at ≡ true) rs g r here e.over

    sound : IsSound r.device
    sound = all_at (λ (x : GuestView). IsSound x.device) rs g r here e.sound

    pub idle : r.device.machine.active ≡ None
    idle = idle_of r keeps rests.caught_up over

    pub says : LinksSay r.device
    says = links_say r.device keeps.device

    left_here : slice_get (record_of rs).guests g ≡ Some (left_by r)
    left_here = get_map left_by rs g ∙ ap (option_map left_by) here

    pub entries_here : entries_at (record_of rs) g ≡ r.device.entries
    entries_here = ap entries_or_none left_here

    -- the commands of its journal are those of its registers
    pub told_here : filter_map asked r.device.entries ≡ map (λ (t : _). (t.command.number, t.answer.value)) r.driver.calls.turns
    told_here = keeps.device.told ∙ ap (map (λ (t : _). (t.command.number, t.answer.value))) (sym rests.caught_up.same)

    pub driver_leaves : (p : GuestPlan) → slice_get plan.guests g ≡ Some p → DriverLeaves g p (left_by r)
    driver_leaves p planned =
        let same : r.driver.plan ≡ p = is_at.planned ∙ some_same (slice_get plan.guests g) is_at.guest p is_at.there_ planned in
        subst (λ (x : ℕ × GuestPlan). DriverLeaves x.0 x.1 (left_by r)) (λ i. (is_at.number i, same i))
        (driver.leaves r.driver keeps.driver over rests.caught_up.none (left_by r) (refl, refl, refl, refl))

  -- ------------------------------------------------------------ the links

  abbrev pub links : List LinkView
  links = (record_of rs).links

  pub link_order : map (λ (l : LinkView). (l.from, l.to)) links ≡ flat_map (link_names (length plan.guests)) (upto 0 (length plan.guests))
  link_order =
      map_map (λ (l : LinkView). (l.from, l.to)) (link_by (ins_of rs)) (outs_in_order rs) ∙ all_names (length rs) 0 rs all ports (omega arith)
      ∙ ap (λ (n : ℕ). flat_map (link_names n) (upto 0 n)) e.rests.count

  -- what a link pulled its receiver's end did
  pulled_so : AllByRecursion (λ (l : LinkView). l.pulled ≡ pulled_by (input_by l.from (slice_get (ins_of rs) l.to))) links
  pulled_so = all_map (link_by (ins_of rs)) (λ (l : LinkView). l.pulled ≡ pulled_by (input_by l.from (slice_get (ins_of rs) l.to))) (outs_in_order rs)
      (all_outs (λ (o : LinkOutView). pulled_by (input_by o.from (slice_get (ins_of rs) o.to)) ≡ pulled_by (input_by o.from (slice_get (ins_of rs) o.to))) rs (λ s j r o here at. refl))

  -- what a link of a guest pushed is what its end did
  sent_so : (g : ℕ) (r : GuestView) → slice_get rs g ≡ Some r → AllByRecursion (λ (l : LinkView). l.from ≡ r.device.port → (k : ℕ) × ((o : LinkOutView) × (slice_get r.device.out k ≡ Some o) × (l.pushed ≡ o.pushed))) links
  sent_so g r here =
      all_map (link_by (ins_of rs)) (λ (l : LinkView). l.from ≡ r.device.port → (k : ℕ) × ((o : LinkOutView) × (slice_get r.device.out k ≡ Some o) × (l.pushed ≡ o.pushed))) (outs_in_order rs)
      (all_outs (λ (x : LinkOutView). x.from ≡ r.device.port → (k : ℕ) × ((o : LinkOutView) × (slice_get r.device.out k ≡ Some o) × (x.pushed ≡ o.pushed))) rs (λ s j y x there_ at from.
      let m = mate_of rs ports all s j y x there_ at in
      let number : s ≡ g = sym m.from ∙ from ∙ (at_port g rs r ports here).device in
      let same : y ≡ r = some_same (slice_get rs g) y r (ap (slice_get rs) (sym number) ∙ there_) here in
      (j, (x, ap (λ (z : GuestView). slice_get z.device.out j) (sym same) ∙ at, refl))))

  -- the record's link between two ports pulled what this end did
  record IsLinkIn (from to : ℕ) (i : LinkInView) : Type 0 where
    link : LinkView
    found : find (is_link from to) links ≡ Some link
    same : link.pulled ≡ i.pulled

  -- a packet that a device pulled stands at its place on the record's link
  module _ (g : ℕ) (r : GuestView) (here : slice_get rs g ≡ Some r) where
    found_link : (from : ℕ) (i : LinkInView) → input_by from (Some r.device.input) ≡ Some i → from < length plan.guests → g < length plan.guests → g ≢ from → IsLinkIn from g i
    found_link from i found low high apart =
        let l : Finds (is_link from g) links = finds_link (length plan.guests) from g links link_order low high (ne_eqb g from apart) in
        let name = same_name l.0.from l.0.to from g (found_passes (is_link from g) links l.0 l.1) in
        let ins : slice_get (ins_of rs) g ≡ Some r.device.input = get_map (λ (x : GuestView). x.device.input) rs g ∙ ap (option_map (λ (x : GuestView). x.device.input)) here in
        record {
          link = l.0;
          found = l.1;
          same = found_holds (λ (x : LinkView). x.pulled ≡ pulled_by (input_by x.from (slice_get (ins_of rs) x.to))) (is_link from g) links l.0 l.1 pulled_so
              ∙ ap₂ (λ (a b : ℕ). pulled_by (input_by a (slice_get (ins_of rs) b))) name.0 name.1 ∙ ap (λ (x : Option (List LinkInView)). pulled_by (input_by from x)) ins ∙ ap pulled_by found;
        }

    -- the device finds its own link as the record's
    packet_stays : (from place : ℕ) (p : Packet) → IsOwn from r.device.input place p → packet_at links from g place ≡ Some p
    packet_stays from place p own =
        let in_at : IsInTo g own.number own.end = each_there (IsInTo g) 0 own.number own.number r.device.input own.end (omega arith) (at_port g rs r ports here).input own.at in
        let is : from ≡ other g own.number = sym own.from_is ∙ in_at.1 in
        let high : g < length rs = get_lt rs g r here in
        let many : suc (length r.device.input) ≡ length rs = (all_at (HasAll (length rs)) rs g r here all).input in
        let lt : own.number < length r.device.input = get_lt r.device.input own.number own.end own.at in
        let count = e.rests.count in
        let low : from < length rs = other_below g own.number from (length rs) is (omega (arith, lt, many)) in
        let l = found_link from own.end own.found (omega (arith, low, count)) (omega (arith, high, count)) (λ z. other_not g own.number (sym is ∙ sym z)) in
        ap (option_and_then (λ (x : LinkView). slice_get x.pulled place)) l.found ∙ ap (λ (ps : List Packet). slice_get ps place) l.same ∙ own.there_

    packets_stay : (from place : ℕ) (p : Packet) → packet_at (map own_link r.device.input) from r.device.port place ≡ Some p → packet_at links from g place ≡ Some p
    packets_stay from place p at =
        let is : IsAtPort g r = at_port g rs r ports here in
        packet_stays from place p (own_found from g 0 r.device.input is.input place p (ap (λ (n : ℕ). packet_at (map own_link r.device.input) from n place) (sym is.device) ∙ at))

    pub ended : (p : GuestPlan) → slice_get plan.guests g ≡ Some p → HasEnded r.device (beside (record_of rs) g p (left_by r))
    ended p planned = let is = is_at g r here in record {
      idle = idle g r here;
      told = (rests g r here).caught_up.same;
      trusted = (sound g r here).bags;
      extends = record {
        port = sym (at_port g rs r ports here).device;
        mac = sym (is.mac ∙ ap (λ (x : GuestPlan). x.mac) (some_same (slice_get plan.guests g) is.guest p is.there_ planned));
        stopped = refl;
        more = [];
        told = (rests g r here).caught_up.same ∙ sym (append-nil r.device.calls.served);
        links = packets_stay;
      };
      sent = sent_so g r here;
    }

    pub device_leaves : (p : GuestPlan) → slice_get plan.guests g ≡ Some p → DeviceLeaves (wiring plan.guests) (beside (record_of rs) g p (left_by r)) (left_by r)
    device_leaves p planned =
        let b : Beside = beside (record_of rs) g p (left_by r) in
        subst (λ (w : Wiring). DeviceLeaves w b (left_by r)) (is_at g r here).table
        (leaves r.device b (keeps g r here).device (ended p planned) (left_by r) (record { entries = refl; setups = refl; told = (rests g r here).caught_up.same; tx_stats = refl; rx_stats = refl }))

  -- ------------------------------------------------------------ a link's two devices, and its meeting

  -- one where as many packets were pulled as pushed
  abbrev pub DrainedOut : LinkOutView → Type 0
  DrainedOut o = length (link_by (ins_of rs) o).pulled ≡ length o.pushed

  pub link_actors : AllByRecursion (λ (o : LinkOutView). DrainedOut o → LinkActors (record_of rs) (link_by (ins_of rs) o)) (outs_in_order rs)
  link_actors = all_outs (λ (o : LinkOutView). DrainedOut o → LinkActors (record_of rs) (link_by (ins_of rs) o)) rs each
    where
      each : (s j : ℕ) (r : GuestView) (o : LinkOutView) → slice_get rs s ≡ Some r → slice_get r.device.out j ≡ Some o → DrainedOut o → LinkActors (record_of rs) (link_by (ins_of rs) o)
      each s j r o here at drained =
          let m = mate_of rs ports all s j r o here at in let l : Lies rs s o.to = m.lies in let i : LinkInView = l.end in
          let is : met_view o i ≡ link_by (ins_of rs) o = ap (λ (x : Option LinkInView). record { from = o.from; to = o.to; pushed = o.pushed; pulled = pulled_by x; full = o.full }) (sym m.input) in
          let known = e.rests.links s o.to l in
          let in_at : IsInTo o.to l.k i = each_there (IsInTo o.to) 0 l.k l.k l.receiver.device.input i (omega arith) (at_port o.to rs l.receiver ports l.receiver_at).input l.end_at in
          let sends : SendsOnto r.device.entries (met_view o i) = all_at (λ (x : LinkOutView). (y : LinkInView) → SendsOnto r.device.entries (met_view x y)) r.device.out j o at (says s r here).sends i in
          let pulls : PullsFrom l.receiver.device.entries (met_view o i) = all_at (λ (y : LinkInView). (x : LinkOutView) → x.from ≡ y.from → PullsFrom l.receiver.device.entries (met_view x y)) l.receiver.device.input l.k i l.end_at (says o.to l.receiver l.receiver_at).pulls o (m.from ∙ l.from_is ∙ sym in_at.1) in
          let sent : entries_at (record_of rs) o.from ≡ r.device.entries = ap (entries_at (record_of rs)) m.from ∙ entries_here s r here in
          let came : entries_at (record_of rs) o.to ≡ l.receiver.device.entries = entries_here o.to l.receiver l.receiver_at in
          let within = known.within in
          subst (LinkActors (record_of rs)) is (record {
            sends = subst (λ (es : List Entry). SendsOnto es (met_view o i)) (sym sent) sends;
            pulls = subst (λ (es : List Entry). PullsFrom es (met_view o i)) (sym came) pulls;
            meets = record {
              met = (within.0, within.1 ∙ ap (λ (x : LinkOutView). x.pushed) m.link);
              drained = ap (λ (x : LinkView). length x.pulled) is ∙ drained;
            };
          })
