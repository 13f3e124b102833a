-- A look: a packet that waits on a link comes in, and where none waits nothing changes.
use Rattle.std.proofs.Common.{◌≡◌, ◌≢◌, ℕ, suc, ◌<◌, Bool, true, false, List, [], ◌∷◌, ◌++◌, length, length-append, set, refl, sym, ap, ◌∙◌, subst, arith, append-nil, append_assoc, nat_lt, Some, None, Option, inl, inr}
use Rattle.std.specs.Prelude.{is_some}
use Rattle.std.specs.List.{slice_get, AllByRecursion}
use Rattle.std.proofs.lemmas.Bool.Decides.{nat_tests, eqb_tells}
use mathlib.Core.List.{IsPrefix}
use Rattle.vmx_ends.specs.declared.packet.Packet.{Packet}
use Rattle.vmx_link.specs.Views.{LinkOutView, LinkInView}
use Rattle.vmx_model.specs.declared.plan.Plan.{Plan}
use Rattle.vmx_model.specs.declared.journal.Entry.{Entry}
use Rattle.vmx_model.specs.Bags.{Pairwise}
use Rattle.vmx_model.specs.Record.{carried_of}
use Rattle.vmx_model.specs.Serial.{Seat, World, Carried, Wire, at_number, mac_of, mac_or_none}
use Rattle.vmx_model.specs.Turns.{IsEmptied, comes_in, next_on}
use Rattle.vmx_device_looks.specs.Ports.{other}
use Rattle.vmx_device_looks.specs.Queues.{all_at, all_set, get_lt}
use Rattle.vmx_device_laws.proofs.PairingIn.{some_same}
use Rattle.vmx_note_laws.specs.Links.{IsToldLink}
use Rattle.vmx_replay_runs.specs.Runs.{looked, ComesFrom}
use Rattle.vmx_replay_worlds.specs.Guests.{GuestView, seat_of}
use Rattle.vmx_replay_worlds.specs.Worlds.{out_parts, in_parts, world_of}
use Rattle.vmx_replay_worlds.specs.Moves.{IsSameGuest, Waits, TakesOn, part_pulls}
use Rattle.vmx_replay_worlds.specs.Ports.{AreAtPorts, HasAll, Lies, IsLinkOf, IsBare}
use Rattle.vmx_replay_worlds.proofs.Moved.{guest_same}
use Rattle.vmx_replay_worlds.proofs.In.{next_is, none_is, takes_is}
use Rattle.vmx_replay_worlds.proofs.Linked.{lies_between, link_is, others_are}
use Rattle.vmx_replay_steps.specs.Turns.{LooksBetween, WasTakenIn, RestsAfter}
use Rattle.vmx_replay_steps.proofs.Looks.{looks}
use Rattle.vmx_replay_steps.proofs.Idled.{idles}
use Rattle.vmx_replay_calls.proofs.Steps.{IsNearGuest, AreNear, Turned, Looked}
use Rattle.vmx_replay_calls.proofs.Outcomes.{LookedSo}
use Rattle.vmx_replay_calls.specs.Resting.{guest_of, IsGuestAt, Rests, MayTurn, RunRests}
use Rattle.vmx_replay_calls.proofs.Pairs.{pair_length}
use Rattle.vmx_replay_calls.proofs.Near.{told_near, told_link, near_world}
use Rattle.vmx_replay_calls.proofs.Notes.{same_trans, stands_of, may_turn}
use Rattle.vmx_replay_calls.proofs.Runs.{run_ports, run_all, guest_at, near_run, turned_run}
use Rattle.vmx_replay_calls.proofs.Turned as turned

-- ------------------------------------------------------------ pairs

pair_all : {X Y : Type 0} (R S : X → Y → Type 0) (xs : List X) (ys : List Y) → Pairwise R xs ys → ((n : ℕ) (x : X) (y : Y) → slice_get xs n ≡ Some x → slice_get ys n ≡ Some y → R x y → S x y) → Pairwise S xs ys
pair_all R S [] [] h f = tt
pair_all R S [] (y ∷ ys) h f = absurd h
pair_all R S (x ∷ xs) [] h f = absurd h
pair_all R S (x ∷ xs) (y ∷ ys) h f = (f 0 x y refl refl h.0, pair_all R S xs ys h.1 (λ n a b e g r. f (suc n) a b e g r))

not_longer : (n : ℕ) → nat_lt n n ≡ false
not_longer n = grind (arith, nat_tests)

one_longer : (es : List Entry) (e : Entry) → nat_lt (length es) (length (es ++ e ∷ [])) ≡ true
one_longer es e = let l = length-append es (e ∷ []) in let lt : length es < length (es ++ e ∷ []) = omega (arith, l) in grind (arith, nat_tests)

-- ------------------------------------------------------------ a look

module _ (plan : Plan) (from to : ℕ) (worked : Bool) (rs rs' : List GuestView) (run : RunRests plan rs) (comes : ComesFrom from (world_of rs)) (apart : to ≢ from) (l : Looked from to worked rs rs') where
  abbrev t : Turned to l.guest worked l.mid rs'
  t = l.turned

  near : AreNear rs l.mid
  near = told_near from to rs l.mid l.first

  mid_run : RunRests plan l.mid
  mid_run = near_run plan rs l.mid near run

  mid_same : world_of l.mid ≡ world_of rs
  mid_same = near_world rs l.mid near

  mid_ports : AreAtPorts l.mid
  mid_ports = run_ports plan l.mid mid_run.guests

  mid_all : AllByRecursion (HasAll (length l.mid)) l.mid
  mid_all = run_all plan l.mid mid_run.guests mid_run.count

  rest : Rests l.guest
  rest = all_at Rests l.mid to l.guest t.at mid_run.rest

  may : MayTurn l.guest
  may = may_turn l.guest rest t.keep

  all_rest : Rests t.told → AllByRecursion Rests (set l.mid to t.told)
  all_rest h = all_set Rests l.mid to t.told h mid_run.rest

  lies : Lies l.mid from to
  lies =
      let many = pair_length IsNearGuest rs l.mid near in let low = get_lt rs from l.first.sender l.first.sender_at in let high = get_lt l.mid to l.guest t.at in
      lies_between l.mid from to mid_ports mid_all (omega (arith, many, low)) high apart

  receiver : lies.receiver ≡ l.guest
  receiver = some_same (slice_get l.mid to) lies.receiver l.guest lies.receiver_at t.at

  told : IsToldLink lies.link lies.end
  told = told_link from to rs l.mid l.first (run_ports plan rs run.guests) apart lies

  abbrev ls : (x : List LinkOutView) × Pairwise (IsLinkOf l.mid to) x l.guest.device.input
  ls = turned.links to l.guest worked l.mid rs' t may mid_ports mid_all

  ls' : Pairwise (IsLinkOf l.mid to) ls.0 lies.receiver.device.input
  ls' = subst (λ (g : GuestView). Pairwise (IsLinkOf l.mid to) ls.0 g.device.input) (sym receiver) ls.1

  wires : AllByRecursion (λ (w : Wire). w.from ≢ from → IsEmptied w) (world_of l.mid).wires
  wires = subst (λ (w : World). ComesFrom from w) (sym mid_same) comes

  link_at : slice_get ls.0 lies.k ≡ Some lies.link
  link_at = link_is l.mid from to lies ls.0 mid_ports ls'

  end_at : slice_get l.guest.device.input lies.k ≡ Some lies.end
  end_at = ap (λ (g : GuestView). slice_get g.device.input lies.k) (sym receiver) ∙ lies.end_at

  others : (n : ℕ) (o : LinkOutView) (i : LinkInView) → n ≢ lies.k → slice_get ls.0 n ≡ Some o → slice_get l.guest.device.input n ≡ Some i → IsBare o i
  others n o i ne at_o at_i = others_are l.mid from to lies ls.0 mid_ports ls' wires n o i ne at_o (ap (λ (g : GuestView). slice_get g.device.input n) receiver ∙ at_i)

  abbrev after : List GuestView
  after = set l.mid to t.told

  after_same : world_of rs' ≡ world_of after
  after_same = near_world after rs' (turned.near_after to l.guest worked l.mid rs' t may mid_ports mid_all)

  -- nothing waits
  module _ (bare : IsBare lies.link lies.end) where
    all_bare : Pairwise IsBare ls.0 l.guest.device.input
    all_bare = pair_all (IsLinkOf l.mid to) IsBare ls.0 l.guest.device.input ls.1 (λ n o i at_o at_i h. elim (eqb_tells n lies.k) [
      | inl same ↦ (
          let o_is : o ≡ lies.link = some_same (slice_get ls.0 lies.k) o lies.link (ap (slice_get ls.0) (sym same.1) ∙ at_o) link_at in
          let i_is : i ≡ lies.end = some_same (slice_get l.guest.device.input lies.k) i lies.end (ap (slice_get l.guest.device.input) (sym same.1) ∙ at_i) end_at in
          subst (λ (x : LinkOutView × LinkInView). IsBare x.0 x.1) (λ j. (sym o_is j, sym i_is j)) bare
          )
      | inr away ↦ others n o i (away.1) at_o at_i
    ])

    rests : RestsAfter l.guest.driver l.guest.device t.device
    rests = idles l.guest.driver ls.0 worked l.guest.device t.device (record { stands = stands_of l.guest rest t.keep; bare = all_bare; once = t.once; heard = turned.heard to l.guest worked l.mid rs' t may mid_ports mid_all })

    same : IsSameGuest l.guest t.told
    same = same_trans l.guest (guest_of l.guest.driver t.device) t.told rests.same (turned.told_same to l.guest worked l.mid rs' t may)

    none : next_on (world_of rs).wires from to ≡ None
    none = ap (λ (w : World). next_on w.wires from to) (sym mid_same) ∙ none_is l.mid from to lies mid_ports bare

    looked_none : LookedSo plan from to worked rs rs' l
    looked_none = record {
      world = after_same ∙ guest_same l.mid to l.guest t.told t.at same ∙ mid_same ∙ ap (looked plan from to (world_of rs)) (sym none);
      found = ap (λ (es : List Entry). nat_lt (length l.guest.device.entries) (length es)) (ap (λ (s : Seat). s.entries) same.seat) ∙ not_longer (length l.guest.device.entries) ∙ sym (ap (λ (o : Option Carried). is_some o) none);
      rests = turned_run plan to l.guest worked l.mid rs' t may mid_run.guests mid_run.count mid_run.links (all_rest (turned.rests_told to l.guest worked l.mid rs' t may rests.trusted rests.through_));
    }

  -- a packet waits
  module _ (x : Packet) (more : List Packet) (eq : lies.end.pulled ++ x ∷ more ≡ lies.link.pushed) where
    next : IsPrefix (lies.end.pulled ++ x ∷ []) lies.link.pushed
    next = (more, append_assoc lies.end.pulled (x ∷ []) more ∙ eq)

    abbrev waits : Waits l.mid from to x
    waits = record { lies = lies; next = next }

    abbrev between : LooksBetween l.guest.driver ls.0 lies.k x worked l.guest.device t.device
    between = record {
      stands = stands_of l.guest rest t.keep;
      out = lies.link;
      out_at = link_at;
      input = lies.end;
      input_at = end_at;
      next = next;
      told = told;
      bare = others;
      told_rx = rest.told_rx;
      once = t.once;
      heard = turned.heard to l.guest worked l.mid rs' t may mid_ports mid_all;
      knows = turned.posted to l.guest worked l.mid rs' t may;
    }

    came : WasTakenIn l.guest.driver lies.k x l.guest.device t.device between.input
    came = looks l.guest.driver ls.0 lies.k x worked l.guest.device t.device between

    here : IsGuestAt plan to l.guest
    here = guest_at plan l.mid to l.guest mid_run.guests t.at

    mac : l.guest.device.machine.mac ≡ mac_of plan to
    mac = here.mac ∙ ap mac_or_none (sym here.there_)

    port : other l.guest.device.port lies.k ≡ from
    port = ap (λ (n : ℕ). other n lies.k) here.at.device ∙ sym lies.from_is

    told_same : IsSameGuest (guest_of l.guest.driver t.device) t.told
    told_same = turned.told_same to l.guest worked l.mid rs' t may

    seat : seat_of t.told ≡ comes_in (mac_of plan to) from (length lies.end.pulled) x.frame (seat_of lies.receiver)
    seat = told_same.seat ∙ came_seat ∙ (λ j. comes_in (mac j) (port j) (length lies.end.pulled) x.frame (seat_of (sym receiver j)))
      where
        came_seat : seat_of (guest_of l.guest.driver t.device) ≡ comes_in l.guest.device.machine.mac (other l.guest.device.port lies.k) (length lies.end.pulled) x.frame (seat_of l.guest)
        came_seat = came.seat

    takes : TakesOn (mac_of plan to) l.mid from to x waits after
    takes = record {
      after = t.told;
      is = refl;
      seat = seat;
      out = told_same.links.out ∙ came.out ∙ ap out_parts (sym receiver);
      input = told_same.links.input ∙ came.input_ ∙ ap (λ (g : GuestView). at_number lies.k (part_pulls x) (in_parts g)) (sym receiver);
    }

    some : next_on (world_of rs).wires from to ≡ Some (carried_of x)
    some = ap (λ (w : World). next_on w.wires from to) (sym mid_same) ∙ next_is l.mid from to x mid_ports waits

    looked_some : LookedSo plan from to worked rs rs' l
    looked_some = record {
      world = after_same ∙ takes_is (mac_of plan to) l.mid after from to x waits mid_ports takes ∙ ap (λ (w : World). looked plan from to w (Some (carried_of x))) mid_same ∙ ap (looked plan from to (world_of rs)) (sym some);
      found = ap (λ (es : List Entry). nat_lt (length l.guest.device.entries) (length es)) (ap (λ (s : Seat). s.entries) seat)
          ∙ ap (λ (g : GuestView). nat_lt (length l.guest.device.entries) (length (comes_in (mac_of plan to) from (length lies.end.pulled) x.frame (seat_of g)).entries)) receiver
          ∙ one_longer l.guest.device.entries _ ∙ sym (ap (λ (o : Option Carried). is_some o) some);
      rests = turned_run plan to l.guest worked l.mid rs' t may mid_run.guests mid_run.count mid_run.links (all_rest (turned.rests_told to l.guest worked l.mid rs' t may came.trusted came.through_));
    }

  by_more : (more : List Packet) → lies.end.pulled ++ more ≡ lies.link.pushed → LookedSo plan from to worked rs rs' l
  by_more [] e = looked_none (ap length (sym (append-nil lies.end.pulled) ∙ e))
  by_more (x ∷ more) e = looked_some x more e

  pub was_looked : LookedSo plan from to worked rs rs' l
  was_looked = by_more told.within.0 told.within.1
