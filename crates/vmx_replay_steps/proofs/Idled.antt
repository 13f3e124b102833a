-- A turn of a device while nothing was sent and nothing waited changes nothing that the world has.
use Rattle.std.proofs.Common.{◌≡◌, ℕ, ◌-◌, Bool, List, ◌++◌, length, map, sym, ap, ◌∙◌, subst, append-nil, None}
use Rattle.std.specs.List.{slice_get}
use Rattle.vmx_link.specs.Views.{LinkOutView, LinkInView}
use Rattle.vmx_device_state.specs.SetupView.{setup_view}
use Rattle.vmx_regs.specs.declared.known.Calls.{Calls}
use Rattle.vmx_regs.specs.declared.known.Masks.{Masks}
use Rattle.vmx_machine_state.specs.Views.{MachineView}
use Rattle.vmx_model.specs.declared.journal.Entry.{Entry}
use Rattle.vmx_model.specs.Bags.{Pairwise}
use Rattle.vmx_model.specs.Lists.{count}
use Rattle.vmx_model.specs.Journal.{is_activation}
use Rattle.vmx_device_laws.specs.Views.{DeviceView, tx_held}
use Rattle.vmx_device_laws.specs.Steps.{TxSteps}
use Rattle.vmx_device_laws.specs.Pairs.{tx_of, rx_of}
use Rattle.vmx_driver_steps.specs.Progress.{setup_now}
use Rattle.vmx_driver_steps.specs.Driver.{DriverView}
use Rattle.vmx_replay_worlds.specs.Guests.{live_rx, met_tx, met_rx, joined, is_arrival, begun_by, seat_of}
use Rattle.vmx_replay_worlds.specs.Worlds.{out_part, in_part}
use Rattle.vmx_replay_worlds.specs.Moves.{IsSameGuest}
use Rattle.vmx_trusted_turns.specs.Trusted.{IsTrusted, LooksAll}
use Rattle.vmx_trusted_turns.proofs.Looked.{looks_tx}
use Rattle.vmx_replay_worlds.specs.Ports.{IsBare}
use Rattle.vmx_replay_steps.specs.Between.{IsThrough, WasSent, WasPushed}
use Rattle.vmx_replay_steps.specs.Turns.{IdlesBetween, RestsAfter}
use Rattle.vmx_replay_steps.proofs.Left.{Left, left_steps}
use Rattle.vmx_replay_steps.proofs.Taken.{idle_takes}
use Rattle.vmx_replay_steps.proofs.Incoming.{in_none, bare_nothing, all_bare}
use Rattle.vmx_replay_steps.proofs.Standing.{Split, split, tx_where_ends, rx_where_ends}

-- after looks at transmit queues that took nothing
pub record TookNothing (v : DriverView) (d sent : DeviceView) : Type 0 where
  pub seat : seat_of (record { driver = v; device = sent }) ≡ seat_of (record { driver = v; device = d })
  pub entries : sent.entries ≡ d.entries
  pub out : sent.out ≡ d.out
  pub through_ : Pairwise IsThrough v.tx (tx_of sent.machine.active)

module _ (v : DriverView) (d : DeviceView) (calls : Calls) (masks : Masks) (sent : DeviceView) where
  abbrev pub rung : DeviceView
  rung = record d { calls = calls; masks = masks }

  pub took_nothing : (l : LooksAll rung sent) (left : Left rung sent) → Pairwise IsThrough v.tx (tx_of d.machine.active) → Pairwise WasSent v.tx (tx_of sent.machine.active) → TookNothing v d sent
  took_nothing l left through_ heard =
      let a = idle_takes d.port d.table (count is_activation d.entries - 1) 0 v.tx (tx_of d.machine.active) (tx_of sent.machine.active) l.entries d.out sent.out through_ heard l.each in
      let entries : sent.entries ≡ d.entries = l.is ∙ ap (λ (xs : List Entry). d.entries ++ xs) a.entries ∙ append-nil d.entries in
      let txs = tx_where_ends v.tx d.machine.active sent.machine.active (record { tx = v.tx_held; rx = v.rx_held }) left.machine.active a.live in
      let rxs = rx_where_ends v.rx d.machine.active sent.machine.active (record { tx = v.tx_held; rx = v.rx_held }) left.machine.active (ap (joined live_rx v.rx) left.machine.rx) in record {
        seat = λ i. record {
          active = left.machine.active i;
          setup = setup_now v.plan v.at;
          begun = begun_by v;
          seen = count is_arrival (entries i);
          entries = entries i;
          setups = map setup_view (left.setups i);
          received = v.received;
          tx = map met_tx v.tx_facts ++ txs i;
          rx = map met_rx v.rx_facts ++ rxs i;
        };
        entries = entries;
        out = a.links;
        through_ = a.through_;
      }

-- the rest of a turn, behind the look at the command register, that found nothing
pub rests : (v : DriverView) (links : List LinkOutView) (old new : DeviceView) → Split old new → IsTrusted old.machine → Pairwise IsThrough v.tx (tx_of old.machine.active) → Pairwise IsBare links old.input → Pairwise WasSent v.tx (tx_of new.machine.active) → Pairwise WasPushed links new.input → RestsAfter v old new
rests v links old new s trusted through_ bare was_sent pushed =
    let l = looks_tx s.taken (record old { calls = s.calls; masks = s.masks }) s.sent s.takes trusted in
    let left = left_steps (tx_held old.machine.active) s.taken (record old { calls = s.calls; masks = s.masks }) s.sent s.takes in
    let n = in_none (length s.sent.input) s.pulled s.sent new s.pulls (λ k lt. bare_nothing links s.sent new k (λ o i at_o at_i. all_bare links old.input k o i bare at_o (ap (λ (ls : List LinkInView). slice_get ls k) (sym left.input) ∙ at_i)) pushed) in
    let machine : new.machine ≡ s.sent.machine = ap (λ (x : DeviceView). x.machine) n.is in
    let heard : Pairwise WasSent v.tx (tx_of s.sent.machine.active) = subst (λ (m : MachineView). Pairwise WasSent v.tx (tx_of m.active)) machine was_sent in
    let t = took_nothing v old s.calls s.masks s.sent l.0 left through_ heard in record {
      same = record {
        seat = ap (λ (x : DeviceView). seat_of (record { driver = v; device = x })) n.is ∙ t.seat;
        links = record {
          out = ap (λ (x : DeviceView). map out_part x.out) n.is ∙ ap (map out_part) t.out;
          input = n.parts ∙ ap (map in_part) left.input;
        };
      };
      trusted = subst IsTrusted (sym machine) l.1;
      through_ = subst (λ (m : MachineView). Pairwise IsThrough v.tx (tx_of m.active)) (sym machine) t.through_;
    }

-- and the receive ends are those of before
pub rests_rx : (links : List LinkOutView) (old new : DeviceView) → Split old new → Pairwise IsBare links old.input → Pairwise WasPushed links new.input → rx_of new.machine.active ≡ rx_of old.machine.active
rests_rx links old new s bare pushed =
    let left = left_steps (tx_held old.machine.active) s.taken (record old { calls = s.calls; masks = s.masks }) s.sent s.takes in
    let n = in_none (length s.sent.input) s.pulled s.sent new s.pulls (λ k lt. bare_nothing links s.sent new k (λ o i at_o at_i. all_bare links old.input k o i bare at_o (ap (λ (ls : List LinkInView). slice_get ls k) (sym left.input) ∙ at_i)) pushed) in
    ap (λ (x : DeviceView). rx_of x.machine.active) n.is ∙ left.machine.rx

-- the same of an idle device, whatever its driver has
pub rests_idle : (v : DriverView) (links : List LinkOutView) (old new : DeviceView) → Split old new → old.machine.active ≡ None → IsTrusted old.machine → Pairwise IsBare links old.input → Pairwise WasPushed links new.input
    → IsSameGuest (record { driver = v; device = old }) (record { driver = v; device = new }) × IsTrusted new.machine
rests_idle v links old new s none trusted bare pushed =
    let steps : TxSteps 0 s.taken (record old { calls = s.calls; masks = s.masks }) s.sent = subst (λ (k : ℕ). TxSteps k s.taken (record old { calls = s.calls; masks = s.masks }) s.sent) (ap tx_held none) s.takes in
    let sent : s.sent ≡ record old { calls = s.calls; masks = s.masks } = steps.1 in
    let n = in_none (length s.sent.input) s.pulled s.sent new s.pulls (λ k lt. bare_nothing links s.sent new k (λ o i at_o at_i. all_bare links old.input k o i bare at_o (ap (λ (d : DeviceView). slice_get d.input k) (sym sent) ∙ at_i)) pushed) in (
      record {
        seat = ap (λ (x : DeviceView). seat_of (record { driver = v; device = x })) n.is ∙ ap (λ (x : DeviceView). seat_of (record { driver = v; device = x })) sent;
        links = record {
          out = ap (λ (x : DeviceView). map out_part x.out) n.is ∙ ap (λ (x : DeviceView). map out_part x.out) sent;
          input = n.parts ∙ ap (λ (x : DeviceView). map in_part x.input) sent;
        };
      },
      subst IsTrusted (sym (ap (λ (x : DeviceView). x.machine) n.is ∙ ap (λ (x : DeviceView). x.machine) sent)) trusted,
    )

-- a turn that found nothing at all
pub idles : (v : DriverView) (links : List LinkOutView) (worked : Bool) (old new : DeviceView) → IdlesBetween v links worked old new → RestsAfter v old new
idles v links worked old new b = rests v links old new (split v worked old new b.once b.stands.caught_up.same b.heard.caught_up.same) b.stands.trusted b.stands.through b.bare b.heard.sent b.heard.pushed
