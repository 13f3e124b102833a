-- What the calls of a look say, put together as its step.
use Rattle.std.proofs.Common.{◌≡◌, ℕ, ◌+◌, ◌-◌, Bool, List, ◌∷◌, ◌++◌, [], length, not, ap, ◌∙◌, subst, Some, None, Option}
use Rattle.std.specs.Prelude.{◌==◌}
use Rattle.vmx_switch.specs.Ports.{target_ports}
use Rattle.vmx_shared_area.specs.declared.stats.Side.TheVariants.{Tx}
use Rattle.vmx_ends.specs.declared.packet.Packet.{Packet}
use Rattle.vmx_ends.specs.declared.packet.Tag.{Tag}
use Rattle.vmx_ends.specs.declared.meta.TxMark.{TxMark}
use Rattle.vmx_ends.specs.declared.answers.EndFault.{EndFault}
use Rattle.vmx_ends.specs.Frames.{sent_as}
use Rattle.vmx_link.specs.Views.{LinkOutView, LinkInView}
use Rattle.vmx_regs.specs.declared.known.Calls.{Calls}
use Rattle.vmx_regs.specs.declared.known.Masks.{Masks}
use Rattle.vmx_machine_state.specs.declared.statistics.Count.TheVariants.{Error}
use Rattle.vmx_machine_state.specs.Statistics.{after_count}
use Rattle.vmx_machine_state.specs.Stopped.{error_on, error_of, after_stop}
use Rattle.vmx_machine_state.specs.Views.{MachineView, ActiveView, state_of}
use Rattle.vmx_commands.specs.Replies.{Tracks}
use Rattle.vmx_commands.specs.Serving.{AnswersCommand, FindsNoCommand}
use Rattle.vmx_model.specs.Types.{Setup}
use Rattle.vmx_model.specs.declared.journal.Entry.{Entry}
use Rattle.vmx_model.specs.declared.journal.Entry.TheVariants as entry
use Rattle.vmx_model.specs.declared.journal.Fate.{Fate}
use Rattle.vmx_model.specs.Lists.{count}
use Rattle.vmx_model.specs.Journal.{is_activation}
use Rattle.vmx_model.specs.Wire.{wire_form}
use Rattle.vmx_device_looks.specs.Ports.{other}
use Rattle.vmx_device_looks.specs.Links.{PutsFrame, PullsOne}
use Rattle.vmx_device_looks.specs.Looks.{TakesOne, TakesBad}
use Rattle.vmx_device_looks.specs.Interrupts.{Signals, Alarms, masks_itself}
use Rattle.vmx_device_looks.specs.Commands.{ShowsState}
use Rattle.vmx_device_looks.specs.Arrivals.{Handles}
use Rattle.vmx_device_looks.specs.declared.events.TheConstants.{TX_ERROR_EVENT}
use Rattle.vmx_device_laws.specs.Views.{DeviceView}
use Rattle.vmx_device_laws.specs.Steps.{SeesNoCommand, Obeys, SwitchesFrame, StopsQueue, HandlesPacket, counted_taken, tag_of}

module _ (d : DeviceView) (machine : MachineView) (key : List ℕ) (calls : Calls) (masks : Masks) where
  -- ---------------------------------------------------------- the command register

  pub sees_no_command : FindsNoCommand d.calls d.machine calls machine → key ≡ d.key → masks ≡ d.masks → SeesNoCommand d (record d { machine = machine; key = key; calls = calls; masks = masks })
  sees_no_command finds key_is masks_is = record {
    calls = calls;
    finds = subst (λ (m : MachineView). FindsNoCommand d.calls d.machine calls m) finds.machine finds;
    is = λ i. record d { machine = finds.machine i; key = key_is i; calls = calls; masks = masks_is i };
  }

  pub obeys : (number value : ℕ) (setup : Option ℕ) (setups : List Setup) (entries : List Entry) → AnswersCommand d.calls d.machine number value calls machine → Tracks machine calls.served → ShowsState d.setups setup setups (state_of machine) → key ≡ d.key → masks ≡ d.masks
      → entries ≡ d.entries ++ entry.Setting number value setup ∷ [] → Obeys d (record d { machine = machine; key = key; calls = calls; masks = masks; entries = entries; setups = setups })
  obeys number value setup setups entries answers tracks shows key_is masks_is entries_is = record {
    number = number;
    value = value;
    calls = calls;
    machine = machine;
    answers = answers;
    tracks = tracks;
    setup = setup;
    setups = setups;
    shows = shows;
    is = λ i. record d { machine = machine; key = key_is i; calls = calls; masks = masks_is i; entries = entries_is i; setups = setups };
  }

  -- ---------------------------------------------------------- a transmit queue

  pub switches : (q place : ℕ) (bytes form counted : List ℕ) (mark : TxMark) (taken : MachineView) (auto some : Bool) (tag : Tag) (more entries : List Entry) (out : List LinkOutView) → error_on Tx d.machine q ≡ None → (takes : TakesOne q place bytes mark d.machine taken)
      → ((a : ActiveView) → d.machine.active ≡ Some a → auto ≡ masks_itself a.setup) → Signals d.masks q auto masks → form ≡ wire_form (sent_as bytes mark) → counted ≡ form → tag ≡ tag_of d q place → PutsFrame d.port tag form (target_ports d.table d.port form) more d.out out
      → entries ≡ d.entries ++ more → some ≡ not (length (target_ports d.table d.port form) == 0) → machine ≡ counted_taken q counted some taken → key ≡ d.key → calls ≡ d.calls
      → SwitchesFrame q d (record d { machine = machine; key = key; calls = calls; masks = masks; out = out; entries = entries })
  switches q place bytes form counted mark taken auto some tag more entries out unstopped takes auto_is signals form_is counted_is tag_is puts entries_is some_is machine_is key_is calls_is =
      let some_here : some ≡ not (length (target_ports d.table d.port (wire_form (sent_as bytes mark))) == 0) = some_is ∙ ap (λ (f : List ℕ). not (length (target_ports d.table d.port f) == 0)) form_is in
      let form_here : counted ≡ wire_form (sent_as bytes mark) = counted_is ∙ form_is in
      let machine_here : machine ≡ counted_taken q (wire_form (sent_as bytes mark)) (not (length (target_ports d.table d.port (wire_form (sent_as bytes mark))) == 0)) taken = machine_is ∙ (λ i. counted_taken q (form_here i) (some_here i) taken) in record {
        unstopped = unstopped;
        place = place;
        bytes = bytes;
        mark = mark;
        machine = taken;
        takes = takes;
        masks = masks;
        signals = subst (λ (b : Bool). Signals d.masks q b masks) (auto_is takes.here.active takes.here.is_active) signals;
        entries = more;
        out = out;
        puts = subst (λ (x : Tag × List ℕ). PutsFrame d.port x.0 x.1 (target_ports d.table d.port x.1) more d.out out) (λ i. (tag_is i, form_is i)) puts;
        is = λ i. record d { machine = machine_here i; key = key_is i; calls = calls_is i; masks = masks; out = out; entries = entries_is i };
      }

  pub stops : (q : ℕ) (fault : EndFault) (taken : MachineView) (auto : Bool) (event : ℕ) → error_on Tx d.machine q ≡ None → (takes : TakesBad q fault d.machine taken) → ((a : ActiveView) → d.machine.active ≡ Some a → auto ≡ masks_itself a.setup)
      → ((a : ActiveView) → d.machine.active ≡ Some a → event ≡ a.setup.tx_queues + a.setup.rx_queues) → Alarms d.calls.interrupts TX_ERROR_EVENT event auto d.masks masks → machine ≡ after_stop Tx q (error_of fault) (after_count Tx q Error taken) → key ≡ d.key → calls ≡ d.calls
      → StopsQueue q d (record d { machine = machine; key = key; calls = calls; masks = masks })
  stops q fault taken auto event unstopped takes auto_is event_is alarms machine_is key_is calls_is = record {
    unstopped = unstopped;
    fault = fault;
    machine = taken;
    takes = takes;
    masks = masks;
    alarms = subst (λ (x : ℕ × Bool). Alarms d.calls.interrupts TX_ERROR_EVENT x.0 x.1 d.masks masks) (λ i. (event_is takes.here.active takes.here.is_active i, auto_is takes.here.active takes.here.is_active i)) alarms;
    is = λ i. record d { machine = machine_is i; key = key_is i; calls = calls_is i; masks = masks };
  }

  -- ---------------------------------------------------------- a link

  pub handles_packet : (n begun place from : ℕ) (packet : Packet) (frame : List ℕ) (input : List LinkInView) (fate : Fate) (entries : List Entry) → begun ≡ count is_activation d.entries → frame ≡ packet.frame → PullsOne d.input n place packet input
      → Handles (begun - 1) frame d.calls.interrupts fate d.machine d.masks machine masks → key ≡ d.key → calls ≡ d.calls → from ≡ other d.port n → entries ≡ d.entries ++ entry.In from place fate ∷ []
      → HandlesPacket n d (record d { machine = machine; key = key; calls = calls; masks = masks; input = input; entries = entries })
  handles_packet n begun place from packet frame input fate entries begun_is frame_is pulls handles key_is calls_is from_is entries_is =
      let entries_here : entries ≡ d.entries ++ entry.In (other d.port n) place fate ∷ [] = entries_is ∙ ap (λ (m : ℕ). d.entries ++ entry.In m place fate ∷ []) from_is in record {
        place = place;
        packet = packet;
        input = input;
        pulls = pulls;
        fate = fate;
        machine = machine;
        masks = masks;
        handles = subst (λ (x : ℕ × List ℕ). Handles (x.0 - 1) x.1 d.calls.interrupts fate d.machine d.masks machine masks) (λ i. (begun_is i, frame_is i)) handles;
        is = λ i. record d { machine = machine; key = key_is i; calls = calls_is i; masks = masks; input = input; entries = entries_here i };
      }
