-- The links between the guests of a run that rests, as the calls ask for them.
use Rattle.std.proofs.Common.{◌≡◌, ◌≢◌, ℕ, ◌<◌, List, length, sym, ap, ◌∙◌, arith, Some}
use Rattle.std.specs.Option.{option_map}
use Rattle.std.specs.List.{slice_get, AllByRecursion}
use Rattle.std.proofs.lemmas.List.{length-map}
use Rattle.vmx_model.specs.declared.plan.Plan.{Plan}
use Rattle.vmx_device_looks.specs.Ports.{other}
use Rattle.vmx_device_looks.specs.Queues.{all_at, get_lt}
use Rattle.vmx_replay_settled.specs.Linked.{HasLinksIn, IsLinkOn}
use Rattle.vmx_replay_worlds.specs.Guests.{GuestView}
use Rattle.vmx_replay_worlds.specs.Ports.{AreAtPorts, HasAll, Lies}
use Rattle.vmx_replay_worlds.proofs.Lists.{get_map}
use Rattle.vmx_replay_worlds.proofs.Moved.{at_port}
use Rattle.vmx_replay_worlds.proofs.Linked.{lies_between}
use Rattle.vmx_replay_chains.specs.Chains.{devices_of}
use Rattle.vmx_replay_calls.specs.Resting.{RunRests}
use Rattle.vmx_replay_calls.proofs.Runs.{run_ports, run_all}

device_at : (rs : List GuestView) (n : ℕ) (r : GuestView) → slice_get rs n ≡ Some r → slice_get (devices_of rs) n ≡ Some r.device
device_at rs n r at = get_map (λ (x : GuestView). x.device) rs n ∙ ap (option_map (λ (x : GuestView). x.device)) at

module _ (plan : Plan) (from to : ℕ) (rs : List GuestView) (run : RunRests plan rs) (low : from < length rs) (high : to < length rs) (apart : to ≢ from) where
  ports : AreAtPorts rs
  ports = run_ports plan rs run.guests

  all : AllByRecursion (HasAll (length rs)) rs
  all = run_all plan rs run.guests run.count

  l : Lies rs from to
  l = lies_between rs from to ports all low high apart

  sender_port : l.sender.device.port ≡ from
  sender_port = (at_port from rs l.sender ports l.sender_at).device

  receiver_port : l.receiver.device.port ≡ to
  receiver_port = (at_port to rs l.receiver ports l.receiver_at).device

  below : l.k < length l.receiver.device.out
  below = let h = all_at (HasAll (length rs)) rs to l.receiver l.receiver_at all in let o = h.out in let i = h.input in let lt = get_lt l.receiver.device.input l.k l.end l.end_at in omega (arith, o, i, lt)

  pub link_on : IsLinkOn from to (devices_of rs)
  link_on = record {
    sender = l.sender.device;
    sender_at = device_at rs from l.sender l.sender_at;
    sender_port = sender_port;
    receiver = l.receiver.device;
    receiver_at = device_at rs to l.receiver l.receiver_at;
    receiver_port = receiver_port;
    link = record {
      j = l.j;
      to_is = receiver_port ∙ l.to_is ∙ ap (λ (n : ℕ). other n l.j) (sym sender_port);
      out = l.link;
      out_at = l.link_at;
      k = l.k;
      k_below = below;
      from_is = sender_port ∙ l.from_is ∙ ap (λ (n : ℕ). other n l.k) (sym receiver_port);
      input = l.end;
      input_at = l.end_at;
      key = (run.links from to l).key;
    };
  }

pub links_in : (plan : Plan) (port : ℕ) (rs : List GuestView) → RunRests plan rs → port < length rs → HasLinksIn port (devices_of rs)
links_in plan port rs run high from low apart =
    let long = length-map rs (λ (r : GuestView). r.device) in
    link_on plan from port rs run (omega (arith, low, long)) high (λ e. apart (sym e))
