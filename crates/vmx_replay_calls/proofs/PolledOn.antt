-- A poll of a guest among all, in the serial run.
use Rattle.std.proofs.Common.{◌≡◌, ℕ, List, sym, ap, ◌∙◌, subst}
use Rattle.std.specs.Option.{option_map}
use Rattle.vmx_model.specs.declared.plan.Plan.{Plan}
use Rattle.vmx_device_looks.specs.Queues.{all_at}
use Rattle.vmx_driver_steps.specs.Driver.{DriverView}
use Rattle.vmx_replay_settled.specs.Settled.{BothKeep}
use Rattle.vmx_replay_runs.specs.Runs.{live_poll, count_up}
use Rattle.vmx_replay_worlds.specs.Guests.{GuestView, seat_of}
use Rattle.vmx_replay_worlds.proofs.Lists.{get_map, set_same}
use Rattle.vmx_replay_worlds.proofs.Moved.{guest_moves}
use Rattle.vmx_replay_chains.specs.Chains.{PollsOn}
use Rattle.vmx_replay_calls.specs.Selves.{IsOneDriver}
use Rattle.vmx_replay_calls.specs.Resting.{Rests, RunRests, AllKeep}
use Rattle.vmx_replay_calls.specs.Results.{progress_of, WasPolled}
use Rattle.vmx_replay_calls.proofs.Outcomes.{PolledSo}
use Rattle.vmx_replay_calls.proofs.Selves.{one_driver}
use Rattle.vmx_replay_calls.proofs.Polls.{was_polled}
use Rattle.vmx_replay_calls.proofs.Whole.{QueuesKeep, queues_keep}
use Rattle.vmx_replay_calls.proofs.Progress.{progress_set, progress_get}
use Rattle.vmx_replay_calls.proofs.Settling.{changes_keep}
use Rattle.vmx_replay_calls.proofs.Resting.{run_set}

module _ (plan : Plan) (port n : ℕ) (rs rs' : List GuestView) (run : RunRests plan rs) (keeps : AllKeep rs) (p : PollsOn port n rs rs') where
  abbrev v : DriverView
  v = p.before.driver

  rest : Rests p.before
  rest = all_at Rests rs port p.before p.at run.rest

  keep : BothKeep v p.before.device
  keep = all_at (λ (r : GuestView). BothKeep r.driver r.device) rs port p.before p.at keeps

  so : PolledSo n p.before p.after
  so = was_polled n p.before p.after rest (record { keep = keep; driver = p.does.polled; polls = p.does.polls; passed = p.does.passed })

  kept : QueuesKeep p.does.polled p.before.device p.after.driver p.after.device
  kept = queues_keep p.does.polled p.before.device p.after.driver p.after.device p.does.passed

  driver : IsOneDriver v p.after.driver
  driver = one_driver v p.does.polled p.after.driver (record { guest = ap (λ (x : DriverView). x.guest) p.does.polls.is; plan = ap (λ (x : DriverView). x.plan) p.does.polls.is; key = ap (λ (x : DriverView). x.key) p.does.polls.is }) kept.driver

  at_is : p.after.driver.at ≡ v.at
  at_is = kept.at ∙ ap (λ (x : DriverView). x.at) p.does.polls.is

  pub polled_on : WasPolled plan port n rs rs'
  polled_on = record {
    count = so.count ∙ sym (ap count_up (get_map seat_of rs port ∙ ap (option_map seat_of) p.at));
    stand = record {
      world_is = guest_moves rs rs' port live_poll (record { before = p.before; after = p.after; at = p.at; is = p.is; seat = so.seat; links = so.links });
      progress_is = ap (λ (xs : List GuestView). progress_of xs) p.is ∙ progress_set rs port p.after ∙ set_same (progress_of rs) port v.at p.after.driver.at (progress_get rs port p.before p.at) at_is;
      rests = subst (RunRests plan) (sym p.is) (run_set plan port rs p.before p.after run p.at driver kept.device p.keeps.device (record { out = kept.out; input = kept.input }) so.rests);
      keeps = changes_keep port _ rs rs' p keeps;
    };
  }
