use Rattle.std.proofs.Common.{◌<◌, ◌≤◌, ap, sym, subst, refl, lit<, lit≤}
use Rattle.vmx_regs.specs.declared.known.Calls.{Calls}
use Rattle.vmx_device_looks.specs.Queues.{get_at}
use Rattle.vmx_replay_start.specs.Linking.{outs_view, ins_view}
use Rattle.vmx_replay_start.proofs.Beginning.{has_port, has_links, has_few, made_at, links_at}
use Rattle.vmx_replay_start.proofs.guests.guest_at.Goals as goal

pub new-requires-clause-port : goal.new-requires-clause-port
new-requires-clause-port g c κs within = let a = c.args in let t = c.table_of-table in has_port a.plan.now a.port t.result a.out a.input t.ensures.table c.requires.port

pub new-requires-clause-links : goal.new-requires-clause-links
new-requires-clause-links g c κs within = let a = c.args in let t = c.table_of-table in has_links a.plan.now a.port t.result a.out a.input t.ensures.table c.requires.out c.requires.input

pub new-requires-clause-ports : goal.new-requires-clause-ports
new-requires-clause-ports g c κs within = let a = c.args in let t = c.table_of-table in has_few a.plan.now a.port t.result a.out a.input t.ensures.table

pub new-requires-clause-out : goal.new-requires-clause-out
new-requires-clause-out g c κs within = c.requires.out.new

pub new-requires-clause-input : goal.new-requires-clause-input
new-requires-clause-input g c κs within = c.requires.input.new

pub new-requires-clause-interrupts : goal.new-requires-clause-interrupts
new-requires-clause-interrupts g c κs within = let served = c.in_ok-regs.ensures.device in subst (λ (v : Calls). 17 ≤ v.interrupts) (sym served) (lit≤ tt)

pub new-requires-clause-regs : goal.new-requires-clause-regs
new-requires-clause-regs g c κs within = let served = c.in_ok-regs.ensures.device in (ap (λ (v : Calls). v.served) served, ap (λ (v : Calls). v.serving) served)

pub new-requires-2-clause-guest : goal.new-requires-2-clause-guest
new-requires-2-clause-guest g c κs within = c.requires.port

pub new-requires-2-clause-regs : goal.new-requires-2-clause-regs
new-requires-2-clause-regs g c κs within = let calls = c.in_ok-regs.ensures.driver in (ap (λ (v : Calls). v.turns) calls, ap (λ (v : Calls). v.asked) calls)

pub new-requires-2-clause-interrupts : goal.new-requires-2-clause-interrupts
new-requires-2-clause-interrupts g c κs within = let calls = c.in_ok-regs.ensures.driver in subst (λ (v : Calls). 16 < v.interrupts) (sym calls) (lit< tt)

pub returns : goal.returns
returns g c =
    let a = c.args in let r = c.in_ok-regs.ensures in let t = c.table_of-table in let p = c.at.result.now in
    let at = get_at a.plan.now.guests a.port p c.requires.port c.at.ensures.value in record {
      made = made_at a.plan.now a.port p at p.mac t.result _ _ _ _ _ _ (outs_view a.out) (ins_view a.input) c.in_ok-driver.driver.driver c.in_ok-device.device
          refl t.ensures.table r.pair r.driver r.device r.driver_masks r.device_masks (c.in_ok-driver.ensures.new p at) c.in_ok-device.ensures.new c.requires.out c.requires.input;
      links = links_at a.plan.now a.port p at p.mac t.result _ _ _ _ _ _ (outs_view a.out) (ins_view a.input) c.in_ok-driver.driver.driver c.in_ok-device.device
          refl t.ensures.table r.pair r.driver r.device r.driver_masks r.device_masks (c.in_ok-driver.ensures.new p at) c.in_ok-device.ensures.new c.requires.out c.requires.input;
    }
