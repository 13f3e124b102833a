use Rattle.std.proofs.Common.{◌≡◌, ◌≢◌, inl, inr, arith}
use Rattle.std.proofs.lemmas.Bool.Decides.{nat_tests}
use Rattle.vmx_driver.specs.Following.{hands_some, drained_now, meets_empty}
use Rattle.vmx_driver.proofs.driver.Driver.empty.Goals as goal

pub meet-requires-clause-drained : goal.meet-requires-clause-drained
meet-requires-clause-drained g c κs within = let none : c.poll_now-up.result ≡ 0 = grind (arith, nat_tests, c.if-emptied.true) in
    drained_now c.args.self.now.driver _ _ _ _ c.make_room.ensures.same c.reap.ensures.reaps c.poll_now-up.ensures.polls none c.requires.even

pub returns-then-emptied-clause-acts : goal.returns-then-emptied-clause-acts
returns-then-emptied-clause-acts g c = let none : c.poll_now-up.result ≡ 0 = grind (arith, nat_tests, c.if-emptied.true) in
    inr (meets_empty c.args.self.now.driver _ _ _ _ c.make_room.ensures.same c.reap.ensures.reaps c.poll_now-up.ensures.polls none c.args.then _ c.meet.ensures.met)

pub returns-clause-acts : goal.returns-clause-acts
returns-clause-acts g c = let some : c.poll_now-up.result ≢ 0 = grind (arith, nat_tests, c.if-emptied.false) in
    inl (hands_some c.args.self.now.driver _ _ _ _ c.make_room.ensures.same c.reap.ensures.reaps c.poll_now-up.ensures.polls some)
