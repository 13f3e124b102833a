use Rattle.std.proofs.Common.{subst, refl, Contains}
use Rattle.vmx_io.proofs.faulty.FaultyConsoleConsole.write.Goals as goal

pub returns-then-is_failing-clause-failing : goal.returns-then-is_failing-clause-failing
returns-then-is_failing-clause-failing c =
    let listed = c.is_failing.ensures.listed.0 c.if-is_failing.true in
    (λ _. subst (λ f. Contains f.failing f.next) c.self.view_is listed, λ _. refl)
