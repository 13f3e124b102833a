use Rattle.std.proofs.Common.{sym, subst}
use Rattle.vmx_driver.specs.Stocked.{AreEven}
use Rattle.vmx_driver.proofs.Evenness.{polls_even}
use Rattle.vmx_driver.proofs.driver.Driver.poll.Goals as goal

pub returns-clause-even : goal.returns-clause-even
returns-clause-even g c even = polls_even _ _ _ c.poll_now.ensures.polls (subst AreEven (sym c.make_room.ensures.same) even)
