use Rattle.vmx_queue_bench.proofs.rx_steps.receives.Goals as goal

pub returns-in-Frame-clause-receives : goal.returns-in-Frame-clause-receives
returns-in-Frame-clause-receives c = let got = c.in-Frame in record { place = got.place; meta = got.meta; count = got.descriptors; receives = got.ensures.receives }

pub returns-in-NotYet-clause-receives : goal.returns-in-NotYet-clause-receives
returns-in-NotYet-clause-receives c = let none = c.in-NotYet.ensures.receives in (none.0, c.in-NotYet.word, none.1)
