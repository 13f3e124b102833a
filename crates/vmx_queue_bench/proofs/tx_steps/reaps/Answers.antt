use Rattle.vmx_queue_bench.proofs.tx_steps.reaps.Goals as goal

pub returns-in-Done-clause-reaps : goal.returns-in-Done-clause-reaps
returns-in-Done-clause-reaps c = (c.in-Done.place, c.in-Done.descriptors, c.in-Done.ensures.reaps)

pub returns-in-NotYet-clause-reaps : goal.returns-in-NotYet-clause-reaps
returns-in-NotYet-clause-reaps c = (c.in-NotYet.word, c.in-NotYet.ensures.reaps)
