use Rattle.vmx_queue_bench.proofs.tx_steps.posts.Goals as goal

pub returns-in-Done-clause-posts : goal.returns-in-Done-clause-posts
returns-in-Done-clause-posts c = (c.in-Done.place, c.in-Done.ensures.posts)

pub returns-in-Full-clause-posts : goal.returns-in-Full-clause-posts
returns-in-Full-clause-posts c = (c.in-Full.used, c.in-Full.need, c.in-Full.ensures.posts)
