use Rattle.std.proofs.Common.{◌≡◌, refl, arith, replicate, slice_index}
use Rattle.vmx_shared_area.specs.Places.{get_or-replicate_same}
use Rattle.vmx_shared_area.specs.declared.offsets.TheConstants.{LEVEL_COUNT}
use Rattle.vmx_config.proofs.Plans.{rss_below}
use Rattle.vmx_config.proofs.plan.setup_of.Goals as goal

pub invariant_of-result-clause-entries : goal.invariant_of-result-clause-entries
invariant_of-result-clause-entries c = rss_below c.args.settings.now.rings.rx_queues c.maybe_rss.result c.args.settings.now.rss c.maybe_rss.ensures.rss c.requires.range.rss

pub invariant_of-result-clause-levels_fit : goal.invariant_of-result-clause-levels_fit
invariant_of-result-clause-levels_fit c = λ i. (let none : slice_index (replicate LEVEL_COUNT 0) i ≡ 0 = get_or-replicate_same LEVEL_COUNT i 0 in omega (arith, none))

pub returns-clause-fits : goal.returns-clause-fits
returns-clause-fits c = rw (c.filter_of.ensures.multicast, c.requires.range.filter.multicast.groups) refl
