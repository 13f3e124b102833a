use Rattle.std.proofs.Common.{◌≡◌, ◌≤◌, length, inr, arith}
use Rattle.vmx_pcap.specs.Unique.{long_fault}
use Rattle.vmx_pcap.proofs.reader.read_records.Goals as goal

pub returns-in-Long-clause-fault : goal.returns-in-Long-clause-fault
returns-in-Long-clause-fault c =
    let inside = c.loop-index-test.true in
    let fits : c.loop-index.index ≤ c.args.most = omega (arith, inside) in
    inr (long_fault c.args.encoding c.args.bytes.now c.loop-index.records.items c.loop-index.rest.now c.loop-index.index c.args.most c.in-Long.found c.loop-index.invariant.0 c.loop-index.invariant.1 fits c.in-Long.ensures.front.0 c.in-Long.ensures.front.1)

pub returns-in-Long-front_of-clause-fault : goal.returns-in-Long-front_of-clause-fault
returns-in-Long-front_of-clause-fault c =
    let count = c.loop-index.invariant.1 in
    let end = c.loop-index-test.false in
    let within = c.loop-index.auto.index-end in
    let all : length c.loop-index.records.items ≡ c.args.most = omega (arith, count, end, within) in
    let fits : c.args.most ≤ c.args.most = omega arith in
    inr (long_fault c.args.encoding c.args.bytes.now c.loop-index.records.items c.loop-index.rest.now c.args.most c.args.most c.in-Long-front_of.found c.loop-index.invariant.0 all fits c.in-Long-front_of.ensures.front.0 c.in-Long-front_of.ensures.front.1)
