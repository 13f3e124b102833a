use Rattle.std.proofs.Common.{rules, ◌≡◌, ◌+◌, ◌-◌, ◌*◌, ◌≤◌, ℕ, take, append_assoc, sym, ◌∙◌, arith}
use Rattle.std.proofs.lemmas.List.{take_all, append-nil}
use Rattle.vmx_shared_area.specs.Layout.{image_of}
use Rattle.vmx_shared_area.proofs.writing.write_bytes.Goals as goal
use Rattle.vmx_shared_area.specs.declared.offsets.TheConstants.{IMAGE_SIZE, DESCRIPTORS, DESCRIPTOR_SIZE, DESCRIPTORS_SIZE, RSS_START}

pub returns : goal.returns
unfolding image_of
returns c =
    let s = c.args.setup.now in
    let count : ℕ = s.tx_queues + s.rx_queues in
    let small : count ≤ 16 = omega (arith, s.tx_queues_high, s.rx_queues_high) in
    let behind : DESCRIPTORS + DESCRIPTOR_SIZE * count ≡ DESCRIPTORS + DESCRIPTOR_SIZE * s.tx_queues + DESCRIPTOR_SIZE * s.rx_queues = omega arith in
    let end : DESCRIPTORS + DESCRIPTOR_SIZE * count + (DESCRIPTORS_SIZE - DESCRIPTOR_SIZE * count) ≡ RSS_START = omega arith in
    let queued = rw (c.from.ensures, c.from-2.ensures, end) at c.put_zeros.ensures.put in
    let all : take IMAGE_SIZE c.put_zeros-2.new.bytes ≡ c.put_zeros-2.new.bytes = take_all IMAGE_SIZE c.put_zeros-2.new.bytes (search rules) in
    record {
      written =
          sym all
          ∙ rw (c.put_zeros-2.ensures.put, c.write_macs.ensures.written, c.write_rss.ensures.written, queued, behind, c.write_rx_queues.ensures.written, c.write_tx_queues.ensures.written, c.write_header.ensures.written) (simp (append_assoc, append-nil));
    }
