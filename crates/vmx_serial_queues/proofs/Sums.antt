-- Sums over frames, one frame on.
use Rattle.std.proofs.Common.{◌≡◌, ℕ, ◌+◌, ◌<◌, List, [], ◌∷◌, length, take, map, get_or, ap, arith}
use Rattle.std.proofs.lemmas.List.{map_more}
use Rattle.vmx_ends.specs.declared.frames.Delivery.{Delivery}
use Rattle.vmx_ends.specs.Receive.{used}
use Rattle.vmx_ends.specs.WalkCounts.{used-append}
use Rattle.vmx_serial_queues.specs.declared.rx.Delivered.{Delivered}
use Rattle.vmx_serial_queues.specs.Queues.{delivery_of}

-- one frame on
pub used_next : (took : Delivery → ℕ) (frames : List Delivered) (i : ℕ) (d : Delivered) → i < length frames → used took (map delivery_of (take (i + 1) frames)) ≡ used took (map delivery_of (take i frames)) + took (delivery_of (get_or frames i d))
used_next took frames i d less = let e = ap (used took) (map_more delivery_of frames i d less) in let f = used-append took (map delivery_of (take i frames)) (delivery_of (get_or frames i d) ∷ []) in omega arith
