-- The buffers of the two supplies of a plain receive queue, and the frames that took them.
use Rattle.std.specs.Prelude.{ℕ, zero, suc, ◌+◌, ◌%◌, ◌≡◌, ◌≤◌, ◌<◌, List, [], ◌∷◌, length, map, take, true, slice_index_or}
use Rattle.vmx_ends.specs.declared.limits.TheConstants.{MAX_DESCRIPTORS}
use Rattle.vmx_ends.specs.Frames.{IsFrame}
use Rattle.vmx_ends.specs.Receive.{is_body, used, took1, took2}
use Rattle.vmx_ends.specs.declared.frames.Delivery.{Delivery}
use Rattle.vmx_ends.specs.declared.made.RxMade.{RxMade}
use Rattle.vmx_queue_reference.specs.declared.rx.Buffer.{Buffer}
use Rattle.vmx_queue_reference.specs.declared.rx.RxFrame.{RxFrame}

-- the buffer at a position of a supply: they come in the order of their numbers, again and again
abbrev pub buffer1 : RxMade → ℕ → Buffer
buffer1 m p = record { number = p % m.size1; body = is_body m p }

abbrev pub buffer2 : RxMade → ℕ → Buffer
buffer2 m p = record { number = p % m.size2; body = true }

-- the buffers of so many positions from one on
abbrev pub run_of : (ℕ → Buffer) → ℕ → ℕ → List Buffer
run_of f from zero = []
run_of f from (suc n) = f from ∷ run_of f (suc from) n

-- a frame as the core has it
abbrev pub as_delivery : RxFrame → Delivery
as_delivery d = record { frame = d.frame; meta = d.meta; passed = d.passed; chain = d.chain }

abbrev pub deliveries : List RxFrame → List Delivery
deliveries ds = map as_delivery ds

-- a frame has the buffers of the positions that it took, from these positions of the two supplies on
abbrev pub IsKept : RxMade → ℕ → ℕ → RxFrame → Type 0
IsKept m c1 c2 d = (d.one ≡ run_of (buffer1 m) c1 (took1 (as_delivery d))) × (d.two ≡ run_of (buffer2 m) c2 (took2 (as_delivery d))) × (d.passed + length d.chain ≤ MAX_DESCRIPTORS) × IsFrame d.frame

-- each frame has those behind the frames before it
abbrev pub AreKept : RxMade → List RxFrame → Type 0
AreKept m ds = (i : ℕ) (d : RxFrame) → i < length ds → let before : List Delivery = take i (deliveries ds) in IsKept m (used took1 before) (used took2 before) (slice_index_or ds i d)
