-- The definitions at numbers.
use Rattle.std.proofs.Common.{ℕ, ◌≡◌, refl, [], ◌∷◌, ◌+◌, ◌*◌, ◌^◌, ⊎_elim, arith, Bool, true, false, Some, None}
use Rattle.vmx_layout.specs.declared.fault.FieldFault.TheVariants.{Reserved}
use Rattle.vmx_ends.specs.declared.answers.EndFault.TheVariants.{Field, Address, Offload, Size}
use Rattle.vmx_ends.specs.TxFaults as tx
use Rattle.vmx_ends.specs.RxFaults as rx
use Rattle.vmx_ends.specs.Words.{missed_word, IsMissed}
use Rattle.vmx_ends.specs.declared.made.RxMade.{RxMade}
use Rattle.vmx_ends.specs.declared.made.TxMade.{TxMade}
use Rattle.vmx_ends.specs.declared.made.Bodies.TheVariants.{Every}
use Rattle.vmx_ends.specs.Transmit.{need}
use Rattle.vmx_ends.specs.Walk.{at_head, pieces}
use Rattle.vmx_ends.specs.Core.{outcome, takes, misses}

abbrev made : ℕ → RxMade
made bodies = record { name = record { guest = 0; activation = 0; queue = 0 }; queues = 1; size1 = 32; size2 = 32; bodies = Every bodies; with_data = false; full = true }

-- 60 bytes are one piece, 2,049 two, 9,014 and 9,022 three
p1 : pieces 60 ≡ 1
p1 = refl

p2 : pieces 2048 ≡ 1
p2 = refl

p3 : pieces 2049 ≡ 2
p3 = refl

p4 : pieces 6144 ≡ 2
p4 = refl

p5 : pieces 9014 ≡ 3
p5 = refl

-- 32 frames of 60 bytes over rings of HEAD, and the 33rd
a1 : outcome (made 0) 31 0 32 32 0 ≡ takes 0 (at_head 31 0)
a1 = refl

a2 : outcome (made 0) 32 0 32 32 0 ≡ misses 1 32 []
a2 = refl

a3 : missed_word 31 32 32 ≡ 2147483648
a3 = refl

a4 : IsMissed 31 32 32 2147485696
a4 = refl

-- after one was received
a5 : outcome (made 0) 32 0 33 32 0 ≡ takes 0 (at_head 32 0)
a5 = refl

-- frames of 9,014 bytes: the head in ring 1 and two bodies in ring 2, and the 17th
b1 : outcome (made 0) 15 30 32 32 2 ≡ takes 0 record { next1 = 16; next2 = 32; chain = (1, 15) ∷ (2, 30) ∷ (2, 31) ∷ []; looks = [] }
b1 = refl

b2 : outcome (made 0) 16 32 32 32 2 ≡ misses 2 32 []
b2 = refl

-- one body behind each head: the second frame passes over the body at 1, and the 17th over that at 31
c1 : outcome (made 1) 0 0 32 32 0 ≡ takes 0 (at_head 0 0)
c1 = refl

c2 : outcome (made 1) 1 0 33 32 0 ≡ takes 1 (at_head 2 0)
c2 = refl

c3 : outcome (made 1) 31 0 63 32 0 ≡ takes 1 (at_head 32 0)
c3 = refl

-- a first frame of 9,014 bytes
c4 : outcome (made 1) 0 0 32 32 2 ≡ takes 0 record { next1 = 2; next2 = 1; chain = (1, 0) ∷ (1, 1) ∷ (2, 0) ∷ []; looks = [] }
c4 = refl

-- the last body of ring 1 is not posted: a look there, and the piece goes to ring 2
c5 : outcome (made 1) 62 0 63 32 1 ≡ takes 0 record { next1 = 63; next2 = 1; chain = (1, 62) ∷ (2, 0) ∷ []; looks = (63, 2147483648) ∷ [] }
c5 = refl

-- two bodies: 32 is no multiple of 3, so the index 30 is HEAD, 31 BODY and then 0 HEAD
d1 : outcome (made 2) 31 0 64 32 0 ≡ takes 1 (at_head 32 0)
d1 = refl

d2 : outcome (made 2) 28 0 64 32 0 ≡ takes 2 (at_head 30 0)
d2 = refl

abbrev made_tx : ℕ → Bool → TxMade
made_tx piece with_data = record { name = record { guest = 0; activation = 0; queue = 0 }; size = 32; piece = piece; with_data = with_data; full = true }

-- 9,014 bytes in pieces of 4,096 are three; 9,022 bytes in the smallest pieces of 576 are sixteen
e1 : need (made_tx 4096 false) 9014 ≡ 3
e1 = refl

e2 : need (made_tx 576 false) 9022 ≡ 16
e2 = refl

e3 : need (made_tx 576 false) 576 ≡ 1
e3 = refl

-- with a data ring: 128 bytes are one piece, 129 two, and 9,014 four; 9,022 bytes in the smallest pieces of 640 are fifteen
f1 : need (made_tx 4096 true) 128 ≡ 1
f1 = refl

f2 : need (made_tx 4096 true) 129 ≡ 2
f2 = refl

f3 : need (made_tx 4096 true) 9014 ≡ 4
f3 = refl

f4 : need (made_tx 640 true) 9022 ≡ 15
f4 = refl

-- a transmit descriptor of 60 bytes and the end of a packet, in the buffer 5 of queue 1; the bit 15; another address; om 1; om 3
g1 : tx.desc_fault 1 5 (4328542208 ∷ (60 + 2 ^ 44) ∷ []) ≡ None
g1 = refl

g2 : tx.desc_fault 1 5 (0 ∷ (60 + 2 ^ 15) ∷ []) ≡ Some (Field (Reserved 2))
g2 = refl

g3 : tx.desc_fault 1 5 (0 ∷ (60 + 2 ^ 42) ∷ []) ≡ Some (Address 0)
g3 = refl

g4 : tx.desc_fault 1 5 (4328542208 ∷ (60 + 2 ^ 42) ∷ []) ≡ Some (Offload 1)
g4 = refl

g5 : tx.desc_fault 1 5 (4328542208 ∷ (60 + 3 * 2 ^ 42) ∷ []) ≡ None
g5 = refl

-- a length of 0
g6 : tx.len_in (0 ∷ (2 ^ 14) ∷ []) ≡ 16384
g6 = refl

-- words of nothing show no offload of 3, and no sum of 60 bytes is a fault
g7 : ¬ tx.Tells 0 0 (0 ∷ 0 ∷ []) (Offload 3)
g7 told = cc (told)

g8 : ¬ tx.Tells 1 5 (4328542208 ∷ (60 + 2 ^ 44) ∷ []) (Size 60)
g8 told = ⊎_elim (λ low. absurd (omega (arith, low))) (λ high. absurd (omega (arith, high))) told.3

-- a receive descriptor of 2,048 bytes in the buffer 3 of ring 1 of queue 0, as a HEAD and as a BODY; another address; the bit 32
h1 : rx.desc_fault 0 1 3 2048 (8589946880 ∷ 2048 ∷ []) ≡ None
h1 = refl

h2 : rx.desc_fault 0 1 3 4096 (8589946880 ∷ 2048 ∷ []) ≡ Some (Size 2048)
h2 = refl

h3 : rx.desc_fault 0 2 3 4096 (8589946880 ∷ 4096 ∷ []) ≡ Some (Address 8589946880)
h3 = refl

h4 : rx.desc_fault 0 2 3 4096 (8623501312 ∷ (4096 + 2 ^ 14) ∷ []) ≡ None
h4 = refl

h5 : rx.desc_fault 0 2 3 4096 (0 ∷ (2 ^ 32) ∷ []) ≡ Some (Field (Reserved 3))
h5 = refl
