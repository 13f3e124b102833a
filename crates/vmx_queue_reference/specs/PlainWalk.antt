-- A walk over the supplies of a plain receive queue as the core's walk.
use Rattle.std.specs.Prelude.{ℕ, ◌+◌, ◌≡◌, ◌≤◌, List, length}
use Rattle.vmx_ends.specs.Core.{Outcome, takes, misses}
use Rattle.vmx_ends.specs.Walk.{Stand}
use Rattle.vmx_queue_reference.specs.declared.rx.PlainRx.{PlainRx}
use Rattle.vmx_queue_reference.specs.declared.rx.Way.{Way}
use Rattle.vmx_queue_reference.specs.declared.rx.Walked.{Walked}
use Rattle.vmx_queue_reference.specs.declared.rx.Walked.TheVariants.{Takes, Misses}

-- where a walk stands, with looks of which it keeps no list
abbrev pub stand : PlainRx → Way → List (ℕ × ℕ) → Stand
stand q way looks = record { next1 = q.one.left + way.ones; next2 = q.two.left + way.twos; chain = way.chain; looks = looks }

-- the walk goes through so far and with these pieces
pub record IsWay (q : PlainRx) (passed : ℕ) (end : Stand) (way : Way) : Type 0 where
  pub passed_is : way.passed ≡ passed
  pub next1 : q.one.left + way.ones ≡ end.next1
  pub next2 : q.two.left + way.twos ≡ end.next2
  pub chain : way.chain ≡ end.chain
  pub within1 : way.ones ≤ length q.one.buffers
  pub within2 : way.twos ≤ length q.two.buffers

-- a walk over the supplies comes to what the core's comes to
abbrev pub EndsAs : PlainRx → Outcome → Walked → Type 0
EndsAs q (takes passed end) (Takes way) = IsWay q passed end way
EndsAs q (takes passed end) (Misses ring at) = ⊥
EndsAs q (misses ring position looks) (Takes way) = ⊥
EndsAs q (misses r position looks) (Misses ring at) = (ring ≡ r) × (at ≡ position)
