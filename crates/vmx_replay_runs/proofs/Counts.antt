-- One more at a port.
use Rattle.std.proofs.Common.{◌≡◌, ◌≢◌, ℕ, ◌+◌, refl, inl, inr}
use Rattle.std.proofs.lemmas.Bool.Decides.{eqb_tells}
use Rattle.vmx_replay_runs.specs.Runs.{one_more}

pub more_here : (port : ℕ) (counts : ℕ → ℕ) → one_more port counts port ≡ counts port + 1
more_here port counts = let self = eqb_tells port port in elim self [ inl w ↦ rw w.0 refl | inr w ↦ absurd (w.1 refl) ]

pub more_other : (port h : ℕ) (counts : ℕ → ℕ) → h ≢ port → one_more port counts h ≡ counts h
more_other port h counts away = elim (eqb_tells h port) [ inl w ↦ absurd (away w.1) | inr w ↦ rw w.0 refl ]
