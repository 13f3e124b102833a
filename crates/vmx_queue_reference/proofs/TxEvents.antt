-- What the core does of a take and of a reap that it allows.
use Rattle.std.proofs.Common.{◌≡◌, ◌<◌, ◌&&◌, suc, length, Bool, true, cond, ap, ap₂, eq-eqb}
use Rattle.std.proofs.lemmas.Bool.{lt-ltb}
use Rattle.vmx_ends.specs.TransmitCore.{TxCore, takes, reaps, allows, happens, after}

pub takes_one : (c : TxCore) → c.taken ≡ c.completed → c.taken < length c.sent → (allows c takes ≡ true) × (after c takes ≡ record c { taken = suc c.taken })
takes_one c same less = let ok : allows c takes ≡ true = ap₂ (λ (x y : Bool). x && y) (eq-eqb c.taken c.completed same) (lt-ltb c.taken (length c.sent) less) in
    (ok, ap (λ b. cond b (happens c takes) c) ok)

pub reaps_one : (c : TxCore) → c.reaped < c.completed → (allows c reaps ≡ true) × (after c reaps ≡ record c { reaped = suc c.reaped })
reaps_one c less = let ok : allows c reaps ≡ true = lt-ltb c.reaped c.completed less in (ok, ap (λ b. cond b (happens c reaps) c) ok)
