-- Items of lists, and the ends that a machine holds.
use Rattle.std.proofs.Common.{◌≡◌, ℕ, zero, suc, ◌<◌, List, [], ◌∷◌, length, set, refl, sym, ap, ◌∙◌, subst, arith, Some, None, Option}
use Rattle.std.specs.List.{slice_get}
use Rattle.std.specs.Option.{option_map}
use Rattle.vmx_ends.specs.Transmit.{TxDeviceView}
use Rattle.vmx_ends.specs.Receive.{RxDeviceView}
use Rattle.vmx_machine_state.specs.Views.{ActiveView, MachineView}
use Rattle.vmx_device_looks.specs.Looks.{TxAt, RxAt, with_tx, with_rx}
use Rattle.vmx_device_laws.specs.Views.{tx_held, rx_held}
use Rattle.vmx_device_laws.specs.Pairs.{tx_of, rx_of}

module _ {X : Type 0} where
  pub there_at : (xs : List X) (i : ℕ) → i < length xs → (x : X) × (slice_get xs i ≡ Some x)
  there_at [] i lt = absurd (omega (arith, lt))
  there_at (y ∷ ys) zero lt = (y, refl)
  there_at (y ∷ ys) (suc i) lt = there_at ys i (omega (arith, lt))

  pub below_length : (xs : List X) (i : ℕ) (x : X) → slice_get xs i ≡ Some x → i < length xs
  below_length [] i x e = absurd (cc e)
  below_length (y ∷ ys) zero x e = omega arith
  below_length (y ∷ ys) (suc i) x e = let lt = below_length ys i x e in omega (arith, lt)

  pub set_there : (xs : List X) (i : ℕ) (x y : X) → slice_get xs i ≡ Some x → slice_get (set xs i y) i ≡ Some y
  set_there [] i x y e = absurd (cc e)
  set_there (z ∷ zs) zero x y e = refl
  set_there (z ∷ zs) (suc i) x y e = set_there zs i x y e

  pub one_there : (xs : List X) (i : ℕ) (x y : X) → slice_get xs i ≡ Some x → slice_get xs i ≡ Some y → x ≡ y
  one_there xs i x y e f = cc (sym e ∙ f)

-- ------------------------------------------------------------ a machine's ends

pub with_tx_twice : (vs ws : List TxDeviceView) (m : MachineView) → with_tx ws (with_tx vs m) ≡ with_tx ws m
with_tx_twice vs ws m = by_active m.active
  where
    by_active : (o : Option ActiveView) → with_tx ws (with_tx vs (record m { active = o })) ≡ with_tx ws (record m { active = o })
    by_active None = refl
    by_active (Some a) = refl

pub with_rx_twice : (vs ws : List RxDeviceView) (m : MachineView) → with_rx ws (with_rx vs m) ≡ with_rx ws m
with_rx_twice vs ws m = by_active m.active
  where
    by_active : (o : Option ActiveView) → with_rx ws (with_rx vs (record m { active = o })) ≡ with_rx ws (record m { active = o })
    by_active None = refl
    by_active (Some a) = refl

-- the ends that a machine is given are those that it holds
pub with_tx_of : (vs : List TxDeviceView) (a : ActiveView) (m : MachineView) → m.active ≡ Some a → tx_of (with_tx vs m).active ≡ vs
with_tx_of vs a m e = ap (λ (o : Option ActiveView). tx_of (with_tx vs (record m { active = o })).active) e

pub with_rx_of : (vs : List RxDeviceView) (a : ActiveView) (m : MachineView) → m.active ≡ Some a → rx_of (with_rx vs m).active ≡ vs
with_rx_of vs a m e = ap (λ (o : Option ActiveView). rx_of (with_rx vs (record m { active = o })).active) e

-- a machine with the ends that it holds is itself
pub with_tx_same : (m : MachineView) → m ≡ with_tx (tx_of m.active) m
with_tx_same m = by_active m.active
  where
    by_active : (o : Option ActiveView) → record m { active = o } ≡ with_tx (tx_of o) (record m { active = o })
    by_active None = refl
    by_active (Some a) = refl

pub with_rx_same : (m : MachineView) → m ≡ with_rx (rx_of m.active) m
with_rx_same m = by_active m.active
  where
    by_active : (o : Option ActiveView) → record m { active = o } ≡ with_rx (rx_of o) (record m { active = o })
    by_active None = refl
    by_active (Some a) = refl

pub tx_count : (o : Option ActiveView) → tx_held o ≡ length (tx_of o)
tx_count None = refl
tx_count (Some a) = refl

pub rx_count : (o : Option ActiveView) → rx_held o ≡ length (rx_of o)
rx_count None = refl
rx_count (Some a) = refl

-- the end of a queue that is held
pub tx_there : (m : MachineView) (q : ℕ) → q < length (tx_of m.active) → TxAt m q
tx_there m q lt = by_active m.active refl lt
  where
    by_active : (o : Option ActiveView) → m.active ≡ o → q < length (tx_of o) → TxAt m q
    by_active None e lt = absurd (omega (arith, lt))
    by_active (Some a) e lt = let x = there_at a.ends.tx q lt in record { active = a; is_active = e; end = x.0; at = x.1 }

pub rx_there : (m : MachineView) (q : ℕ) → q < length (rx_of m.active) → RxAt m q
rx_there m q lt = by_active m.active refl lt
  where
    by_active : (o : Option ActiveView) → m.active ≡ o → q < length (rx_of o) → RxAt m q
    by_active None e lt = absurd (omega (arith, lt))
    by_active (Some a) e lt = let x = there_at a.ends.rx q lt in record { active = a; is_active = e; end = x.0; at = x.1 }

pub tx_of_there : (m : MachineView) (q : ℕ) (h : TxAt m q) → tx_of m.active ≡ h.active.ends.tx
tx_of_there m q h = ap tx_of h.is_active

pub rx_of_there : (m : MachineView) (q : ℕ) (h : RxAt m q) → rx_of m.active ≡ h.active.ends.rx
rx_of_there m q h = ap rx_of h.is_active

-- there is one such end
module _ (m : MachineView) (q : ℕ) where
  pub tx_active : (h k : TxAt m q) → h.active ≡ k.active
  tx_active h k = cc (sym h.is_active ∙ k.is_active)

  pub tx_end : (h k : TxAt m q) → h.end ≡ k.end
  tx_end h k = one_there k.active.ends.tx q h.end k.end (subst (λ (a : ActiveView). slice_get a.ends.tx q ≡ Some h.end) (tx_active h k) h.at) k.at

  pub rx_active : (h k : RxAt m q) → h.active ≡ k.active
  rx_active h k = cc (sym h.is_active ∙ k.is_active)

  pub rx_end : (h k : RxAt m q) → h.end ≡ k.end
  rx_end h k = one_there k.active.ends.rx q h.end k.end (subst (λ (a : ActiveView). slice_get a.ends.rx q ≡ Some h.end) (rx_active h k) h.at) k.at

-- after another end was put there
abbrev pub tx_put : (m m' : MachineView) (q : ℕ) (h : TxAt m q) (e : TxDeviceView) → m' ≡ with_tx (set h.active.ends.tx q e) m → TxAt m' q
tx_put m m' q h e is = record {
  active = record h.active { ends = record h.active.ends { tx = set h.active.ends.tx q e } };
  is_active = ap (λ (x : MachineView). x.active) is ∙ ap (option_map (λ (a : ActiveView). record a { ends = record a.ends { tx = set h.active.ends.tx q e } })) h.is_active;
  end = e;
  at = set_there h.active.ends.tx q h.end e h.at;
}

abbrev pub rx_put : (m m' : MachineView) (q : ℕ) (h : RxAt m q) (e : RxDeviceView) → m' ≡ with_rx (set h.active.ends.rx q e) m → RxAt m' q
rx_put m m' q h e is = record {
  active = record h.active { ends = record h.active.ends { rx = set h.active.ends.rx q e } };
  is_active = ap (λ (x : MachineView). x.active) is ∙ ap (option_map (λ (a : ActiveView). record a { ends = record a.ends { rx = set h.active.ends.rx q e } })) h.is_active;
  end = e;
  at = set_there h.active.ends.rx q h.end e h.at;
}
