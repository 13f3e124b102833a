-- How much room is left after several looks.
use Rattle.std.proofs.Common.{ℕ, ◌+◌, ◌≤◌, arith}
use Rattle.vmx_device.specs.Holds.{LeavesRoom}
use Rattle.vmx_device.specs.declared.inner.Inner.{Inner}

module _ {F TxNote TxDriver TxDevice TxFacts RxNote RxDriver RxDevice RxFacts : Type 0} where
  -- nothing was used
  pub room_same : (x : Inner F TxNote TxDriver TxDevice TxFacts RxNote RxDriver RxDevice RxFacts) → LeavesRoom 0 0 0 x x
  room_same x = record { entries_ = omega arith; setups_ = omega arith; copies_ = omega arith; most = omega arith }

  -- one look after others
  pub room_then : (e s c e' s' c' m n o : ℕ) (x y z : Inner F TxNote TxDriver TxDevice TxFacts RxNote RxDriver RxDevice RxFacts) → LeavesRoom e s c x y → LeavesRoom e' s' c' y z → e + e' ≤ m → s + s' ≤ n → c + c' ≤ o → LeavesRoom m n o x z
  room_then e s c e' s' c' m n o x y z before here le_m le_n le_o = record {
    entries_ = omega (arith, before.entries_, here.entries_, le_m);
    setups_ = omega (arith, before.setups_, here.setups_, le_n);
    copies_ = omega (arith, before.copies_, here.copies_, le_o);
    most = omega (arith, before.most, here.most, le_m);
  }

  -- a bound that is no closer
  pub room_more : (e s c m n o : ℕ) (x y : Inner F TxNote TxDriver TxDevice TxFacts RxNote RxDriver RxDevice RxFacts) → LeavesRoom e s c x y → e ≤ m → s ≤ n → c ≤ o → LeavesRoom m n o x y
  room_more e s c m n o x y before le_m le_n le_o = record {
    entries_ = omega (arith, before.entries_, le_m);
    setups_ = omega (arith, before.setups_, le_n);
    copies_ = omega (arith, before.copies_, le_o);
    most = omega (arith, before.most, le_m);
  }
