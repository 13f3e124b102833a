-- The bytes of a hash key, one after the other.
use Rattle.std.proofs.Common.{◌≡◌, ℕ, suc, ◌+◌, ◌-◌, ◌*◌, ◌<◌, ◌≤◌, List, Some, None, refl, arith}
use Rattle.std.specs.Prelude.{slice_index, slice_set}
use Rattle.vmx_config_rows.specs.Texts.{pair_of}
use Rattle.vmx_config_lists.specs.Keys.{key_from}

rest : (i n : ℕ) → i < n → n - i ≡ suc (n - (i + 1))
rest i n lt = omega (arith, lt)

-- a byte that its digits give
pub key_goes : (digits key : List ℕ) (i n b : ℕ) → i < n → pair_of (slice_index digits (2 * i)) (slice_index digits (2 * i + 1)) ≡ Some b → key_from digits key i (n - i) ≡ key_from digits (slice_set key i b) (i + 1) (n - (i + 1))
unfolding key_from
key_goes digits key i n b lt is = rw (rest i n lt, is) refl

-- digits that give no byte
pub key_fails : (digits key : List ℕ) (i n : ℕ) → i < n → pair_of (slice_index digits (2 * i)) (slice_index digits (2 * i + 1)) ≡ None → key_from digits key i (n - i) ≡ None
unfolding key_from
key_fails digits key i n lt none = rw (rest i n lt, none) refl

-- all bytes are read
pub key_done : (digits key : List ℕ) (i n : ℕ) → n ≤ i → key_from digits key i (n - i) ≡ Some key
unfolding key_from
key_done digits key i n le = let e : n - i ≡ 0 = omega (arith, le) in rw e refl
