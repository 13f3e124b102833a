-- What holds of every hash and every choice.
use Rattle.std.proofs.Common.{◌≡◌, ℕ, zero, suc, ◌*◌, ◌%◌, ◌^◌, ◌<◌, ◌≤◌, List, length, slice_index, refl, arith}
use Rattle.std.specs.Prelude.{◌==◌, Some}
use Rattle.std.proofs.lemmas.Bool.{cond_both}
use Rattle.std.proofs.lemmas.Nat.{mod_below}
use Rattle.std.proofs.Math.Nat.{pow-suc}
use Rattle.vmx_frame.specs.declared.kinds.Flow.{Flow}
use Rattle.vmx_shared_area.specs.declared.rss.Rss.{Rss}
use Rattle.vmx_rss.specs.declared.answer.Choice.{Choice}
use Rattle.vmx_rss.specs.Toeplitz.{both, number_of, hash_of}
use Rattle.vmx_rss.specs.Queues.{kind_of, flow_hash, no_choice, choice_of}

-- a number of n bits
pub number_of_below : (bit : ℕ → ℕ) (n : ℕ) → ((k : ℕ) → bit k < 2) → number_of bit n < 2 ^ n
number_of_below bit zero small = omega arith
number_of_below bit (suc n) small =
    let ih = number_of_below bit n small in
    let last = small n in
    rw (pow-suc 2 n) (omega arith)

-- the hash has 32 bits
pub hash_below : (key input : List ℕ) → hash_of key input < 2 ^ 32
unfolding hash_of
hash_below key input =
    number_of_below (λ j. both key input j (8 * length input) % 2) 32
    (λ k. mod_below (both key input k (8 * length input)) 2 (omega arith))

-- a table whose entries are receive queues chooses one
pub choice_below : (n : ℕ) (rss : Rss) (flow : Flow) → 1 ≤ n → ((i : ℕ) → i < rss.size → slice_index rss.table i < n) → (choice_of (Some rss) flow).queue < n
choice_below n rss flow some entries =
    let kind : ℕ = kind_of rss.types flow in
    let hash : ℕ = flow_hash rss.key kind flow in
    let size : 1 ≤ rss.size = rss.size_low in
    cond_both (kind == 0) no_choice (record { queue = slice_index rss.table (hash % rss.size); hash = hash; kind = kind })
    (λ (c : Choice). c.queue < n) (λ zero_kind. omega arith) (λ other_kind. entries (hash % rss.size) (mod_below hash rss.size size))

-- equal settings choose alike
pub same_choice : (a b : Rss) (flow : Flow) → a.types ≡ b.types → a.key ≡ b.key → a.size ≡ b.size → a.table ≡ b.table → choice_of (Some a) flow ≡ choice_of (Some b) flow
same_choice a b flow types key size table = rw (types, key, size, table) refl
