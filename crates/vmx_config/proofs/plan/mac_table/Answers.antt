use Rattle.std.proofs.lemmas.Bool.Decides.{eqb_tells}
use Rattle.std.proofs.Common.{◌≡◌, ◌<◌, ◌^◌, ℕ, List, [], ◌∷◌, ◌++◌, length, set, take, slice_index, replicate, refl, ap, sym, ◌∙◌, subst, arith, inl, inr}
use Rattle.std.proofs.lemmas.List.{length-set, get_or-set_same, get_or-set_other, take_more, take_more_set, take_all}
use Rattle.vmx_shared_area.specs.Macs.{mac_of, zero_mac}
use Rattle.vmx_shared_area.specs.Places.{get_or-replicate_same}
use Rattle.vmx_shared_area.specs.declared.offsets.TheConstants.{MAC_SIZE, MAX_MACS}
use Rattle.vmx_config.proofs.plan.mac_table.Goals as goal

-- what holds of the new address and of all before it
kept : (P : List ℕ → Type 0) (macs : List (List ℕ)) (i : ℕ) (mac : List ℕ) → i < length macs → P mac → ((k : ℕ) → P (mac_of macs k)) → (k : ℕ) → P (mac_of (set macs i mac) k)
kept P macs i mac lt new all k = elim (eqb_tells k i) [
  | inl x ↦ subst (λ (j : ℕ). P (mac_of (set macs i mac) j)) (sym x.1) (subst P (sym (get_or-set_same macs i mac zero_mac lt)) new)
  | inr x ↦ subst P (sym (get_or-set_other macs i k mac zero_mac x.1)) (all k)
]

pub loop-i-init : goal.loop-i-init
loop-i-init c = record {
  len = refl;
  read = refl;
  rest = λ k _. get_or-replicate_same MAX_MACS k zero_mac;
  lengths = λ k. ap length (get_or-replicate_same MAX_MACS k zero_mac);
  fit = λ k j. (let none : slice_index (mac_of (replicate MAX_MACS zero_mac) k) j ≡ 0 = ap (λ (mac : List ℕ). slice_index mac j) (get_or-replicate_same MAX_MACS k zero_mac) ∙ get_or-replicate_same MAC_SIZE j 0 in omega (arith, none));
}

pub loop-i-preserved : goal.loop-i-preserved
loop-i-preserved c =
    let all = c.loop-i.invariant in
    let new = c.address_of.ensures in
    let few = c.requires.few in
    let lt = c.loop-i-test.true in
    let len = all.len in
    let within : c.loop-i.i < length c.loop-i.macs = omega (arith, len, few, lt) in
    let size : length c.address_of.result ≡ MAC_SIZE = ap length new.same ∙ c.told-addresses c.loop-i.i lt in
    record {
      len = length-set c.loop-i.macs c.loop-i.i c.address_of.result ∙ all.len;
      read = take_more_set c.loop-i.macs c.loop-i.i c.address_of.result within ∙ (λ i. all.read i ++ new.same i ∷ []) ∙ sym (take_more c.args.addresses.now c.loop-i.i [] lt);
      rest = λ k le. get_or-set_other c.loop-i.macs c.loop-i.i k c.address_of.result zero_mac (λ e. absurd (omega (arith, le, e))) ∙ all.rest k (omega (arith, le));
      lengths = kept (λ (mac : List ℕ). length mac ≡ MAC_SIZE) c.loop-i.macs c.loop-i.i c.address_of.result within size all.lengths;
      fit = kept (λ (mac : List ℕ). (j : ℕ) → slice_index mac j < 2 ^ 8) c.loop-i.macs c.loop-i.i c.address_of.result within new.fit all.fit;
    }

pub invariant_of-result : goal.invariant_of-result
invariant_of-result c =
    let all = c.loop-i.invariant in
    let end = c.loop-i.auto.i-end in
    record { count_high = c.requires.few; macs_length = all.len; mac_length = all.lengths; macs_fit = all.fit; rest = λ i past. all.rest i (omega (arith, past, end)) }

pub returns : goal.returns
returns c =
    let end = c.loop-i.auto.i-end in
    let past = c.loop-i-test.false in
    let at : c.loop-i.i ≡ length c.args.addresses.now = omega (arith, end, past) in
    record { macs = subst (λ (n : ℕ). take n c.loop-i.macs ≡ take n c.args.addresses.now) at c.loop-i.invariant.read ∙ take_all (length c.args.addresses.now) c.args.addresses.now (omega arith) }
