use Rattle.std.proofs.Common.{rules, ◌≡◌, ◌+◌, ◌<◌, ◌*◌, length, inl, inr, sym, ◌∙◌, arith}
use Rattle.std.proofs.lemmas.Bool.{cases_lt}
use Rattle.std.proofs.lemmas.Grind.{same_number_lists}
use Rattle.std.proofs.lemmas.List.{get_or_past}
use Rattle.vmx_shared_area.specs.Bytes.{words_at}
use Rattle.vmx_shared_area.specs.Places.{word_at, number_at-below, length-words_at, words_at-index}
use Rattle.vmx_shared_area.proofs.numbers.vlans_at.Goals as goal
use Rattle.vmx_shared_area.specs.declared.offsets.TheConstants.{VLANS, VLAN_WORDS}

pub returns-clause-vlans : goal.returns-clause-vlans
returns-clause-vlans c =
    let len : length c.read_u32_into.new.dst ≡ VLAN_WORDS = search rules in
    same_number_lists c.read_u32_into.new.dst (words_at VLAN_WORDS VLANS c.args.bytes.now) (len ∙ sym (length-words_at VLAN_WORDS VLANS c.args.bytes.now))
    (λ k lt.
    let small : k < VLAN_WORDS = omega (arith, len) in
    c.read_u32_into.ensures k lt ∙ word_at c.args.bytes.now VLANS (4 * VLAN_WORDS) k (omega arith) ∙ sym (words_at-index VLAN_WORDS VLANS c.args.bytes.now k small))

pub returns-clause-fit : goal.returns-clause-fit
returns-clause-fit c i =
    let len : length c.read_u32_into.new.dst ≡ VLAN_WORDS = search rules in
    elim (cases_lt i VLAN_WORDS) [
      | inl lt ↦ rw (c.read_u32_into.ensures i (omega arith), word_at c.args.bytes.now VLANS (4 * VLAN_WORDS) i (omega arith)) (number_at-below 4 (VLANS + 4 * i) c.args.bytes.now (λ k. omega (arith, c.type_inv.bytes k)))
      | inr ge ↦ rw (get_or_past c.read_u32_into.new.dst i 0 (omega arith)) (omega arith)
    ]
