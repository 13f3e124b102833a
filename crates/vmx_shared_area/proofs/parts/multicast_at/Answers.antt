use Rattle.std.proofs.Common.{rules, ◌≡◌, ◌≤◌, ◌+◌, ◌*◌, ◌/◌, ◌%◌, List, ℕ, length, slice_index, inl, inr, refl, sym, ap, ◌∙◌, arith}
use Rattle.std.proofs.lemmas.Bool.{cases_lt}
use Rattle.vmx_shared_area.specs.Bytes.{number_at}
use Rattle.vmx_shared_area.specs.Macs.{mac_of}
use Rattle.vmx_shared_area.specs.Places.{length-bytes_at, bytes_at-below, get_or-replicate_same}
use Rattle.vmx_shared_area.specs.Sound.{multicast_none}
use Rattle.vmx_shared_area.proofs.parts.multicast_at.Goals as goal
use Rattle.vmx_shared_area.specs.declared.offsets.TheConstants.{IMAGE_SIZE, MULTICAST_LENGTH, MAC_SIZE, MAX_MACS, MACS, MACS_SIZE}

sixth : (n : ℕ) → n ≤ MACS_SIZE → n / MAC_SIZE ≤ MAX_MACS
sixth n h = omega arith

whole : (n : ℕ) → n % MAC_SIZE ≡ 0 → MAC_SIZE * (n / MAC_SIZE) ≡ n
whole n h = omega arith

pub macs_at-macs-requires : goal.macs_at-macs-requires
macs_at-macs-requires c =
    let high = (multicast_none c.args.bytes.now c.requires.sound).1 in
    record { size = c.requires.size; count = rw (c.from.ensures, c.u16_at.ensures.number) (sixth (number_at 2 MULTICAST_LENGTH c.args.bytes.now) high) }

pub invariant_of-result : goal.invariant_of-result
invariant_of-result c =
    let n : ℕ = number_at 2 MULTICAST_LENGTH c.args.bytes.now in
    let high = (multicast_none c.args.bytes.now c.requires.sound).1 in
    let small : n / MAC_SIZE ≤ MAX_MACS = sixth n high in
    let count : c.from-2.result ≡ n / MAC_SIZE = rw (c.from-2.ensures, c.u16_at.ensures.number) refl in
    let same : c.from-2.result ≡ c.from.result = c.from-2.ensures ∙ sym c.from.ensures in
    let size : length c.args.bytes.now ≡ IMAGE_SIZE = c.requires.size in
    record {
      count_high = rw count small;
      macs_length = search rules;
      mac_length = λ i.
          elim (cases_lt i c.from.result) [
            | inl lt ↦ ap length (c.macs_at-macs.ensures.read i lt) ∙ length-bytes_at MAC_SIZE (MACS + MAC_SIZE * i) c.args.bytes.now (omega arith)
            | inr past ↦ ap length (c.macs_at-macs.ensures.rest i past)
          ];
      macs_fit = λ i j.
          elim (cases_lt i c.from.result) [
            | inl lt ↦ rw (c.macs_at-macs.ensures.read i lt) (bytes_at-below MAC_SIZE (MACS + MAC_SIZE * i) c.args.bytes.now (λ k. omega (arith, c.type_inv.bytes k)) j)
            | inr past ↦
                let none : slice_index (mac_of c.macs_at-macs.result i) j ≡ 0 = ap (λ (mac : List ℕ). slice_index mac j) (c.macs_at-macs.ensures.rest i past) ∙ get_or-replicate_same MAC_SIZE j 0 in
                omega (arith, none)
          ];
      rest = λ i past. c.macs_at-macs.ensures.rest i (omega arith);
    }

pub returns : goal.returns
returns c =
    let six : MAC_SIZE * (number_at 2 MULTICAST_LENGTH c.args.bytes.now / MAC_SIZE) ≡ number_at 2 MULTICAST_LENGTH c.args.bytes.now =
    whole (number_at 2 MULTICAST_LENGTH c.args.bytes.now) (multicast_none c.args.bytes.now c.requires.sound).0 in
    let same : c.from-2.result ≡ c.from.result = c.from-2.ensures ∙ sym c.from.ensures in
    record {
      told = record {
        count = ap (λ (n : ℕ). MAC_SIZE * n) (c.from-2.ensures ∙ ap (λ (n : ℕ). n / MAC_SIZE) c.u16_at.ensures.number) ∙ six;
        macs = λ i lt. c.macs_at-macs.ensures.read i (omega arith);
      };
    }
