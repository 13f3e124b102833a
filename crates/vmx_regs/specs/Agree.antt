-- Where each of two lists is a prefix of the other they are one; what that says of the turns of two sides.
use Rattle.std.proofs.Common.{◌≡◌, ◌≤◌, List, [], ◌∷◌, ◌++◌, length, sym, refl, ap, ◌∙◌, arith, append-nil, length-append}
use Rattle.std.proofs.lemmas.List.{length-map}
use mathlib.Core.List.{IsPrefix}
use Rattle.std.specs.Prelude.{Option, Some, None}
use Rattle.vmx_ring_laws.specs.Lists.{longer, longer_second, longer_of, prefix_length}
use Rattle.vmx_device_state.specs.declared.turn.CommandView.{CommandView}
use Rattle.vmx_device_state.specs.declared.turn.Turn.{Turn}
use Rattle.vmx_regs.specs.Rule.{commands_of, with_asked}

module _ {A : Type 0} where
  whole : (xs ys zs : List A) → xs ++ zs ≡ ys → length ys ≤ length xs → xs ≡ ys
  whole xs ys [] e le = sym (append-nil xs) ∙ e
  whole xs ys (z ∷ zs) e le = absurd (let f = ap length e in let g = length-append xs (z ∷ zs) in omega arith)

  pub prefix_same : (xs ys : List A) → IsPrefix xs ys → IsPrefix ys xs → xs ≡ ys
  prefix_same xs ys p q = whole xs ys p.0 p.1 (prefix_length ys xs q)

  -- the longer of a prefix and its list is the list
  pub longer_whole : (xs ys : List A) → IsPrefix xs ys → longer xs ys ≡ ys
  longer_whole xs ys p = let q : IsPrefix (longer xs ys) ys = longer_of (λ l. IsPrefix l ys) xs ys p ([], append-nil ys) in whole (longer xs ys) ys q.0 q.1 (longer_second xs ys)

-- no command is outstanding, and each side has heard the other's turns
pub same_turns : (ts ss : List Turn) (o : Option CommandView) → IsPrefix ts ss → IsPrefix ss ts → IsPrefix (with_asked (commands_of ss) o) (commands_of ts) → (ts ≡ ss) × (o ≡ None)
same_turns ts ss None p q r = (prefix_same ts ss p q, refl)
same_turns ts ss (Some c) p q r =
    let le = prefix_length (commands_of ss ++ c ∷ []) (commands_of ts) r in let m = length-map ts (λ (t : Turn). t.command) in let n = length-map ss (λ (t : Turn). t.command) in
    let more = length-append (commands_of ss) (c ∷ []) in let few = prefix_length ts ss p in absurd (omega arith)
