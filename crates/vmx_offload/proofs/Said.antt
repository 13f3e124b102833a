-- What a write leaves of its bytes.
use Rattle.std.proofs.Common.{◌≡◌, ℕ, ◌≤◌, List, [], length, Option, Some, None, refl, sym, ap, ◌∙◌, arith}
use Rattle.std.proofs.lemmas.List.{append-nil, take_all}
use Rattle.vmx_io.specs.declared.outside.Save.{Save}
use Rattle.vmx_io.specs.declared.outside.Save.TheVariants as save
use Rattle.vmx_io.specs.Outside.{with_text}
use Rattle.vmx_io.specs.Answers.{Writes, SaveCounts}
use Rattle.vmx_offload.specs.Ends.{SaysPart}

pub nothing_more : (text : Option (List ℕ)) → text ≡ with_text text []
nothing_more None = refl
nothing_more (Some t) = ap (λ (x : List ℕ). Some x) (sym (append-nil t))

pub part_of_write : (answer : Save) (line : List ℕ) (text after : Option (List ℕ)) → Writes answer text after line → SaysPart line text after
part_of_write save.Done line text after w = (length line, w ∙ ap (with_text text) (sym (take_all (length line) line (omega arith))))
part_of_write save.Failed line text after w = w
part_of_write save.NoMemory line text after w = (0, w ∙ nothing_more text)

pub never_falls : (answer : Save) (before now : ℕ) → SaveCounts answer before now → before ≤ now
never_falls save.Done before now c = omega arith
never_falls save.Failed before now c = c.0
never_falls save.NoMemory before now c = omega arith
