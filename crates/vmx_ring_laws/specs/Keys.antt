-- The key of a table: which table it is, as a list of numbers, for crates that do not stand on `atomic_table`.
use Rattle.std.specs.Prelude.{◌≡◌, ℕ, List, ◌∷◌}
use Rattle.atomic_table.specs.Seated.{TableId}

abbrev pub key_of : TableId → List ℕ
key_of id = id.words ∷ id.slots ∷ id.views_name ∷ id.atom ∷ id.block ∷ id.offset ∷ id.slot_names

-- tables with one key are one table
pub same_table : (y z : TableId) → key_of y ≡ key_of z → y ≡ z
same_table y z e =
    let words : y.words ≡ z.words = cc e in let slots : y.slots ≡ z.slots = cc e in let views : y.views_name ≡ z.views_name = cc e in let atom : y.atom ≡ z.atom = cc e in
    let block : y.block ≡ z.block = cc e in let offset : y.offset ≡ z.offset = cc e in let names : y.slot_names ≡ z.slot_names = cc e in
    λ i. record { words = words i; slots = slots i; views_name = views i; atom = atom i; block = block i; offset = offset i; slot_names = names i }
