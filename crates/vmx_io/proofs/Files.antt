-- Laws on files kept as a list.
use Rattle.std.proofs.Common.{◌≡◌, ℕ, ◌+◌, ◌<◌, true, false, cond, List, ◌∷◌, length, drop, get_or, Option, Some, refl, sym, ap, ◌∙◌, subst, add-one, drop-cons, suc}
use Rattle.std.proofs.lemmas.Cmp.{nat_list_cmp_total}
use Rattle.std.proofs.lemmas.Map.Text.{is_eq-slice_cmp}
use Rattle.std.specs.Str.{bytes_eq}
use Rattle.std.specs.FinMap.{get, get-from_entries}
use Rattle.vmx_io.specs.declared.file.File.{File}
use Rattle.vmx_io.specs.Outside.{Files, WhereTold, ChangedOnly}
use Rattle.vmx_io.specs.FileList.{files_of, first_under}

pub get_first_under : (files : List File) (name : List ℕ) → get (files_of files) name ≡ first_under name files
get_first_under files name = get-from_entries nat_list_cmp_total _ name

pub first_under_cons : (name : List ℕ) (f : File) (files : List File) → first_under name (f ∷ files) ≡ cond (bytes_eq name f.name) (Some f.bytes) (first_under name files)
first_under_cons name f files = ap (λ b. cond b (Some f.bytes) (first_under name files)) (is_eq-slice_cmp name f.name)

pub first_under_drop : (name : List ℕ) (files : List File) (i : ℕ) (f : File) → i < length files → f ≡ get_or files i f → first_under name (drop i files) ≡ cond (bytes_eq name f.name) (Some f.bytes) (first_under name (drop (i + 1) files))
first_under_drop name files i f inside is =
    ap (first_under name) (drop-cons files i f inside ∙ ap (λ x. x ∷ drop (suc i) files) (sym is))
    ∙ rw add-one (first_under_cons name f (drop (suc i) files))

pub first_under_found : (name : List ℕ) (files : List File) (i : ℕ) (f : File) → i < length files → f ≡ get_or files i f → bytes_eq name f.name ≡ true → first_under name (drop i files) ≡ Some f.bytes
first_under_found name files i f inside is same = first_under_drop name files i f inside is ∙ ap (λ b. cond b (Some f.bytes) (first_under name (drop (i + 1) files))) same

pub first_under_missed : (name : List ℕ) (files : List File) (i : ℕ) (f : File) → i < length files → f ≡ get_or files i f → bytes_eq name f.name ≡ false → first_under name (drop i files) ≡ first_under name (drop (i + 1) files)
first_under_missed name files i f inside is other = first_under_drop name files i f inside is ∙ ap (λ b. cond b (Some f.bytes) (first_under name (drop (i + 1) files))) other

some_same : {X : Type 0} (x y : X) → ◌≡◌ {A = Option X} (Some x) (Some y) → x ≡ y
some_same x y e = cc

pub told : {X : Type 0} (x : X) (P : X → Type 0) → P x → WhereTold (Some x) P
told x P p y e = subst P (some_same x y e) p

pub unchanged : (old new : Files) (name : List ℕ) → new ≡ old → ChangedOnly (Some old) (Some new) name
unchanged old new name same = (new, refl, λ other ne. ap (λ files. get files other) same)
