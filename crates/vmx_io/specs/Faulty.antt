-- Files and a text whose calls fail by their numbers.
use Rattle.std.specs.Prelude.{◌≡◌, ℕ, List, ◌++◌, None, ◌⊎◌, Contains, refl}
use Rattle.std.specs.Coded.{Coded, code_by, coded×, coded_ℕ, coded_list}
use Rattle.std.specs.FinMap.{code, get, insert}
use Rattle.vmx_io.specs.Counts.{counted}
use Rattle.vmx_io.specs.Outside.{Files}
use Rattle.vmx_io.specs.declared.outside.Load.{Load}
use Rattle.vmx_io.specs.declared.outside.Load.TheVariants as load
use Rattle.vmx_io.specs.declared.outside.Save.{Save}
use Rattle.vmx_io.specs.declared.outside.Save.TheVariants as save

-- files, the numbers of the calls that fail, the number of the next call, and the faults so far
pub record FaultyFiles : Type 0 where
  pub files : Files
  pub failing : List ℕ
  pub next : ℕ
  pub read_faults : ℕ
  pub write_faults : ℕ

-- these files are stored as the tuple of their fields
abbrev pub faulty_files_code : Coded FaultyFiles
faulty_files_code =
    code_by (Files × (List ℕ × (ℕ × (ℕ × ℕ))))
    (coded× (code (coded_list coded_ℕ) (coded_list coded_ℕ)) (coded× (coded_list coded_ℕ) (coded× coded_ℕ (coded× coded_ℕ coded_ℕ))))
    (λ f. (f.files, (f.failing, (f.next, (f.read_faults, f.write_faults)))))
    (λ p. record { files = p.0; failing = p.1.0; next = p.1.1.0; read_faults = p.1.1.1.0; write_faults = p.1.1.1.1 })
    (λ _. refl)

-- a text, the numbers of the writes that fail, the number of the next write, and the faults so far
pub record FaultyText : Type 0 where
  pub text : List ℕ
  pub failing : List ℕ
  pub next : ℕ
  pub faults : ℕ

-- a load fails where its number is listed or the name is absent
abbrev pub FailsToLoad : FaultyFiles → List ℕ → Type 0
FailsToLoad f name = Contains f.failing f.next ⊎ (get f.files name ≡ None)

-- a load is one call, and counts a fault where it failed; nothing else changes
abbrev pub AfterLoad : Load → FaultyFiles → FaultyFiles → Type 0
AfterLoad load.Failed old new = new ≡ record old { next = counted old.next; read_faults = counted old.read_faults }
AfterLoad (load.Bytes bytes) old new = new ≡ record old { next = counted old.next }
AfterLoad load.TooLong old new = new ≡ record old { next = counted old.next }
AfterLoad load.NoMemory old new = new ≡ record old { next = counted old.next }

-- a save is one call, and counts a fault where it failed; files change only where it is done
abbrev pub AfterSave : Save → FaultyFiles → FaultyFiles → List ℕ → List ℕ → Type 0
AfterSave save.Done old new name bytes = new ≡ record old { files = insert old.files name bytes; next = counted old.next }
AfterSave save.Failed old new name bytes = new ≡ record old { next = counted old.next; write_faults = counted old.write_faults }
AfterSave save.NoMemory old new name bytes = new ≡ record old { next = counted old.next }

-- a write is one call, and counts a fault where it failed; the text changes only where it is done
abbrev pub AfterWrite : Save → FaultyText → FaultyText → List ℕ → Type 0
AfterWrite save.Done old new bytes = new ≡ record old { text = old.text ++ bytes; next = counted old.next }
AfterWrite save.Failed old new bytes = new ≡ record old { next = counted old.next; faults = counted old.faults }
AfterWrite save.NoMemory old new bytes = new ≡ record old { next = counted old.next }
