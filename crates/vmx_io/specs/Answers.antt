-- What each answer of the outside says.
use Rattle.std.specs.Prelude.{◌≡◌, ℕ, ◌<◌, ◌≤◌, List, take, length, Option}
use Rattle.vmx_io.specs.declared.outside.Load.{Load}
use Rattle.vmx_io.specs.declared.outside.Load.TheVariants as load
use Rattle.vmx_io.specs.declared.outside.Save.{Save}
use Rattle.vmx_io.specs.declared.outside.Save.TheVariants as save
use Rattle.vmx_io.specs.Outside.{Files, WhereTold, content, with_file, ChangedOnly, with_text, Rose}

-- what a load of a name says of the told files
abbrev pub Loads : Load → Option Files → List ℕ → ℕ → Type 0
Loads (load.Bytes bytes) told name limit = (length bytes ≤ limit) × WhereTold told (λ files. bytes ≡ content files name)
Loads load.TooLong told name limit = WhereTold told (λ files. limit < length (content files name))
Loads load.Failed told name limit = Unit {0}
Loads load.NoMemory told name limit = Unit {0}

-- a load counts a fault where it failed, and else none
abbrev pub LoadCounts : Load → ℕ → ℕ → Type 0
LoadCounts load.Failed before now = (before ≤ now) × Rose before now
LoadCounts (load.Bytes bytes) before now = now ≡ before
LoadCounts load.TooLong before now = now ≡ before
LoadCounts load.NoMemory before now = now ≡ before

-- what a save under a name did to the told files
abbrev pub Saves : Save → Option Files → Option Files → List ℕ → List ℕ → Type 0
Saves save.Done old new name bytes = new ≡ with_file old name bytes
Saves save.Failed old new name bytes = ChangedOnly old new name
Saves save.NoMemory old new name bytes = ChangedOnly old new name

-- what a write did to the told text: after a failure a front of the bytes may stand
abbrev pub Writes : Save → Option (List ℕ) → Option (List ℕ) → List ℕ → Type 0
Writes save.Done old new bytes = new ≡ with_text old bytes
Writes save.Failed old new bytes = (k : ℕ) × (new ≡ with_text old (take k bytes))
Writes save.NoMemory old new bytes = new ≡ old

-- a save or a write counts a fault where it failed, and else none
abbrev pub SaveCounts : Save → ℕ → ℕ → Type 0
SaveCounts save.Failed before now = (before ≤ now) × Rose before now
SaveCounts save.Done before now = now ≡ before
SaveCounts save.NoMemory before now = now ≡ before
