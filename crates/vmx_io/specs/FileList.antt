-- Files kept as a list, of which the first under a name counts.
use Rattle.std.specs.Prelude.{ℕ, List, map, Option}
use Rattle.std.specs.Ordering.{nat_cmp}
use Rattle.std.specs.Cmp.Lexicographic.{slice_cmp}
use Rattle.std.specs.FinMap.{from_entries, find}
use Rattle.vmx_io.specs.declared.file.File.{File}
use Rattle.vmx_io.specs.Outside.{Files}

-- a file as a name with what stands under it
abbrev pub entry : File → List ℕ × List ℕ
entry file = (file.name, file.bytes)

-- the files of a list, by name
abbrev pub files_of : List File → Files
files_of files = from_entries (map entry files)

-- the bytes of the first file of this name
abbrev pub first_under : List ℕ → List File → Option (List ℕ)
first_under name files = find (slice_cmp nat_cmp) name (map entry files)
