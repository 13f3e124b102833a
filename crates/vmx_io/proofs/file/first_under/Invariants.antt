use Rattle.std.proofs.Common.{◌≡◌, drop}
use Rattle.vmx_io.specs.FileList.{first_under}
use Rattle.vmx_io.proofs.file.first_under.Given as goal

abbrev pub invariant-loop-file : goal.invariant-loop-file
invariant-loop-file l = first_under l.name l.files ≡ first_under l.name (drop l.file-index l.files)
