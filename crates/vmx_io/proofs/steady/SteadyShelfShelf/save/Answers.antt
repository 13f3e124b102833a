use Rattle.std.proofs.Common.{◌≡◌, ◌∙◌, ap, arith}
use Rattle.std.proofs.lemmas.Grind.{common_steps}
use Rattle.vmx_io.specs.FileList.{files_of}
use Rattle.vmx_io.proofs.Files.{unchanged}
use Rattle.vmx_io.proofs.steady.SteadyShelfShelf.save.Goals as goal

pub returns-then-is_err-clause-content : goal.returns-then-is_err-clause-content
returns-then-is_err-clause-content c =
    let kept : c.put.new.files.items ≡ c.self.inside.files.items = grind (arith, common_steps) in
    unchanged _ _ _ (ap files_of kept ∙ c.self.view_is)
