use Rattle.std.proofs.Common.{◌≡◌, ◌∙◌, ap, subst, arith, refl, Contains}
use Rattle.std.proofs.lemmas.Grind.{common_steps}
use Rattle.vmx_io.specs.FileList.{files_of}
use Rattle.vmx_io.proofs.Files.{unchanged}
use Rattle.vmx_io.proofs.faulty.FaultyShelfShelf.save.Goals as goal

pub returns-then-is_failing-clause-content : goal.returns-then-is_failing-clause-content
returns-then-is_failing-clause-content c = unchanged _ _ _ (ap (λ f. f.files) c.self.view_is)

pub returns-then-is_failing-clause-failing : goal.returns-then-is_failing-clause-failing
returns-then-is_failing-clause-failing c =
    let listed = c.is_failing.ensures.listed.0 c.if-is_failing.true in
    (λ _. subst (λ f. Contains f.failing f.next) c.self.view_is listed, λ _. refl)

pub returns-then-is_err-clause-content : goal.returns-then-is_err-clause-content
returns-then-is_err-clause-content c =
    let kept : c.put.new.files.items ≡ c.self.inside.files.items = grind (arith, common_steps) in
    unchanged _ _ _ (ap files_of kept ∙ ap (λ f. f.files) c.self.view_is)
