use Rattle.std.proofs.Common.{ℕ, List, Ok, sym, ap, subst}
use Rattle.vmx_layout.specs.RxDesc.{HasFields}
use Rattle.vmx_layout.specs.RxDescLaws.{HasFields-words_of, same_fields}
use Rattle.vmx_layout.proofs.rx_desc.RxDesc.of_words.Goals as goal

pub returns-clause-unique : goal.returns-clause-unique
returns-clause-unique c d e =
    let Of : List ℕ → Type 0 = λ words. HasFields words d in
    ap Ok (same_fields c.args.words _ d c.fields.ensures.fields (subst Of (sym e) (HasFields-words_of d)))
