use Rattle.std.proofs.Common.{ℕ, List, Ok, sym, ap, subst}
use Rattle.vmx_layout.specs.TxComp.{HasFields}
use Rattle.vmx_layout.specs.TxCompLaws.{HasFields-words_of, same_fields}
use Rattle.vmx_layout.proofs.tx_comp.TxComp.of_words.Goals as goal

pub returns-clause-unique : goal.returns-clause-unique
returns-clause-unique c d e =
    let Of : List ℕ → Type 0 = λ words. HasFields words d in
    ap Ok (same_fields c.args.words _ d c.fields.ensures.fields (subst Of (sym e) (HasFields-words_of d)))
