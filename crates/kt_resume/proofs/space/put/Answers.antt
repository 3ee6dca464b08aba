use Rattle.std.proofs.Common.{[], ◌∷◌, ◌++◌, ◌∙◌, List, IsPermutation, ap, sym, subst}
use Rattle.std.proofs.lemmas.List.Sorted.{IsPermutation-append_comm}
use Rattle.kt_tuple.specs.declared.tuple.Tuple.{Tuple}
use Rattle.kt_resume.proofs.space.put.Goals as goal

pub returns-clause-put : goal.returns-clause-put
returns-clause-put c =
    let u = c.args.tuple.now in
    let old = c.args.bag.now.tuples in
    let is = c.put_reserved.ensures ∙ ap (λ (l : List Tuple). l ++ c.in_ok-copy.copy ∷ []) c.in_ok-reserve.ensures.tuples
    ∙ ap (λ (v : Tuple). old ++ v ∷ []) c.in_ok-copy.ensures in
    subst (λ (l : List Tuple). IsPermutation (u ∷ old) l) (sym is) (IsPermutation-append_comm (u ∷ []) old)
