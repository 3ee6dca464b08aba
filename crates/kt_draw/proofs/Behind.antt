-- Texts that are put one behind the other.
-- Cited by `element::push_line`, `element::push_use`, `row::push_row`.
use Rattle.std.proofs.Common.{◌≡◌, List, ◌++◌, ap, ◌∙◌, append_assoc}

pub then_more : {A : Type 0} (old first second middle new : List A) → middle ≡ old ++ first → new ≡ middle ++ second → new ≡ old ++ (first ++ second)
then_more old first second middle new one two = two ∙ ap (λ l. l ++ second) one ∙ append_assoc old first second
