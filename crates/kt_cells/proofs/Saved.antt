-- What is shown of what a node remembers.
-- Cited by `saved_cells::saved_lines`.
use Rattle.std.proofs.Common.{◌≡◌, ℕ, List, [], ◌∷◌, ◌++◌, length, refl, ap, ◌∙◌}
use Rattle.std.specs.Prelude.{Option, None, Some, codes, decimal}
use Rattle.std.specs.List.{find}
use Rattle.kt_tuple.specs.declared.node.NodeId.{NodeId}
use Rattle.kt_tuple.specs.Node.{node_eq}
use Rattle.kt_history.specs.Log.{log}
use Rattle.kt_store.specs.declared.rows.NodeRow.{NodeRow}
use Rattle.kt_store.specs.Content.{Content, row_or, verdict_on}
use Rattle.kt_model.specs.State.{State}
use Rattle.kt_story.specs.Said.{count_text}
use Rattle.kt_cells.specs.Cells.{Lines, permanent_len, saved_lines, tentative_lines}
use Rattle.kt_cells.specs.auxiliary.Found.{permanent_in, tentative_in}

-- the row that is found, or the empty one
permanent-of : (c : Content) (p : NodeId) (found : Option NodeRow)
    → permanent_in c found ≡ permanent_len (row_or p found) (verdict_on c (row_or p found).tentative)
permanent-of c p None = refl
permanent-of c p (Some row) = refl

tentative-of : (p : NodeId) (found : Option NodeRow) → tentative_in found ≡ tentative_lines (row_or p found).tentative
tentative-of p None = refl
tentative-of p (Some row) = refl

pub saved_is : (s : State) (p : NodeId) (nodes : List NodeRow) (found : Option NodeRow) (count permanent : ℕ) (l0 l1 l2 l3 : Lines)
    → nodes ≡ s.content.nodes → found ≡ find (λ (row : NodeRow). node_eq row.node p) nodes → count ≡ length (log s.history p)
    → permanent ≡ permanent_in s.content found → l0 ≡ [] → l1 ≡ l0 ++ count_text count (codes "act") ∷ []
    → l2 ≡ l1 ++ (decimal permanent ++ codes " permanent") ∷ [] → l3 ≡ l2 ++ tentative_in found → l3 ≡ saved_lines s p
saved_is s p nodes found count permanent l0 l1 l2 l3 are is counted held none first second third =
    let f : Option NodeRow = find (λ (row : NodeRow). node_eq row.node p) s.content.nodes in
    let at : found ≡ f = is ∙ ap (find (λ (row : NodeRow). node_eq row.node p)) are in
    let act : List ℕ = count_text (length (log s.history p)) (codes "act") in
    third ∙ ap (λ (l : Lines). l ++ tentative_in found)
    (second ∙ ap (λ (l : Lines). l ++ (decimal permanent ++ codes " permanent") ∷ [])
    (first ∙ ap (λ (l : Lines). l ++ count_text count (codes "act") ∷ []) none))
    ∙ ap (λ (n : ℕ). count_text n (codes "act") ∷ (decimal permanent ++ codes " permanent") ∷ tentative_in found) counted
    ∙ ap (λ (n : ℕ). act ∷ (decimal n ++ codes " permanent") ∷ tentative_in found)
    (held ∙ ap (permanent_in s.content) at ∙ permanent-of s.content p f)
    ∙ ap (λ (t : Lines). act ∷ (decimal (permanent_len (row_or p f) (verdict_on s.content (row_or p f).tentative)) ++ codes " permanent") ∷ t)
    (ap tentative_in at ∙ tentative-of p f)
