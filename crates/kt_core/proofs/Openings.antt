-- The table of nodes of a world that was just opened or resumed, row by row.
-- Cited by `opening::down_nodes`, `opening::push_rows`.
use Rattle.std.proofs.Common.{◌≡◌, ℕ, Option, ◌+◌, List, [], ◌∷◌, ◌++◌, map, sym, ap, ◌∙◌, append_assoc, add-one}
use Rattle.std.proofs.lemmas.List.{map-append}
use Rattle.kt_tuple.specs.declared.node.NodeId.TheVariants as ids
use Rattle.kt_state.specs.declared.node.Node.{Node}
use Rattle.kt_state.specs.Node.{Node as Row}
use Rattle.kt_scenario.specs.Scene.{SceneModel}
use Rattle.kt_model.specs.Reached.{opening_row, opening_rows}
use Rattle.kt_model.specs.Resumed.{down_row, down_rows}
use Rattle.kt_core.specs.auxiliary.Rows.{row_view}

pub no_rows : (nodes : List (Option Node)) (scene : SceneModel) → nodes ≡ [] → map row_view nodes ≡ opening_rows scene 0
unfolding opening_rows
no_rows nodes scene e = ap (map row_view) e

-- two rows more
pub more_rows : (nodes once twice : List (Option Node)) (worker shard : Option Node) (scene : SceneModel) (n : ℕ)
    → map row_view nodes ≡ opening_rows scene n → once ≡ nodes ++ worker ∷ [] → twice ≡ once ++ shard ∷ []
    → row_view worker ≡ opening_row scene (ids.Worker n) → row_view shard ≡ opening_row scene (ids.Shard n) → map row_view twice ≡ opening_rows scene (n + 1)
unfolding opening_rows
more_rows nodes once twice worker shard scene n so_far first second w s =
    let shown : twice ≡ nodes ++ worker ∷ shard ∷ [] = second ∙ ap (λ (l : List (Option Node)). l ++ shard ∷ []) first
    ∙ append_assoc nodes (worker ∷ []) (shard ∷ []) in
    ap (map row_view) shown
    ∙ map-append row_view nodes (worker ∷ shard ∷ [])
    ∙ ap (λ (l : List (Option Row)). l ++ row_view worker ∷ row_view shard ∷ []) so_far
    ∙ ap (λ (p : Option Row). opening_rows scene n ++ p ∷ row_view shard ∷ []) w
    ∙ ap (λ (p : Option Row). opening_rows scene n ++ opening_row scene (ids.Worker n) ∷ p ∷ []) s
    ∙ ap (opening_rows scene) (sym (add-one n))

-- the same where each node is down
pub no_down : (nodes : List (Option Node)) (scene : SceneModel) → nodes ≡ [] → map row_view nodes ≡ down_rows scene 0
unfolding down_rows
no_down nodes scene e = ap (map row_view) e

pub more_down : (nodes once twice : List (Option Node)) (worker shard : Option Node) (scene : SceneModel) (n : ℕ)
    → map row_view nodes ≡ down_rows scene n → once ≡ nodes ++ worker ∷ [] → twice ≡ once ++ shard ∷ []
    → row_view worker ≡ down_row scene (ids.Worker n) → row_view shard ≡ down_row scene (ids.Shard n) → map row_view twice ≡ down_rows scene (n + 1)
unfolding down_rows
more_down nodes once twice worker shard scene n so_far first second w s =
    let shown : twice ≡ nodes ++ worker ∷ shard ∷ [] = second ∙ ap (λ (l : List (Option Node)). l ++ shard ∷ []) first
    ∙ append_assoc nodes (worker ∷ []) (shard ∷ []) in
    ap (map row_view) shown
    ∙ map-append row_view nodes (worker ∷ shard ∷ [])
    ∙ ap (λ (l : List (Option Row)). l ++ row_view worker ∷ row_view shard ∷ []) so_far
    ∙ ap (λ (p : Option Row). down_rows scene n ++ p ∷ row_view shard ∷ []) w
    ∙ ap (λ (p : Option Row). down_rows scene n ++ down_row scene (ids.Worker n) ∷ p ∷ []) s
    ∙ ap (down_rows scene) (sym (add-one n))
