-- A state has one report.
-- Cited by `laws::a_state_has_one_report`; other crates.
use Rattle.std.proofs.Common.{◌≡◌, ℕ, true, List, [], ◌++◌, length, map, IsPermutation, refl, sym, ap, subst, ◌∙◌}
use Rattle.std.specs.Prelude.{codes}
use Rattle.std.specs.List.{flat_map}
use Rattle.std.proofs.lemmas.List.Sorted.{IsPermutation-refl, IsPermutation-sym, IsPermutation-trans, IsPermutation-map}
use Rattle.kt_tuple.specs.declared.tuple.Tuple.{Tuple}
use Rattle.kt_tuple.specs.Spelling.{tuple_text}
use Rattle.kt_history.specs.Survival.{services, lost_count}
use Rattle.kt_history.proofs.Shared.{RunsFrom-one}
use Rattle.kt_model.specs.State.{State}
use Rattle.kt_scene.specs.Report.{count_line, service_line, IsTextList, IsTupleList, IsReportOf}
use Rattle.kt_text.specs.Text.{text_line}
use Rattle.kt_scene.proofs.OneOrder.{one_order}

-- the same texts are listed in one way
one_list : (word : List ℕ) (given other : List (List ℕ)) (text also : List ℕ) → IsPermutation given other → IsTextList word given text
    → IsTextList word other also → text ≡ also
one_list word given other text also same one two =
    let alike : IsPermutation one.texts two.texts =
    IsPermutation-trans one.texts given two.texts (IsPermutation-sym given one.texts one.same) (IsPermutation-trans given other two.texts same two.same) in
    let listed : one.texts ≡ two.texts = one_order one.texts two.texts alike one.rising two.rising in
    one.is ∙ ap (λ (l : List (List ℕ)). count_line word (length l) ++ flat_map text_line l) listed ∙ sym two.is

one_tuple_list : (word : List ℕ) (tuples others : List Tuple) (text also : List ℕ) → IsPermutation tuples others → IsTupleList word tuples text
    → IsTupleList word others also → text ≡ also
one_tuple_list word tuples others text also same one two =
    one_list word (map tuple_text tuples) (map tuple_text others) text also (IsPermutation-map tuple_text tuples others same) one two

pub one_report : (s : State) (text also : List ℕ) → IsReportOf true s text → IsReportOf true s also → text ≡ also
one_report s text also one two =
    let h = s.history in
    let a = one.report in
    let b = two.report in
    let permanent : one.permanent ≡ two.permanent = one.are_permanent refl ∙ sym (two.are_permanent refl) in
    let spaces : IsPermutation a.space b.space = RunsFrom-one [] [] (services h) a.space b.space (IsPermutation-refl []) (a.run refl) (b.run refl) in
    let Alike : List Tuple → Type 0 = λ l. IsPermutation one.permanent l in
    let space : a.space_text ≡ b.space_text =
    one_tuple_list (codes "space ") a.space b.space a.space_text b.space_text spaces a.space_listed b.space_listed in
    let last : a.permanent_text ≡ b.permanent_text =
    one_tuple_list (codes "permanent ") one.permanent two.permanent a.permanent_text b.permanent_text
    (subst Alike permanent (IsPermutation-refl one.permanent)) a.permanent_listed b.permanent_listed in
    let all : List ℕ → List ℕ → List ℕ =
    λ x y. count_line (codes "survivors ") (length (services h)) ++ flat_map service_line (services h) ++ count_line (codes "lost ") (lost_count h) ++ x ++ y in
    a.is ∙ ap (λ (x : List ℕ). all x a.permanent_text) space ∙ ap (all b.space_text) last ∙ sym b.is
