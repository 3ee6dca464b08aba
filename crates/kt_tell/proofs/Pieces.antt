-- Texts that are put one behind the other.
-- Cited by Chains, `events_json::begin_worded`, `events_json::push_act`, `events_json::push_app`,
--   `events_json::push_ask`, `events_json::push_label`, `events_json::push_of_node`, `events_json::push_of_pair`,
--   `events_json::push_of_service`, `events_json::push_reply`, `events_json::push_request`,
--   `events_json::push_verdict`, `events_json::push_vote`, `rows_json::json_of`, `rows_json::push_events`,
--   `rows_json::push_modes`, `rows_json::push_outcome`, `rows_json::push_place`, `rows_json::push_refused`,
--   `rows_json::push_row`, `rows_json::push_talk`, `rows_json::push_with`, `tails::push_many`, `words::push_made` and 1
--   more.
use Rattle.std.proofs.Common.{◌≡◌, ℕ, Bool, true, false, cond, List, [], ◌∷◌, ◌++◌, ◌≤◌, length, take, refl, ap, ◌∙◌, append_assoc}
use Rattle.std.specs.Prelude.{if◌then◌else◌}
use Rattle.std.specs.List.{flat_map}
use Rattle.std.proofs.lemmas.List.{take_all}
use Rattle.kt_tell.specs.declared.choice.Choice.{Choice}
use Rattle.kt_trace.specs.declared.traced.Traced.{Traced}
use Rattle.kt_tell.specs.Chosen.{is_chosen, told}
use Rattle.kt_tell.specs.auxiliary.Said.{chosen_text}

-- one text behind another
pub then_more : {A : Type 0} (old first second middle new : List A) → middle ≡ old ++ first → new ≡ middle ++ second → new ≡ old ++ (first ++ second)
then_more old first second middle new one two = two ∙ ap (λ l. l ++ second) one ∙ append_assoc old first second

one-chosen : (b : Bool) (line : Traced → List ℕ) (x : Traced) (rest : List Traced) (text : List ℕ) → text ≡ flat_map line rest
    → (if b then line x else []) ++ text ≡ flat_map line (cond b (x ∷ rest) rest)
one-chosen true line x rest text e = ap (λ (l : List ℕ). line x ++ l) e
one-chosen false line x rest text e = e

-- the lines of all, where they are chosen, are the lines of those that are chosen
chosen_all : (line : Traced → List ℕ) (choice : Choice) (xs : List Traced)
    → flat_map (chosen_text line choice) xs ≡ flat_map line (told choice xs)
chosen_all line choice [] = refl
chosen_all line choice (x ∷ xs) =
    one-chosen (is_chosen choice x) line x (told choice xs) (flat_map (chosen_text line choice) xs) (chosen_all line choice xs)

-- the same of the lines of the first so many, which are all
pub chosen_end : (line : Traced → List ℕ) (choice : Choice) (xs : List Traced) (n : ℕ) (text : List ℕ) → length xs ≤ n
    → text ≡ flat_map (chosen_text line choice) (take n xs) → text ≡ flat_map line (told choice xs)
chosen_end line choice xs n text end is =
    is ∙ ap (flat_map (chosen_text line choice)) (take_all n xs end) ∙ chosen_all line choice xs
