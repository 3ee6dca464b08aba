-- Writing into a table of labels.
-- Cited by `updating::begin`, `updating::write`.
use Rattle.std.proofs.Common.{◌≡◌, ℕ, ◌<◌, List, length, get_or, set, sym, ap, ◌∙◌, refl, arith}
use Rattle.std.specs.Prelude.{Option, None, Some}
use Rattle.std.specs.Option.{option_or}
use Rattle.std.proofs.lemmas.List.{get_or_default}
use Rattle.kt_link.specs.declared.label.Label.{Label}
use Rattle.kt_shard.specs.Table.{put}
use Rattle.kt_shard.proofs.Shared.{put-set}
use Rattle.kt_state.specs.Labels.{first_at}
use Rattle.kt_state.specs.Updating.{first_or}

pub written : {A : Type 0} (d : A) (xs : List A) (place k : ℕ) (y : A) → place ≡ k → k < length xs → set xs place y ≡ put d xs k y
written d xs place k y at lt = ap (λ (p : ℕ). set xs p y) at ∙ sym (put-set d xs k y lt)

pub first-or : (old : Option Label) (l : Label) → option_or old (Some l) ≡ first_or l old
first-or None l = refl
first-or (Some first) l = refl

pub begun : (xs : List (Option Label)) (place k : ℕ) (old new : Option Label) (l : Label) → place ≡ k → k < length xs
    → old ≡ get_or xs place old → new ≡ option_or old (Some l)
    → set xs place new ≡ put None xs k (first_or l (first_at xs k))
begun xs place k old new l at lt was is =
    let read : old ≡ first_at xs k = was ∙ get_or_default xs place old None (omega (arith, at, lt)) ∙ ap (first_at xs) at in
    ap (set xs place) (is ∙ first-or old l ∙ ap (first_or l) read) ∙ written None xs place k _ at lt
