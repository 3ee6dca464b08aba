-- The rows of entries, and the refusal that ends them, one entry after the other.
-- Cited by `story::split`.
use Rattle.std.proofs.Common.{◌≡◌, List, [], ◌∷◌, ◌++◌, Option, Some, None, refl, sym, ap, ◌∙◌, append_assoc}
use Rattle.kt_trace.specs.declared.traced.Refused.{Refused}
use Rattle.kt_trace.specs.declared.traced.Traced.{Traced}
use Rattle.kt_trace.specs.declared.traced.Traced.TheVariants as entries
use Rattle.kt_trace.specs.declared.traced.TracedStep.{TracedStep}
use Rattle.kt_story.specs.Story.{last_refused, made_rows}

rows-more : (xs : List Traced) (x : Traced) → made_rows (xs ++ x ∷ []) ≡ made_rows xs ++ made_rows (x ∷ [])
rows-more [] x = refl
rows-more (entries.Made row ∷ xs) x = ap (λ (rows : List TracedStep). row ∷ rows) (rows-more xs x)
rows-more (entries.Refused refused ∷ xs) x = rows-more xs x

-- the rows of one entry more
pub rows_more : (old so_far new : List TracedStep) (xs : List Traced) (x : Traced) → so_far ≡ old ++ made_rows xs
    → new ≡ so_far ++ made_rows (x ∷ []) → new ≡ old ++ made_rows (xs ++ x ∷ [])
rows_more old so_far new xs x before more =
    more ∙ ap (λ (rows : List TracedStep). rows ++ made_rows (x ∷ [])) before ∙ append_assoc old (made_rows xs) (made_rows (x ∷ []))
    ∙ ap (λ (rows : List TracedStep). old ++ rows) (sym (rows-more xs x))

last-more : (r : Option Refused) (xs : List Traced) (x : Traced) → last_refused r (xs ++ x ∷ []) ≡ last_refused (last_refused r xs) (x ∷ [])
last-more r [] x = refl
last-more r (entries.Made row ∷ xs) x = last-more r xs x
last-more r (entries.Refused refused ∷ xs) x = last-more (Some refused) xs x

-- the refusal with one entry more
pub last_more : (before new : Option Refused) (xs : List Traced) (x : Traced) → before ≡ last_refused None xs → new ≡ last_refused before (x ∷ [])
    → new ≡ last_refused None (xs ++ x ∷ [])
last_more before new xs x so_far more = more ∙ ap (λ (r : Option Refused). last_refused r (x ∷ [])) so_far ∙ sym (last-more None xs x)
