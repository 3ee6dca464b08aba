-- Tuples and templates are fields.
-- Cited by OldFields, OldParts, OldWorkers, Ops, Peers, States.
use Rattle.std.proofs.Common.{◌≡◌, ℕ, ◌<◌, ◌≤◌, List, ◌∷◌, length, Result, refl, sym, subst, arith}
use Rattle.std.specs.Prelude.{All}
use Rattle.std.specs.List.{flat_map}
use Rattle.kt_ckpt.specs.declared.error.CkptError.{CkptError}
use Rattle.kt_tuple.specs.declared.tuple.TheConstants.{MAX_PLACES}
use Rattle.kt_ckpt.specs.Reading.{◌>>=◌, byte_within, list_at}
use Rattle.kt_ckpt.specs.Tuple.{IsTuple, IsTemplate, tuple_bytes, template_bytes, tuple_at, template_at}
use Rattle.kt_ckpt.proofs.Field.{IsField, Lasts}
use Rattle.kt_ckpt.proofs.Combined.{same_field, behind, behind_lasts}
use Rattle.kt_ckpt.proofs.Primitive.{byte_within_field, byte_within_lasts, list_field, list_lasts}
use Rattle.kt_ckpt.proofs.Values.{value_field, value_lasts, place_field, place_lasts}

-- how many there are, from low to high, and these
pub counted_field : {X : Type 0} {spelled : X → List ℕ} {IsAllowed : X → Type 0} {read : List ℕ → Result (X × List ℕ) CkptError}
    → IsField spelled IsAllowed read
    → (low high : ℕ) → high < 256
    → IsField (λ xs. length xs ∷ flat_map spelled xs) (λ xs. ((low ≤ length xs) × (length xs ≤ high)) × All IsAllowed xs)
    (λ bytes. byte_within low high bytes >>= λ n. list_at read n.0 n.1)
counted_field {X} {spelled} {IsAllowed} {read} f low high lt =
    behind (byte_within_field low high lt) (λ (xs : List X). length xs) (λ xs. flat_map spelled xs)
    (λ xs. ((low ≤ length xs) × (length xs ≤ high)) × All IsAllowed xs) (λ n. list_at read n) (λ xs h. h.0)
    (λ n h. same_field (list_field f n) (λ xs. flat_map spelled xs) (λ xs. (((low ≤ length xs) × (length xs ≤ high)) × All IsAllowed xs) × (n ≡ length xs))
    (λ xs g. ((subst (λ (k : ℕ). (low ≤ k) × (k ≤ high)) (sym g.0) h, g.1), sym g.0)) (λ xs g. (sym g.1, g.0.1)) (λ xs g. refl))

pub counted_lasts : {X : Type 0} {read : List ℕ → Result (X × List ℕ) CkptError} → Lasts read → (low high : ℕ)
    → Lasts (λ bytes. byte_within low high bytes >>= λ n. list_at read n.0 n.1)
counted_lasts {X} {read} l low high = behind_lasts (λ n. list_at read n) (byte_within_lasts low high) (list_lasts l)

pub tuple_field : IsField tuple_bytes IsTuple tuple_at
unfolding tuple_at
tuple_field = let f = counted_field value_field 1 MAX_PLACES (omega arith) in record { again = f.again; takes = f.takes }

pub tuple_lasts : Lasts tuple_at
unfolding tuple_at
tuple_lasts = let l = counted_lasts value_lasts 1 MAX_PLACES in record { goes_on = l.goes_on }

pub template_field : IsField template_bytes IsTemplate template_at
unfolding template_at
template_field = let f = counted_field place_field 1 MAX_PLACES (omega arith) in record { again = f.again; takes = f.takes }

pub template_lasts : Lasts template_at
unfolding template_at
template_lasts = let l = counted_lasts place_lasts 1 MAX_PLACES in record { goes_on = l.goes_on }
