-- What the tuples of a key have to do with a template.
-- Cited by Searched, `Search::new`.
use Rattle.std.proofs.Common.{◌≡◌, ℕ, zero, suc, Bool, true, false, nat_eq, List, [], ◌∷◌, Option, None, Some}
use Rattle.std.proofs.Common.{refl, sym, ap, subst, ◌∙◌, is_some}
use Rattle.std.specs.List.{slice_get}
use Rattle.std.specs.Option.{option_map}
use Rattle.std.specs.Cmp.{unsigned_Decides}
use Rattle.std.proofs.lemmas.Bool.{false≢true, and_parts, and_from}
use Rattle.std.proofs.lemmas.Option.{none-some, same_Some}
use Rattle.kt_tuple.specs.declared.value.Value.{Value}
use Rattle.kt_tuple.specs.declared.tuple.Tuple.{Tuple}
use Rattle.kt_tuple.specs.declared.template.Place.TheVariants.{Actual, Formal}
use Rattle.kt_tuple.specs.declared.template.Template.{Template}
use Rattle.kt_tuple.specs.Equality.{value_eq, value_eq_decides}
use Rattle.kt_tuple.specs.Matching.{matches}
use Rattle.kt_tuple.specs.Signature.{kinds_of, kinds_of_places, signature_of}
use Rattle.kt_tuple.proofs.Shared.{Matches-signature}
use Rattle.kt_space.specs.declared.key.Key.{Key}
use Rattle.kt_space.specs.auxiliary.Chaining.{Has}
use Rattle.kt_space.specs.auxiliary.Grouping.{kinds_key, first_key, template_key, first_actual}
use Rattle.kt_space.specs.Picking.{begins_alike, could_match}
use Rattle.kt_space.specs.auxiliary.Slots.{IsAsked, keyed}
use Rattle.kt_space.proofs.Matched.{Matches-from_test}

keyed_has : (key : Tuple → Key) (slots : List (Option Tuple)) (m : ℕ) (u : Tuple) → slice_get slots m ≡ Some (Some u) → Has (keyed key slots) m (key u)
keyed_has key [] m u at = absurd (none-some (Some u) at)
keyed_has key (s ∷ slots) zero u at = ap Some (ap (option_map key) (same_Some s (Some u) at))
keyed_has key (s ∷ slots) (suc m) u at = keyed_has key slots m u at

keyed_of : (key : Tuple → Key) (slots : List (Option Tuple)) (m : ℕ) (k : Key) → Has (keyed key slots) m k
    → (u : Tuple) × (slice_get slots m ≡ Some (Some u)) × (key u ≡ k)
keyed_of key [] m k has = absurd (none-some (Some k) has)
keyed_of key (None ∷ slots) zero k has = absurd (none-some k (same_Some None (Some k) has))
keyed_of key (Some u ∷ slots) zero k has = (u, refl, same_Some (key u) k (same_Some (Some (key u)) (Some k) has))
keyed_of key (s ∷ slots) (suc m) k has = keyed_of key slots m k has

abbrev same_kinds : Template → Tuple → Bool
same_kinds t u = nat_eq (signature_of (kinds_of_places t)) (signature_of (kinds_of u))

signature_same : (t : Template) (u : Tuple) → could_match t u ≡ true → signature_of (kinds_of u) ≡ signature_of (kinds_of_places t)
signature_same t u m =
    sym ((unsigned_Decides (signature_of (kinds_of_places t)) (signature_of (kinds_of u))).0 (and_parts (same_kinds t u) (begins_alike t u) m).0)

begins_matching : (t : Template) (u : Tuple) → matches t u ≡ true → begins_alike t u ≡ true
begins_matching [] u m = refl
begins_matching (Formal k ∷ t) u m = refl
begins_matching (Actual w ∷ t) [] m = absurd (false≢true m)
begins_matching (Actual w ∷ t) (x ∷ u) m = (and_parts (value_eq w x) (matches t u) m).0

-- what matches may match
pub could_from_match : (t : Template) (u : Tuple) → matches t u ≡ true → could_match t u ≡ true
could_from_match t u m =
    and_from (same_kinds t u) (begins_alike t u)
    ((unsigned_Decides (signature_of (kinds_of_places t)) (signature_of (kinds_of u))).1 (Matches-signature t u (Matches-from_test t u m)))
    (begins_matching t u m)

key_of : (a b : ℕ) (v w : Option Value) → a ≡ b → v ≡ w → ◌≡◌ {A = Key} (record { signature = a; first = v }) (record { signature = b; first = w })
key_of a b v w e f = λ i. record { signature = e i; first = f i }

-- where the first place is an actual
begins : (t : Template) (u : Tuple) (v : Value) → first_actual t ≡ Some v → begins_alike t u ≡ true → slice_get u 0 ≡ first_actual t
begins [] u v e m = absurd (none-some v e)
begins (Formal k ∷ t) u v e m = absurd (none-some v e)
begins (Actual w ∷ t) [] v e m = absurd (false≢true m)
begins (Actual w ∷ t) (x ∷ u) v e m = ap Some (sym ((value_eq_decides w x).0 m))

begun : (t : Template) (u : Tuple) (v : Value) → first_actual t ≡ Some v → slice_get u 0 ≡ first_actual t → begins_alike t u ≡ true
begun [] u v e f = refl
begun (Formal k ∷ t) u v e f = refl
begun (Actual w ∷ t) [] v e f = absurd (none-some w f)
begun (Actual w ∷ t) (x ∷ u) v e f = (value_eq_decides w x).1 (sym (same_Some x w f))

pub asked_first : (slots : List (Option Tuple)) (t : Template) (v : Value) → first_actual t ≡ Some v → IsAsked slots (keyed first_key slots) (template_key t) t
asked_first slots t v e = record {
  all = λ m u at fits. subst (Has (keyed first_key slots) m)
      (key_of (signature_of (kinds_of u)) (signature_of (kinds_of_places t)) (slice_get u 0) (first_actual t) (signature_same t u fits)
      (begins t u v e (and_parts (same_kinds t u) (begins_alike t u) fits).1))
      (keyed_has first_key slots m u at);
  only = λ m has. let h = keyed_of first_key slots m (template_key t) has in (
    h.0,
    h.1,
    and_from (nat_eq (signature_of (kinds_of_places t)) (signature_of (kinds_of h.0))) (begins_alike t h.0)
        ((unsigned_Decides (signature_of (kinds_of_places t)) (signature_of (kinds_of h.0))).1 (sym (ap (λ (k : Key). k.signature) h.2)))
        (begun t h.0 v e (ap (λ (k : Key). k.first) h.2)),
  );
}

-- where it is none
begun_any : (t : Template) (u : Tuple) → first_actual t ≡ None → begins_alike t u ≡ true
begun_any [] u e = refl
begun_any (Formal k ∷ t) u e = refl
begun_any (Actual w ∷ t) u e = absurd (none-some w (sym e))

pub asked_kinds : (slots : List (Option Tuple)) (t : Template) → first_actual t ≡ None → IsAsked slots (keyed kinds_key slots) (template_key t) t
asked_kinds slots t e = record {
  all = λ m u at fits. subst (Has (keyed kinds_key slots) m)
      (key_of (signature_of (kinds_of u)) (signature_of (kinds_of_places t)) None (first_actual t) (signature_same t u fits) (sym e))
      (keyed_has kinds_key slots m u at);
  only = λ m has. let h = keyed_of kinds_key slots m (template_key t) has in (
    h.0,
    h.1,
    and_from (nat_eq (signature_of (kinds_of_places t)) (signature_of (kinds_of h.0))) (begins_alike t h.0)
        ((unsigned_Decides (signature_of (kinds_of_places t)) (signature_of (kinds_of h.0))).1 (sym (ap (λ (k : Key). k.signature) h.2)))
        (begun_any t h.0 e),
  );
}

-- by the key that is looked for
pub asked_with_first : (slots : List (Option Tuple)) (keys : List (Option Key)) (key : Key) (t : Template) → key ≡ template_key t → is_some key.first ≡ true
    → keys ≡ keyed first_key slots → IsAsked slots keys key t
asked_with_first slots keys key t e f g =
    subst (λ k. IsAsked slots k key t) (sym g) (subst (λ k. IsAsked slots (keyed first_key slots) k t) (sym e)
    (by (first_actual t) refl (sym (ap (λ (k : Key). is_some k.first) e) ∙ f)))
  where
    by : (o : Option Value) → first_actual t ≡ o → is_some o ≡ true → IsAsked slots (keyed first_key slots) (template_key t) t
    by None e f = absurd (false≢true f)
    by (Some v) e f = asked_first slots t v e

pub asked_with_kinds : (slots : List (Option Tuple)) (keys : List (Option Key)) (key : Key) (t : Template) → key ≡ template_key t → is_some key.first ≡ false
    → keys ≡ keyed kinds_key slots → IsAsked slots keys key t
asked_with_kinds slots keys key t e f g =
    subst (λ k. IsAsked slots k key t) (sym g) (subst (λ k. IsAsked slots (keyed kinds_key slots) k t) (sym e)
    (by (first_actual t) refl (sym (ap (λ (k : Key). is_some k.first) e) ∙ f)))
  where
    by : (o : Option Value) → first_actual t ≡ o → is_some o ≡ false → IsAsked slots (keyed kinds_key slots) (template_key t) t
    by None e f = asked_kinds slots t e
    by (Some v) e f = absurd (false≢true (sym f))
