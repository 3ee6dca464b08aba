-- What matches has one list of kinds, hence one signature and one home.
-- Cited by `laws::matching_has_one_home`; other crates.
use Rattle.std.proofs.Common.{◌≡◌, ℕ, List, [], ◌∷◌, refl, ap, sym, ◌∙◌}
use Rattle.kt_tuple.specs.declared.value.Value.{Value}
use Rattle.kt_tuple.specs.declared.value.Kind.{Kind}
use Rattle.kt_tuple.specs.declared.template.Place.{Place}
use Rattle.kt_tuple.specs.declared.template.Place.TheVariants.{Actual, Formal}
use Rattle.kt_tuple.specs.Value.{kind_of}
use Rattle.kt_tuple.specs.Matching.{Admits, Matches}
use Rattle.kt_tuple.specs.Signature.{kind_of_place, kinds_of, kinds_of_places, signature_of, shard_of}

pub Admits-kind : (p : Place) (u : Value) → Admits p u → kind_of_place p ≡ kind_of u
Admits-kind (Actual v) u e = ap kind_of (sym e)
Admits-kind (Formal k) u e = sym e

pub Matches-kinds : (t : List Place) (u : List Value) → Matches t u → kinds_of_places t ≡ kinds_of u
Matches-kinds [] [] m = refl
Matches-kinds [] (u ∷ us) m = absurd m
Matches-kinds (p ∷ ps) [] m = absurd m
Matches-kinds (p ∷ ps) (u ∷ us) m =
    ap (λ (k : Kind). k ∷ kinds_of_places ps) (Admits-kind p u m.0) ∙ ap (λ (ks : List Kind). kind_of u ∷ ks) (Matches-kinds ps us m.1)

pub Matches-signature : (t : List Place) (u : List Value) → Matches t u → signature_of (kinds_of_places t) ≡ signature_of (kinds_of u)
Matches-signature t u m = ap signature_of (Matches-kinds t u m)

pub Matches-shard : (shards : ℕ) (t : List Place) (u : List Value) → Matches t u → shard_of shards (kinds_of_places t) ≡ shard_of shards (kinds_of u)
Matches-shard shards t u m = ap (shard_of shards) (Matches-kinds t u m)
