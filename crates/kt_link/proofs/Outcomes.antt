-- What holds of a queue where a push answered Ok, or an error.
-- Cited by `Links::push`.
use Rattle.std.proofs.Common.{◌≡◌, ◌++◌, ◌∷◌, [], List, sym, ap, ◌∙◌, if◌then◌else◌}
use Rattle.std.specs.Prelude.{Result, Ok, Err, OnOk, OnErr, is_ok}

pub appended : {A E M : Type 0} (r : Result A E) (q was new old : List M) (m : M) → q ≡ new → was ≡ old
    → new ≡ (if is_ok r then old ++ m ∷ [] else old) → OnOk r (q ≡ was ++ m ∷ [])
appended {A} {E} {M} (Ok x) q was new old m is at e = is ∙ e ∙ ap (λ (l : List M). l ++ m ∷ []) (sym at)
appended (Err e) q was new old m is at _ = tt

pub stayed : {A E M : Type 0} (r : Result A E) (q was new old : List M) (m : M) → q ≡ new → was ≡ old
    → new ≡ (if is_ok r then old ++ m ∷ [] else old) → OnErr r (q ≡ was)
stayed (Ok x) q was new old m is at e = tt
stayed (Err y) q was new old m is at e = is ∙ e ∙ sym at
