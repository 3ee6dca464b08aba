-- The nearest word of a list, from that of the list behind its first.
-- Cited by `near::nearest_below`.
use Rattle.std.proofs.Common.{◌≡◌, ℕ, ◌<◌, ◌≤◌, List, [], ◌∷◌, map, Bor, Option, Some, None, Result, Ok, Err, sym, subst, arith}
use Rattle.std.specs.Prelude.{IfOk, IfSome}
use Rattle.std.specs.declared.alloc.AllocError.{AllocError}
use Rattle.std.proofs.lemmas.List.Elements.{All-cons, Contains-append_right}
use Rattle.kt_explain.specs.Near.{edits, IsNearest}

module _ (written : List ℕ) (first : Bor (List ℕ)) (later words : List (Bor (List ℕ))) (bound : ℕ) (split : words ≡ first ∷ later)
    (far : bound ≤ edits written first.now) where
  -- a word before the others changes nothing where it is no nearer
  pub nearest_more : (meant : List ℕ) → edits written meant < bound →
      IsNearest written (map (λ w. w.now) later) meant → IsNearest written (map (λ w. w.now) words) meant
  nearest_more meant below h =
      let le : edits written meant ≤ edits written first.now = omega (arith, below, far) in
      subst (λ (ws : List (Bor (List ℕ))). IsNearest written (map (λ w. w.now) ws) meant) (sym split) (record {
        member = Contains-append_right (first.now ∷ []) (map (λ w. w.now) later) meant h.member;
        least = All-cons (λ other. edits written meant ≤ edits written other) first.now (map (λ w. w.now) later) le h.least;
      })

  -- so too where it is not known whether one was found
  pub nearest_kept : (r : Result (Option (Bor (List ℕ))) AllocError) → IfOk r (λ found. IfSome found (λ m. edits written m.now < bound))
      → IfOk r (λ found. IfSome found (λ m. IsNearest written (map (λ w. w.now) later) m.now))
      → IfOk r (λ found. IfSome found (λ m. IsNearest written (map (λ w. w.now) words) m.now))
  nearest_kept (Ok (Some m)) below h = nearest_more m.now below h
  nearest_kept (Ok None) below h = tt
  nearest_kept (Err e) below h = tt

  -- and where one was found
  pub nearest_some : (found : Option (Bor (List ℕ))) (m : Bor (List ℕ)) → found ≡ Some m → IfSome found (λ m. edits written m.now < bound)
      → IfSome found (λ m. IsNearest written (map (λ w. w.now) later) m.now) → IsNearest written (map (λ w. w.now) words) m.now
  nearest_some found m is below h =
      nearest_more m.now (subst (λ (o : Option (Bor (List ℕ))). IfSome o (λ x. edits written x.now < bound)) is below)
      (subst (λ (o : Option (Bor (List ℕ))). IfSome o (λ x. IsNearest written (map (λ w. w.now) later) x.now)) is h)
