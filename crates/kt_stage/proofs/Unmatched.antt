-- The first node, in node order, that is not matched, where one more seat is looked at.
-- Cited by `closing::first_unmatched`.
use Rattle.std.proofs.Common.{◌≡◌, zero, suc, Bool, true, false, ◌||◌, List, ◌∷◌, get_or, All, IsTrue, refl, sym, ap, subst, ◌∙◌, arith}
use Rattle.std.specs.Prelude.{Option, None, Some, IfSome}
use Rattle.std.specs.List.{list_any}
use Rattle.kt_tuple.specs.declared.node.NodeId.{NodeId}
use Rattle.kt_tuple.specs.declared.node.NodeId.TheVariants.{Worker, Shard}
use Rattle.kt_tuple.specs.Node.{node_eq, is_before}
use Rattle.kt_tuple.proofs.Shared.{node_eq-refl}
use Rattle.kt_scenario.specs.declared.step.Step.{Step}
use Rattle.kt_stage.specs.Closing.{IsFirstUnmatched, IsMatched}
use Rattle.kt_stage.specs.Journal.{Held}

not-itself : (a : NodeId) → is_before a a ≡ false
not-itself (Worker m) = grind arith
not-itself (Shard m) = grind arith

-- what comes before one node comes before each that this one does not follow
before-both : (a b c : NodeId) → is_before a c ≡ true → is_before b c ≡ false → is_before a b ≡ true
before-both (Worker m) (Worker n) (Worker o) h g = grind (arith, h, g)
before-both (Worker m) (Worker n) (Shard o) h g = absurd cc
before-both (Worker m) (Shard n) c h g = refl
before-both (Shard m) b (Worker o) h g = absurd cc
before-both (Shard m) (Worker n) (Shard o) h g = absurd cc
before-both (Shard m) (Shard n) (Shard o) h g = grind (arith, h, g)

module _ (steps : List Step) (seats : List Held) where
  -- the seats before this node are matched, where those are that come before the first that is not
  earlier : (p : NodeId) (later : List Held) (first : Option NodeId) → IsFirstUnmatched steps seats later first
      → IfSome first (λ q. is_before q p ≡ false)
      → All (λ seat. IsTrue (is_before seat.node p) → IsMatched steps seats seat.node) later
  earlier p later None h near = λ k d lt b. h k d lt
  earlier p later (Some q) h near = λ k d lt b. h.2 k d lt (before-both (get_or later k d).node q p b near)

  seats-before : (x : Held) (later : List Held) → All (λ seat. IsTrue (is_before seat.node x.node) → IsMatched steps seats seat.node) later
      → All (λ seat. IsTrue (is_before seat.node x.node) → IsMatched steps seats seat.node) (x ∷ later)
  seats-before x later h = at
    where
      at : All (λ seat. IsTrue (is_before seat.node x.node) → IsMatched steps seats seat.node) (x ∷ later)
      at zero d lt b = absurd (let off : true ≡ false = sym b ∙ not-itself x.node in cc)
      at (suc k) d lt b = h k d (omega (arith, lt)) b

  first-here : (x : Held) (later : List Held) (first : Option NodeId) → IsFirstUnmatched steps seats later first → ¬ IsMatched steps seats x.node
      → IfSome first (λ q. is_before q x.node ≡ false) → IsFirstUnmatched steps seats (x ∷ later) (Some x.node)
  first-here x later first h bad near = (
    ap (λ (b : Bool). b || list_any (λ (seat : Held). node_eq x.node seat.node) later) (node_eq-refl x.node),
    bad,
    seats-before x later (earlier x.node later first h near),
  )

  pub unmatched_here : (some later : List Held) (x : Held) (p : NodeId) (first : Option NodeId) → some ≡ x ∷ later → x.node ≡ p
      → IsFirstUnmatched steps seats later first → ¬ IsMatched steps seats p → IfSome first (λ q. is_before q p ≡ false)
      → IsFirstUnmatched steps seats some (Some p)
  unmatched_here some later x p first split is h bad near =
      subst (λ (q : NodeId). IsFirstUnmatched steps seats some (Some q)) is
      (subst (λ (xs : List Held). IsFirstUnmatched steps seats xs (Some x.node)) (sym split)
      (first-here x later first h (subst (λ (q : NodeId). ¬ IsMatched steps seats q) (sym is) bad)
      (subst (λ (q : NodeId). IfSome first (λ r. is_before r q ≡ false)) (sym is) near)))
