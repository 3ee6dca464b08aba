-- What one vote more makes of what a ballot has counted.
-- Cited by After, `Ballot::count_vote`.
use Rattle.std.proofs.Common.{◌≡◌, Bool, true, false, not, ◌&&◌, ◌||◌, cond, List, [], ◌∷◌, ◌++◌, filter, Option, None, Some, refl, sym, ap, subst, ◌∙◌}
use Rattle.std.specs.List.{find, list_any}
use Rattle.std.specs.Option.{option_map, option_or, is_none}
use Rattle.std.proofs.Math.Bool.{or-false}
use Rattle.std.proofs.lemmas.Bool.{and_parts}
use Rattle.std.proofs.lemmas.List.Folds.{find-append}
use Rattle.kt_tuple.specs.declared.node.NodeId.{NodeId}
use Rattle.kt_tuple.specs.Node.{node_eq}
use Rattle.kt_vote.specs.declared.vote.Vote.{Vote}
use Rattle.kt_vote.specs.Poll.{Poll, counted, counts, heard, is_on}
use Rattle.kt_vote.specs.Counting.{IsAfter, is_for, is_no, said}
use Rattle.kt_vote.proofs.Lists.{filter_not, guarded_any}

-- what a node says that said s, with one vote more that agrees or not, which is its own where m
abbrev then : Option Bool → Bool → Bool → Option Bool
then s m agrees = option_or s (cond m (Some agrees) None)

-- what was said, with one vote more
said_then : (b : Poll) (votes : List (NodeId × Vote)) (v : NodeId × Vote) (x : NodeId)
    → said b (votes ++ v ∷ []) x ≡ then (said b votes x) (is_for b x v) v.1.yes
said_then b votes v x =
    ap (option_map (λ (w : NodeId × Vote). w.1.yes)) (find-append (is_for b x) votes (v ∷ [])) ∙ by (find (is_for b x) votes) (is_for b x v)
  where
    by : (s : Option (NodeId × Vote)) (m : Bool)
        → option_map (λ (w : NodeId × Vote). w.1.yes) (option_or s (cond m (Some v) None)) ≡ then (option_map (λ (w : NodeId × Vote). w.1.yes) s) m v.1.yes
    by (Some w) m = refl
    by None true = refl
    by None false = refl

-- of a list of nodes, those that have said nothing then
silent_then : (s s' : NodeId → Option Bool) (m : NodeId → Bool) (agrees : Bool) → ((x : NodeId) → s' x ≡ then (s x) (m x) agrees)
    → (nodes : List NodeId) → filter (λ x. is_none (s' x)) nodes ≡ filter (λ x. not (m x)) (filter (λ x. is_none (s x)) nodes)
silent_then s s' m agrees e [] = refl
silent_then s s' m agrees e (x ∷ later) = rw (e x) (by (s x) (m x) refl (silent_then s s' m agrees e later))
  where
    by : (o : Option Bool) (n : Bool) → m x ≡ n
        → filter (λ y. is_none (s' y)) later ≡ filter (λ y. not (m y)) (filter (λ y. is_none (s y)) later)
        → cond (is_none (then o n agrees)) (x ∷ filter (λ y. is_none (s' y)) later) (filter (λ y. is_none (s' y)) later)
        ≡ filter (λ y. not (m y)) (cond (is_none o) (x ∷ filter (λ y. is_none (s y)) later) (filter (λ y. is_none (s y)) later))
    by (Some w) n at rest = rest
    by None true at rest = rw at rest
    by None false at rest = rw at (ap (λ (l : List NodeId). x ∷ l) rest)

-- whether a no is among what was said, and then
no_then : (o : Option Bool) (n a r c : Bool) (agrees : Bool) → c ≡ (r || (a && not agrees))
    → (is_no (then o n agrees) || c) ≡ ((is_no o || r) || (cond (is_none o) (n || a) a && not agrees))
no_then (Some true) n a r c agrees e = e
no_then (Some false) n a r c agrees e = refl
no_then None false a r c agrees e = e
no_then None true a true c true e = e
no_then None true true false c true e = e
no_then None true false false c true e = e
no_then None true a true c false e = refl
no_then None true a false c false e = refl

refused_then : (s s' : NodeId → Option Bool) (m : NodeId → Bool) (agrees : Bool) → ((x : NodeId) → s' x ≡ then (s x) (m x) agrees)
    → (nodes : List NodeId) → list_any (λ x. is_no (s' x)) nodes
    ≡ (list_any (λ x. is_no (s x)) nodes || (list_any m (filter (λ x. is_none (s x)) nodes) && not agrees))
refused_then s s' m agrees e [] = refl
refused_then s s' m agrees e (x ∷ later) = rw (e x) (no_then (s x) (m x) _ _ _ agrees (refused_then s s' m agrees e later) ∙ by (s x))
  where
    no : Bool
    no = list_any (λ y. is_no (s y)) later

    silent : List NodeId
    silent = filter (λ y. is_none (s y)) later

    by : (o : Option Bool) → ((is_no o || no) || (cond (is_none o) (m x || list_any m silent) (list_any m silent) && not agrees))
        ≡ ((is_no o || no) || (list_any m (cond (is_none o) (x ∷ silent) silent) && not agrees))
    by (Some w) = refl
    by None = refl

-- one vote more
pub told : (b : Poll) (votes : List (NodeId × Vote)) (v : NodeId × Vote) → IsAfter votes b → IsAfter (votes ++ v ∷ []) (heard b v.0 v.1)
told b votes v h = by (counts b v.0 v.1) refl
  where
    s : NodeId → Option Bool
    s x = said b votes x

    s' : NodeId → Option Bool
    s' x = said b (votes ++ v ∷ []) x

    m : NodeId → Bool
    m x = is_for b x v

    awaited : filter (λ x. is_none (s' x)) b.asked ≡ filter (λ x. not (m x)) b.awaited
    awaited = silent_then s s' m v.1.yes (said_then b votes v) b.asked ∙ ap (filter (λ x. not (m x))) (sym h.awaited)

    any : list_any m b.awaited ≡ counts b v.0 v.1
    any = guarded_any (is_on b v.1) (λ x. node_eq x v.0) b.awaited

    refused : list_any (λ x. is_no (s' x)) b.asked ≡ (b.refused || (counts b v.0 v.1 && not v.1.yes))
    refused = refused_then s s' m v.1.yes (said_then b votes v) b.asked ∙ rw (sym h.refused) (rw (sym h.awaited) (rw any refl))

    by : (c : Bool) → counts b v.0 v.1 ≡ c → IsAfter (votes ++ v ∷ []) (cond c (counted b v.0 v.1.yes) b)
    by false e = record {
      awaited = sym (awaited ∙ filter_not m b.awaited (any ∙ e));
      refused = sym (refused ∙ rw e (or-false b.refused));
    }
    by true e = record {
      awaited = sym (awaited ∙ ap (λ (g : Bool). filter (λ x. not (g && node_eq x v.0)) b.awaited) (and_parts (is_on b v.1) _ e).0);
      refused = sym (refused ∙ rw e refl);
    }

pub told_true : (b : Poll) (votes : List (NodeId × Vote)) (v : NodeId × Vote) → counts b v.0 v.1 ≡ true → IsAfter votes b
    → IsAfter (votes ++ v ∷ []) (counted b v.0 v.1.yes)
told_true b votes v is h = subst (λ c. IsAfter (votes ++ v ∷ []) (cond c (counted b v.0 v.1.yes) b)) is (told b votes v h)
