-- One node more that is asked, and fewer that are awaited.
-- Cited by `Ballot::ask`, `Ballot::asking`, `Ballot::awaits`, `Ballot::count`.
use Rattle.std.proofs.Common.{◌≡◌, ℕ, Bool, true, false, List, [], ◌∷◌, ◌++◌, filter, All, Contains, refl, sym, ap, subst, ◌∙◌}
use Rattle.std.specs.Prelude.{Option, None}
use Rattle.std.specs.List.{list_any}
use Rattle.std.specs.Option.{is_none}
use Rattle.std.proofs.Math.Bool.{or-false}
use Rattle.std.proofs.lemmas.List.Elements.{All-contains_itself, All-filter, All-push, Contains-append_left, Contains-push, filter-append}
use Rattle.std.proofs.lemmas.List.Folds.{list_any-append}
use Rattle.std.proofs.lemmas.List.Quantifiers.{all_pairs_push}
use Rattle.kt_tuple.specs.declared.node.NodeId.{NodeId}
use Rattle.kt_vote.specs.declared.asker.Asker.{Asker}
use Rattle.kt_vote.specs.declared.vote.Vote.{Vote}
use Rattle.kt_vote.specs.Order.{IsBefore, IsInOrder}
use Rattle.kt_vote.specs.auxiliary.Asked.{AreAsked}
use Rattle.kt_vote.specs.Poll.{Poll, asked_too, asking_poll}
use Rattle.kt_vote.specs.Counting.{IsAfter, is_no, said}

pub one_more : (asked awaited : List NodeId) (node : NodeId) → AreAsked asked awaited → All (λ x. IsBefore x node) asked
    → AreAsked (asked ++ node ∷ []) (awaited ++ node ∷ [])
one_more asked awaited node h before = record {
  in_order = all_pairs_push IsBefore asked node h.in_order before;
  among = All-push (Contains (asked ++ node ∷ [])) awaited node
      (λ k d lt. Contains-append_left asked (node ∷ []) _ (h.among k d lt)) (Contains-push asked node);
}

pub fewer : (asked awaited : List NodeId) (p : NodeId → Bool) → AreAsked asked awaited → AreAsked asked (filter p awaited)
fewer asked awaited p h = record { in_order = h.in_order; among = All-filter p (Contains asked) awaited h.among }

pub was_asked : (asked awaited : List NodeId) (node : NodeId) → AreAsked asked awaited → Contains awaited node → Contains asked node
was_asked asked awaited node h at = subst (Contains asked) at.2 (h.among at.0 node at.1)

-- these are asked, and all of them are awaited
pub all_asked : (asked : List NodeId) → IsInOrder asked → AreAsked asked asked
all_asked asked h = record { in_order = h; among = All-contains_itself asked }

pub asking_after : (instance incarnation : ℕ) (parent : Option Asker) (asked : List NodeId) → IsAfter [] (asking_poll instance incarnation parent asked)
asking_after instance incarnation parent asked = record { awaited = sym (all_kept asked); refused = sym (none_said asked) }
  where
    all_kept : (nodes : List NodeId) → filter (λ x. true) nodes ≡ nodes
    all_kept [] = refl
    all_kept (x ∷ later) = ap (λ l. x ∷ l) (all_kept later)

    none_said : (nodes : List NodeId) → list_any (λ x. false) nodes ≡ false
    none_said [] = refl
    none_said (x ∷ later) = none_said later

-- a node that has said nothing yet is asked
pub asked_after : (votes : List (NodeId × Vote)) (b : Poll) (node : NodeId) → IsAfter votes b → said b votes node ≡ None → IsAfter votes (asked_too node b)
asked_after votes b node h silent = record {
  awaited = ap (λ (l : List NodeId). l ++ node ∷ []) h.awaited
      ∙ sym (filter-append (λ x. is_none (said b votes x)) b.asked (node ∷ []) ∙ rw silent refl);
  refused = h.refused ∙ sym (list_any-append (λ x. is_no (said b votes x)) b.asked (node ∷ []) ∙ rw silent (or-false _));
}
