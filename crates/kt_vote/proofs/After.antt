-- What all votes that come make of a ballot, and what it says then.
-- Cited by `Ballot::complete`, `Ballot::mark_voted`, `Ballot::refused`, `laws::votes_make_the_ballot`.
use Rattle.std.proofs.Common.{◌≡◌, ◌↔◌, Bool, true, false, cond, List, [], ◌∷◌, ◌++◌, filter, All, Any, Some, refl, sym, ap, ◌∙◌}
use Rattle.std.specs.Prelude.{IsTrue, IsSome, Option, None}
use Rattle.std.specs.List.{list_any}
use Rattle.std.specs.Option.{is_none}
use Rattle.std.proofs.lemmas.List.{append-nil}
use Rattle.std.proofs.Math.Seq.{append_snoc}
use Rattle.std.proofs.lemmas.Bool.{false≢true}
use Rattle.std.proofs.lemmas.List.Folds.{Any-from_list_any, list_any-from_Any}
use Rattle.kt_tuple.specs.declared.node.NodeId.{NodeId}
use Rattle.kt_vote.specs.declared.vote.Vote.{Vote}
use Rattle.kt_vote.specs.Poll.{Poll, counted, counts, heard}
use Rattle.kt_vote.specs.Counting.{IsAfter, after, is_no, said}
use Rattle.kt_vote.proofs.Lists.{all_some, none_without}
use Rattle.kt_vote.proofs.Told.{told}

-- what counting votes leaves as it was
record Same (b b' : Poll) : Type 0 where
  instance : b'.instance ≡ b.instance
  incarnation : b'.incarnation ≡ b.incarnation
  asked : b'.asked ≡ b.asked

heard_same : (b : Poll) (from : NodeId) (vote : Vote) → Same b (heard b from vote)
heard_same b from vote = by (counts b from vote)
  where
    by : (c : Bool) → Same b (cond c (counted b from vote.yes) b)
    by true = record { instance = refl; incarnation = refl; asked = refl }
    by false = record { instance = refl; incarnation = refl; asked = refl }

after_same : (b : Poll) (votes : List (NodeId × Vote)) → Same b (after b votes)
unfolding after
after_same b [] = record { instance = refl; incarnation = refl; asked = refl }
after_same b (v ∷ later) =
    let first = heard_same b v.0 v.1 in
    let rest = after_same (heard b v.0 v.1) later in
    record {
      instance = rest.instance ∙ first.instance;
      incarnation = rest.incarnation ∙ first.incarnation;
      asked = rest.asked ∙ first.asked;
    }

-- whatever votes come, they are counted
pub all_told : (b : Poll) (front votes : List (NodeId × Vote)) → IsAfter front b → IsAfter (front ++ votes) (after b votes)
unfolding after
all_told b front [] h = rw append-nil h
all_told b front (v ∷ later) h = rw (sym (append_snoc front v later)) (all_told (heard b v.0 v.1) (front ++ v ∷ []) later (told b front v h))

-- the fields of a ballot that has counted these votes, where what it is and whom it asked are b's
record Counted (b b' : Poll) (votes : List (NodeId × Vote)) : Type 0 where
  awaited : b'.awaited ≡ filter (λ x. is_none (said b votes x)) b.asked
  refused : b'.refused ≡ list_any (λ x. is_no (said b votes x)) b.asked

counted_as : (b b' : Poll) (votes : List (NodeId × Vote)) → Same b b' → IsAfter votes b' → Counted b b' votes
counted_as b b' votes same h = record {
  awaited = rw (sym same.instance) (rw (sym same.incarnation) (rw (sym same.asked) h.awaited));
  refused = rw (sym same.instance) (rw (sym same.incarnation) (rw (sym same.asked) h.refused));
}

complete_counted : (b b' : Poll) (votes : List (NodeId × Vote)) → Counted b b' votes → (b'.awaited ≡ []) ↔ All (λ x. IsSome (said b votes x)) b.asked
complete_counted b b' votes h = (λ e. all_some (said b votes) b.asked (sym h.awaited ∙ e), λ all. h.awaited ∙ none_without (said b votes) b.asked all)

no_from_test : (o : Option Bool) → is_no o ≡ true → o ≡ Some false
no_from_test (Some false) e = refl
no_from_test (Some true) e = absurd (false≢true e)
no_from_test None e = absurd (false≢true e)

refused_counted : (b b' : Poll) (votes : List (NodeId × Vote)) → Counted b b' votes → IsTrue b'.refused ↔ Any (λ x. said b votes x ≡ Some false) b.asked
refused_counted b b' votes h = (
  λ e. let at = Any-from_list_any (λ x. is_no (said b votes x)) b.asked (sym h.refused ∙ e) in (at.0, at.1, at.2, at.3, no_from_test _ at.4),
  λ at. h.refused ∙ list_any-from_Any (λ x. is_no (said b votes x)) b.asked (at.0, at.1, at.2, at.3, ap is_no at.4),
)

-- what a ballot says that has counted these votes
pub complete_iff : (b : Poll) (votes : List (NodeId × Vote)) → IsAfter votes b → (b.awaited ≡ []) ↔ All (λ x. IsSome (said b votes x)) b.asked
complete_iff b votes h = complete_counted b b votes record { awaited = h.awaited; refused = h.refused }

pub refused_iff : (b : Poll) (votes : List (NodeId × Vote)) → IsAfter votes b → IsTrue b.refused ↔ Any (λ x. said b votes x ≡ Some false) b.asked
refused_iff b votes h = refused_counted b b votes record { awaited = h.awaited; refused = h.refused }

-- and after all that come
after_counted : (b : Poll) (votes : List (NodeId × Vote)) → IsAfter [] b → Counted b (after b votes) votes
after_counted b votes h = counted_as b (after b votes) votes (after_same b votes) (all_told b [] votes h)

pub after_complete : (b : Poll) (votes : List (NodeId × Vote)) → IsAfter [] b
    → ((after b votes).awaited ≡ []) ↔ All (λ x. IsSome (said b votes x)) b.asked
after_complete b votes h = complete_counted b (after b votes) votes (after_counted b votes h)

pub after_refused : (b : Poll) (votes : List (NodeId × Vote)) → IsAfter [] b
    → IsTrue (after b votes).refused ↔ Any (λ x. said b votes x ≡ Some false) b.asked
after_refused b votes h = refused_counted b (after b votes) votes (after_counted b votes h)

-- that the node itself has voted makes no difference
pub voted_after : (b : Poll) (votes : List (NodeId × Vote)) → IsAfter votes b → IsAfter votes record b { voted = true }
voted_after b votes h = record { awaited = h.awaited; refused = h.refused }
