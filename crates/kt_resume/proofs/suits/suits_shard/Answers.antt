use Rattle.std.proofs.Common.{◌≡◌, ◌∙◌, ◌↔◌, Bool, IsTrue, IsPermutation, List, sym, subst}
use Rattle.std.proofs.lemmas.Bool.{false≢true}
use Rattle.std.proofs.lemmas.Result.{IfOk-weaker}
use Rattle.kt_tuple.specs.declared.tuple.Tuple.{Tuple}
use Rattle.kt_resume.specs.Remade.{Slot}
use Rattle.kt_resume.specs.Suits.{SuitsShard}
use Rattle.kt_resume.specs.auxiliary.Suits.{HasSessions}
use Rattle.kt_resume.proofs.Suited.{suited-suits, suits-suited}
use Rattle.kt_resume.proofs.suits.suits_shard.Goals as goal

pub returns-then-not-has_sessions : goal.returns-then-not-has_sessions
returns-then-not-has_sessions c = λ scripts made many like. (
  λ h. absurd (false≢true h),
  λ suits.
      let suited = suits-suited c.args.workers scripts made c.args.remade c.args.stored.now many like suits in
      let has = subst (λ (l : List Slot). HasSessions c.args.workers l c.args.stored.now) (sym c.slots.ensures.slots) suited.sessions in
      absurd (false≢true (sym c.if-not-has_sessions.true ∙ c.has_sessions.ensures.1 has)),
)

pub returns : goal.returns
returns c = λ scripts made many like.
    let stored = c.args.stored.now in
    let has =
    subst (λ (l : List Slot). HasSessions c.args.workers l stored) c.slots.ensures.slots (c.has_sessions.ensures.0 c.if-not-has_sessions.false) in
    IfOk-weaker c.has_just.result (λ (b : Bool). IsTrue b ↔ IsPermutation c.into_bag.result.tuples c.bag.result.now)
    (λ (b : Bool). IsTrue b ↔ SuitsShard scripts made stored)
    (λ b is. (
      λ h.
          let bag = subst (λ (l : List Tuple). IsPermutation l stored.bag) c.into_bag.ensures
          (subst (λ (l : List Tuple). IsPermutation c.into_bag.result.tuples l) c.bag.ensures (is.0 h)) in
          suited-suits c.args.workers scripts made c.args.remade stored many like (record { bag = bag; sessions = has }),
      λ suits.
          let suited = suits-suited c.args.workers scripts made c.args.remade stored many like suits in
          is.1 (subst (λ (l : List Tuple). IsPermutation c.into_bag.result.tuples l) (sym c.bag.ensures)
          (subst (λ (l : List Tuple). IsPermutation l stored.bag) (sym c.into_bag.ensures) suited.bag)),
    ))
    c.has_just.ensures
