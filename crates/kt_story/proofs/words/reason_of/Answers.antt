use Rattle.std.proofs.Common.{◌≡◌, ℕ, List, ◌++◌, refl, sym, subst}
use Rattle.std.specs.Prelude.{codes}
use Rattle.std.proofs.lemmas.Bool.{false≢true}
use Rattle.kt_story.specs.Blames.{IsReason, none as reason-none, told as reason-told}
use Rattle.kt_story.specs.Said.{reason_text}
use Rattle.kt_story.proofs.Blaming.{if_ok}
use Rattle.kt_story.proofs.words.reason_of.Goals as goal

pub returns-in-Some : goal.returns-in-Some
returns-in-Some c =
    let says : List ℕ → Type 0 = λ text. IsReason c.args.story.now c.args.row.now text in
    let blame = c.in-Some.blame in
    if_ok c.reason_by.result (λ reason. reason.items ≡ codes ", " ++ reason_text blame) (λ reason. says reason.items)
    (λ reason is. subst says (sym is) (reason-told blame (c.in-Some.ensures.right blame refl))) c.reason_by.ensures

pub returns-in-None : goal.returns-in-None
returns-in-None c =
    subst (λ (text : List ℕ). IsReason c.args.story.now c.args.row.now text) (sym c.new.ensures.items)
    (reason-none (λ blame is. false≢true (c.in-None.ensures.found blame is)))
