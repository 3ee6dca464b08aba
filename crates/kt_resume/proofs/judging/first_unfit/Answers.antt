use Rattle.std.proofs.Common.{◌≡◌, ◌+◌, ◌<◌, suc, List, ◌∷◌, ◌++◌, false, true, take, drop, get_or, length, refl, sym, ap, ◌∙◌, subst, drop-cons}
use Rattle.std.proofs.Common.{take-append-drop}
use Rattle.std.specs.Prelude.{All, IsTrue}
use Rattle.std.proofs.lemmas.List.{take_all}
use Rattle.std.proofs.lemmas.List.Elements.{All-more}
use Rattle.kt_resume.specs.declared.found.Found.{Found}
use Rattle.kt_resume.specs.Found.{scene_of, content_of}
use Rattle.kt_resume.specs.Judging.{IsGood}
use Rattle.kt_resume.proofs.judging.first_unfit.Goals as goal
use Rattle.kt_resume.proofs.judging.first_unfit.Goals.{then-fits, else-fits}

pub loop-held-preserved : goal.loop-held-preserved
loop-held-preserved c =
    let P : Found → Type 0 = IsGood (scene_of c.args.shards c.args.scripts.now) (content_of c.args.found.now) in
    let held = c.held-item.result in
    let good : P held = elim c.if-fits.branch [
      | then-fits w ↦ (c.in_ok-fits.ensures.0 w.if-fits.true, sym w.value-is ∙ c.if-not-held.false)
      | else-fits w ↦ let apart : false ≡ true = sym w.if-fits.false ∙ sym w.value-is ∙ c.if-not-held.false in absurd (cc (apart))
    ] in
    All-more P c.args.found.now c.loop-held.held-index held c.loop-held-test.true c.loop-held.invariant (subst P c.held-item.is good)

pub returns-then-not-held-clause-first : goal.returns-then-not-held-clause-first
returns-then-not-held-clause-first c =
    let found = c.args.found.now in
    let held = c.held-item.result in
    let i = c.loop-held.held-index in record {
      before = take i found;
      first = held;
      later = drop (suc i) found;
      split =
          sym (take-append-drop i found)
          ∙ ap (λ (l : List Found). take i found ++ l) (drop-cons found i held c.loop-held-test.true
          ∙ ap (λ (f : Found). f ∷ drop (suc i) found) (sym c.held-item.is));
      node = refl;
      good = c.loop-held.invariant;
      unfit = λ good. elim c.if-fits.branch [
        | then-fits w ↦ let apart : false ≡ true = sym c.if-not-held.true ∙ w.value-is ∙ good.1 in cc (apart)
        | else-fits w ↦ let apart : false ≡ true = sym w.if-fits.false ∙ c.in_ok-fits.ensures.1 good.0 in cc (apart)
      ];
    }

pub returns-clause-none : goal.returns-clause-none
returns-clause-none c = λ e.
    let P : Found → Type 0 = IsGood (scene_of c.args.shards c.args.scripts.now) (content_of c.args.found.now) in
    subst (All P) (take_all c.loop-held.held-index c.args.found.now c.loop-held-test.false) c.loop-held.invariant
