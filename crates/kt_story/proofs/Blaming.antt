-- The step that is found is the one to blame, and where one is to blame it is found.
-- Cited by Arriving, `Story::blame`, `words::reason_of`.
use Rattle.std.proofs.Common.{◌≡◌, ℕ, Bool, true, false, cond, eqb, List, [], ◌∷◌, Option, Some, None, Result, Ok, Err, refl, sym, ap, ◌∙◌, subst}
use Rattle.std.proofs.Common.{inl, inr, Contains}
use Rattle.std.specs.Prelude.{◌&&◌, is_some, option_and_then, unwrap_or, IfOk}
use Rattle.std.specs.List.{find}
use Rattle.std.specs.Option.{option_map}
use Rattle.std.proofs.lemmas.Bool.{eq-eqb, eqb-true, false≢true}
use Rattle.std.proofs.lemmas.List.Elements.{All-contains}
use Rattle.std.proofs.lemmas.Option.{none-some}
use Rattle.kt_history.proofs.Lists.{Contains-cons_cases, Contains-here, Contains-none, Contains-there}
use Rattle.kt_losses.specs.declared.loss.Loss.{Loss}
use Rattle.kt_losses.specs.Losses.{IsLossOf, IsLostBy, services}
use Rattle.kt_losses.proofs.Wholes.{IsLostBy-lost, IsLostBy-one}
use Rattle.kt_trace.specs.declared.traced.TracedStep.{TracedStep}
use Rattle.kt_story.specs.declared.story.Blame.{Blame}
use Rattle.kt_story.specs.Blames.{IsBlamed}
use Rattle.kt_story.specs.Story.{StoryModel, act_is_lost}
use Rattle.kt_story.specs.auxiliary.Finding.{AreLosses, blame_by, blame_of, is_of, makes, row_of_cut}

-- ---- what is found

pub both : (a b : Bool) → (a && b) ≡ true → (a ≡ true) × (b ≡ true)
both true b e = (refl, e)
both false b e = absurd (false≢true e)

same_in : {A : Type 0} (x y : A) → Some x ≡ Some y → x ≡ y
same_in x y e = ap (λ o. unwrap_or o x) e

-- what is found is in the list, and passes
find-some : {A : Type 0} (p : A → Bool) (xs : List A) (x : A) → find p xs ≡ Some x → Contains xs x × (p x ≡ true)
find-some p [] x e = absurd (none-some x e)
find-some {A} p (y ∷ xs) x e = by (p y) refl e (find-some p xs x)
  where
    by : (b : Bool) → p y ≡ b → cond b (Some y) (find p xs) ≡ Some x → (find p xs ≡ Some x → Contains xs x × (p x ≡ true))
        → Contains (y ∷ xs) x × (p x ≡ true)
    by true is f rest =
        let same : y ≡ x = same_in y x f in
        let P : A → Type 0 = λ z. Contains (z ∷ xs) x in
        (subst P (sym same) (Contains-here x xs), sym (ap p same) ∙ is)
    by false is f rest =
        let inner = rest f in
        (Contains-there y xs x inner.0, inner.1)

-- where one passes, one is found
find-any : {A : Type 0} (p : A → Bool) (xs : List A) (x : A) → Contains xs x → p x ≡ true → is_some (find p xs) ≡ true
find-any p [] x c e = absurd (Contains-none x c)
find-any {A} p (y ∷ xs) x c e = by (p y) refl (λ inner. find-any p xs x inner e)
  where
    by : (b : Bool) → p y ≡ b → (Contains xs x → is_some (find p xs) ≡ true) → is_some (cond b (Some y) (find p xs)) ≡ true
    by true is rest = refl
    by false is rest = elim (Contains-cons_cases y xs x c) [
      | inl here ↦ absurd (false≢true (sym is ∙ ap p here ∙ e))
      | inr inner ↦ rest inner
    ]

-- the loss of a service among those that have one
loss-found : (n : ℕ) (losses : List Loss) → Contains (services losses) n → (loss : Loss) × (find (is_of n) losses ≡ Some loss)
loss-found n [] c = absurd (Contains-none n c)
loss-found n (l ∷ losses) c = by (is_of n l) refl (loss-found n losses)
  where
    by : (b : Bool) → is_of n l ≡ b → (Contains (services losses) n → (loss : Loss) × (find (is_of n) losses ≡ Some loss))
        → (loss : Loss) × (cond b (Some l) (find (is_of n) losses) ≡ Some loss)
    by true is rest = (l, refl)
    by false is rest = elim (Contains-cons_cases l.service (services losses) n c) [
      | inl here ↦ absurd (false≢true (sym is ∙ eq-eqb l.service n here))
      | inr inner ↦ rest inner
    ]

-- ---- the blame

-- of a row whose act is lost
pub is_blamed : (story : StoryModel) (losses : List Loss) (row : TracedStep) (blame : Blame) → AreLosses story.state.history losses
    → act_is_lost story.state.history row ≡ true → blame_by story.rows losses row.notes ≡ Some blame → IsBlamed story row blame
is_blamed story losses row blame are lost e = of_loss (find (is_of row.notes) losses) refl e
  where
    of_row : (loss : Loss) → find (is_of row.notes) losses ≡ Some loss → (o : Option TracedStep) → find (makes loss.cut) story.rows ≡ o
        → option_map blame_of o ≡ Some blame → IsBlamed story row blame
    of_row loss is None at f = absurd (none-some blame f)
    of_row loss is (Some cut) at f =
        let l = find-some (is_of row.notes) losses loss is in
        let r = find-some (makes loss.cut) story.rows cut at in
        let test = both (eqb cut.notes loss.cut) (is_some cut.note) r.1 in
        let service : loss.service ≡ row.notes = eqb-true loss.service row.notes l.1 in
        let number : cut.notes ≡ loss.cut = eqb-true cut.notes loss.cut test.0 in
        let of : ℕ → ℕ → Loss = λ s c. record { service = s; cut = c } in
        let P : Loss → Type 0 = λ x. IsLossOf story.state.history x in
        let same : loss ≡ of row.notes cut.notes = ap (λ s. of s loss.cut) service ∙ ap (λ c. of row.notes c) (sym number) in
        let is_it : blame_of cut ≡ blame = same_in (blame_of cut) blame f in record {
          act = lost;
          cut = cut;
          told = r.0;
          made = test.1;
          lost = subst P same (All-contains (IsLossOf story.state.history) losses loss are.each l.0);
          node = sym (ap (λ (b : Blame). b.node) is_it);
          failed = sym (ap (λ (b : Blame). b.failed) is_it);
          step = sym (ap (λ (b : Blame). b.step) is_it);
        }

    of_loss : (o : Option Loss) → find (is_of row.notes) losses ≡ o → option_map blame_of (option_and_then (row_of_cut story.rows) o) ≡ Some blame
        → IsBlamed story row blame
    of_loss None is f = absurd (none-some blame f)
    of_loss (Some loss) is f = of_row loss is (find (makes loss.cut) story.rows) refl f

is_some-map : (o : Option TracedStep) → is_some (option_map blame_of o) ≡ is_some o
is_some-map None = refl
is_some-map (Some row) = refl

-- a step that is to blame is found
pub is_found : (story : StoryModel) (losses : List Loss) (row : TracedStep) (blame : Blame) → AreLosses story.state.history losses
    → IsBlamed story row blame → is_some (blame_by story.rows losses row.notes) ≡ true
is_found story losses row blame are b =
    let h = story.state.history in
    let loss = loss-found row.notes losses (are.all row.notes b.lost.service (IsLostBy-lost h row.notes b.cut.notes b.lost.lost)) in
    let l = find-some (is_of row.notes) losses loss.0 loss.1 in
    let service : loss.0.service ≡ row.notes = eqb-true loss.0.service row.notes l.1 in
    let P : ℕ → Type 0 = λ n. IsLostBy h n loss.0.cut in
    let lost : IsLostBy h row.notes loss.0.cut = subst P service (All-contains (IsLossOf h) losses loss.0 are.each l.0).lost in
    let number : b.cut.notes ≡ loss.0.cut = IsLostBy-one h row.notes b.cut.notes loss.0.cut b.lost.lost lost in
    let makes_it : makes loss.0.cut b.cut ≡ true = ap (λ t. t && is_some b.cut.note) (eq-eqb b.cut.notes loss.0.cut number) ∙ b.made in
    ap (λ o. is_some (option_map blame_of (option_and_then (row_of_cut story.rows) o))) loss.1
    ∙ is_some-map (find (makes loss.0.cut) story.rows)
    ∙ find-any (makes loss.0.cut) story.rows b.cut b.told makes_it

-- ---- the reason

-- what follows from what is there of a result
pub if_ok : {A E : Type 0} (r : Result A E) (P Q : A → Type 0) → ((x : A) → P x → Q x) → IfOk r P → IfOk r Q
if_ok (Ok x) P Q more is = more x is
if_ok (Err e) P Q more is = is
