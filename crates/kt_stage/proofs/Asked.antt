-- One asking after another.
-- Cited by `policy::first_by`, `settling::next_among`.
use Rattle.std.proofs.Common.{◌≡◌, List, ◌∷◌, Result, Ok, Err, sym, ap, ◌∙◌}
use Rattle.std.specs.Prelude.{Option, None, IfOk}
use Rattle.kt_store.specs.declared.error.StoreError.{StoreError}
use Rattle.kt_model.specs.State.{State}
use Rattle.kt_store.specs.Calls.{counted}
use Rattle.kt_store.specs.declared.store.CkptStore.{Ghosts}
use Rattle.kt_core.specs.World.{WorldModel}
use Rattle.kt_stage.specs.Asking.{IsAsked}
use Rattle.kt_stage.specs.Policy.{first_some, or_else}

-- the first of a list gives nothing, and the others this: so it is what the whole list gives
pub first_later : {A B : Type 0} {S : Type 0} {kind : Ghosts S} (f : State → A → Option B) (xs later : List A) (x : A) (old between new : WorldModel)
    (r : Result (Option B) StoreError)
    → xs ≡ x ∷ later
    → IsAsked kind old between (λ s y. y ≡ f s x) (Ok None) → IsAsked kind between new (λ s y. y ≡ first_some (f s) later) r
    → IsAsked kind old new (λ s y. y ≡ first_some (f s) xs) r
first_later {A} {B} f xs later x old between new r split one two = record {
  value = λ h. by r (two.value h) (one.same (two.honest h)) (one.value (two.honest h));
  same = λ h. two.same h ∙ one.same (two.honest h);
  beside = two.beside ∙ one.beside;
  honest = λ h. one.honest (two.honest h);
  lasts = λ never h. two.lasts never (one.lasts never h);
  counts = two.counts ∙ ap (counted r) one.counts;
  cause = two.cause;
}
  where
    by : (r : Result (Option B) StoreError) → IfOk r (λ y. y ≡ first_some (f between.state) later) → between.state ≡ old.state → None ≡ f old.state x
        → IfOk r (λ y. y ≡ first_some (f old.state) xs)
    by (Ok y) is there none =
        is
        ∙ ap (λ (s : State). first_some (f s) later) there
        ∙ ap (λ (o : Option B). or_else o (first_some (f old.state) later)) none
        ∙ ap (first_some (f old.state)) (sym split)
    by (Err e) is there none = tt
