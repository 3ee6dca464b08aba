-- Reading a table where something was put, and elsewhere.
-- Cited by Again, Written, `laws::a_table_reads_what_was_put`, `laws::other_sessions_stay`; other crates.
use Rattle.std.proofs.Common.{◌≡◌, ◌≢◌, ℕ, zero, suc, ◌<◌, List, [], ◌∷◌, length, get_or, set, refl, sym, ap, ◌∙◌, arith}
use Rattle.std.specs.Prelude.{Some}
use Rattle.std.proofs.lemmas.List.{get_or_default}
use Rattle.kt_shard.specs.declared.request.Request.{Request}
use Rattle.kt_shard.specs.declared.session.Session.{Session}
use Rattle.kt_shard.specs.Session.{empty_session}
use Rattle.kt_shard.specs.Table.{at, put}

pub at-put_same : {A : Type 0} (d : A) (xs : List A) (k : ℕ) (y : A) → at d (put d xs k y) k ≡ y
unfolding put
at-put_same d [] zero y = refl
at-put_same d [] (suc k) y = at-put_same d [] k y
at-put_same d (x ∷ xs) zero y = refl
at-put_same d (x ∷ xs) (suc k) y = at-put_same d xs k y

pub at-put_other : {A : Type 0} (d : A) (xs : List A) (j k : ℕ) (y : A) → k ≢ j → at d (put d xs j y) k ≡ at d xs k
unfolding put
at-put_other d [] zero zero y n = absurd (n refl)
at-put_other d [] zero (suc k) y n = refl
at-put_other d [] (suc j) zero y n = refl
at-put_other d [] (suc j) (suc k) y n = at-put_other d [] j k y (λ e. n (ap suc e))
at-put_other d (x ∷ xs) zero zero y n = absurd (n refl)
at-put_other d (x ∷ xs) zero (suc k) y n = refl
at-put_other d (x ∷ xs) (suc j) zero y n = refl
at-put_other d (x ∷ xs) (suc j) (suc k) y n = at-put_other d xs j k y (λ e. n (ap suc e))

-- where the table reaches that far, nothing is added to it
pub put-set : {A : Type 0} (d : A) (xs : List A) (k : ℕ) (y : A) → k < length xs → put d xs k y ≡ set xs k y
unfolding put
put-set d [] k y h = absurd (omega arith)
put-set d (x ∷ xs) zero y h = refl
put-set d (x ∷ xs) (suc k) y h = ap (λ l. x ∷ l) (put-set d xs k y (omega arith))

pub length-put : {A : Type 0} (d : A) (xs : List A) (k : ℕ) (y : A) → k < length xs → length (put d xs k y) ≡ length xs
unfolding put
length-put d [] k y h = absurd (omega arith)
length-put d (x ∷ xs) zero y h = refl
length-put d (x ∷ xs) (suc k) y h = ap suc (length-put d xs k y (omega arith))

-- a session that is written over in place is put into the table
pub put_session : (sessions : List Session) (worker : ℕ) (new session : Session) → worker < length sessions → new ≡ session
    → set sessions worker new ≡ put empty_session sessions worker session
put_session sessions worker new session lt e = ap (set sessions worker) e ∙ sym (put-set empty_session sessions worker session lt)

pub put_waiting : (sessions : List Session) (worker : ℕ) (old new : Session) (request : Request) → worker < length sessions → old ≡ get_or sessions worker old
    → new ≡ record { waiting = Some request; cached = old.cached }
    → set sessions worker new ≡ put empty_session sessions worker (record { waiting = Some request; cached = (at empty_session sessions worker).cached })
put_waiting sessions worker old new request lt was e =
    let same : old ≡ at empty_session sessions worker = was ∙ get_or_default sessions worker old empty_session lt in
    put_session sessions worker new _ lt (e ∙ ap (λ (d : Session). record { waiting = Some request; cached = d.cached }) same)
