-- Reading a table where something was put, and elsewhere.
-- Cited by other crates.
use Rattle.std.proofs.Common.{◌≡◌, ℕ, zero, suc, ◌+◌, ◌<◌, List, [], ◌∷◌, length, get_or, map, set, refl, sym, ap, ◌∙◌, arith}
use Rattle.std.proofs.lemmas.List.{get_or_default}
use Rattle.kt_shard.specs.Table.{at, put}
use Rattle.kt_shard.proofs.Shared.{put-set}

pub at-map : {A B : Type 0} (f : A → B) (d : A) (xs : List A) (k : ℕ) → at (f d) (map f xs) k ≡ f (at d xs k)
at-map f d [] k = refl
at-map f d (x ∷ xs) zero = refl
at-map f d (x ∷ xs) (suc k) = at-map f d xs k

pub map-set : {A B : Type 0} (f : A → B) (xs : List A) (k : ℕ) (y : A) → map f (set xs k y) ≡ set (map f xs) k (f y)
map-set f [] k y = refl
map-set f (x ∷ xs) zero y = refl
map-set f (x ∷ xs) (suc k) y = ap (λ l. f x ∷ l) (map-set f xs k y)

-- a write into the code's table is a put into the table as plain data
pub map-set-put : {A B : Type 0} (f : A → B) (d : A) (xs : List A) (k : ℕ) (y : A) → k < length xs → map f (set xs k y) ≡ put (f d) (map f xs) k (f y)
unfolding put
map-set-put f d [] k y h = absurd (omega arith)
map-set-put f d (x ∷ xs) zero y h = refl
map-set-put f d (x ∷ xs) (suc k) y h = ap (λ l. f x ∷ l) (map-set-put f d xs k y (omega arith))

-- a row that shows what it showed changes nothing
pub map-set_same : {A B : Type 0} (f : A → B) (xs : List A) (k : ℕ) (x y : A) → k < length xs → x ≡ get_or xs k x → f y ≡ f x → map f (set xs k y) ≡ map f xs
map-set_same f [] k x y h was e = absurd (omega arith)
map-set_same f (z ∷ xs) zero x y h was e = ap (λ b. b ∷ map f xs) (e ∙ ap f was)
map-set_same f (z ∷ xs) (suc k) x y h was e = ap (λ l. f z ∷ l) (map-set_same f xs k x y (omega arith) was e)

-- a row that is changed in place is put into the table as plain data
pub map-set_changed : {A B : Type 0} (f : A → B) (d : A) (change : B → B) (xs : List A) (k : ℕ) (x y : A) → k < length xs → x ≡ get_or xs k x
    → f y ≡ change (f x)
    → map f (set xs k y) ≡ put (f d) (map f xs) k (change (at (f d) (map f xs) k))
map-set_changed f d change xs k x y h was e =
    let same : at (f d) (map f xs) k ≡ f x = at-map f d xs k ∙ ap f (get_or_default xs k d x h ∙ sym was) in
    map-set-put f d xs k y h ∙ ap (put (f d) (map f xs) k) (e ∙ ap change (sym same))

-- a number that is counted up in place
pub set_counted : (xs : List ℕ) (k x : ℕ) → k < length xs → x ≡ get_or xs k x → set xs k (x + 1) ≡ put 0 xs k (at 0 xs k + 1)
set_counted xs k x h was =
    let same : x ≡ at 0 xs k = was ∙ get_or_default xs k x 0 h in
    ap (λ n. set xs k (n + 1)) same ∙ sym (put-set 0 xs k (at 0 xs k + 1) h)
