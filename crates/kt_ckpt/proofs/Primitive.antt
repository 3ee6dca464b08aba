-- Bytes, truths, numbers and lists are fields.
-- Cited by ActCauses, ActFields, Checkpoints, Front, Nodes, OldOps, OldParts, OldRising, OldStates, OldWorkers, Ops,
--   Peers, States, Tuples, Values, `entry::rising_at`.
use Rattle.std.proofs.Common.{◌≡◌, ℕ, zero, suc, ◌+◌, ◌^◌, ◌<◌, ◌≤◌, Bool, true, false, cond, eqb, ltb, leb, ◌&&◌, List, [], ◌∷◌, ◌++◌, length, take, drop}
use Rattle.std.proofs.Common.{Result, Ok, Err, refl, sym, ap, subst, ◌∙◌, append_assoc, arith}
use Rattle.std.specs.Prelude.{All}
use Rattle.std.specs.List.{flat_map}
use Rattle.std.specs.Int.{Width, w16, w32, w64, byte_len, from_be_bytes, to_be_bytes}
use Rattle.std.proofs.lemmas.Bool.{ltb-false, le-ltb, leb-true, le-leb}
use Rattle.std.proofs.lemmas.List.{take_at, drop_at, take-append-drop, length-append, length-take}
use Rattle.std.proofs.lemmas.List.Elements.{All-nil, All-cons, All-head, All-tail}
use Rattle.std.proofs.lemmas.Nat.{be_bytes_2, be_bytes_4, be_bytes_8, from_be_bytes-to_be_bytes_2, from_be_bytes-to_be_bytes_4, from_be_bytes-to_be_bytes_8}
use Rattle.kt_ckpt.specs.declared.error.CkptError.{CkptError}
use Rattle.kt_ckpt.specs.declared.error.CkptError.TheVariants.{Cut, Field}
use Rattle.kt_tuple.specs.declared.node.TheConstants.{MAX_WORKERS}
use Rattle.kt_ckpt.specs.Reading.{◌>>=◌, byte_at, bytes_at, number_at, within, byte_within, list_at, rising_at, IsRising}
use Rattle.kt_ckpt.specs.Flag.{flag_bytes, flag_at}
use Rattle.kt_ckpt.proofs.Field.{IsBytes, IsBytes-take, IsBytes-drop, IsBytes-tail, Takes, Takes-then, Continues, IsField, Lasts, the_ok, pair_of_ok, bind_ok}
use Rattle.kt_ckpt.proofs.Combined.{known_lasts, behind_lasts, made_field, made_lasts}

-- ---- bytes

pub byte_field : IsField (λ b. b ∷ []) (λ b. b < 256) byte_at
byte_field = record {
  again = λ b rest h. refl;
  takes = λ bytes b rest fits e. takes bytes b rest fits e;
} where
  takes : (bytes : List ℕ) (b : ℕ) (rest : List ℕ) → IsBytes bytes → byte_at bytes ≡ Ok (b, rest) → Takes bytes (b ∷ []) rest × (b < 256)
  takes [] b rest fits e = absurd cc
  takes (c ∷ bytes) b rest fits e =
      let p = pair_of_ok (c, bytes) (b, rest) e in (
        record { parts = ap (λ x. x ∷ bytes) p.0 ∙ ap (λ x. b ∷ x) p.1; rest_fits = subst IsBytes p.1 (IsBytes-tail c bytes fits) },
        subst (λ x. x < 256) p.0 (fits 0),
      )

pub byte_lasts : Lasts byte_at
byte_lasts = record { goes_on = λ bytes more. goes bytes more } where
  goes : (bytes more : List ℕ) → Continues more (byte_at bytes) (byte_at (bytes ++ more))
  goes [] more = tt
  goes (b ∷ bytes) more = refl

-- ---- a number that was read, within bounds

within_ok : (low high : ℕ) (n m : ℕ × List ℕ) → within low high n ≡ Ok m → (low ≤ n.0) × (n.0 ≤ high) × (n.0 ≡ m.0) × (n.1 ≡ m.1)
within_ok low high n m e = by (leb low n.0) (leb n.0 high) refl refl e where
  by : (a b : Bool) → leb low n.0 ≡ a → leb n.0 high ≡ b → cond (a && b) (the_ok n) (Err Field) ≡ Ok m
      → (low ≤ n.0) × (n.0 ≤ high) × (n.0 ≡ m.0) × (n.1 ≡ m.1)
  by true true p q e = let s = pair_of_ok n m e in (leb-true low n.0 p, leb-true n.0 high q, s.0, s.1)
  by true false p q e = absurd cc
  by false b p q e = absurd cc

within_is : (low high : ℕ) (n : ℕ × List ℕ) → low ≤ n.0 → n.0 ≤ high → within low high n ≡ Ok n
within_is low high n p q = rw (le-leb low n.0 p, le-leb n.0 high q) refl

within_continues : (low high : ℕ) (n : ℕ) (rest more : List ℕ) → Continues more (within low high (n, rest)) (within low high (n, rest ++ more))
within_continues low high n rest more = by (leb low n && leb n high) where
  by : (b : Bool) → Continues more (cond b (the_ok (n, rest)) (Err Field)) (cond b (the_ok (n, rest ++ more)) (Err Field))
  by true = refl
  by false = refl

pub within_field : {spelled : ℕ → List ℕ} {IsAllowed : ℕ → Type 0} {read : List ℕ → Result (ℕ × List ℕ) CkptError} → (low high : ℕ)
    → ((n : ℕ) → n ≤ high → IsAllowed n)
    → IsField spelled IsAllowed read → IsField spelled (λ n. (low ≤ n) × (n ≤ high)) (λ bytes. read bytes >>= within low high)
within_field {spelled} {IsAllowed} {read} low high below f = record {
  again = λ n rest h. ap (λ (r : Result (ℕ × List ℕ) CkptError). r >>= within low high) (f.again n rest (below n h.1)) ∙ within_is low high (n, rest) h.0 h.1;
  takes = λ bytes n rest fits e.
      let b = bind_ok (read bytes) (within low high) (n, rest) e in
      let w = within_ok low high b.0 (n, rest) b.2 in
      let t = f.takes bytes b.0.0 b.0.1 fits b.1 in (
        subst (λ (m : ℕ). Takes bytes (spelled m) rest) w.2 (subst (λ (r : List ℕ). Takes bytes (spelled b.0.0) r) w.3 t.0),
        (subst (λ (m : ℕ). low ≤ m) w.2 w.0, subst (λ (m : ℕ). m ≤ high) w.2 w.1),
      );
}

pub within_lasts : {read : List ℕ → Result (ℕ × List ℕ) CkptError} → (low high : ℕ) → Lasts read → Lasts (λ bytes. read bytes >>= within low high)
within_lasts low high l = behind_lasts (λ n bytes. within low high (n, bytes)) l
    (λ n. record { goes_on = λ bytes more. within_continues low high n bytes more })

pub byte_within_field : (low high : ℕ) → high < 256 → IsField (λ b. b ∷ []) (λ b. (low ≤ b) × (b ≤ high)) (byte_within low high)
unfolding byte_within
byte_within_field low high lt =
    let f = within_field low high (λ n le. omega arith) byte_field in
    record { again = f.again; takes = f.takes }

pub byte_within_lasts : (low high : ℕ) → Lasts (byte_within low high)
unfolding byte_within
byte_within_lasts low high = let l = within_lasts low high byte_lasts in record { goes_on = l.goes_on }

-- ---- truths

abbrev is_one : ℕ → Bool
is_one n = eqb n 1

flag_same : (n : ℕ) → n ≤ 1 → n ∷ [] ≡ flag_bytes (is_one n)
flag_same zero le = refl
flag_same (suc zero) le = refl
flag_same (suc (suc n)) le = absurd (omega arith)

flag_from : (b : Bool) → Unit {0} → (n : ℕ) × (((0 ≤ n) × (n ≤ 1)) × (is_one n ≡ b))
flag_from true h = (1, ((omega arith, omega arith), refl))
flag_from false h = (0, ((omega arith, omega arith), refl))

pub flag_field : IsField flag_bytes (λ b. Unit {0}) flag_at
unfolding flag_at
flag_field =
    let f = made_field (byte_within_field 0 1 (omega arith)) is_one flag_bytes (λ b. Unit {0}) (λ n h. flag_same n h.1) (λ n h. tt) flag_from in
    record { again = f.again; takes = f.takes }

pub flag_lasts : Lasts flag_at
unfolding flag_at
flag_lasts = let l = made_lasts is_one (byte_within_lasts 0 1) in record { goes_on = l.goes_on }

-- ---- numbers

pub record IsWide (w : Width) (limit : ℕ) : Type 0 where
  pub len : (n : ℕ) → length (to_be_bytes w n) ≡ byte_len w
  pub back : (bytes : List ℕ) → length bytes ≡ byte_len w → IsBytes bytes → to_be_bytes w (from_be_bytes w bytes) ≡ bytes
  pub again : (n : ℕ) → n < limit → from_be_bytes w (to_be_bytes w n) ≡ n
  pub below : (bytes : List ℕ) → IsBytes bytes → from_be_bytes w bytes < limit

pub wide16 : IsWide w16 (2 ^ 16)
wide16 = record {
  len = λ n. refl;
  back = λ bytes len fits. be_bytes_2 bytes _ len fits refl;
  again = λ n lt. from_be_bytes-to_be_bytes_2 n lt;
  below = λ bytes fits. omega (arith, fits 0, fits 1);
}

pub wide32 : IsWide w32 (2 ^ 32)
wide32 = record {
  len = λ n. refl;
  back = λ bytes len fits. be_bytes_4 bytes _ len fits refl;
  again = λ n lt. from_be_bytes-to_be_bytes_4 n lt;
  below = λ bytes fits. omega (arith, fits 0, fits 1, fits 2, fits 3);
}

pub wide64 : IsWide w64 (2 ^ 64)
wide64 = record {
  len = λ n. refl;
  back = λ bytes len fits. be_bytes_8 bytes _ len fits refl;
  again = λ n lt. from_be_bytes-to_be_bytes_8 n lt;
  below = λ bytes fits. omega (arith, fits 0, fits 1, fits 2, fits 3, fits 4, fits 5, fits 6, fits 7);
}

pub front_takes : (n : ℕ) (bytes front rest : List ℕ) → IsBytes bytes → bytes_at n bytes ≡ Ok (front, rest)
    → Takes bytes front rest × (length front ≡ n) × IsBytes front
front_takes n bytes front rest fits e = by (ltb (length bytes) n) refl e where
  by : (b : Bool) → ltb (length bytes) n ≡ b → cond b (Err Cut) (the_ok {X = List ℕ × List ℕ} (take n bytes, drop n bytes)) ≡ Ok (front, rest)
      → Takes bytes front rest × (length front ≡ n) × IsBytes front
  by true p e = absurd cc
  by false p e =
      let long : n ≤ length bytes = ltb-false _ _ p in
      let s = pair_of_ok (take n bytes, drop n bytes) (front, rest) e in
      let len : length (take n bytes) ≡ n = omega (arith, length-take n bytes) in
      subst (λ (x : List ℕ × List ℕ). Takes bytes x.0 x.1 × (length x.0 ≡ n) × IsBytes x.0)
      (ap (λ (f : List ℕ). (f, drop n bytes)) s.0 ∙ ap (λ (r : List ℕ). (front, r)) s.1)
      (record { parts = sym (take-append-drop n bytes); rest_fits = IsBytes-drop n bytes fits }, len, IsBytes-take n bytes fits)

pub front_len : (n : ℕ) (bytes front rest : List ℕ) → bytes_at n bytes ≡ Ok (front, rest) → length front ≡ n
front_len n bytes front rest e = by (ltb (length bytes) n) refl e where
  by : (b : Bool) → ltb (length bytes) n ≡ b → cond b (Err Cut) (the_ok {X = List ℕ × List ℕ} (take n bytes, drop n bytes)) ≡ Ok (front, rest)
      → length front ≡ n
  by true p e = absurd cc
  by false p e =
      let long : n ≤ length bytes = ltb-false _ _ p in
      let s = pair_of_ok (take n bytes, drop n bytes) (front, rest) e in
      omega (arith, length-take n bytes, ap length s.0)

pub front_again : (n : ℕ) (front rest : List ℕ) → length front ≡ n → bytes_at n (front ++ rest) ≡ Ok (front, rest)
front_again n front rest len =
    let long : ltb (length (front ++ rest)) n ≡ false = le-ltb _ _ (omega (arith, length-append front rest)) in
    rw (long, take_at front rest n len, drop_at front rest n len) refl

pub front_lasts : (n : ℕ) → Lasts (bytes_at n)
front_lasts n = record { goes_on = λ bytes more. by bytes more (ltb (length bytes) n) refl } where
  by : (bytes more : List ℕ) (b : Bool) → ltb (length bytes) n ≡ b
      → Continues more (cond b (Err Cut) (the_ok {X = List ℕ × List ℕ} (take n bytes, drop n bytes))) (bytes_at n (bytes ++ more))
  by bytes more true p = tt
  by bytes more false p =
      let long : n ≤ length bytes = ltb-false _ _ p in
      let len : length (take n bytes) ≡ n = omega (arith, length-take n bytes) in
      ap (λ (t : List ℕ). bytes_at n (t ++ more)) (sym (take-append-drop n bytes))
      ∙ ap (bytes_at n) (append_assoc (take n bytes) (drop n bytes) more)
      ∙ front_again n (take n bytes) (drop n bytes ++ more) len

number_is : (w : Width) (bytes : List ℕ) → number_at w bytes ≡ (bytes_at (byte_len w) bytes >>= λ x. the_ok (from_be_bytes w x.0, x.1))
number_is w bytes = by (ltb (length bytes) (byte_len w)) where
  by : (b : Bool) → cond b (Err Cut) (the_ok {X = ℕ × List ℕ} (from_be_bytes w (take (byte_len w) bytes), drop (byte_len w) bytes))
      ≡ (cond b (Err Cut) (the_ok {X = List ℕ × List ℕ} (take (byte_len w) bytes, drop (byte_len w) bytes)) >>= λ x. the_ok (from_be_bytes w x.0, x.1))
  by true = refl
  by false = refl

pub number_field : (w : Width) (limit : ℕ) → IsWide w limit → IsField (λ n. to_be_bytes w n) (λ n. n < limit) (number_at w)
number_field w limit wide = record {
  again = λ n rest lt.
      number_is w (to_be_bytes w n ++ rest)
      ∙ ap (λ (r : Result (List ℕ × List ℕ) CkptError). r >>= λ x. the_ok {X = ℕ × List ℕ} (from_be_bytes w x.0, x.1))
      (front_again (byte_len w) (to_be_bytes w n) rest (wide.len n))
      ∙ ap (λ (m : ℕ). the_ok {X = ℕ × List ℕ} (m, rest)) (wide.again n lt);
  takes = λ bytes n rest fits e.
      let b = bind_ok (bytes_at (byte_len w) bytes) (λ x. the_ok {X = ℕ × List ℕ} (from_be_bytes w x.0, x.1)) (n, rest) (sym (number_is w bytes) ∙ e) in
      let t = front_takes (byte_len w) bytes b.0.0 b.0.1 fits b.1 in
      let s = pair_of_ok (from_be_bytes w b.0.0, b.0.1) (n, rest) b.2 in
      let text : b.0.0 ≡ to_be_bytes w n = sym (wide.back b.0.0 t.1 t.2) ∙ ap (to_be_bytes w) s.0 in (
        subst (λ (x : List ℕ). Takes bytes x rest) text (subst (λ (r : List ℕ). Takes bytes b.0.0 r) s.1 t.0),
        subst (λ (m : ℕ). m < limit) s.0 (wide.below b.0.0 t.2),
      );
}

pub number_lasts : (w : Width) → Lasts (number_at w)
number_lasts w =
    let l = behind_lasts (λ x bytes. the_ok {X = ℕ × List ℕ} (from_be_bytes w x, bytes)) (front_lasts (byte_len w)) (λ x. known_lasts (from_be_bytes w x)) in
    record {
      goes_on = λ bytes more. subst (λ (r : Result (ℕ × List ℕ) CkptError). Continues more r (number_at w (bytes ++ more))) (sym (number_is w bytes))
          (subst (λ (r : Result (ℕ × List ℕ) CkptError). Continues more
          (bytes_at (byte_len w) bytes >>= λ x. the_ok {X = ℕ × List ℕ} (from_be_bytes w x.0, x.1)) r) (sym (number_is w (bytes ++ more)))
          (l.goes_on bytes more));
    }

-- ---- lists

pub list_field : {X : Type 0} {spelled : X → List ℕ} {IsAllowed : X → Type 0} {read : List ℕ → Result (X × List ℕ) CkptError} → IsField spelled IsAllowed read
    → (n : ℕ) → IsField (λ xs. flat_map spelled xs) (λ xs. (length xs ≡ n) × All IsAllowed xs) (list_at read n)
unfolding list_at
list_field {X} {spelled} {IsAllowed} {read} f n = record {
  again = λ xs rest h. again n xs rest h.0 h.1;
  takes =
      λ bytes xs rest fits e. takes n bytes xs rest fits e;
} where
  again : (n : ℕ) (xs : List X) (rest : List ℕ) → length xs ≡ n → All IsAllowed xs → list_at read n (flat_map spelled xs ++ rest) ≡ Ok (xs, rest)
  again zero [] rest len all = refl
  again zero (x ∷ xs) rest len all = absurd (omega arith)
  again (suc n) [] rest len all = absurd (omega arith)
  again (suc n) (x ∷ xs) rest len all =
      let regrouped : flat_map spelled (x ∷ xs) ++ rest ≡ spelled x ++ (flat_map spelled xs ++ rest) = append_assoc (spelled x) (flat_map spelled xs) rest in
      ap (list_at read (suc n)) regrouped
      ∙ ap (λ (r : Result (X × List ℕ) CkptError). r >>= λ first. list_at read n first.1
      >>= λ others. the_ok {X = List X × List ℕ} (first.0 ∷ others.0, others.1)) (f.again x (flat_map spelled xs ++ rest) (All-head IsAllowed x xs all))
      ∙ ap (λ (r : Result (List X × List ℕ) CkptError). r >>= λ others. the_ok {X = List X × List ℕ} (x ∷ others.0, others.1))
      (again n xs rest (omega arith) (All-tail IsAllowed x xs all))

  takes : (n : ℕ) (bytes : List ℕ) (xs : List X) (rest : List ℕ) → IsBytes bytes → list_at read n bytes ≡ Ok (xs, rest)
      → Takes bytes (flat_map spelled xs) rest × ((length xs ≡ n) × All IsAllowed xs)
  takes zero bytes xs rest fits e =
      let s = pair_of_ok ([], bytes) (xs, rest) e in
      subst (λ (y : List X × List ℕ). Takes bytes (flat_map spelled y.0) y.1 × ((length y.0 ≡ 0) × All IsAllowed y.0))
      (ap (λ (a : List X). (a, bytes)) s.0 ∙ ap (λ (r : List ℕ). (xs, r)) s.1)
      (record { parts = refl; rest_fits = fits }, (refl, All-nil IsAllowed))
  takes (suc n) bytes xs rest fits e =
      let a = bind_ok (read bytes) (λ first. list_at read n first.1 >>= λ others. the_ok {X = List X × List ℕ} (first.0 ∷ others.0, others.1)) (xs, rest) e in
      let b = bind_ok (list_at read n a.0.1) (λ others. the_ok {X = List X × List ℕ} (a.0.0 ∷ others.0, others.1)) (xs, rest) a.2 in
      let s = pair_of_ok (a.0.0 ∷ b.0.0, b.0.1) (xs, rest) b.2 in
      let t = f.takes bytes a.0.0 a.0.1 fits a.1 in
      let u = takes n a.0.1 b.0.0 b.0.1 t.0.rest_fits b.1 in
      subst (λ (y : List X × List ℕ). Takes bytes (flat_map spelled y.0) y.1 × ((length y.0 ≡ suc n) × All IsAllowed y.0))
      (ap (λ (l : List X). (l, b.0.1)) s.0 ∙ ap (λ (r : List ℕ). (xs, r)) s.1)
      (Takes-then t.0 u.0, (ap suc u.1.0, All-cons IsAllowed a.0.0 b.0.0 t.1 u.1.1))

pub list_lasts : {X : Type 0} {read : List ℕ → Result (X × List ℕ) CkptError} → Lasts read → (n : ℕ) → Lasts (list_at read n)
unfolding list_at
list_lasts {X} {read} l zero = record { goes_on = λ bytes more. refl }
list_lasts {X} {read} l (suc n) =
    let rest = list_lasts l n in
    let m = behind_lasts (λ x bytes. list_at read n bytes >>= λ others. the_ok {X = List X × List ℕ} (x ∷ others.0, others.1)) l
    (λ x. behind_lasts (λ xs bytes. the_ok {X = List X × List ℕ} (x ∷ xs, bytes)) rest (λ xs. known_lasts (x ∷ xs))) in
    record { goes_on = m.goes_on }

-- ---- lists with rising workers

abbrev pub entry : {X : Type 0} → (X → List ℕ) → ℕ × X → List ℕ
entry spelled x = x.0 ∷ spelled x.1

abbrev after_first : {X : Type 0} → (List ℕ → Result (X × List ℕ) CkptError) → ℕ → ℕ → X × List ℕ → Result (List (ℕ × X) × List ℕ) CkptError
after_first {X} read n w first = rising_at read (w + 1) n first.1 >>= λ others. the_ok {X = List (ℕ × X) × List ℕ} ((w, first.0) ∷ others.0, others.1)

abbrev after_worker : {X : Type 0} → (List ℕ → Result (X × List ℕ) CkptError) → ℕ → ℕ × List ℕ → Result (List (ℕ × X) × List ℕ) CkptError
after_worker read n worker = read worker.1 >>= after_first read n worker.0

pub rising_field : {X : Type 0} {spelled : X → List ℕ} {IsAllowed : X → Type 0} {read : List ℕ → Result (X × List ℕ) CkptError}
    → IsField spelled IsAllowed read
    → (low n : ℕ) → IsField (λ xs. flat_map (entry spelled) xs) (λ xs. (length xs ≡ n) × (IsRising low xs × All (λ x. IsAllowed x.1) xs))
    (rising_at read low n)
unfolding rising_at
rising_field {X} {spelled} {IsAllowed} {read} f low n = record {
  again = λ xs rest h. again low n xs rest h.0 h.1.0 h.1.1;
  takes =
      λ bytes xs rest fits e. takes low n bytes xs rest fits e;
} where
  again : (low n : ℕ) (xs : List (ℕ × X)) (rest : List ℕ) → length xs ≡ n → IsRising low xs → All (λ x. IsAllowed x.1) xs
      → rising_at read low n (flat_map (entry spelled) xs ++ rest) ≡ Ok (xs, rest)
  again low zero [] rest len rising all = refl
  again low zero (x ∷ xs) rest len rising all = absurd (omega arith)
  again low (suc n) [] rest len rising all = absurd (omega arith)
  again low (suc n) (x ∷ xs) rest len rising all =
      let worker = byte_within_field low MAX_WORKERS (omega arith) in
      let regrouped : flat_map (entry spelled) (x ∷ xs) ++ rest ≡ (x.0 ∷ []) ++ (spelled x.1 ++ (flat_map (entry spelled) xs ++ rest)) =
      ap (λ (t : List ℕ). x.0 ∷ t) (append_assoc (spelled x.1) (flat_map (entry spelled) xs) rest) in
      ap (rising_at read low (suc n)) regrouped
      ∙ ap (λ (r : Result (ℕ × List ℕ) CkptError). r >>= after_worker read n)
      (worker.again x.0 (spelled x.1 ++ (flat_map (entry spelled) xs ++ rest)) (rising.0, rising.1))
      ∙ ap (λ (r : Result (X × List ℕ) CkptError). r >>= after_first read n x.0)
      (f.again x.1 (flat_map (entry spelled) xs ++ rest) (All-head (λ x. IsAllowed x.1) x xs all))
      ∙ ap (λ (r : Result (List (ℕ × X) × List ℕ) CkptError). r >>= λ others. the_ok {X = List (ℕ × X) × List ℕ} (x ∷ others.0, others.1))
      (again (x.0 + 1) n xs rest (omega arith) rising.2 (All-tail (λ x. IsAllowed x.1) x xs all))

  takes : (low n : ℕ) (bytes : List ℕ) (xs : List (ℕ × X)) (rest : List ℕ) → IsBytes bytes → rising_at read low n bytes ≡ Ok (xs, rest)
      → Takes bytes (flat_map (entry spelled) xs) rest × ((length xs ≡ n) × (IsRising low xs × All (λ x. IsAllowed x.1) xs))
  takes low zero bytes xs rest fits e =
      let s = pair_of_ok ([], bytes) (xs, rest) e in
      subst (λ (y : List (ℕ × X) × List ℕ). Takes bytes (flat_map (entry spelled) y.0)
      y.1 × ((length y.0 ≡ 0) × (IsRising low y.0 × All (λ x. IsAllowed x.1) y.0)))
      (ap (λ (a : List (ℕ × X)). (a, bytes)) s.0 ∙ ap (λ (r : List ℕ). (xs, r)) s.1)
      (record { parts = refl; rest_fits = fits }, (refl, (tt, All-nil (λ x. IsAllowed x.1))))
  takes low (suc n) bytes xs rest fits e =
      let worker = byte_within_field low MAX_WORKERS (omega arith) in
      let w = bind_ok (byte_within low MAX_WORKERS bytes) (after_worker read n) (xs, rest) e in
      let a = bind_ok (read w.0.1) (after_first read n w.0.0) (xs, rest) w.2 in
      let b = bind_ok (rising_at read (w.0.0 + 1) n a.0.1) (λ others. the_ok {X = List (ℕ × X) × List ℕ} ((w.0.0, a.0.0) ∷ others.0, others.1))
      (xs, rest) a.2 in
      let s = pair_of_ok ((w.0.0, a.0.0) ∷ b.0.0, b.0.1) (xs, rest) b.2 in
      let v = worker.takes bytes w.0.0 w.0.1 fits w.1 in
      let t = f.takes w.0.1 a.0.0 a.0.1 v.0.rest_fits a.1 in
      let u = takes (w.0.0 + 1) n a.0.1 b.0.0 b.0.1 t.0.rest_fits b.1 in
      subst (λ (y : List (ℕ × X) × List ℕ). Takes bytes (flat_map (entry spelled) y.0)
      y.1 × ((length y.0 ≡ suc n) × (IsRising low y.0 × All (λ x. IsAllowed x.1) y.0)))
      (ap (λ (l : List (ℕ × X)). (l, b.0.1)) s.0 ∙ ap (λ (r : List ℕ). (xs, r)) s.1)
      (Takes-then v.0 (Takes-then t.0 u.0), (ap suc u.1.0, ((v.1.0, v.1.1, u.1.1.0), All-cons (λ x. IsAllowed x.1) (w.0.0, a.0.0) b.0.0 t.1 u.1.1.1)))

pub rising_lasts : {X : Type 0} {read : List ℕ → Result (X × List ℕ) CkptError} → Lasts read → (low n : ℕ) → Lasts (rising_at read low n)
unfolding rising_at
rising_lasts {X} {read} l low zero = record { goes_on = λ bytes more. refl }
rising_lasts {X} {read} l low (suc n) =
    let m = behind_lasts (λ w bytes. after_worker read n (w, bytes)) (byte_within_lasts low MAX_WORKERS)
    (λ w. behind_lasts (λ x bytes. after_first read n w (x, bytes)) l
    (λ x. behind_lasts (λ xs bytes. the_ok {X = List (ℕ × X) × List ℕ} ((w, x) ∷ xs, bytes)) (rising_lasts l (w + 1) n) (λ xs. known_lasts ((w, x) ∷ xs)))) in
    record { goes_on = m.goes_on }

-- what was read has rising workers
pub rising_of : {X : Type 0} (read : List ℕ → Result (X × List ℕ) CkptError) (low n : ℕ) (bytes : List ℕ) (xs : List (ℕ × X)) (rest : List ℕ)
    → rising_at read low n bytes ≡ Ok (xs, rest) → IsRising low xs
unfolding rising_at byte_within
rising_of {X} read low zero bytes xs rest e = let s = pair_of_ok ([], bytes) (xs, rest) e in subst (IsRising low) s.0 tt
rising_of {X} read low (suc n) bytes xs rest e =
    let w = bind_ok (byte_within low MAX_WORKERS bytes) (after_worker read n) (xs, rest) e in
    let a = bind_ok (read w.0.1) (after_first read n w.0.0) (xs, rest) w.2 in
    let b = bind_ok (rising_at read (w.0.0 + 1) n a.0.1) (λ others. the_ok {X = List (ℕ × X) × List ℕ} ((w.0.0, a.0.0) ∷ others.0, others.1))
    (xs, rest) a.2 in
    let s = pair_of_ok ((w.0.0, a.0.0) ∷ b.0.0, b.0.1) (xs, rest) b.2 in
    let c = bind_ok (byte_at bytes) (within low MAX_WORKERS) w.0 w.1 in
    let v = within_ok low MAX_WORKERS c.0 w.0 c.2 in
    subst (IsRising low) s.0 (
      subst (λ (m : ℕ). low ≤ m) v.2 v.0,
      subst (λ (m : ℕ). m ≤ MAX_WORKERS) v.2 v.1,
      rising_of read (w.0.0 + 1) n a.0.1 b.0.0 b.0.1 b.1,
    )

-- there are no more of them than workers
pub rising_len : {X : Type 0} (low : ℕ) (xs : List (ℕ × X)) → low ≤ MAX_WORKERS + 1 → IsRising low xs → length xs + low ≤ MAX_WORKERS + 1
rising_len low [] le h = omega arith
rising_len low (x ∷ xs) le h = let rest = rising_len (x.0 + 1) xs (omega (arith, h.1)) h.2 in omega (arith, rest, h.0)
