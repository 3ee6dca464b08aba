-- What an act heard, in bytes.
-- Cited by ActFields.
use Rattle.std.proofs.Common.{◌≡◌, ℕ, ◌≤◌, ◌<◌, ◌^◌, Bool, true, false, cond, eqb, leb, List, [], ◌∷◌, ◌++◌, Result, Ok, Err, Option, Some, None}
use Rattle.std.proofs.Common.{refl, sym, ap, subst, ◌∙◌, arith}
use Rattle.std.specs.Prelude.{All}
use Rattle.std.specs.Int.{w64, to_be_bytes}
use Rattle.std.proofs.lemmas.Bool.{and_parts, eqb-true, eq-eqb, leb-true, le-leb, false≢true, true≢false}
use Rattle.kt_tuple.specs.declared.node.NodeId.{NodeId}
use Rattle.kt_tuple.specs.declared.node.NodeId.TheVariants.{Worker, Shard}
use Rattle.kt_ckpt.specs.declared.error.CkptError.{CkptError}
use Rattle.kt_ckpt.specs.declared.error.CkptError.TheVariants.{Field}
use Rattle.kt_tuple.specs.declared.node.TheConstants.{MAX_SHARDS}
use Rattle.kt_ckpt.specs.Reading.{◌>>=◌, made}
use Rattle.kt_ckpt.specs.Node.{node_bytes}
use Rattle.kt_ckpt.specs.Acts.{may_send, by_bytes}
use Rattle.kt_ckpt.specs.Acts.{byte_such, is_own_code, is_flag_of, sender_code, sender, place_at, cause_at}
use Rattle.kt_ckpt.specs.Acts.{by_behind, by_at}
use Rattle.kt_ckpt.proofs.Field.{IsField, Lasts, the_ok, Takes, pair_of_ok, bind_ok}
use Rattle.kt_ckpt.proofs.Combined.{known, known_lasts, fault, refused_lasts, same_field, either, either_lasts, behind, behind_lasts, made_field, made_lasts}
use Rattle.kt_ckpt.proofs.Primitive.{byte_field, byte_lasts, wide64, number_field, number_lasts}

-- ---- a field whose value passes a test

abbrev if_passes : {X : Type 0} → (X → Bool) → X × List ℕ → Result (X × List ℕ) CkptError
if_passes test a = cond (test a.0) (Ok a) (Err Field)

such : {X : Type 0} {spelled : X → List ℕ} {IsAllowed : X → Type 0} {first : List ℕ → Result (X × List ℕ) CkptError} → IsField spelled IsAllowed first
    → (test : X → Bool) → IsField spelled (λ x. IsAllowed x × (test x ≡ true)) (λ bytes. first bytes >>= if_passes test)
such {X} {spelled} {IsAllowed} {first} f test = record {
  again = λ x rest h.
      ap (λ (r : Result (X × List ℕ) CkptError). r >>= if_passes test) (f.again x rest h.0)
      ∙ ap (λ (b : Bool). cond b (the_ok {X = X × List ℕ} (x, rest)) (Err Field)) h.1;
  takes = λ bytes x rest fits e.
      let a = bind_ok (first bytes) (if_passes test) (x, rest) e in
      by bytes x rest a.0 (f.takes bytes a.0.0 a.0.1 fits a.1) (test a.0.0) refl a.2;
} where
  by : (bytes : List ℕ) (x : X) (rest : List ℕ) (a : X × List ℕ) → Takes bytes (spelled a.0) a.1 × IsAllowed a.0 → (b : Bool) → test a.0 ≡ b
      → cond b (the_ok {X = X × List ℕ} a) (Err Field) ≡ Ok (x, rest) → Takes bytes (spelled x) rest × (IsAllowed x × (test x ≡ true))
  by bytes x rest a t true p e =
      let s = pair_of_ok a (x, rest) e in
      let All : X → List ℕ → Type 0 = λ y r. Takes bytes (spelled y) r × (IsAllowed y × (test y ≡ true)) in
      subst (λ (y : X). All y rest) s.0 (subst (λ (r : List ℕ). All a.0 r) s.1 (t.0, (t.1, p)))
  by bytes x rest a t false p e = absurd cc

such_lasts : {X : Type 0} {first : List ℕ → Result (X × List ℕ) CkptError} → Lasts first → (test : X → Bool) → Lasts (λ bytes. first bytes >>= if_passes test)
such_lasts {X} {first} l test =
    behind_lasts (λ x bytes. if_passes test (x, bytes)) l
    (λ x. either_lasts (λ bytes. the_ok {X = X × List ℕ} (x, bytes)) (fault Field) (test x) (known_lasts x) (refused_lasts Field))

pub byte_such_field : (test : ℕ → Bool) → IsField (λ b. b ∷ []) (λ b. (b < 256) × (test b ≡ true)) (byte_such test)
unfolding byte_such
byte_such_field test = let f = such byte_field test in record { again = f.again; takes = f.takes }

pub byte_such_lasts : (test : ℕ → Bool) → Lasts (byte_such test)
unfolding byte_such
byte_such_lasts test = let l = such_lasts byte_lasts test in record { goes_on = l.goes_on }

-- ---- what an act heard

abbrev IsCause : NodeId → ℕ → NodeId × ℕ → Type 0
IsCause p worker by = (may_send p worker by.0 ≡ true) × ((1 ≤ by.1) × (by.1 < 2 ^ 64))

abbrev number_of : NodeId → ℕ
number_of (Worker n) = n
number_of (Shard n) = n

abbrev cause_bytes : NodeId × ℕ → List ℕ
cause_bytes by = node_bytes by.0 ++ to_be_bytes w64 by.1

-- who may send is of the other kind, with a number of one byte
sends : (p : NodeId) (worker : ℕ) (q : NodeId) → worker < 256 → may_send p worker q ≡ true → (sender p (number_of q) ≡ q) × (number_of q < 256)
sends (Worker i) worker (Worker w) small e = absurd (false≢true e)
sends (Worker i) worker (Shard s) small e =
    let both = and_parts (leb 1 s) (leb s MAX_SHARDS) e in
    let le = leb-true s MAX_SHARDS both.1 in
    (refl, omega (arith, le))
sends (Shard i) worker (Worker w) small e = let same = eqb-true w worker e in (refl, omega (arith, same, small))
sends (Shard i) worker (Shard s) small e = absurd (false≢true e)

of_sender : (p : NodeId) (worker : ℕ) (q : NodeId) → may_send p worker q ≡ true → node_bytes q ≡ sender_code p ∷ number_of q ∷ []
of_sender (Worker i) worker (Worker w) e = absurd (false≢true e)
of_sender (Worker i) worker (Shard s) e = refl
of_sender (Shard i) worker (Worker w) e = refl
of_sender (Shard i) worker (Shard s) e = absurd (false≢true e)

sender_byte : (p : NodeId) → sender_code p < 256
sender_byte (Worker i) = omega arith
sender_byte (Shard i) = omega arith

numbered : (p : NodeId) (n : ℕ) → number_of (sender p n) ≡ n
numbered (Worker i) n = refl
numbered (Shard i) n = refl

place_lasts : Lasts place_at
unfolding place_at
place_lasts = let l = such_lasts (number_lasts w64) (λ n. leb 1 n) in record { goes_on = l.goes_on }

place_field : IsField (λ n. to_be_bytes w64 n) (λ n. (n < 2 ^ 64) × (leb 1 n ≡ true)) place_at
unfolding place_at
place_field = let f = such (number_field w64 (2 ^ 64) wide64) (λ n. leb 1 n) in record { again = f.again; takes = f.takes }

-- the place behind a node
abbrev with_index : NodeId → ℕ → List ℕ → Result ((NodeId × ℕ) × List ℕ) CkptError
with_index p index bytes = made (λ n. (sender p index, n)) (place_at bytes)

cause_field : (p : NodeId) (worker : ℕ) → worker < 256 → IsField cause_bytes (IsCause p worker) (cause_at p worker)
unfolding cause_at
cause_field p worker small =
    let f = behind (byte_such_field (λ code. eqb code (sender_code p))) (λ (by : NodeId × ℕ). sender_code p)
    (λ by. number_of by.0 ∷ to_be_bytes w64 by.1) (IsCause p worker)
    (λ code bytes. byte_such (λ n. may_send p worker (sender p n)) bytes >>= λ index. with_index p index.0 index.1)
    (λ by h. (sender_byte p, eq-eqb (sender_code p) (sender_code p) refl))
    (λ code hc. behind (byte_such_field (λ n. may_send p worker (sender p n))) (λ (by : NodeId × ℕ). number_of by.0) (λ by. to_be_bytes w64 by.1)
    (λ by. IsCause p worker by × (code ≡ sender_code p)) (with_index p)
    (λ by h. let to = sends p worker by.0 small h.0.0 in (to.1, ap (may_send p worker) to.0 ∙ h.0.0))
    (λ index hi. made_field place_field (λ n. (sender p index, n)) (λ by. to_be_bytes w64 by.1)
    (λ by. (IsCause p worker by × (code ≡ sender_code p)) × (index ≡ number_of by.0)) (λ n h. refl)
    (λ n h. (((hi.1, (leb-true 1 n h.1, h.0)), eqb-true code (sender_code p) hc.1), sym (numbered p index)))
    (λ by h. (
      by.1,
      (
        (h.0.0.1.1, le-leb 1 by.1 h.0.0.1.0),
        ap (λ (q : NodeId). (q, by.1)) (ap (sender p) h.1 ∙ (sends p worker by.0 small h.0.0.0).0),
      ),
    )))) in
    same_field (record { again = f.again; takes = f.takes }) cause_bytes (IsCause p worker) (λ by h. h) (λ by h. h)
    (λ by h. ap (λ (t : List ℕ). t ++ to_be_bytes w64 by.1) (sym (of_sender p worker by.0 h.0)))

cause_lasts : (p : NodeId) (worker : ℕ) → Lasts (cause_at p worker)
unfolding cause_at
cause_lasts p worker =
    let l = behind_lasts (λ code bytes. byte_such (λ n. may_send p worker (sender p n)) bytes >>= λ index. with_index p index.0 index.1)
    (byte_such_lasts (λ code. eqb code (sender_code p)))
    (λ code. behind_lasts (with_index p) (byte_such_lasts (λ n. may_send p worker (sender p n)))
    (λ index. made_lasts (λ n. (sender p index, n)) place_lasts)) in
    record { goes_on = l.goes_on }

-- ---- whether it heard, and what

abbrev pub IsBy : NodeId → ℕ → ℕ → Option (NodeId × ℕ) → Type 0
IsBy p code worker None = is_own_code code ≡ true
IsBy p code worker (Some by) = (is_own_code code ≡ false) × IsCause p worker by

abbrev flag_of : Option (NodeId × ℕ) → ℕ
flag_of None = 0
flag_of (Some by) = 1

abbrev behind_flag : Option (NodeId × ℕ) → List ℕ
behind_flag None = []
behind_flag (Some by) = cause_bytes by

flag_fits : (p : NodeId) (code worker : ℕ) (by : Option (NodeId × ℕ)) → IsBy p code worker by → (flag_of by < 256) × (is_flag_of code (flag_of by) ≡ true)
flag_fits p code worker None h = (omega arith, ap (λ (b : Bool). cond b (eqb 0 0) (eqb 0 1)) h)
flag_fits p code worker (Some by) h = (omega arith, ap (λ (b : Bool). cond b (eqb 1 0) (eqb 1 1)) h.0)

-- what the flag says of the code
own_flag : (code flag : ℕ) → is_flag_of code flag ≡ true → eqb flag 0 ≡ true → is_own_code code ≡ true
own_flag code flag e zero_flag = by (is_own_code code) refl e
  where
    by : (b : Bool) → is_own_code code ≡ b → cond b (eqb flag 0) (eqb flag 1) ≡ true → is_own_code code ≡ true
    by true is f = is
    by false is f = let one = eqb-true flag 1 f in let none = eqb-true flag 0 zero_flag in absurd (omega (arith, one, none))

heard_flag : (code flag : ℕ) → is_flag_of code flag ≡ true → eqb flag 0 ≡ false → (is_own_code code ≡ false) × (flag ≡ 1)
heard_flag code flag e not_zero = by (is_own_code code) refl e
  where
    by : (b : Bool) → is_own_code code ≡ b → cond b (eqb flag 0) (eqb flag 1) ≡ true → (is_own_code code ≡ false) × (flag ≡ 1)
    by true is f = absurd (true≢false (sym f ∙ not_zero))
    by false is f = (is, eqb-true flag 1 f)

by_behind_field : (p : NodeId) (code worker flag : ℕ) → worker < 256 → is_flag_of code flag ≡ true
    → IsField behind_flag (λ by. IsBy p code worker by × (flag ≡ flag_of by)) (by_behind p worker flag)
by_behind_field p code worker flag small fits = either (λ bytes. Ok (None, bytes)) (λ bytes. made Some (cause_at p worker bytes)) (eqb flag 0)
    (λ e. same_field (known None) behind_flag (λ by. IsBy p code worker by × (flag ≡ flag_of by))
    (λ by same. subst (λ (o : Option (NodeId × ℕ)). IsBy p code worker o × (flag ≡ flag_of o)) same (own_flag code flag fits e, eqb-true flag 0 e))
    (λ by h. none_is by h (eqb-true flag 0 e))
    (λ by same. subst (λ (o : Option (NodeId × ℕ)). [] ≡ behind_flag o) same refl))
    (λ e. let heard = heard_flag code flag fits e in
    made_field (cause_field p worker small) Some behind_flag (λ by. IsBy p code worker by × (flag ≡ flag_of by)) (λ by h. refl)
    (λ by h. ((heard.0, h), heard.1)) (λ by h. some_from by h heard.1))
  where
    none_is : (by : Option (NodeId × ℕ)) → IsBy p code worker by × (flag ≡ flag_of by) → flag ≡ 0 → None ≡ by
    none_is None h e = refl
    none_is (Some by) h e = absurd (omega (arith, h.1, e))

    some_from : (by : Option (NodeId × ℕ)) → IsBy p code worker by × (flag ≡ flag_of by) → flag ≡ 1 → (x : NodeId × ℕ) × (IsCause p worker x × (Some x ≡ by))
    some_from None h e = absurd (omega (arith, h.1, e))
    some_from (Some by) h e = (by, (h.0.1, refl))

pub by_field : (p : NodeId) (code worker : ℕ) → worker < 256 → IsField by_bytes (IsBy p code worker) (by_at p code worker)
unfolding by_at
by_field p code worker small =
    let f = behind (byte_such_field (is_flag_of code)) flag_of behind_flag (IsBy p code worker) (by_behind p worker)
    (λ by h. flag_fits p code worker by h) (λ flag h. by_behind_field p code worker flag small h.1) in
    same_field (record { again = f.again; takes = f.takes }) by_bytes (IsBy p code worker) (λ by h. h) (λ by h. h) (λ by h. same by)
  where
    same : (by : Option (NodeId × ℕ)) → flag_of by ∷ behind_flag by ≡ by_bytes by
    same None = refl
    same (Some by) = refl

pub by_lasts : (p : NodeId) (code worker : ℕ) → Lasts (by_at p code worker)
unfolding by_at
by_lasts p code worker =
    let l = behind_lasts (by_behind p worker) (byte_such_lasts (is_flag_of code))
    (λ flag. either_lasts (λ bytes. the_ok (None, bytes)) (λ bytes. made Some (cause_at p worker bytes)) (eqb flag 0) (known_lasts None)
    (made_lasts Some (cause_lasts p worker))) in
    record { goes_on = l.goes_on }
