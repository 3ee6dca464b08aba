-- A worker in the bytes of format 1.
-- Cited by OldStates.
use Rattle.std.proofs.Common.{◌≡◌, ℕ, ◌^◌, ◌<◌, ◌≤◌, Bool, true, false, List, [], ◌++◌, length, Option, Some, None, Result, refl}
use Rattle.std.proofs.Common.{ap, subst, ◌∙◌, arith}
use Rattle.std.specs.Prelude.{All, IfSome}
use Rattle.std.specs.Int.{w16, w64, to_be_bytes}
use Rattle.kt_tuple.specs.declared.value.Value.{Value}
use Rattle.kt_tuple.specs.declared.op.Op.{Op}
use Rattle.kt_ckpt.specs.declared.error.CkptError.{CkptError}
use Rattle.kt_script.specs.declared.script.TheConstants.{MAX_COMMANDS, MAX_VARIABLES}
use Rattle.kt_ckpt.specs.Fields.{WorkerFields, worker_of}
use Rattle.kt_ckpt.specs.Flag.{flag_bytes, flag_at}
use Rattle.kt_ckpt.specs.OldState.{old_asked_behind, old_asked_at, old_variables_at, old_worker_at}
use Rattle.kt_ckpt.specs.Op.{op_bytes}
use Rattle.kt_ckpt.specs.Reading.{◌>>=◌, made, number_at}
use Rattle.kt_ckpt.specs.State.{asked_bytes, variables_bytes, worker_bytes, pc_at}
use Rattle.kt_ckpt.proofs.Field.{IsField, Lasts}
use Rattle.kt_ckpt.proofs.Combined.{known, known_lasts, same_field, behind, behind_lasts, made_field, made_lasts}
use Rattle.kt_ckpt.proofs.OldFields.{IsOldValue, old_value_field, old_value_lasts}
use Rattle.kt_ckpt.proofs.OldOps.{IsOldOp, old_op_field, old_op_lasts}
use Rattle.kt_ckpt.proofs.Primitive.{within_field, within_lasts, wide16, wide64, number_field, number_lasts}
use Rattle.kt_ckpt.proofs.Primitive.{flag_field, flag_lasts}
use Rattle.kt_ckpt.proofs.Tuples.{counted_field, counted_lasts}

-- ---- a worker's fields

pc_field : IsField (λ n. to_be_bytes w16 n) (λ n. n ≤ MAX_COMMANDS) pc_at
unfolding pc_at
pc_field =
    let f = same_field (within_field 0 MAX_COMMANDS (λ n le. omega arith) (number_field w16 (2 ^ 16) wide16)) (λ n. to_be_bytes w16 n) (λ n. n ≤ MAX_COMMANDS)
    (λ n h. h.1) (λ n h. (omega arith, h)) (λ n h. refl) in
    record { again = f.again; takes = f.takes }

pc_lasts : Lasts pc_at
unfolding pc_at
pc_lasts = let l = within_lasts 0 MAX_COMMANDS (number_lasts w16) in record { goes_on = l.goes_on }

abbrev pub IsOldAsked : Option Op → Type 0
IsOldAsked a = IfSome a IsOldOp

abbrev has_op : Option Op → Bool
has_op None = false
has_op (Some op) = true

abbrev behind_flag : Option Op → List ℕ
behind_flag None = []
behind_flag (Some op) = op_bytes op

abbrev none_op : Option Op
none_op = None

abbrev some_op : Op → Option Op
some_op op = Some op

none_asked : (a : Option Op) → IsOldAsked a × (false ≡ has_op a) → None ≡ a
none_asked None h = refl
none_asked (Some op) h = let e : false ≡ true = h.1 in absurd cc

some_asked : (a : Option Op) → IsOldAsked a × (true ≡ has_op a) → (op : Op) × (IsOldOp op × (Some op ≡ a))
some_asked None h = let e : true ≡ false = h.1 in absurd cc
some_asked (Some op) h = (op, (h.0, refl))

old_asked_behind_field : (b : Bool) → IsField behind_flag (λ a. IsOldAsked a × (b ≡ has_op a)) (old_asked_behind b)
old_asked_behind_field false =
    let f = same_field (known None) behind_flag (λ a. IsOldAsked a × (false ≡ has_op a))
    (λ a e. subst (λ (a : Option Op). IsOldAsked a × (false ≡ has_op a)) e (tt, refl)) none_asked
    (λ a e. subst (λ (a : Option Op). [] ≡ behind_flag a) e refl) in
    record { again = f.again; takes = f.takes }
old_asked_behind_field true =
    let f = made_field old_op_field Some behind_flag (λ a. IsOldAsked a × (true ≡ has_op a)) (λ op h. refl) (λ op h. (h, refl)) some_asked in
    record { again = f.again; takes = f.takes }

old_asked_behind_lasts : (b : Bool) → Lasts (old_asked_behind b)
old_asked_behind_lasts false = let l = known_lasts (none_op) in record { goes_on = l.goes_on }
old_asked_behind_lasts true = let l = made_lasts some_op old_op_lasts in record { goes_on = l.goes_on }

asked_same : (a : Option Op) → flag_bytes (has_op a) ++ behind_flag a ≡ asked_bytes a
asked_same None = refl
asked_same (Some op) = refl

old_asked_field : IsField asked_bytes IsOldAsked old_asked_at
unfolding old_asked_at
old_asked_field =
    let f = same_field (behind flag_field has_op behind_flag IsOldAsked old_asked_behind (λ a h. tt) (λ b h. old_asked_behind_field b))
    asked_bytes IsOldAsked (λ a h. h) (λ a h. h) (λ a h. asked_same a) in
    record { again = f.again; takes = f.takes }

old_asked_lasts : Lasts old_asked_at
unfolding old_asked_at
old_asked_lasts = let l = behind_lasts old_asked_behind flag_lasts old_asked_behind_lasts in record { goes_on = l.goes_on }

abbrev AreOldVariables : List Value → Type 0
AreOldVariables values = (length values ≤ MAX_VARIABLES) × All IsOldValue values

old_variables_field : IsField variables_bytes AreOldVariables old_variables_at
unfolding old_variables_at
old_variables_field =
    let f = same_field (counted_field old_value_field 0 MAX_VARIABLES (omega arith)) variables_bytes AreOldVariables (λ v h. (h.0.1, h.1))
    (λ v h. ((omega arith, h.0), h.1)) (λ v h. refl) in
    record { again = f.again; takes = f.takes }

old_variables_lasts : Lasts old_variables_at
unfolding old_variables_at
old_variables_lasts = let l = counted_lasts old_value_lasts 0 MAX_VARIABLES in record { goes_on = l.goes_on }

-- what of a worker format 1 spells
pub record IsOldWorker (w : WorkerFields) : Type 0 where
  pub pc : w.pc ≤ MAX_COMMANDS
  pub number : w.number < 2 ^ 64
  pub asked : IsOldAsked w.asked
  pub few : length w.variables ≤ MAX_VARIABLES
  pub variables : All IsOldValue w.variables

-- ---- a worker

worker_is : (pc number : ℕ) (was_none : Bool) (asked : Option Op) (w : WorkerFields) → pc ≡ w.pc → number ≡ w.number → was_none ≡ w.was_none
    → asked ≡ w.asked → worker_of pc number was_none asked w.variables ≡ w
worker_is pc number was_none asked w a b c d =
    ap (λ (p : ℕ). worker_of p number was_none asked w.variables) a ∙ ap (λ (n : ℕ). worker_of w.pc n was_none asked w.variables) b
    ∙ ap (λ (f : Bool). worker_of w.pc w.number f asked w.variables) c ∙ ap (λ (o : Option Op). worker_of w.pc w.number w.was_none o w.variables) d

abbrev with_asked : ℕ → ℕ → Bool → Option Op → List ℕ → Result (WorkerFields × List ℕ) CkptError
with_asked pc number was_none asked bytes = made (worker_of pc number was_none asked) (old_variables_at bytes)

abbrev with_flag : ℕ → ℕ → Bool → List ℕ → Result (WorkerFields × List ℕ) CkptError
with_flag pc number was_none bytes = old_asked_at bytes >>= λ asked. with_asked pc number was_none asked.0 asked.1

abbrev with_number : ℕ → ℕ → List ℕ → Result (WorkerFields × List ℕ) CkptError
with_number pc number bytes = flag_at bytes >>= λ was_none. with_flag pc number was_none.0 was_none.1

abbrev with_pc : ℕ → List ℕ → Result (WorkerFields × List ℕ) CkptError
with_pc pc bytes = number_at w64 bytes >>= λ number. with_number pc number.0 number.1

pub old_worker_field : IsField worker_bytes IsOldWorker old_worker_at
unfolding old_worker_at
old_worker_field =
    let f = behind pc_field (λ (w : WorkerFields). w.pc) (λ w. to_be_bytes w64
    w.number ++ (flag_bytes w.was_none ++ (asked_bytes w.asked ++ variables_bytes w.variables))) IsOldWorker with_pc (λ w h. h.pc)
    (λ pc hp. behind (number_field w64 (2 ^ 64) wide64) (λ (w : WorkerFields). w.number)
    (λ w. flag_bytes w.was_none ++ (asked_bytes w.asked ++ variables_bytes w.variables)) (λ w. IsOldWorker w × (pc ≡ w.pc)) (with_number pc)
    (λ w h. h.0.number)
    (λ n hn. behind flag_field (λ (w : WorkerFields). w.was_none) (λ w. asked_bytes w.asked ++ variables_bytes w.variables)
    (λ w. (IsOldWorker w × (pc ≡ w.pc)) × (n ≡ w.number)) (with_flag pc n) (λ w h. tt)
    (λ b hb. behind old_asked_field (λ (w : WorkerFields). w.asked) (λ w. variables_bytes w.variables)
    (λ w. ((IsOldWorker w × (pc ≡ w.pc)) × (n ≡ w.number)) × (b ≡ w.was_none)) (with_asked pc n b) (λ w h. h.0.0.0.asked)
    (λ a ha. made_field old_variables_field (worker_of pc n b a) (λ w. variables_bytes w.variables)
    (λ w. (((IsOldWorker w × (pc ≡ w.pc)) × (n ≡ w.number)) × (b ≡ w.was_none)) × (a ≡ w.asked)) (λ v hv. refl)
    (λ v hv. ((((record { pc = hp; number = hn; asked = ha; few = hv.0; variables = hv.1 }, refl), refl), refl), refl))
    (λ w h. (w.variables, ((h.0.0.0.0.few, h.0.0.0.0.variables), worker_is pc n b a w h.0.0.0.1 h.0.0.1 h.0.1 h.1))))))) in
    record { again = f.again; takes = f.takes }

pub old_worker_lasts : Lasts old_worker_at
unfolding old_worker_at
old_worker_lasts =
    let l = behind_lasts with_pc pc_lasts
    (λ pc. behind_lasts (with_number pc) (number_lasts w64)
    (λ n. behind_lasts (with_flag pc n) flag_lasts
    (λ b. behind_lasts (with_asked pc n b) old_asked_lasts
    (λ a. made_lasts (worker_of pc n b a) old_variables_lasts)))) in
    record { goes_on = l.goes_on }
