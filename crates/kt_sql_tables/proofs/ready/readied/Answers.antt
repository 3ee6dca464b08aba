use Rattle.std.proofs.Common.{◌≡◌, ◌∙◌, sym, subst, arith, inl, inr}
use Rattle.std.proofs.lemmas.Bool.{false≢true}
use Rattle.std.specs.Prelude.{IsTrue}
use Rattle.sqlite.specs.Held.{state}
use Rattle.sqlite.specs.State.{HasCleanDisk}
use Rattle.kt_sql_tables.specs.Opened.{old_version, this_version, HasNoRow, IsReady}
use Rattle.kt_sql_tables.specs.Schema.{no_schema}
use Rattle.kt_sql_tables.specs.Settled.{IsSettled}
use Rattle.kt_sql_tables.proofs.AnswerLemmas.{each_err, on_err_of, on_ok_of, through_ok}
use Rattle.kt_sql_tables.proofs.CarryLemmas.{was_settled}
use Rattle.kt_sql_tables.proofs.HeldLemmas.{made_ready}
use Rattle.kt_sql_tables.proofs.OldLemmas.{found}
use Rattle.kt_sql_tables.proofs.OpenedLemmas.{one_version}
use Rattle.kt_sql_tables.proofs.ReadyLemmas.{never_none}
use Rattle.kt_sql_tables.proofs.ready.readied.Goals as goal

pub returns-in-Ok-clause-ready : goal.returns-in-Ok-clause-ready
returns-in-Ok-clause-ready g c clean =
    made_ready (state g.S.Store c.create_tables.new.conn)
    (c.in-Ok.ensures.made clean (sym c.schema.ensures.value ∙ c.is_no_schema.ensures.0 c.if-is_no_schema.true))

pub returns-in-Ok-clause-raised : goal.returns-in-Ok-clause-raised
returns-in-Ok-clause-raised g c clean version =
    let none : c.args.conn.now.schema ≡ no_schema = sym c.schema.ensures.value ∙ c.is_no_schema.ensures.0 c.if-is_no_schema.true in
    absurd (never_none _ none version.schema)

pub returns-in-Ok-clause-found : goal.returns-in-Ok-clause-found
returns-in-Ok-clause-found g c clean version =
    let none : c.args.conn.now.schema ≡ no_schema = sym c.schema.ensures.value ∙ c.is_no_schema.ensures.0 c.if-is_no_schema.true in
    absurd (never_none _ none version.schema)

pub returns-in_ok-tested-in-This-clause-ready : goal.returns-in_ok-tested-in-This-clause-ready
returns-in_ok-tested-in-This-clause-ready g c clean =
    let old = state g.S.Store c.args.conn.now in
    let settled : IsTrue old.is_open → IsSettled old =
    was_settled old c.is_autocommit-is_settled.result c.is_autocommit-is_settled.ensures.value c.is_autocommit-is_settled.ensures.settled c.requires in
    let mid = state g.S.Store c.kind_of.new.conn in
    let clean-1 : HasCleanDisk mid = omega (arith, c.tested.ensures.clean, clean) in
    let f = found this_version old mid c.kind_of.ensures.looks clean-1 (c.in_ok-kind_of.ensures.is_open clean-1) settled
    ((c.in_ok-kind_of.ensures.this clean-1).0 c.in-This.is) in
    c.in_ok-tested-in-This.ensures.ready clean f.settled f.is

pub returns-in_ok-tested-in-This-clause-raised : goal.returns-in_ok-tested-in-This-clause-raised
returns-in_ok-tested-in-This-clause-raised g c clean version =
    let old = state g.S.Store c.args.conn.now in
    let settled : IsTrue old.is_open → IsSettled old =
    was_settled old c.is_autocommit-is_settled.result c.is_autocommit-is_settled.ensures.value c.is_autocommit-is_settled.ensures.settled c.requires in
    let mid = state g.S.Store c.kind_of.new.conn in
    let clean-1 : HasCleanDisk mid = omega (arith, c.tested.ensures.clean, clean) in
    let f = found this_version old mid c.kind_of.ensures.looks clean-1 (c.in_ok-kind_of.ensures.is_open clean-1) settled
    ((c.in_ok-kind_of.ensures.this clean-1).0 c.in-This.is) in
    absurd (one_version old.now f.was version)

pub returns-in_ok-tested-in-This-clause-found : goal.returns-in_ok-tested-in-This-clause-found
returns-in_ok-tested-in-This-clause-found g c clean version =
    let old = state g.S.Store c.args.conn.now in
    let settled : IsTrue old.is_open → IsSettled old =
    was_settled old c.is_autocommit-is_settled.result c.is_autocommit-is_settled.ensures.value c.is_autocommit-is_settled.ensures.settled c.requires in
    let mid = state g.S.Store c.kind_of.new.conn in
    let clean-1 : HasCleanDisk mid = omega (arith, c.tested.ensures.clean, clean) in
    let f = found this_version old mid c.kind_of.ensures.looks clean-1 (c.in_ok-kind_of.ensures.is_open clean-1) settled
    ((c.in_ok-kind_of.ensures.this clean-1).0 c.in-This.is) in
    let ready = c.in_ok-tested-in-This.ensures.ready clean f.settled f.is in
    c.tested.ensures.same clean ready.is_open f.settled f.is ∙ f.same

pub returns-in_ok-tested-in-This-clause-fresh : goal.returns-in_ok-tested-in-This-clause-fresh
returns-in_ok-tested-in-This-clause-fresh g c clean has =
    absurd (false≢true (sym c.if-is_no_schema.false ∙ c.is_no_schema.ensures.1 (c.schema.ensures.value ∙ has)))

pub returns-in_err-tested-in-This-clause-unchanged : goal.returns-in_err-tested-in-This-clause-unchanged
returns-in_err-tested-in-This-clause-unchanged g c clean on =
    let old = state g.S.Store c.args.conn.now in
    let settled : IsTrue old.is_open → IsSettled old =
    was_settled old c.is_autocommit-is_settled.result c.is_autocommit-is_settled.ensures.value c.is_autocommit-is_settled.ensures.settled c.requires in
    let mid = state g.S.Store c.kind_of.new.conn in
    let clean-1 : HasCleanDisk mid = omega (arith, c.tested.ensures.clean, clean) in
    let f = found this_version old mid c.kind_of.ensures.looks clean-1 (c.in_ok-kind_of.ensures.is_open clean-1) settled
    ((c.in_ok-kind_of.ensures.this clean-1).0 c.in-This.is) in
    each_err _ _ (c.tested.ensures.same clean on f.settled f.is ∙ f.same)

pub returns-in-Old-clause-ready : goal.returns-in-Old-clause-ready
returns-in-Old-clause-ready g c clean =
    let old = state g.S.Store c.args.conn.now in
    let settled : IsTrue old.is_open → IsSettled old =
    was_settled old c.is_autocommit-is_settled.result c.is_autocommit-is_settled.ensures.value c.is_autocommit-is_settled.ensures.settled c.requires in
    let mid = state g.S.Store c.kind_of.new.conn in
    let clean-1 : HasCleanDisk mid = omega (arith, c.raised.ensures.clean, clean) in
    let f = found old_version old mid c.kind_of.ensures.looks clean-1 (c.in_ok-kind_of.ensures.is_open clean-1) settled
    ((c.in_ok-kind_of.ensures.old clean-1).0 c.in-Old.is) in
    let end = state g.S.Store c.raised.new.conn in
    through_ok c.raised.result _ (IsReady end) (λ told h. subst (IsReady end) (sym h.0) (made_ready end h.2))
    (c.raised.ensures.made clean (λ _. f.settled) f.is)

pub returns-in-Old-clause-raised : goal.returns-in-Old-clause-raised
returns-in-Old-clause-raised g c clean version =
    let old = state g.S.Store c.args.conn.now in
    let settled : IsTrue old.is_open → IsSettled old =
    was_settled old c.is_autocommit-is_settled.result c.is_autocommit-is_settled.ensures.value c.is_autocommit-is_settled.ensures.settled c.requires in
    let mid = state g.S.Store c.kind_of.new.conn in
    let clean-1 : HasCleanDisk mid = omega (arith, c.raised.ensures.clean, clean) in
    let f = found old_version old mid c.kind_of.ensures.looks clean-1 (c.in_ok-kind_of.ensures.is_open clean-1) settled
    ((c.in_ok-kind_of.ensures.old clean-1).0 c.in-Old.is) in
    on_ok_of c.raised.result _ _ (λ told h. (subst HasNoRow f.same h.1, h.2)) (c.raised.ensures.made clean (λ _. f.settled) f.is)

pub returns-in-Old-clause-found : goal.returns-in-Old-clause-found
returns-in-Old-clause-found g c clean version =
    let old = state g.S.Store c.args.conn.now in
    let settled : IsTrue old.is_open → IsSettled old =
    was_settled old c.is_autocommit-is_settled.result c.is_autocommit-is_settled.ensures.value c.is_autocommit-is_settled.ensures.settled c.requires in
    let mid = state g.S.Store c.kind_of.new.conn in
    let clean-1 : HasCleanDisk mid = omega (arith, c.raised.ensures.clean, clean) in
    let f = found old_version old mid c.kind_of.ensures.looks clean-1 (c.in_ok-kind_of.ensures.is_open clean-1) settled
    ((c.in_ok-kind_of.ensures.old clean-1).0 c.in-Old.is) in
    absurd (one_version old.now version f.was)

pub returns-in-Old-clause-fresh : goal.returns-in-Old-clause-fresh
returns-in-Old-clause-fresh g c clean has =
    absurd (false≢true (sym c.if-is_no_schema.false ∙ c.is_no_schema.ensures.1 (c.schema.ensures.value ∙ has)))

pub returns-in-Old-clause-version : goal.returns-in-Old-clause-version
returns-in-Old-clause-version g c clean is =
    let old = state g.S.Store c.args.conn.now in
    let settled : IsTrue old.is_open → IsSettled old =
    was_settled old c.is_autocommit-is_settled.result c.is_autocommit-is_settled.ensures.value c.is_autocommit-is_settled.ensures.settled c.requires in
    let mid = state g.S.Store c.kind_of.new.conn in
    let clean-1 : HasCleanDisk mid = omega (arith, c.raised.ensures.clean, clean) in
    let f = found old_version old mid c.kind_of.ensures.looks clean-1 (c.in_ok-kind_of.ensures.is_open clean-1) settled
    ((c.in_ok-kind_of.ensures.old clean-1).0 c.in-Old.is) in
    (f.was, λ none. c.raised.ensures.version clean (λ _. f.settled) f.is is (subst HasNoRow (sym f.same) none))

pub returns-in-Old-clause-unchanged : goal.returns-in-Old-clause-unchanged
returns-in-Old-clause-unchanged g c clean on =
    let old = state g.S.Store c.args.conn.now in
    let settled : IsTrue old.is_open → IsSettled old =
    was_settled old c.is_autocommit-is_settled.result c.is_autocommit-is_settled.ensures.value c.is_autocommit-is_settled.ensures.settled c.requires in
    let mid = state g.S.Store c.kind_of.new.conn in
    let clean-1 : HasCleanDisk mid = omega (arith, c.raised.ensures.clean, clean) in
    let f = found old_version old mid c.kind_of.ensures.looks clean-1 (c.in_ok-kind_of.ensures.is_open clean-1) settled
    ((c.in_ok-kind_of.ensures.old clean-1).0 c.in-Old.is) in
    on_err_of c.raised.result _ _ (λ same. same ∙ f.same) (c.raised.ensures.unchanged clean on (λ _. f.settled) f.is)

pub returns-in-Other-clause-unchanged : goal.returns-in-Other-clause-unchanged
returns-in-Other-clause-unchanged g c clean on =
    let old = state g.S.Store c.args.conn.now in
    let settled : IsTrue old.is_open → IsSettled old =
    was_settled old c.is_autocommit-is_settled.result c.is_autocommit-is_settled.ensures.value c.is_autocommit-is_settled.ensures.settled c.requires in
    (c.kind_of.ensures.same clean on (settled (c.kind_of.ensures.looks.stays clean on).was_open)).0

pub returns-in_err-kind_of-clause-unchanged : goal.returns-in_err-kind_of-clause-unchanged
returns-in_err-kind_of-clause-unchanged g c clean on =
    let old = state g.S.Store c.args.conn.now in
    let settled : IsTrue old.is_open → IsSettled old =
    was_settled old c.is_autocommit-is_settled.result c.is_autocommit-is_settled.ensures.value c.is_autocommit-is_settled.ensures.settled c.requires in
    each_err _ _ ((c.kind_of.ensures.same clean on (settled (c.kind_of.ensures.looks.stays clean on).was_open)).0)

pub returns-in-Ok-clause-stop : goal.returns-in-Ok-clause-stop
returns-in-Ok-clause-stop g c clean on db may =
    let none = sym c.schema.ensures.value ∙ c.is_no_schema.ensures.0 c.if-is_no_schema.true in
    elim ((c.create_tables.ensures.survives none).crash clean db may) [
      | inl before ↦ inl (g.met.S.Store.settled c.args.conn.now.store db on before)
      | inr made ↦ inr (inl none, made)
    ]

pub returns-in-Err-clause-stop : goal.returns-in-Err-clause-stop
returns-in-Err-clause-stop g c clean on db may =
    let none = sym c.schema.ensures.value ∙ c.is_no_schema.ensures.0 c.if-is_no_schema.true in
    elim ((c.create_tables.ensures.survives none).crash clean db may) [
      | inl before ↦ inl (g.met.S.Store.settled c.args.conn.now.store db on before)
      | inr made ↦ inr (inl none, made)
    ]

pub returns-in-Other-clause-stop : goal.returns-in-Other-clause-stop
returns-in-Other-clause-stop g c clean on db may = inl (g.met.S.Store.settled c.args.conn.now.store db on (c.kind_of.ensures.leaves clean db may))

pub returns-in_err-kind_of-clause-stop : goal.returns-in_err-kind_of-clause-stop
returns-in_err-kind_of-clause-stop g c clean on db may = inl (g.met.S.Store.settled c.args.conn.now.store db on (c.kind_of.ensures.leaves clean db may))

pub returns-in_ok-tested-in-This-clause-stop : goal.returns-in_ok-tested-in-This-clause-stop
returns-in_ok-tested-in-This-clause-stop g c clean on db may =
    let old = state g.S.Store c.args.conn.now in
    let settled : IsTrue old.is_open → IsSettled old =
    was_settled old c.is_autocommit-is_settled.result c.is_autocommit-is_settled.ensures.value c.is_autocommit-is_settled.ensures.settled c.requires in
    let mid = state g.S.Store c.kind_of.new.conn in
    let clean-1 : HasCleanDisk mid = omega (arith, c.tested.ensures.clean, clean) in
    let f = found this_version old mid c.kind_of.ensures.looks clean-1 (c.in_ok-kind_of.ensures.is_open clean-1) settled
    ((c.in_ok-kind_of.ensures.this clean-1).0 c.in-This.is) in
    inl (g.met.S.Store.settled c.args.conn.now.store db on (c.kind_of.ensures.leaves clean-1 db (c.tested.ensures.leaves clean f.settled f.is db may)))

pub returns-in_err-tested-in-This-clause-stop : goal.returns-in_err-tested-in-This-clause-stop
returns-in_err-tested-in-This-clause-stop g c clean on db may =
    let old = state g.S.Store c.args.conn.now in
    let settled : IsTrue old.is_open → IsSettled old =
    was_settled old c.is_autocommit-is_settled.result c.is_autocommit-is_settled.ensures.value c.is_autocommit-is_settled.ensures.settled c.requires in
    let mid = state g.S.Store c.kind_of.new.conn in
    let clean-1 : HasCleanDisk mid = omega (arith, c.tested.ensures.clean, clean) in
    let f = found this_version old mid c.kind_of.ensures.looks clean-1 (c.in_ok-kind_of.ensures.is_open clean-1) settled
    ((c.in_ok-kind_of.ensures.this clean-1).0 c.in-This.is) in
    inl (g.met.S.Store.settled c.args.conn.now.store db on (c.kind_of.ensures.leaves clean-1 db (c.tested.ensures.leaves clean f.settled f.is db may)))

pub returns-in-Old-clause-stop : goal.returns-in-Old-clause-stop
returns-in-Old-clause-stop g c clean on db may =
    let old = state g.S.Store c.args.conn.now in
    let settled : IsTrue old.is_open → IsSettled old =
    was_settled old c.is_autocommit-is_settled.result c.is_autocommit-is_settled.ensures.value c.is_autocommit-is_settled.ensures.settled c.requires in
    let mid = state g.S.Store c.kind_of.new.conn in
    let clean-1 : HasCleanDisk mid = omega (arith, c.raised.ensures.clean, clean) in
    let f = found old_version old mid c.kind_of.ensures.looks clean-1 (c.in_ok-kind_of.ensures.is_open clean-1) settled
    ((c.in_ok-kind_of.ensures.old clean-1).0 c.in-Old.is) in
    elim (c.raised.ensures.stop clean (λ _. f.settled) (c.in_ok-kind_of.ensures.is_open clean-1 f.was.schema) f.is db may) [
      | inl before ↦ inl (g.met.S.Store.settled c.args.conn.now.store db on (c.kind_of.ensures.leaves clean-1 db before))
      | inr made ↦ inr (inr (f.was, subst HasNoRow f.same made.0), made.1)
    ]
