use Rattle.std.proofs.Common.{◌≡◌, ◌∙◌, true, sym, ap, subst, arith}
use Rattle.std.specs.Prelude.{IsTrue}
use Rattle.sqlite.specs.Held.{Held, state}
use Rattle.sqlite.specs.State.{HasCleanDisk}
use Rattle.kt_store.specs.Changes.{storing}
use Rattle.kt_store.specs.Content.{Content}
use Rattle.kt_sql_tables.specs.Rows.{placing}
use Rattle.kt_sql_tables.specs.Cells.{cells_node, AreSaid}
use Rattle.kt_sql_tables.specs.Held.{Lasts, Tabled, is_sure, content_of, IsKept}
use Rattle.kt_sql_tables.proofs.StateLemmas.{undone_stays}
use Rattle.kt_sql_tables.specs.Stopped.{StopLeaves}
use Rattle.kt_sql_tables.specs.Stored.{IsStoreOf}
use Rattle.kt_sql_tables.proofs.AnswerLemmas.{both_put, both_wrote, neither_wrote}
use Rattle.kt_sql_tables.proofs.TabledLemmas.{lasted, stopped}
use Rattle.kt_sql_tables.proofs.held.Tables.write_both.Goals as goal
use Rattle.kt_sql_tables.proofs.held.Tables.write_both.Goals.{in-Ok-true, in-Ok-false, in-Err}

pub invariant_of-self : goal.invariant_of-self
invariant_of-self g c sure =
    let s : Tabled _ = record { conn = c.self.inside.conn; is_trusted = c.self.inside.is_trusted } in
    let at : Held _ → Tabled _ = λ h. record { conn = h; is_trusted = c.self.inside.is_trusted } in
    let are = subst (λ (s : Tabled _). is_sure g.S.Store s ≡ true → AreSaid c.args.node.now) (sym c.self.view_is) c.requires.node in
    let p = c.requires.instance_row in
    elim c.match-execute_both.branch [
      | in-Ok-true w ↦
          (both_wrote g.S.Store s c.execute_both.new.conn c.self.invariant c.execute_both.ensures.clean c.args.node.now p.0 are p.1
          (λ clean. w.in-Ok-true.ensures.both clean w.in-Ok-true.field-0-test p.0 p.2) sure).2
      | in-Ok-false w ↦
          let same = (w.in-Ok-false.ensures.not_begun w.in-Ok-false.field-0-test).0 in
          subst (λ h. IsTrue (is_sure g.S.Store (at h)) → IsKept g.S.Store (at h)) (sym same) c.self.invariant sure
      | in-Err w ↦
          (neither_wrote g.S.Store s c.execute_both.new.conn c.self.invariant c.execute_both.ensures.clean
          (λ clean on. undone_stays _ _ (w.in-Err.ensures.opened clean on) (w.in-Err.ensures.neither clean on) w.in-Err.ensures.ended) sure).2
    ]

pub returns-clause-written : goal.returns-clause-written
returns-clause-written g c p fine instance_row sure =
    let s : Tabled _ = record { conn = c.self.inside.conn; is_trusted = c.self.inside.is_trusted } in
    let are = subst (λ (s : Tabled _). is_sure g.S.Store s ≡ true → AreSaid c.args.node.now) (sym c.self.view_is) c.requires.node in
    elim c.match-execute_both.branch [
      | in-Ok-true w ↦
          rw w.result-is
          ((both_wrote g.S.Store s c.execute_both.new.conn c.self.invariant c.execute_both.ensures.clean c.args.node.now p are fine
          (λ clean. w.in-Ok-true.ensures.both clean w.in-Ok-true.field-0-test p instance_row) sure).1
          ∙ ap (λ (s : Tabled _). placing p (storing (cells_node c.args.node.now) (content_of g.S.Store s))) c.self.view_is)
      | in-Ok-false w ↦ rw w.result-is tt
      | in-Err w ↦ rw w.result-is tt
    ]

pub returns-clause-unchanged : goal.returns-clause-unchanged
returns-clause-unchanged g c sure =
    let s : Tabled _ = record { conn = c.self.inside.conn; is_trusted = c.self.inside.is_trusted } in
    let at : Held _ → Tabled _ = λ h. record { conn = h; is_trusted = c.self.inside.is_trusted } in
    elim c.match-execute_both.branch [
      | in-Ok-true w ↦ rw w.result-is tt
      | in-Ok-false w ↦
          let same = (w.in-Ok-false.ensures.not_begun w.in-Ok-false.field-0-test).0 in
          rw w.result-is (ap (λ h. content_of g.S.Store (at h)) same ∙ ap (content_of g.S.Store) c.self.view_is)
      | in-Err w ↦
          rw w.result-is
          ((neither_wrote g.S.Store s c.execute_both.new.conn c.self.invariant c.execute_both.ensures.clean
          (λ clean on. undone_stays _ _ (w.in-Err.ensures.opened clean on) (w.in-Err.ensures.neither clean on) w.in-Err.ensures.ended) sure).1
          ∙ ap (content_of g.S.Store) c.self.view_is)
    ]

pub returns-clause-honest : goal.returns-clause-honest
returns-clause-honest g c sure =
    let s : Tabled _ = record { conn = c.self.inside.conn; is_trusted = c.self.inside.is_trusted } in
    let at : Held _ → Tabled _ = λ h. record { conn = h; is_trusted = c.self.inside.is_trusted } in
    let are = subst (λ (s : Tabled _). is_sure g.S.Store s ≡ true → AreSaid c.args.node.now) (sym c.self.view_is) c.requires.node in
    let p = c.requires.instance_row in
    subst (λ (s : Tabled _). is_sure g.S.Store s ≡ true) c.self.view_is
    (elim c.match-execute_both.branch [
      | in-Ok-true w ↦
          (both_wrote g.S.Store s c.execute_both.new.conn c.self.invariant c.execute_both.ensures.clean c.args.node.now p.0 are p.1
          (λ clean. w.in-Ok-true.ensures.both clean w.in-Ok-true.field-0-test p.0 p.2) sure).0
      | in-Ok-false w ↦
          let same = (w.in-Ok-false.ensures.not_begun w.in-Ok-false.field-0-test).0 in
          subst (λ h. IsTrue (is_sure g.S.Store (at h))) same sure
      | in-Err w ↦
          (neither_wrote g.S.Store s c.execute_both.new.conn c.self.invariant c.execute_both.ensures.clean
          (λ clean on. undone_stays _ _ (w.in-Err.ensures.opened clean on) (w.in-Err.ensures.neither clean on) w.in-Err.ensures.ended) sure).0
    ])

pub returns-clause-trusted : goal.returns-clause-trusted
returns-clause-trusted g c = ap (λ (s : Tabled _). s.is_trusted) c.self.view_is

pub returns-clause-lasts : goal.returns-clause-lasts
returns-clause-lasts g c =
    let s : Tabled _ = record { conn = c.self.inside.conn; is_trusted = c.self.inside.is_trusted } in
    let now : Tabled _ = record { conn = c.execute_both.new.conn; is_trusted = c.self.inside.is_trusted } in
    subst (λ (t : Tabled _). Lasts g.S.Store t now) c.self.view_is
    (lasted g.S.Store s c.execute_both.new.conn c.execute_both.ensures.lasts)

pub returns-clause-stop : goal.returns-clause-stop
returns-clause-stop g c p fine instance_row =
    let s : Tabled _ = record { conn = c.self.inside.conn; is_trusted = c.self.inside.is_trusted } in
    let now : Tabled _ = record { conn = c.execute_both.new.conn; is_trusted = c.self.inside.is_trusted } in
    let are = subst (λ (s : Tabled _). is_sure g.S.Store s ≡ true → AreSaid c.args.node.now) (sym c.self.view_is) c.requires.node in
    let after : Tabled _ → Content = λ t. placing p (storing (cells_node c.args.node.now) (content_of g.S.Store t)) in
    subst (λ (t : Tabled _). StopLeaves g.S.Store t now (after t)) c.self.view_is
    (stopped g.S.Store s c.self.invariant (λ db on may. g.met.S.Store.settled c.self.inside.conn.store db on may) now _ (after s)
    (c.execute_both.ensures.survives p instance_row)
    (λ db sure k commits. subst (λ t. IsStoreOf t (after s)) (sym commits.1)
    (both_put g.S.Store c.args.node.now p s.conn (content_of g.S.Store s) (are sure) fine k.schema k.store commits.0).1))

pub returns-clause-clean : goal.returns-clause-clean
returns-clause-clean g c clean =
    let was : HasCleanDisk (state g.S.Store c.self.inside.conn) = omega (arith, c.execute_both.ensures.clean, clean) in
    subst (λ (t : Tabled _). HasCleanDisk (state g.S.Store t.conn)) c.self.view_is was
