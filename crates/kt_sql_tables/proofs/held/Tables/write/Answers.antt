use Rattle.std.proofs.Common.{◌≡◌, ◌∙◌, true, sym, ap, subst, arith}
use Rattle.sqlite.specs.Values.{bound}
use Rattle.sqlite.specs.State.{HasCleanDisk}
use Rattle.sqlite.specs.Held.{state}
use Rattle.kt_sql_tables.specs.auxiliary.Changing.{Changes}
use Rattle.kt_sql_tables.specs.Held.{Lasts, Tabled, is_sure, content_of}
use Rattle.kt_sql_tables.proofs.AnswerLemmas.{statement_wrote, not_wrote}
use Rattle.kt_sql_tables.specs.Stopped.{StopLeaves}
use Rattle.kt_sql_tables.proofs.TabledLemmas.{lasted, stopped, sure_parts}
use Rattle.kt_sql_tables.proofs.held.Tables.write.Goals as goal
use Rattle.kt_sql_tables.proofs.held.Tables.write.Goals.{in-Ok, in-Err}

pub invariant_of-self : goal.invariant_of-self
invariant_of-self g c sure =
    let s : Tabled _ = record { conn = c.self.inside.conn; is_trusted = c.self.inside.is_trusted } in
    let change = c.requires.0 in
    let changes = subst (λ (s : Tabled _). is_sure g.S.Store s ≡ true → Changes g.S.Store c.args.sql.now (bound c.args.params.now) change) (sym c.self.view_is)
    c.requires.1 in
    elim c.match-execute.branch [
      | in-Ok w ↦
          (statement_wrote g.S.Store s c.execute.new.self c.self.invariant c.execute.ensures.survives.clean c.args.sql.now (bound c.args.params.now)
          change _ changes w.in-Ok.ensures.runs sure).2
      | in-Err w ↦
          (not_wrote g.S.Store s c.execute.new.self c.self.invariant c.execute.ensures.survives.clean c.args.sql.now (bound c.args.params.now)
          w.in-Err.error w.in-Err.ensures.runs sure).2
    ]

pub returns-clause-written : goal.returns-clause-written
returns-clause-written g c change changes sure =
    let s : Tabled _ = record { conn = c.self.inside.conn; is_trusted = c.self.inside.is_trusted } in
    let before = subst (λ (s : Tabled _). is_sure g.S.Store s ≡ true → Changes g.S.Store c.args.sql.now (bound c.args.params.now) change)
    (sym c.self.view_is) changes in
    elim c.match-execute.branch [
      | in-Ok w ↦
          rw w.result-is
          ((statement_wrote g.S.Store s c.execute.new.self c.self.invariant c.execute.ensures.survives.clean c.args.sql.now (bound c.args.params.now)
          change _ before w.in-Ok.ensures.runs sure).1
          ∙ ap (λ (s : Tabled _). change (content_of g.S.Store s)) c.self.view_is)
      | in-Err w ↦ rw w.result-is tt
    ]

pub returns-clause-unchanged : goal.returns-clause-unchanged
returns-clause-unchanged g c sure =
    let s : Tabled _ = record { conn = c.self.inside.conn; is_trusted = c.self.inside.is_trusted } in
    elim c.match-execute.branch [
      | in-Ok w ↦ rw w.result-is tt
      | in-Err w ↦
          rw w.result-is
          ((not_wrote g.S.Store s c.execute.new.self c.self.invariant c.execute.ensures.survives.clean c.args.sql.now (bound c.args.params.now)
          w.in-Err.error w.in-Err.ensures.runs sure).1
          ∙ ap (content_of g.S.Store) c.self.view_is)
    ]

pub returns-clause-honest : goal.returns-clause-honest
returns-clause-honest g c sure =
    let s : Tabled _ = record { conn = c.self.inside.conn; is_trusted = c.self.inside.is_trusted } in
    let change = c.requires.0 in
    let changes = subst (λ (s : Tabled _). is_sure g.S.Store s ≡ true → Changes g.S.Store c.args.sql.now (bound c.args.params.now) change) (sym c.self.view_is)
    c.requires.1 in
    subst (λ (s : Tabled _). is_sure g.S.Store s ≡ true) c.self.view_is
    (elim c.match-execute.branch [
      | in-Ok w ↦
          (statement_wrote g.S.Store s c.execute.new.self c.self.invariant c.execute.ensures.survives.clean c.args.sql.now (bound c.args.params.now)
          change _ changes w.in-Ok.ensures.runs sure).0
      | in-Err w ↦
          (not_wrote g.S.Store s c.execute.new.self c.self.invariant c.execute.ensures.survives.clean c.args.sql.now (bound c.args.params.now)
          w.in-Err.error w.in-Err.ensures.runs sure).0
    ])

pub returns-clause-trusted : goal.returns-clause-trusted
returns-clause-trusted g c = ap (λ (s : Tabled _). s.is_trusted) c.self.view_is

pub returns-clause-lasts : goal.returns-clause-lasts
returns-clause-lasts g c =
    let s : Tabled _ = record { conn = c.self.inside.conn; is_trusted = c.self.inside.is_trusted } in
    let now : Tabled _ = record { conn = c.execute.new.self; is_trusted = c.self.inside.is_trusted } in
    subst (λ (t : Tabled _). Lasts g.S.Store t now) c.self.view_is
    (let survives = c.execute.ensures.survives in
    lasted g.S.Store s c.execute.new.self (record { clean = survives.clean; counts = survives.counts; closes = survives.closes }))

pub returns-clause-stop : goal.returns-clause-stop
returns-clause-stop g c change changes =
    let s : Tabled _ = record { conn = c.self.inside.conn; is_trusted = c.self.inside.is_trusted } in
    let now : Tabled _ = record { conn = c.execute.new.self; is_trusted = c.self.inside.is_trusted } in
    let before = subst (λ (s : Tabled _). is_sure g.S.Store s ≡ true → Changes g.S.Store c.args.sql.now (bound c.args.params.now) change)
    (sym c.self.view_is) changes in
    subst (λ (t : Tabled _). StopLeaves g.S.Store t now (change (content_of g.S.Store t))) c.self.view_is
    (stopped g.S.Store s c.self.invariant (λ db on may. g.met.S.Store.settled c.self.inside.conn.store db on may) now _ (change (content_of g.S.Store s))
    c.execute.ensures.survives
    (λ db sure k commits. (before sure).commits s.conn (content_of g.S.Store s) db (sure_parts g.S.Store s sure).is_open k.schema k.store commits))

pub returns-clause-clean : goal.returns-clause-clean
returns-clause-clean g c clean =
    let was : HasCleanDisk (state g.S.Store c.self.inside.conn) = omega (arith, c.execute.ensures.survives.clean, clean) in
    subst (λ (t : Tabled _). HasCleanDisk (state g.S.Store t.conn)) c.self.view_is was
