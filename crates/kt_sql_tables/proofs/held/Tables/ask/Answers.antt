use Rattle.std.proofs.Common.{◌≡◌, ◌∙◌, true, sym, ap, subst, arith}
use Rattle.sqlite.specs.Held.{state}
use Rattle.sqlite.specs.State.{HasCleanDisk, Shown}
use Rattle.sqlite.specs.Listing.{understood}
use Rattle.sqlite.proofs.Callers.{IsPlain, never_commits}
use Rattle.sqlite.specs.Values.{bound}
use Rattle.kt_sql_tables.specs.Held.{Lasts, Tabled, is_sure}
use Rattle.kt_sql_tables.specs.Stopped.{StopKeeps}
use Rattle.kt_sql_tables.proofs.StateLemmas.{query_open, query_refused_stays, query_stays}
use Rattle.kt_sql_tables.proofs.TabledLemmas.{lasted, sound_sure, stayed, sure_parts, sure_whole, untouched}
use Rattle.kt_sql_tables.proofs.held.Tables.ask.Goals as goal
use Rattle.kt_sql_tables.proofs.held.Tables.ask.Goals.{in-Ok, in-Err}

pub invariant_of-self : goal.invariant_of-self
invariant_of-self g c sure =
    let s : Tabled _ = record { conn = c.self.inside.conn; is_trusted = c.self.inside.is_trusted } in
    elim c.match-query_all.branch [
      | in-Ok w ↦
          (stayed g.S.Store s c.query_all.new.self c.self.invariant c.query_all.ensures.survives.clean
          (λ clean _. query_stays c.args.sql.now (bound c.args.params.now) _ _ w.in-Ok.rows.items c.requires (w.in-Ok.ensures.ok clean)) sure).2
      | in-Err w ↦
          (stayed g.S.Store s c.query_all.new.self c.self.invariant c.query_all.ensures.survives.clean
          (λ clean on. query_refused_stays c.args.sql.now (bound c.args.params.now) _ _ w.in-Err.refusal (w.in-Err.ensures.err clean) on) sure).2
    ]

pub returns-clause-shown : goal.returns-clause-shown
returns-clause-shown g c sure =
    let now : Tabled _ = record { conn = c.query_all.new.self; is_trusted = c.self.inside.is_trusted } in
    elim c.match-query_all.branch [
      | in-Ok w ↦
          rw w.result-is
          (subst (λ (s : Tabled _). Shown c.args.sql.now (bound c.args.params.now) (state g.S.Store s.conn) (state g.S.Store c.query_all.new.self)
          w.in-Ok.rows.items)
          c.self.view_is
          (w.in-Ok.ensures.ok (sure_parts g.S.Store now sure).clean))
      | in-Err w ↦ rw w.result-is tt
    ]

pub returns-clause-same : goal.returns-clause-same
returns-clause-same g c sure =
    let s : Tabled _ = record { conn = c.self.inside.conn; is_trusted = c.self.inside.is_trusted } in
    elim c.match-query_all.branch [
      | in-Ok w ↦
          (stayed g.S.Store s c.query_all.new.self c.self.invariant c.query_all.ensures.survives.clean
          (λ clean _. query_stays c.args.sql.now (bound c.args.params.now) _ _ w.in-Ok.rows.items c.requires (w.in-Ok.ensures.ok clean)) sure).1
          ∙ ap (λ (s : Tabled _). (state g.S.Store s.conn).now) c.self.view_is
      | in-Err w ↦
          (stayed g.S.Store s c.query_all.new.self c.self.invariant c.query_all.ensures.survives.clean
          (λ clean on. query_refused_stays c.args.sql.now (bound c.args.params.now) _ _ w.in-Err.refusal (w.in-Err.ensures.err clean) on) sure).1
          ∙ ap (λ (s : Tabled _). (state g.S.Store s.conn).now) c.self.view_is
    ]

pub returns-clause-honest : goal.returns-clause-honest
returns-clause-honest g c sure =
    let s : Tabled _ = record { conn = c.self.inside.conn; is_trusted = c.self.inside.is_trusted } in
    subst (λ (s : Tabled _). is_sure g.S.Store s ≡ true) c.self.view_is
    (elim c.match-query_all.branch [
      | in-Ok w ↦
          (stayed g.S.Store s c.query_all.new.self c.self.invariant c.query_all.ensures.survives.clean
          (λ clean _. query_stays c.args.sql.now (bound c.args.params.now) _ _ w.in-Ok.rows.items c.requires (w.in-Ok.ensures.ok clean)) sure).0
      | in-Err w ↦
          (stayed g.S.Store s c.query_all.new.self c.self.invariant c.query_all.ensures.survives.clean
          (λ clean on. query_refused_stays c.args.sql.now (bound c.args.params.now) _ _ w.in-Err.refusal (w.in-Err.ensures.err clean) on) sure).0
    ])

pub returns-clause-kept : goal.returns-clause-kept
returns-clause-kept g c = invariant_of-self g c

pub returns-clause-trusted : goal.returns-clause-trusted
returns-clause-trusted g c = ap (λ (s : Tabled _). s.is_trusted) c.self.view_is

pub returns-clause-lasts : goal.returns-clause-lasts
returns-clause-lasts g c =
    let s : Tabled _ = record { conn = c.self.inside.conn; is_trusted = c.self.inside.is_trusted } in
    let now : Tabled _ = record { conn = c.query_all.new.self; is_trusted = c.self.inside.is_trusted } in
    subst (λ (t : Tabled _). Lasts g.S.Store t now) c.self.view_is
    (let survives = c.query_all.ensures.survives in
    lasted g.S.Store s c.query_all.new.self (record { clean = survives.clean; counts = survives.counts; closes = survives.closes }))

pub returns-clause-sure : goal.returns-clause-sure
returns-clause-sure g c sound =
    let now : Tabled _ = record { conn = c.query_all.new.self; is_trusted = c.self.inside.is_trusted } in
    elim c.match-query_all.branch [
      | in-Ok w ↦
          rw w.result-is
          (sound_sure g.S.Store now sound
          (λ clean. query_open c.args.sql.now (bound c.args.params.now) _ _ w.in-Ok.rows.items (w.in-Ok.ensures.ok clean)))
      | in-Err w ↦ rw w.result-is tt
    ]

pub returns-clause-answers : goal.returns-clause-answers
returns-clause-answers g c clean =
    let s : Tabled _ = record { conn = c.self.inside.conn; is_trusted = c.self.inside.is_trusted } in
    let now : Tabled _ = record { conn = c.query_all.new.self; is_trusted = c.self.inside.is_trusted } in
    let was : HasCleanDisk (state g.S.Store s.conn) = omega (arith, c.query_all.ensures.survives.clean, clean) in (
      subst (λ (t : Tabled _). HasCleanDisk (state g.S.Store t.conn)) c.self.view_is was,
      λ sure.
          let trusted = (sure_parts g.S.Store s (subst (λ (t : Tabled _). is_sure g.S.Store t ≡ true) (sym c.self.view_is) sure)).trusted in
          elim c.match-query_all.branch [
            | in-Ok w ↦
                rw w.result-is
                (sure_whole g.S.Store now (record {
                  trusted = trusted;
                  is_open = query_open c.args.sql.now (bound c.args.params.now) _ _ w.in-Ok.rows.items (w.in-Ok.ensures.ok clean);
                  clean = clean;
                }))
            | in-Err w ↦ rw w.result-is tt
          ],
    )

pub returns-clause-stop : goal.returns-clause-stop
returns-clause-stop g c =
    let s : Tabled _ = record { conn = c.self.inside.conn; is_trusted = c.self.inside.is_trusted } in
    let now : Tabled _ = record { conn = c.query_all.new.self; is_trusted = c.self.inside.is_trusted } in
    subst (λ (t : Tabled _). StopKeeps g.S.Store t now) c.self.view_is
    (untouched g.S.Store s c.self.invariant (λ db on may. g.met.S.Store.settled c.self.inside.conn.store db on may) now _ c.query_all.ensures.survives
    (λ db k commits. never_commits c.args.sql.now (bound c.args.params.now) (state g.S.Store s.conn) db
    (subst (λ schema. IsPlain (understood schema c.args.sql.now)) (sym k.schema) c.requires) commits))
