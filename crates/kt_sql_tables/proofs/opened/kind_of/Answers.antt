use Rattle.std.proofs.Common.{◌≡◌, ◌∙◌, refl, sym}
use Rattle.std.proofs.lemmas.Bool.{false≢true}
use Rattle.sqlite.specs.Held.{state}
use Rattle.kt_sql_tables.specs.Schema.{kt_schema}
use Rattle.kt_sql_tables.proofs.Texts.{meta_is}
use Rattle.kt_sql_tables.proofs.OpenedLemmas.{one_version, version_told}
use Rattle.kt_sql_tables.proofs.opened.kind_of.Goals as goal

pub ask-requires : goal.ask-requires
ask-requires g c = meta_is.plain

pub returns-then-is_meta-clause-this : goal.returns-then-is_meta-clause-this
returns-then-is_meta-clause-this g c clean =
    let old = state g.S.Store c.args.conn.now in
    let new = state g.S.Store c.ask.new.conn in
    let has : old.now.schema ≡ kt_schema = sym c.schema.ensures.value ∙ c.is_kt_schema.ensures.0 c.if-not-is_kt_schema.false in
    let this = version_told old new has c.deref.result.now c.in_ok-rows.rows.items c.deref.ensures.value (c.in_ok-rows.ensures.shown clean) 2
    c.is_meta.result (c.is_meta.ensures 2 refl) in
    (λ is. this.0 c.if-is_meta.true, λ is. refl)

pub returns-then-is_meta-clause-old : goal.returns-then-is_meta-clause-old
returns-then-is_meta-clause-old g c clean =
    let old = state g.S.Store c.args.conn.now in
    let new = state g.S.Store c.ask.new.conn in
    let has : old.now.schema ≡ kt_schema = sym c.schema.ensures.value ∙ c.is_kt_schema.ensures.0 c.if-not-is_kt_schema.false in
    let this = version_told old new has c.deref.result.now c.in_ok-rows.rows.items c.deref.ensures.value (c.in_ok-rows.ensures.shown clean) 2
    c.is_meta.result (c.is_meta.ensures 2 refl) in
    (λ is. absurd cc, λ is. absurd (one_version old.now (this.0 c.if-is_meta.true) is))

pub returns-then-is_meta-2-clause-this : goal.returns-then-is_meta-2-clause-this
returns-then-is_meta-2-clause-this g c clean =
    let old = state g.S.Store c.args.conn.now in
    let new = state g.S.Store c.ask.new.conn in
    let has : old.now.schema ≡ kt_schema = sym c.schema.ensures.value ∙ c.is_kt_schema.ensures.0 c.if-not-is_kt_schema.false in
    let this = version_told old new has c.deref.result.now c.in_ok-rows.rows.items c.deref.ensures.value (c.in_ok-rows.ensures.shown clean) 2
    c.is_meta.result (c.is_meta.ensures 2 refl) in
    (λ is. absurd cc, λ is. let t = this.1 is in let f = c.if-is_meta.false in absurd cc)

pub returns-then-is_meta-2-clause-old : goal.returns-then-is_meta-2-clause-old
returns-then-is_meta-2-clause-old g c clean =
    let old = state g.S.Store c.args.conn.now in
    let new = state g.S.Store c.ask.new.conn in
    let has : old.now.schema ≡ kt_schema = sym c.schema.ensures.value ∙ c.is_kt_schema.ensures.0 c.if-not-is_kt_schema.false in
    let before = version_told old new has c.deref-else-is_meta.result.now c.in_ok-rows.rows.items c.deref-else-is_meta.ensures.value
    (c.in_ok-rows.ensures.shown clean) 1 c.is_meta-else-is_meta.result (c.is_meta-else-is_meta.ensures 1 refl) in
    (λ is. before.0 c.if-is_meta-2.true, λ is. refl)

pub returns-clause-this : goal.returns-clause-this
returns-clause-this g c clean =
    let old = state g.S.Store c.args.conn.now in
    let new = state g.S.Store c.ask.new.conn in
    let has : old.now.schema ≡ kt_schema = sym c.schema.ensures.value ∙ c.is_kt_schema.ensures.0 c.if-not-is_kt_schema.false in
    let this = version_told old new has c.deref.result.now c.in_ok-rows.rows.items c.deref.ensures.value (c.in_ok-rows.ensures.shown clean) 2
    c.is_meta.result (c.is_meta.ensures 2 refl) in
    (λ is. absurd cc, λ is. let t = this.1 is in let f = c.if-is_meta.false in absurd cc)

pub returns-clause-old : goal.returns-clause-old
returns-clause-old g c clean =
    let old = state g.S.Store c.args.conn.now in
    let new = state g.S.Store c.ask.new.conn in
    let has : old.now.schema ≡ kt_schema = sym c.schema.ensures.value ∙ c.is_kt_schema.ensures.0 c.if-not-is_kt_schema.false in
    let before = version_told old new has c.deref-else-is_meta.result.now c.in_ok-rows.rows.items c.deref-else-is_meta.ensures.value
    (c.in_ok-rows.ensures.shown clean) 1 c.is_meta-else-is_meta.result (c.is_meta-else-is_meta.ensures 1 refl) in
    (λ is. absurd cc, λ is. let t = before.1 is in let f = c.if-is_meta-2.false in absurd cc)

pub returns-then-is_meta-clause-leaves : goal.returns-then-is_meta-clause-leaves
returns-then-is_meta-clause-leaves g c clean =
    let old = state g.S.Store c.args.conn.now in
    let has : old.now.schema ≡ kt_schema = sym c.schema.ensures.value ∙ c.is_kt_schema.ensures.0 c.if-not-is_kt_schema.false in
    c.ask.ensures.looks.leaves clean has

pub returns-then-is_meta-2-clause-leaves : goal.returns-then-is_meta-2-clause-leaves
returns-then-is_meta-2-clause-leaves g c clean =
    let old = state g.S.Store c.args.conn.now in
    let has : old.now.schema ≡ kt_schema = sym c.schema.ensures.value ∙ c.is_kt_schema.ensures.0 c.if-not-is_kt_schema.false in
    c.ask.ensures.looks.leaves clean has

pub returns-clause-leaves : goal.returns-clause-leaves
returns-clause-leaves g c clean =
    let old = state g.S.Store c.args.conn.now in
    let has : old.now.schema ≡ kt_schema = sym c.schema.ensures.value ∙ c.is_kt_schema.ensures.0 c.if-not-is_kt_schema.false in
    c.ask.ensures.looks.leaves clean has

pub returns-in_err-rows-clause-leaves : goal.returns-in_err-rows-clause-leaves
returns-in_err-rows-clause-leaves g c clean =
    let old = state g.S.Store c.args.conn.now in
    let has : old.now.schema ≡ kt_schema = sym c.schema.ensures.value ∙ c.is_kt_schema.ensures.0 c.if-not-is_kt_schema.false in
    c.ask.ensures.looks.leaves clean has

pub returns-then-not-is_kt_schema-clause-is_open : goal.returns-then-not-is_kt_schema-clause-is_open
returns-then-not-is_kt_schema-clause-is_open g c clean has =
    absurd (false≢true (sym c.if-not-is_kt_schema.true ∙ c.is_kt_schema.ensures.1 (c.schema.ensures.value ∙ has)))
