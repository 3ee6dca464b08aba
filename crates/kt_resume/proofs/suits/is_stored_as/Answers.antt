use Rattle.std.proofs.Common.{◌≡◌, ◌∙◌, Bool, false, not, refl, rules, sym, true}
use Rattle.std.specs.Cmp.{booleans_Decides}
use Rattle.std.specs.Cmp.Lexicographic.{pointwise}
use Rattle.kt_tuple.specs.Equality.{value_eq}
use Rattle.kt_resume.proofs.Suited.{fields_same}
use Rattle.kt_resume.proofs.suits.is_stored_as.Goals as goal

holds_unless : (b : Bool) → not b ≡ false → b ≡ true
holds_unless true e = refl
holds_unless false e = sym e

-- the values are compared one by one
compared : (c : goal.After-eq) → c.eq.result ≡ pointwise value_eq c.variables.result.now c.values.result.now
compared c = search rules

pub returns : goal.returns
returns c =
    let s = c.args.stored.now in
    let x = c.args.worker.now in
    let asks = c.are_same.ensures.0 c.if-not-are_same.false in
    let pc : s.pc ≡ x.position.pc = sym c.pc.ensures ∙ sym c.from.ensures ∙ c.if-from-pc.false ∙ c.pc-2.ensures.value in
    let number : s.number ≡ x.number = sym c.number.ensures ∙ c.if-number.false ∙ c.number-2.ensures in
    let flags = (booleans_Decides c.was_none.result c.was_none-2.result).0 (holds_unless _ c.if-was_none.false) in
    let was_none : s.was_none ≡ x.position.memory.was_none = sym c.was_none.ensures ∙ flags ∙ c.was_none-2.ensures in
    let asked : s.asked ≡ x.asked = sym c.asked.ensures ∙ asks ∙ c.asked-2.ensures in
    fields_same s x c.variables.result.now c.values.result.now c.eq.result pc number was_none asked c.variables.ensures c.values.ensures (compared c)
