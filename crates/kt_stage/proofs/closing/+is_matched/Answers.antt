use Rattle.std.proofs.Common.{rules, ◌≡◌, ◌↔◌, ◌∷◌, Bool, true, false, IsTrue, refl, sym, subst, ◌∙◌}
use Rattle.kt_stage.specs.Closing.{IsMatched, has_seat}
use Rattle.kt_stage.specs.Journal.{receipts_of}
use Rattle.kt_stage.proofs.Seats.{matched-here, matched-later, same-side}
use Rattle.kt_stage.proofs.closing.+is_matched.Goals as goal

pub returns-then-fits : goal.returns-then-fits
returns-then-fits g t c =
    let split : c.args.seats.now ≡ c.in-Some.seat.now ∷ c.in-Some.later.now = search rules in
    let whole = same-side c.fits.result c.receipts.result.now c.in-Some.seat.now.receipts (receipts_of c.args.node 1 c.args.steps.now) c.receipts.ensures
    c.fits.ensures in
    matched-here c.args.node c.args.steps.now c.args.seats.now c.in-Some.seat.now c.in-Some.later.now true c.has_seat.result split
    (c.is_of.ensures.0 c.if-is_of.true)
    (subst (λ (b : Bool). IsTrue b ↔ (c.in-Some.seat.now.receipts ≡ receipts_of c.args.node 1 c.args.steps.now)) c.if-fits.true whole) c.has_seat.ensures

pub returns-else-fits : goal.returns-else-fits
returns-else-fits g t c =
    let split : c.args.seats.now ≡ c.in-Some.seat.now ∷ c.in-Some.later.now = search rules in
    let whole = same-side c.fits.result c.receipts.result.now c.in-Some.seat.now.receipts (receipts_of c.args.node 1 c.args.steps.now) c.receipts.ensures
    c.fits.ensures in
    let none = matched-here c.args.node c.args.steps.now c.args.seats.now c.in-Some.seat.now c.in-Some.later.now false
    (has_seat c.in-Some.later.now c.args.node) split (c.is_of.ensures.0 c.if-is_of.true)
    (subst (λ (b : Bool). IsTrue b ↔ (c.in-Some.seat.now.receipts ≡ receipts_of c.args.node 1 c.args.steps.now)) c.if-fits.false whole) refl in
    subst (λ (b : Bool). IsTrue b ↔ IsMatched c.args.steps.now c.args.seats.now c.args.node) (sym c.if-fits.false) none

pub returns-else-is_of : goal.returns-else-is_of
returns-else-is_of g t c =
    let split : c.args.seats.now ≡ c.in-Some.seat.now ∷ c.in-Some.later.now = search rules in
    let isnt = c.if-is_of.false in
    matched-later c.args.node c.args.steps.now c.args.seats.now c.in-Some.seat.now c.in-Some.later.now c.is_matched.result split
    (λ e. absurd (let is = c.is_of.ensures.1 e in let off : true ≡ false = sym is ∙ isnt in cc)) c.is_matched.ensures
