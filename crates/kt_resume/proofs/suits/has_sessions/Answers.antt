use Rattle.std.proofs.Common.{◌≡◌, ◌∙◌, sym}
use Rattle.std.proofs.lemmas.Bool.{false≢true}
use Rattle.kt_resume.proofs.suits.has_sessions.Goals as goal

pub returns-then-not-has_entries : goal.returns-then-not-has_entries
returns-then-not-has_entries c = (
  λ h. absurd (false≢true h),
  λ is. absurd (false≢true (sym c.if-not-has_entries.true ∙ c.has_entries.ensures.1 (c.waiting.ensures ∙ is.waiting))),
)

pub returns-then-not-has_entries-2 : goal.returns-then-not-has_entries-2
returns-then-not-has_entries-2 c = (
  λ h. absurd (false≢true h),
  λ is. absurd (false≢true (sym c.if-not-has_entries-2.true ∙ c.has_entries-2.ensures.1 (c.cached.ensures ∙ is.cached))),
)

pub returns : goal.returns
returns c = (
  λ h. record {
    waiting = sym c.waiting.ensures ∙ c.has_entries.ensures.0 c.if-not-has_entries.false;
    cached = sym c.cached.ensures ∙ c.has_entries-2.ensures.0 c.if-not-has_entries-2.false;
    others = c.are_empty_outside.ensures.0 h;
  },
  λ is. c.are_empty_outside.ensures.1 is.others,
)
