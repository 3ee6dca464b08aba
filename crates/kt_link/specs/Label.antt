-- The order of labels.
-- Cited by label.rt, laws.rt.
use Rattle.std.specs.Prelude.{◌≡◌, ◌<◌, ◌⊎◌}
use Rattle.std.specs.declared.cmp.Ordering.{Ordering}
use Rattle.std.specs.Ordering.{nat_cmp, ordering_then}
use Rattle.kt_link.specs.declared.label.Label.{Label}

-- by incarnation first, and by count where that is one
abbrev pub label_cmp : Label → Label → Ordering
label_cmp a b = ordering_then (nat_cmp a.incarnation b.incarnation) (nat_cmp a.count b.count)

-- a has a lower incarnation than b, or the same and a lower count
abbrev pub IsBelow : Label → Label → Type 0
IsBelow a b = (a.incarnation < b.incarnation) ⊎ ((a.incarnation ≡ b.incarnation) × (a.count < b.count))
