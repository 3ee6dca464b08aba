use Rattle.std.proofs.Common.{◌≡◌, ◌-◌, drop, length}
use Rattle.kt_cells.specs.Texts.{text_of}
use Rattle.kt_page.proofs.splice.back_len.Given as goal

-- the lines so far are alike
abbrev pub invariant-loop-place : goal.invariant-loop-place
invariant-loop-place l = text_of (drop (length l.old - l.place) l.old) ≡ text_of (drop (length l.new - l.place) l.new)
