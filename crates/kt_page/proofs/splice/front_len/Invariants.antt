use Rattle.std.proofs.Common.{◌≡◌, take}
use Rattle.kt_cells.specs.Texts.{text_of}
use Rattle.kt_page.proofs.splice.front_len.Given as goal

-- the lines so far are alike
abbrev pub invariant-loop-place : goal.invariant-loop-place
invariant-loop-place l = text_of (take l.place l.old) ≡ text_of (take l.place l.new)
