use Rattle.kt_explain.specs.Shown.{IsPlain}
use Rattle.kt_explain.proofs.shown.push_widths.Given as goal

abbrev pub invariant-loop-byte : goal.invariant-loop-byte
invariant-loop-byte l = IsPlain l.fn.out.items → IsPlain l.out.items
