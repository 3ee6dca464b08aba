use Rattle.std.proofs.Common.{◌-◌, inl, inr, arith}
use Rattle.kt_store.proofs.Numbered.{place_there, place_none}
use Rattle.kt_store.proofs.instance_row.place_of.Goals.{else-instance-ge1-via-then-instance-ge1+else-instance-count, else-instance-ge1-via-else-instance-ge1}
use Rattle.kt_store.proofs.instance_row.place_of.Goals as goal

pub returns-then-instance-count-clause-value : goal.returns-then-instance-count-clause-value
returns-then-instance-count-clause-value c =
    place_there c.args.rows.now (c.args.instance - 1) c.args.instance c.requires
    (grind (arith, c.if-instance-ge1.true, c.if-instance-count.true)) (grind (arith, c.if-instance-ge1.true))

pub returns-else-instance-ge1-clause-value : goal.returns-else-instance-ge1-clause-value
returns-else-instance-ge1-clause-value c = elim c.else-instance-ge1.branch [
  | else-instance-ge1-via-then-instance-ge1+else-instance-count w ↦
      place_none c.args.rows.now c.args.instance c.requires (inr (grind (arith, w.if-instance-count.false)))
  | else-instance-ge1-via-else-instance-ge1 w ↦
      place_none c.args.rows.now c.args.instance c.requires (inl (grind (arith, w.if-instance-ge1.false)))
]
