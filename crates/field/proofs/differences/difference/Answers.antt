-- `field::differences::difference` meets its contract. The invariant: the numbers from place i on have given way, those before it stand.
-- Assumes nothing.
use native.Mathlib.Omega.{arith}
use native.Mathlib.Nat.{le_refl}
use Rattle.field.proofs.RowLaws.{differenced_start, differenced_turn}
use Rattle.field.proofs.differences.difference.Goals as goal

pub loop-i-init : goal.loop-i-init
loop-i-init c = (omega arith, le_refl _, differenced_start c.args.row.now (omega arith))

pub loop-i-preserved : goal.loop-i-preserved
loop-i-preserved c =
    let v = c.loop-i.invariant in (
      omega arith,
      omega arith,
      differenced_turn c.args.row.now c.loop-i.row c.loop-i.i c.subtract.result (omega arith) v.1 c.subtract.ensures v.2,
    )
