-- `field::differences::alternate` meets its contract. The invariant: sum is what the numbers past those that are left come to.
-- Assumes nothing.
use Rattle.field.proofs.BackLaws.{front_start, front_turn}
use Rattle.field.proofs.RowLaws.{summing_start, summing_turn}
use Rattle.field.proofs.differences.alternate.Goals as goal

pub loop-number-init : goal.loop-number-init
loop-number-init c = (front_start c.args.row.now _ (cc), summing_start c.args.row.now _ (cc))

pub loop-number-preserved : goal.loop-number-preserved
loop-number-preserved c =
    let l = c.loop-number in
    let t = c.in-Some.ensures.steps in
    (front_turn c.args.row.now _ _ _ t l.invariant.0, summing_turn c.args.row.now _ _ _ l.sum c.subtract-sum.result t l.invariant.0 c.subtract-sum.ensures l.invariant.1)
