-- `field::differences::alternate` meets its contract. The invariant: sum is what the numbers past those that are left come to.
-- Assumes nothing.
use lib.ListN.{length}
use Rattle.field.proofs.BackLaws.{Front}
use Rattle.field.proofs.RowLaws.{Summing}
use Rattle.field.proofs.differences.alternate.Given as goal

abbrev pub invariant-loop-number : goal.invariant-loop-number
invariant-loop-number l =
    let left = l.number-iterator.iter.rest.now in
    Front l.row left × Summing l.row (length left) l.sum
