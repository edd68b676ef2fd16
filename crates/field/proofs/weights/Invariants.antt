-- `field::weights` meets its contract. The invariant: the weights of pieces 1 to j are in their places, and 0 past them.
-- Assumes nothing.
use Rattle.field.proofs.Table.{Filled}
use Rattle.field.proofs.weights.Given as goal

abbrev pub invariant-loop-j : goal.invariant-loop-j
invariant-loop-j l = Filled l.k l.j l.table
