-- `triangle::weights` meets its contract. The invariant: the weights of the pieces before j are in their places, and 0 past them.
-- Assumes nothing.
use Prim.Native.Nat.{◌-◌}
use Rattle.field.proofs.Table.{Filled}
use Rattle.triangle.proofs.weights.Given as goal

abbrev pub invariant-loop-j : goal.invariant-loop-j
invariant-loop-j l = Filled l.k (l.j - 1) l.table
