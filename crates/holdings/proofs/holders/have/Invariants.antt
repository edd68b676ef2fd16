-- `holdings::holders::have` meets its contract: the count is of the pieces passed whose holders meet the group.
-- Assumes nothing.
use Prim.Native.Nat.{◌≤◌}
use Rattle.holdings.proofs.HolderLaws.{Counted}
use Rattle.holdings.proofs.holders.have.Given as goal

abbrev pub invariant-loop-j : goal.invariant-loop-j
invariant-loop-j l = (l.j ≤ l.pieces) × (l.pieces ≤ 70) × Counted l.sets l.g l.j l.count
