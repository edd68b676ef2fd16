-- `holdings::holders::holder_sets` meets its contract: the pieces passed have their holders.
-- Assumes nothing.
use Prim.Native.Nat.{◌≤◌}
use Rattle.holdings.specs.Holdings.{list_in}
use Rattle.holdings.specs.Inner.{Holders}
use Rattle.holdings.proofs.holders.holder_sets.Given as goal

abbrev pub invariant-loop-j : goal.invariant-loop-j
invariant-loop-j l = (l.list.pieces ≤ 70) × Holders (list_in l.list) l.j l.sets
