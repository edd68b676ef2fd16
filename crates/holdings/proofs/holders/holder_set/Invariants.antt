-- `holdings::holders::holder_set` meets its contract: the people passed are gathered, and the worth is the next person's.
-- Assumes nothing.
use Rattle.holdings.specs.Holdings.{list_in}
use Rattle.holdings.proofs.HolderLaws.{Gathered}
use Rattle.holdings.proofs.holders.holder_set.Given as goal

abbrev pub invariant-loop-i : goal.invariant-loop-i
invariant-loop-i l = Gathered (list_in l.list) l.j l.i l.set l.worth
