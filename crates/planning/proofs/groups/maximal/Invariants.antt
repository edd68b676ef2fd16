-- `planning::groups::maximal` meets its contract: the sets still ahead say, with what was found, the same as the whole required list.
-- Assumes nothing.
use Rattle.planning.proofs.GroupLaws.{Walked}
use Rattle.planning.proofs.groups.maximal.Given as goal

abbrev pub invariant-loop-set : goal.invariant-loop-set
invariant-loop-set l = Walked l.required l.g l.set-index l.within l.found
