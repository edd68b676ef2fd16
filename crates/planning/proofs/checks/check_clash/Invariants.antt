-- `planning::checks::check_clash` meets its contract: the sets passed lie inside no forbidden set.
-- Assumes nothing.
use Rattle.lists.proofs.AheadLaws.{PlaceAhead}
use Rattle.planning.proofs.ClashLaws.{clashing}
use Rattle.planning.proofs.checks.check_clash.Given as goal

abbrev pub invariant-loop-i : goal.invariant-loop-i
invariant-loop-i l = PlaceAhead (clashing l.forbidden) l.required l.i
