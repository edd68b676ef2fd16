-- `minimal::minimal` meets its contract: what was seen of g and what is ahead decide. Assumes nothing.
use Rattle.minimal.proofs.LoopLaws.{Seeking}
use Rattle.minimal.proofs.minimal.Given as goal

abbrev pub invariant-loop-r : goal.invariant-loop-r
invariant-loop-r l = Seeking l.required l.g l.listed l.r-index
