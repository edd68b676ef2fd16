-- `policy::read_policy` meets its contract: the sets so far and those of the rest are all the sets, and no line so far is bad.
-- Assumes nothing.
use Rattle.policy.proofs.ReadingLaws.{Going}
use Rattle.policy.proofs.read_policy.Given as goal

abbrev pub invariant-loop-line : goal.invariant-loop-line
invariant-loop-line l = Going l.text l.read l.line-iterator.rest.now l.number
