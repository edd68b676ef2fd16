-- `bysets::coefficients` meets its contract: total is the coefficients of the first sets. Assumes nothing.
use Rattle.bysets.proofs.SizeLaws.{Counting}
use Rattle.bysets.proofs.coefficients.Given as goal

abbrev pub invariant-loop-set : goal.invariant-loop-set
invariant-loop-set l = Counting l.sets l.total l.set-index
