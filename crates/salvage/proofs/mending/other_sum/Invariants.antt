-- `salvage::mending::other_sum` meets its contract, by the laws of its loop (SumLoop). Assumes nothing.
use Rattle.salvage.proofs.SumLoop.{Summing}
use Rattle.salvage.proofs.mending.other_sum.Given as goal

abbrev pub invariant-loop-k : goal.invariant-loop-k
invariant-loop-k l = Summing l.b l.i l.sum l.k
