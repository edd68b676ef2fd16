-- `salvage::mend_pile` meets its contract: the first a blocks are mended, their rebuilt words counted and listed. Assumes nothing.
use Rattle.salvage.proofs.LoopLaws.{Mending}
use Rattle.salvage.proofs.mend_pile.Given as goal

abbrev pub invariant-loop-a : goal.invariant-loop-a
invariant-loop-a l = Mending l.initial.pile l.initial.list l.pile l.list l.a-end l.count l.a
