-- `field::join_word` meets its contract. The invariant: what is summed and what is left to sum make the whole.
-- Assumes nothing.
use lib.ListN.{length}
use Rattle.field.proofs.Table.{Summed}
use Rattle.field.proofs.join_word.Given as goal

abbrev pub invariant-loop-piece : goal.invariant-loop-piece
invariant-loop-piece l = Summed l.pieces (length l.yielded) l.sum
