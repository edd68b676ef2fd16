-- `block::writing::write_block` meets its contract: words 1 to i - 1 stand before the rest of what was lent, and are in the sum.
-- Assumes nothing.
use Rattle.block.proofs.WritingLaws.{Writing}
use Rattle.block.proofs.writing.write_block.Given as goal

abbrev pub invariant-loop-i : goal.invariant-loop-i
invariant-loop-i l = Writing l.l l.values l.initial.out l.out l.sum l.i
