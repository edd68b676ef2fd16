-- `block::reading::within` meets its contract. Assumes nothing.
use borrow.Author.Tests.{le-leb, lt-leb}
use Rattle.block.proofs.reading.within.Goals as goal

pub returns-then-low-v : goal.returns-then-low-v
returns-then-low-v c = simp (le-leb _ _ c.if-low-v.true)

pub returns-else-low-v : goal.returns-else-low-v
returns-else-low-v c = simp (lt-leb _ _ c.if-low-v.false)
