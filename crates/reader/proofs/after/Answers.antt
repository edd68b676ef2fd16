-- `reader::after` meets its contract: by whether a whole block is left. Assumes nothing.
use mathlib.Core.Path.{sym}
use Rattle.pile.specs.Blocks.{blocks}
use Rattle.reader.proofs.SeeingLaws.{after_block, after_stays}
use Rattle.reader.proofs.after.Goals as goal

pub returns-then-passed-pile : goal.returns-then-passed-pile
unfolding blocks
returns-then-passed-pile c = sym (after_block _ _ c.if-passed-pile.true)

pub returns-else-passed-pile : goal.returns-else-passed-pile
unfolding blocks
returns-else-passed-pile c = sym (after_stays _ _ c.if-passed-pile.false)
