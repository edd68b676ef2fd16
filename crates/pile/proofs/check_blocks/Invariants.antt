-- `pile::check_blocks` meets its contract. The invariant: what all blocks' lines say, those from block a on say. Assumes nothing.
use mathlib.Core.Path.{◌≡◌}
use Rattle.answer.specs.Outcome.{done}
use Rattle.answer.specs.Checks.{first_fail}
use Rattle.pile.specs.Lines.{every_block}
use Rattle.pile.proofs.WalkLaws.{ahead}
use Rattle.pile.proofs.check_blocks.Given as goal

abbrev pub invariant-loop-a : goal.invariant-loop-a
invariant-loop-a l = first_fail (every_block l.pile) (done 0) ≡ ahead l.pile l.a
