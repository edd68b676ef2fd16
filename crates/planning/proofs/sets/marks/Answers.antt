-- `planning::marks` meets its contract: its eight tests are the eight marks. Assumes nothing.
use borrow.Author.Rules.{rules}
use Rattle.planning.specs.Sets.{marks, member}
use Rattle.planning.proofs.sets.marks.Goals as goal

pub returns : goal.returns
unfolding marks member
returns c = search rules
