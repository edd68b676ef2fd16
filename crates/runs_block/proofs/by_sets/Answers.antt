-- `runs_block::by_sets` meets its contract: the words keep the layout. Assumes nothing.
use Rattle.block.proofs.Cases.{sets_buildable}
use Rattle.runs_block.proofs.by_sets.Goals as goal

pub write_block-requires-clause-buildable : goal.write_block-requires-clause-buildable
write_block-requires-clause-buildable c = sets_buildable
