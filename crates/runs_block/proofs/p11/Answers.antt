-- `runs_block::p11` meets its contract: P11's words keep the layout. Assumes nothing.
use Rattle.block.proofs.Cases.{p11_buildable}
use Rattle.runs_block.proofs.p11.Goals as goal

pub write_block-requires-clause-buildable : goal.write_block-requires-clause-buildable
write_block-requires-clause-buildable c = p11_buildable
