-- `block::writing::write_at` meets its contract: the part that was lent has come back. Assumes nothing.
use Rattle.block.specs.Written.{block_bytes}
use Rattle.block.proofs.WritingLaws.{part_written}
use Rattle.block.proofs.writing.write_at.Goals as goal

pub returns : goal.returns
returns c =
    let a = c.args in
    part_written a.out.now c.write_block.new.out (block_bytes a.l a.values.now) a.at c.write_block.ensures
