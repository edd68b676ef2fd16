-- `block::word` meets its contract: the bytes of the word, the high one in front. Assumes nothing.
use native.Mathlib.Omega.{arith}
use Rattle.block.specs.Words.{word_at}
use Rattle.block.proofs.word.Goals as goal

pub returns : goal.returns
unfolding word_at
returns c = omega (arith, c.from_be_bytes.ensures)
