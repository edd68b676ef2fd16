-- The lines of a pile that look at its length, and those of its blocks, one block after the other.
-- Assumes nothing.
use Rattle.std.specs.Prelude.{ℕ, zero, suc, ◌+◌, ◌%◌, List, [], ◌++◌, length, ltb}
use Rattle.answer.specs.declared.Kind.TheVariants.{Torn, Long}
use Rattle.answer.specs.Checks.{Line, line}
use Rattle.lists.specs.Places.{found}
use Rattle.block.specs.Open.{block_lines}
use Rattle.pile.specs.Blocks.{blocks, rest_from}

-- 13 TORN, of a pile: bytes are left over after its whole blocks
abbrev pub torn_pile : List ℕ → Line
torn_pile pile = line Torn (found (length pile % 512)) 0 0

-- 14 LONG: more blocks than the 560 that a pile may have
abbrev pub long_pile : List ℕ → Line
long_pile pile = line Long (ltb 560 (blocks pile)) 0 0

-- 14 LONG, of the programs that read a pile: more than 65,536 bytes
abbrev pub too_long : List ℕ → Line
too_long pile = line Long (ltb 65536 (length pile)) 0 0

-- 15, 16, 17 of the n blocks from block a on
unfoldable pub lines_from : List ℕ → ℕ → ℕ → List Line
lines_from pile a zero = []
lines_from pile a (suc n) = block_lines (rest_from pile a) a ++ lines_from pile (a + 1) n

-- 15, 16, 17 of every block, in pile order
unfoldable pub every_block : List ℕ → List Line
every_block pile = lines_from pile 1 (blocks pile)
