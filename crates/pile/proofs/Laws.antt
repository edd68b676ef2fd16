-- This room's laws, proved: each by its name in specs/Laws.antt. Assumes nothing.
use mathlib.Core.Path.{refl, sym}
use lib.Seq.{get_or-drop}
use Rattle.block.specs.Words.{word_at}
use Rattle.pile.specs.Blocks.{rest_from}
use Rattle.pile.specs.Laws as law
use Rattle.pile.proofs.PileLaws.{rest_next, rest_long}
use Rattle.pile.proofs.LineLaws as lines

pub every_block_true : law.EveryBlockTrue
every_block_true pile = (lines.blocks_true pile, lines.true_blocks pile)

pub rest_steps : law.RestSteps
unfolding rest_from
rest_steps pile = (refl, λ a l. sym (rest_next pile a l), λ a h. rest_long pile a h.0 h.1)

pub word_bytes : law.WordBytes
unfolding rest_from word_at
word_bytes pile a i = simp get_or-drop
