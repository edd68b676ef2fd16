-- `print::page::Page::write_words` meets its contract: the words passed are written.
-- Assumes nothing.
use mathlib.Core.Path.{refl, ap, ◌∙◌}
use native.Mathlib.Omega.{arith}
use Rattle.print.specs.Lines.{spaced, spaced_all}
use Rattle.print.proofs.WrittenLaws.{nothing, retold}
use Rattle.print.proofs.LineLaws.{words-room, words_turn}
use Rattle.print.proofs.page.Page.write_words.Goals as goal

pub loop-word-init : goal.loop-word-init
unfolding spaced_all
loop-word-init c = (refl, nothing _)

pub write_number-requires : goal.write_number-requires
write_number-requires c =
    rw c.from.ensures (words-room _ _ (omega arith) c.loop-word.invariant.1 c.requires)

pub loop-word-preserved : goal.loop-word-preserved
loop-word-preserved c =
    let l = c.loop-word in (
      c.write_number.ensures.same_buffer ∙ l.invariant.0,
      words_turn _ _ (omega arith) l.invariant.1 c.requires (retold (ap spaced c.from.ensures) c.write_number.ensures.written),
    )
