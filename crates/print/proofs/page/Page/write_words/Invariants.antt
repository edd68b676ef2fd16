-- `print::page::Page::write_words` meets its contract: the words passed are written.
-- Assumes nothing.
use mathlib.Core.Path.{◌≡◌}
use lib.ListN.{take}
use Rattle.print.specs.Inner.{Writes}
use Rattle.print.specs.Lines.{spaced_all}
use Rattle.print.proofs.page.Page.write_words.Given as goal

abbrev pub invariant-loop-word : goal.invariant-loop-word
invariant-loop-word l =
    (l.self.out.ghost_name ≡ l.initial.self.out.ghost_name) × Writes (spaced_all (take l.word-index l.words)) l.initial.self l.self
