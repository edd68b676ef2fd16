-- `block::deal::deal_words` meets its contract: the words read are those that say which deal. Assumes nothing.
use mathlib.Core.Path.{◌≡◌, sym, ◌∙◌}
use mathlib.Core.Bool.{cond}
use borrow.Author.Tests.{eq-eqb, ne_eqb}
use Rattle.block.specs.Words.{word_at}
use Rattle.block.specs.Deals.{marks_sets}
use Rattle.block.proofs.deal.deal_words.Goals as goal
use Rattle.block.proofs.deal.deal_words.Goals.{then-mark-eq1988, else-mark-eq1988}

pub returns : goal.returns
returns c = let pieces : let b = c.args.b.now in c.if-mark-eq1988.pieces ≡ cond (marks_sets (word_at b 1)) 0 (word_at b 5) =
    elim c.if-mark-eq1988.branch [
      | then-mark-eq1988 w ↦ rw (eq-eqb _ 1988 (sym c.word-mark.ensures ∙ w.if-mark-eq1988.true)) w.pieces-is
      | else-mark-eq1988 w ↦ rw (ne_eqb _ 1988 (λ e. w.if-mark-eq1988.false (c.word-mark.ensures ∙ e))) (w.pieces-is ∙ w.word-pieces.ensures)
    ] in
    λ i.
    record {
      mark = c.word-mark.ensures i;
      number = c.word.ensures i;
      people = c.word-2.ensures i;
      pieces = pieces i;
      width = c.word-3.ensures i;
      year = c.word-4.ensures i;
    }
