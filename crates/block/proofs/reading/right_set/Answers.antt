-- `block::reading::right_set` meets its contract, scheme by scheme. Assumes nothing.
use mathlib.Core.Path.{sym, ap, ◌∙◌}
use Prim.Native.Nat.{ℕ}
use lib.Dec.{eqb}
use borrow.Author.Tests.{eq-eqb, ne_eqb}
use Rattle.block.specs.Layout.{within, range_at}
use Rattle.block.proofs.LayoutLaws.{right-set}
use Rattle.block.proofs.reading.right_set.Goals as goal

pub returns-then-word-eq1988 : goal.returns-then-word-eq1988
unfolding range_at
returns-then-word-eq1988 c =
    let b = c.args.b.now in
    rw (right-set b, eq-eqb _ 1988 (sym c.word.ensures ∙ c.if-word-eq1988.true))
    (c.within.ensures ∙ ap (λ (v : ℕ). within 1 v 70) c.word-set.ensures)

pub returns-else-word-eq1988 : goal.returns-else-word-eq1988
unfolding range_at
returns-else-word-eq1988 c =
    let b = c.args.b.now in
    rw (right-set b, ne_eqb _ 1988 (λ e. c.if-word-eq1988.false (c.word.ensures ∙ e))) (ap (λ (v : ℕ). eqb v 0) c.word-set.ensures)
