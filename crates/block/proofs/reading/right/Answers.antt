-- `block::reading::right` meets its contract, word by word. Assumes nothing.
use mathlib.Core.Path.{◌≡◌, sym, ap, ◌∙◌}
use mathlib.Core.Bool.{true, false, cond}
use native.Mathlib.Omega.{arith}
use Rattle.block.specs.Words.{word_at}
use Rattle.block.specs.Deals.{marks_sets}
use Rattle.block.specs.Layout.{within, range_at}
use Rattle.block.proofs.LayoutLaws.{right-own}
use borrow.Author.Tests.{eq-eqb, ne_eqb}
use Rattle.block.proofs.reading.right.Goals as goal
use Rattle.block.proofs.reading.right.Goals.{then-word-eq1988, else-word-eq1988}

pub returns-then-v-eq1987 : goal.returns-then-v-eq1987
unfolding range_at
returns-then-v-eq1987 c =
    let b = c.args.b.now in
    let one : c.word-v.result ≡ word_at b 1 = c.word-v.ensures ∙ ap (word_at b) c.in-1.is in
    simp (c.in-1.is, right-own b 1 (omega arith) (omega arith), one, eq-eqb _ 1987 (sym one ∙ c.if-v-eq1987.true))

pub returns-else-v-eq1987 : goal.returns-else-v-eq1987
unfolding range_at
returns-else-v-eq1987 c =
    let b = c.args.b.now in
    let one : c.word-v.result ≡ word_at b 1 = c.word-v.ensures ∙ ap (word_at b) c.in-1.is in
    simp (c.in-1.is, right-own b 1 (omega arith) (omega arith), one, ne_eqb _ 1987 (λ e. c.if-v-eq1987.false (one ∙ e)))

pub returns-in-2 : goal.returns-in-2
unfolding range_at
returns-in-2 c = simp (c.word-v.ensures, c.in-2.is, right-own c.args.b.now 2 (omega arith) (omega arith))

pub returns-in-3 : goal.returns-in-3
unfolding range_at
returns-in-3 c = simp (c.within.ensures, c.word-v.ensures, c.in-3.is, right-own c.args.b.now 3 (omega arith) (omega arith))

pub returns-then-within : goal.returns-then-within
unfolding range_at
returns-then-within c =
    let b = c.args.b.now in
    let four : c.word-v.result ≡ word_at b 4 = c.word-v.ensures ∙ ap (word_at b) c.in-4.is in
    let t : within 1 (word_at b 4) 8 ≡ true = rw four at (sym c.within-in-4.ensures ∙ c.if-within.true) in
    simp (c.word.ensures, four, c.in-4.is, right-own b 4 (omega arith) (omega arith), t)

pub returns-else-within : goal.returns-else-within
unfolding range_at
returns-else-within c =
    let b = c.args.b.now in
    let four : c.word-v.result ≡ word_at b 4 = c.word-v.ensures ∙ ap (word_at b) c.in-4.is in
    let t : within 1 (word_at b 4) 8 ≡ false = rw four at (sym c.within-in-4.ensures ∙ c.if-within.false) in
    simp (c.within-in-4.ensures, four, c.in-4.is, right-own b 4 (omega arith) (omega arith), t)

pub returns-after-word-eq1988 : goal.returns-after-word-eq1988
unfolding range_at
returns-after-word-eq1988 c =
    let b = c.args.b.now in
    let most : c.if-word-eq1988.most ≡ cond (marks_sets (word_at b 1)) (word_at b 4) 70 = elim c.if-word-eq1988.branch [
      | then-word-eq1988 w ↦ rw (eq-eqb _ 1988 (sym c.word-in-5.ensures ∙ w.if-word-eq1988.true)) (w.most-is ∙ c.word-people.ensures)
      | else-word-eq1988 w ↦ rw (ne_eqb _ 1988 (λ e. w.if-word-eq1988.false (c.word-in-5.ensures ∙ e))) w.most-is
    ] in
    simp (c.within-in-5.ensures, c.word-v.ensures, most, c.in-5.is, right-own b 5 (omega arith) (omega arith))

pub returns-in-6 : goal.returns-in-6
unfolding range_at
returns-in-6 c = simp (c.within-in-6.ensures, c.word-v.ensures, c.in-6.is, right-own c.args.b.now 6 (omega arith) (omega arith))

pub returns-in_default : goal.returns-in_default
unfolding range_at
returns-in_default c =
    let seven : c.args.i ≡ 7 = omega arith in
    simp (c.within-in_default.ensures, c.word-v.ensures, c.word-in_default.ensures, seven, right-own c.args.b.now 7 (omega arith) (omega arith))
