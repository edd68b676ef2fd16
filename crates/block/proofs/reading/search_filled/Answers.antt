-- `block::reading::search_filled` meets its contract. The invariant: the first word that is not 0 is still to be found from word i on. Assumes nothing.
use mathlib.Core.Path.{refl, sym, ap, ◌∙◌}
use mathlib.Core.Bool.{not}
use native.Mathlib.Omega.{arith}
use borrow.Author.Tests.{eq-eqb, ne_eqb}
use Rattle.block.specs.Words.{word_at}
use Rattle.block.specs.Inner.{filled}
use Rattle.lists.proofs.FirstLaws.{first_hit, first_miss, first-none, some_placed, none_placed}
use Rattle.block.proofs.reading.search_filled.Goals as goal

pub loop-i-init : goal.loop-i-init
loop-i-init c = (c.requires.0, refl)

pub returns-then-word-ne0 : goal.returns-then-word-ne0
returns-then-word-ne0 c =
    let l = c.loop-i in
    let b = c.args.b.now in
    some_placed (l.invariant.1 ∙ first_hit (filled b) l.i c.args.end c.loop-i-test.true
    (ap not (ne_eqb (word_at b l.i) 0 (λ e. c.if-word-ne0.true (c.word.ensures ∙ e))))) l.invariant.0

pub loop-i-preserved : goal.loop-i-preserved
loop-i-preserved c =
    let l = c.loop-i in
    let b = c.args.b.now in (
      omega arith,
      l.invariant.1 ∙ first_miss (filled b) l.i c.args.end c.loop-i-test.true
          (ap not (eq-eqb (word_at b l.i) 0 (sym c.word.ensures ∙ c.if-word-ne0.false))),
    )

pub returns : goal.returns
returns c =
    let l = c.loop-i in
    none_placed (l.invariant.1 ∙ first-none (filled c.args.b.now) l.i c.args.end c.loop-i-test.false)
