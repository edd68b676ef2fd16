-- `block::reading::first_foreign` meets its contract: word 1 of a block of a deal by sets, else the first wrong word. Assumes nothing.
use mathlib.Core.Path.{sym, ap, ◌∙◌}
use native.Mathlib.Omega.{arith}
use Rattle.lists.specs.Places.{placed}
use Rattle.lists.proofs.FirstLaws.{some_placed}
use Rattle.block.proofs.OpenLaws.{foreign-sets, foreign-first}
use Rattle.block.proofs.reading.first_foreign.Goals as goal

pub returns-then-word-eq1988 : goal.returns-then-word-eq1988
returns-then-word-eq1988 c =
    some_placed (foreign-sets c.args.b.now (sym c.word.ensures ∙ c.if-word-eq1988.true)) (omega arith)

pub returns : goal.returns
returns c =
    c.first_wrong.ensures ∙ ap placed (sym (foreign-first c.args.b.now (λ e. c.if-word-eq1988.false (c.word.ensures ∙ e))))
