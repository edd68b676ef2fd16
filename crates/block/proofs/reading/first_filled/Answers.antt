-- `block::reading::first_filled` meets its contract: there is no word, or the sum says that all are 0, or the search says. Assumes nothing.
use mathlib.Core.Path.{sym, ◌∙◌}
use Rattle.lists.proofs.FirstLaws.{first-none, none_placed}
use Rattle.block.specs.Inner.{filled}
use Rattle.block.proofs.ZeroLaws.{all_zero, none_filled}
use Rattle.block.proofs.reading.first_filled.Goals as goal

pub returns-then-end-start : goal.returns-then-end-start
returns-then-end-start c =
    let a = c.args in
    none_placed (first-none (filled a.b.now) a.start a.end c.if-end-start.true)

pub returns-then-byte_sum-eq0 : goal.returns-then-byte_sum-eq0
returns-then-byte_sum-eq0 c =
    let a = c.args in
    none_placed (none_filled a.b.now a.start a.end c.requires.0 (all_zero _ (sym c.byte_sum.ensures ∙ c.if-byte_sum-eq0.true)))
