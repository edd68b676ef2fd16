-- `desk::slots::distinct` meets its contract: the library counts the pieces that are kept.
-- Assumes nothing.
use native.Mathlib.Omega.{arith}
use mathlib.Core.Path.{refl, ◌∙◌}
use Prim.Native.Nat.{◌+◌, ◌-◌}
use borrow.Author.Rules.{rules}
use borrow.Author.Tests.{tests}
use Rattle.std.proofs.lemmas.Iterator.{YieldsList-from_range}
use Rattle.std.proofs.lemmas.Iterator.Consumers.{count_from_yields_List, YieldsList-from_filter, YieldsList-at}
use Rattle.lists.proofs.ThoseLaws.{those-few}
use Rattle.desk.specs.Slots.{keeps, distinct}
use Rattle.desk.proofs.KeepLaws.{distinct_filter}
use Rattle.desk.proofs.slots.distinct.Goals as goal

pub returns : goal.returns
unfolding distinct
returns c =
    let a = c.args in
    let kept = keeps a.slots.now a.client a.o.width in
    let road = YieldsList-from_range 1 (a.o.pieces + 1) (a.o.pieces + 1 - 1) refl refl in
    let n = count_from_yields_List c.filter.result c.count.result c.count.ensures.ran
    (YieldsList-from_filter _ kept (YieldsList-at c.filter.ensures.source road) c.filter.ensures.closure (λ x b q k. search (rules, tests)))
    ∙ distinct_filter a.slots.now a.o a.client in
    (n, omega (arith, n, those-few kept 1 a.o.pieces))
