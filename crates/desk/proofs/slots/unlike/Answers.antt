-- `desk::slots::unlike` meets its contract: the library tests the values one by one.
-- Assumes nothing.
use mathlib.Core.Path.{refl, ◌∙◌}
use Prim.Native.Nat.{◌+◌, ◌-◌}
use borrow.Author.Rules.{rules}
use borrow.Author.Tests.{tests}
use Rattle.std.proofs.lemmas.Iterator.{YieldsList-from_range}
use Rattle.std.proofs.lemmas.Iterator.Search.{any_from_yields_List}
use Rattle.desk.proofs.KeepLaws.{apart, unlike_any}
use Rattle.desk.proofs.slots.unlike.Goals as goal

pub returns : goal.returns
returns c =
    let a = c.args in
    any_from_yields_List (apart a.slots.now a.at a.block.now) _ _ c.any.result c.any.ensures.ran
    (YieldsList-from_range 1 (a.w + 1) (a.w + 1 - 1) refl refl) (λ x b q k. search (rules, tests))
    ∙ unlike_any a.slots.now a.at a.w a.block.now
