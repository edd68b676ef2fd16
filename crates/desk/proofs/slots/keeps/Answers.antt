-- `desk::slots::keeps` meets its contract: an unmarked slot keeps nothing, and of a marked one the values decide.
-- Assumes nothing.
use mathlib.Core.Path.{refl, ap, ◌∙◌}
use mathlib.Core.Bool.{not}
use Prim.Native.Nat.{◌+◌, ◌-◌}
use lib.Dec.{leb}
use borrow.Author.Rules.{rules}
use borrow.Author.Tests.{eq-eqb, tests}
use Rattle.std.proofs.lemmas.Iterator.{YieldsList-from_range}
use Rattle.std.proofs.lemmas.Iterator.Search.{all_from_yields_List}
use Rattle.desk.specs.Slots.{in_slot}
use Rattle.desk.proofs.KeepLaws.{unmarked, marked}
use Rattle.desk.proofs.slots.keeps.Goals as goal

pub returns-then-slots-at-ne0 : goal.returns-then-slots-at-ne0
returns-then-slots-at-ne0 c =
    let a = c.args in
    all_from_yields_List (λ i. leb (in_slot a.slots.now a.at i) 32748) _ _ c.all.result c.all.ensures.ran
    (YieldsList-from_range 1 (a.w + 1) (a.w + 1 - 1) refl refl) (λ x b q k. search (rules, tests))
    ∙ marked a.slots.now a.at a.w c.if-slots-at-ne0.true

pub returns-else-slots-at-ne0 : goal.returns-else-slots-at-ne0
returns-else-slots-at-ne0 c =
    let a = c.args in
    ap not (eq-eqb _ 0 c.if-slots-at-ne0.false) ∙ unmarked a.slots.now a.at a.w c.if-slots-at-ne0.false
