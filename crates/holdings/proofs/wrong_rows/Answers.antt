-- `holdings::wrong_rows` meets its contract: each return has its ground, and the last looks at the marks.
-- Assumes nothing.
use mathlib.Core.Path.{sym, ap, ◌∙◌}
use native.Mathlib.Omega.{arith}
use Rattle.std.specs.Prelude.{is_some, ltb}
use Rattle.lists.proofs.PositionLaws.{found_position}
use Rattle.holdings.specs.Holdings.{list_in}
use Rattle.holdings.proofs.HolderLaws.{marks-few}
use Rattle.holdings.proofs.RowLaws.{only-marks, not_order}
use Rattle.holdings.proofs.wrong_rows.Goals as goal

pub returns-then-list-people : goal.returns-then-list-people
returns-then-list-people c = sym (not_order _ _ (λ h. c.if-list-people.true h.same-people))

pub returns-then-list-eq0 : goal.returns-then-list-eq0
returns-then-list-eq0 c = sym (not_order _ _ (λ h. omega (arith, h.some-piece, h.few-pieces, c.then-list-eq0.either)))

pub returns-then-list-eq0-2 : goal.returns-then-list-eq0-2
returns-then-list-eq0-2 c = sym (not_order _ _ (λ h. omega (arith, h.some-needed, h.few-needed, c.then-list-eq0-2.either)))

pub overflow_mul-people : goal.overflow_mul-people
overflow_mul-people c = omega (arith, marks-few _ _ c.requires c.if-list-gt70.false)

pub returns-then-list-people-2 : goal.returns-then-list-people-2
returns-then-list-people-2 c = sym (not_order _ _ (λ h. c.if-list-people-2.true h.full))

pub returns : goal.returns
returns c =
    let a = c.args in
    c.is_some.ensures ∙ ap is_some c.first_bad.ensures ∙ sym (found_position (ltb 1) a.list.marks.now)
    ∙ sym (only-marks a.people (list_in a.list) c.if-list-people.false c.if-list-eq0.false
    c.if-list-gt70.false c.if-list-eq0-2.false c.if-list.false c.if-list-people-2.false)
