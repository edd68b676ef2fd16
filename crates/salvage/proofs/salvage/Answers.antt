-- `salvage::salvage` meets its contract: at each return the tests that led there say which line speaks. Assumes nothing.
use mathlib.Core.Path.{ap}
use native.Mathlib.Omega.{arith}
use Rattle.answer.specs.Outcome.{outcome}
use Rattle.pile.specs.Blocks.{blocks}
use Rattle.salvage.proofs.SayLaws.{is-torn, is-long, is_narrow, is-done}
use Rattle.salvage.proofs.salvage.Goals as goal

pub returns-then-pile-ne0 : goal.returns-then-pile-ne0
returns-then-pile-ne0 c =
    let a = c.args in
    let r = is-torn a.pile.now a.list.now (ap outcome c.refuse.ensures) c.if-pile-ne0.true in
    record { says = r.says; mends = r.mends; lists = r.lists }

pub returns-then-blocks-gt560 : goal.returns-then-blocks-gt560
unfolding blocks
returns-then-blocks-gt560 c =
    let a = c.args in
    let r = is-long a.pile.now a.list.now c.if-pile-ne0.false (ap outcome c.refuse-then-blocks-gt560.ensures) c.if-blocks-gt560.true in
    record { says = r.says; mends = r.mends; lists = r.lists }

pub returns-then-list-blocks : goal.returns-then-list-blocks
unfolding blocks
returns-then-list-blocks c =
    let a = c.args in
    let r = is_narrow a.pile.now a.list.now c.if-pile-ne0.false c.if-blocks-gt560.false (ap outcome c.refuse-then-list-blocks.ensures) c.if-list-blocks.true in
    record { says = r.says; mends = r.mends; lists = r.lists }

pub mend_pile-requires : goal.mend_pile-requires
unfolding blocks
mend_pile-requires c = (c.if-blocks-gt560.false, omega (arith, c.if-list-blocks.false))

pub returns : goal.returns
unfolding blocks
returns c =
    let a = c.args in
    let r = is-done a.pile.now a.list.now c.if-pile-ne0.false c.if-blocks-gt560.false c.if-list-blocks.false _ _ _ c.mend_pile.ensures in
    record { says = r.says; mends = r.mends; lists = r.lists }
