-- `holdings::judge_list` meets its contract: the first group that is not right gives the verdict.
-- Assumes nothing.
use mathlib.Core.Path.{refl, sym, ap, ◌∙◌}
use native.Mathlib.Omega.{arith}
use Rattle.std.specs.Prelude.{Some}
use Rattle.lists.proofs.FirstLaws.{first_hit, first_miss, first-none, found_some, found_none}
use Rattle.holdings.specs.Holdings.{list_in}
use Rattle.holdings.proofs.VerdictLaws.{wrong, side_few, side_many, side_none, says-suits, says-few, says_many, group_lt}
use Rattle.holdings.proofs.judge_list.Goals as goal

pub holder_sets-sets-requires : goal.holder_sets-sets-requires
holder_sets-sets-requires c =
    let h = c.requires.1 in
    (omega (arith, h.same-people, c.requires.0), h.few-pieces, rw h.same-people h.full)

pub loop-g-init : goal.loop-g-init
loop-g-init c = (omega arith, refl)

pub way-requires : goal.way-requires
way-requires c = (c.requires.1.few-pieces, group_lt _ _ _ c.requires.0 c.group_count-g-end.ensures c.loop-g-test.true)

pub returns-in-Some-Few : goal.returns-in-Some-Few
returns-in-Some-Few c =
    let a = c.args in
    let l = c.loop-g in
    let w = side_few _ c.way.ensures (c.in-Some-Few.is ∙ ap Some c.in-Some-Few.field-0-is) in
    let h = l.invariant.1 ∙ first_hit (wrong _ _ _ _) l.g _ (omega (arith, c.loop-g-test.true, c.group_count-g-end.ensures)) (found_some (λ z. omega (arith, w, z))) in
    says-few _ _ (list_in a.list) _ c.holder_sets-sets.ensures _ _ (sym h) (λ z. omega (arith, l.invariant.0, z)) refl w

pub returns-in-Some-Many : goal.returns-in-Some-Many
returns-in-Some-Many c =
    let a = c.args in
    let l = c.loop-g in
    let w = side_many _ c.way.ensures (c.in-Some-Many.is ∙ ap Some c.in-Some-Many.field-0-is) in
    let h = l.invariant.1 ∙ first_hit (wrong _ _ _ _) l.g _ (omega (arith, c.loop-g-test.true, c.group_count-g-end.ensures)) (found_some w.0) in
    says_many _ _ (list_in a.list) _ c.holder_sets-sets.ensures _ _ (sym h) (λ z. omega (arith, l.invariant.0, z)) refl w.1

pub loop-g-preserved : goal.loop-g-preserved
loop-g-preserved c =
    let l = c.loop-g in (
      omega (arith, l.invariant.0),
      l.invariant.1 ∙ first_miss (wrong _ _ _ _) l.g _ (omega (arith, c.loop-g-test.true, c.group_count-g-end.ensures)) (found_none (side_none _ c.way.ensures c.in-None.is)),
    )

pub returns : goal.returns
returns c =
    let a = c.args in
    let l = c.loop-g in
    says-suits _ _ (list_in a.list) _ c.holder_sets-sets.ensures _ refl
    (l.invariant.1 ∙ first-none (wrong _ _ _ _) l.g _ (omega (arith, c.loop-g-test.false, c.group_count-g-end.ensures)))
