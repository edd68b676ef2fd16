-- `planning::groups::maximal` meets its contract: the sets still ahead say, with what was found, the same as the whole required list.
-- Assumes nothing.
use mathlib.Core.Path.{ap, ◌∙◌}
use mathlib.Core.Bool.{not}
use Prim.Native.Nat.{ℕ, ◌≤◌}
use native.Mathlib.Omega.{arith}
use Rattle.planning.specs.Sets.{inside}
use Rattle.planning.proofs.GroupLaws.{walk_start, walk_next, walk_inside, walk_end}
use Rattle.planning.proofs.groups.maximal.Goals as goal

pub loop-set-init : goal.loop-set-init
loop-set-init c = walk_start _ _

pub loop-set-preserved : goal.loop-set-preserved
loop-set-preserved c =
    walk_next c.loop-set.invariant c.loop-set-test.true c.lacking-lacks.ensures c.alone.ensures c.either-found.ensures

pub returns-else-not-within : goal.returns-else-not-within
returns-else-not-within c = ap not c.if-not-within.false ∙ walk_inside c.loop-set.invariant _ c.if-not-within.false

pub returns-then-not-within : goal.returns-then-not-within
returns-then-not-within c =
    let l = c.loop-set in
    let few : c.args.people ≤ 16 = omega (arith, c.requires) in
    c.inside.ensures ∙ ap (λ (s : ℕ). inside s l.found) c.everyone.ensures ∙ walk_end l.invariant _ few c.loop-set-test.false c.if-not-within.true
