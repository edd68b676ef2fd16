-- `planning::checks::check_clash` meets its contract: CLASH is given at the first required set that lies inside a forbidden one.
-- Assumes nothing.
use mathlib.Core.Path.{ap, ◌∙◌}
use native.Mathlib.Omega.{arith}
use Rattle.answer.specs.Outcome.{checked}
use Rattle.planning.specs.Sets.{inside}
use Rattle.lists.proofs.AheadLaws.{start, next, end}
use Rattle.lists.proofs.PositionLaws.{position_not}
use Rattle.planning.proofs.ClashLaws.{clash_at, no_clash}
use Rattle.planning.proofs.checks.check_clash.Goals as goal

pub loop-i-init : goal.loop-i-init
loop-i-init c = start _ _

pub returns-in-Some : goal.returns-in-Some
returns-in-Some c = ap checked c.refuse.ensures ∙ clash_at c.args.required.now c.args.forbidden.now c.loop-i.invariant c.loop-i-test.true c.first_around.ensures c.in-Some.is

pub loop-i-preserved : goal.loop-i-preserved
loop-i-preserved c = next c.loop-i.invariant c.loop-i-test.true (position_not (inside _) c.args.forbidden.now c.first_around.ensures c.in_default.is)

pub returns : goal.returns
returns c = no_clash c.args.required.now c.args.forbidden.now (end c.loop-i.invariant (omega (arith, c.loop-i-test.false)))
