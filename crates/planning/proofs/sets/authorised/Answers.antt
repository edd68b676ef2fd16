-- `planning::sets::authorised` meets its contract: some set of those still ahead lies inside the group exactly where some required set does.
-- Assumes nothing.
use mathlib.Core.Path.{sym, ◌∙◌}
use native.Mathlib.Omega.{arith}
use Rattle.planning.specs.Groups.{authorised}
use Rattle.planning.proofs.LoopLaws.{some-start, some_here, some_next, some_end}
use Rattle.planning.proofs.sets.authorised.Goals as goal

pub loop-i-init : goal.loop-i-init
loop-i-init c = some-start _ _

pub returns-then-inside : goal.returns-then-inside
unfolding authorised
returns-then-inside c = some_here c.loop-i.invariant (omega arith) (sym c.inside.ensures ∙ c.if-inside.true)

pub loop-i-preserved : goal.loop-i-preserved
loop-i-preserved c = some_next c.loop-i.invariant (omega arith) (sym c.inside.ensures ∙ c.if-inside.false)

pub returns : goal.returns
unfolding authorised
returns c = some_end c.loop-i.invariant (omega arith)
