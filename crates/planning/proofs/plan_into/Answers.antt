-- `planning::plan_into` meets its contract: every line has passed, and the table is filled with the maximal groups.
-- Assumes nothing.
use mathlib.Core.Path.{ap, ◌∙◌}
use Rattle.answer.specs.Outcome.{outcome}
use Rattle.answer.proofs.PassedOn.{passed_on}
use Rattle.planning.proofs.PlannedLaws.{check_refuses, clear, refused_plan, filled_plan}
use Rattle.planning.proofs.plan_into.Goals as goal

pub returns-in_err-check : goal.returns-in_err-check
returns-in_err-check c =
    let r = refused_plan _ (check_refuses _ c.check.ensures c.in_err-check.was) c.requires in
    record { says = ap outcome (passed_on c.from_residual.ensures.1) ∙ r.0; table = r.1 }

pub fill-requires : goal.fill-requires
fill-requires c = ((clear _ c.check.ensures c.in_ok-check.was).listed_so.few, c.requires)

pub returns : goal.returns
returns c =
    let r = filled_plan _ (clear _ c.check.ensures c.in_ok-check.was) c.fill.ensures.counts c.fill.ensures.table in
    record { says = r.0; table = r.1 }
