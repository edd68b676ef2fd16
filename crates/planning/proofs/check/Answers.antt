-- `planning::check` meets its contract: a refusal of the lists is kept; else CLASH speaks.
-- Assumes nothing.
use mathlib.Core.Path.{ap, ◌∙◌}
use Rattle.answer.specs.Outcome.{checked}
use Rattle.answer.proofs.PassedOn.{passed_on}
use Rattle.planning.proofs.PlannedLaws.{lists_refuse, clash_speaks}
use Rattle.planning.proofs.check.Goals as goal

pub returns-in_err-check_lists : goal.returns-in_err-check_lists
returns-in_err-check_lists c = ap checked (passed_on c.from_residual.ensures.1) ∙ lists_refuse _ c.check_lists.ensures c.in_err-check_lists.was

pub returns : goal.returns
returns c = clash_speaks _ c.check_lists.ensures c.in_ok-check_lists.was c.check_clash.ensures
