-- `planning::plan` meets its contract: planning fills a table of empty rows.
-- Assumes nothing.
use Rattle.planning.proofs.RowLaws.{empty_rows}
use Rattle.planning.proofs.plan.Goals as goal

pub plan_into-requires : goal.plan_into-requires
plan_into-requires c = empty_rows
