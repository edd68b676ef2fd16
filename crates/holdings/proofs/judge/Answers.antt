-- `holdings::judge` meets its contract: planning's refusal is kept, then ROWS speaks, then the list in order is judged.
-- Assumes nothing.
use mathlib.Core.Path.{◌≡◌, sym, ap, ◌∙◌}
use mathlib.Core.Bool.{Bool, false}
use Prim.Native.Nat.{ℕ}
use Rattle.answer.specs.Outcome.{done}
use Rattle.answer.proofs.PassedOn.{passed_on}
use Rattle.planning.proofs.PlannedLaws.{check_refuses, clear}
use Rattle.holdings.specs.Holdings.{Holdings}
use Rattle.holdings.specs.Judged.{wrong_rows, judged}
use Rattle.holdings.specs.Laws.{InOrder}
use Rattle.holdings.proofs.RowLaws.{rows_exactly}
use Rattle.holdings.proofs.VerdictLaws.{as_planned, rows_refuse, then_verdict}
use Rattle.holdings.proofs.judge.Goals as goal

-- ROWS has not spoken: the list is in order
in_order : {n : ℕ} {l : Holdings} {b : Bool} → b ≡ wrong_rows n l → b ≡ false → InOrder n l
in_order {n} {l} says e = (rows_exactly n l).0 (sym says ∙ e)

pub returns-in_err-check : goal.returns-in_err-check
returns-in_err-check c =
    ap judged (passed_on c.from_residual.ensures.1) ∙ sym (as_planned _ _ _ _ _ (sym (check_refuses _ c.check.ensures c.in_err-check.was)))

pub wrong_rows-requires : goal.wrong_rows-requires
wrong_rows-requires c = (clear _ c.check.ensures c.in_ok-check.was).listed_so.few

pub returns-then-wrong_rows : goal.returns-then-wrong_rows
returns-then-wrong_rows c =
    ap judged c.refuse.ensures
    ∙ sym (rows_refuse _ _ (clear _ c.check.ensures c.in_ok-check.was).then (sym c.wrong_rows.ensures ∙ c.if-wrong_rows.true))

pub judge_list-requires : goal.judge_list-requires
judge_list-requires c =
    ((clear _ c.check.ensures c.in_ok-check.was).listed_so.few, in_order c.wrong_rows.ensures c.if-wrong_rows.false)

pub returns : goal.returns
returns c =
    ap done c.judge_list.ensures
    ∙ sym (then_verdict _ _ (clear _ c.check.ensures c.in_ok-check.was).then (sym c.wrong_rows.ensures ∙ c.if-wrong_rows.false))
