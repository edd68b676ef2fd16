-- What an accepted policy has, and the rows of any plan.
-- Assumes nothing.
use mathlib.Core.Path.{◌≡◌, sym, ap, ◌∙◌}
use Prim.Native.Nat.{ℕ}
use native.Mathlib.Omega.{arith}
use lib.ListN.{get_or}
use Rattle.lists.proofs.ThoseLaws.{at_in}
use Rattle.answer.specs.Outcome.{Outcome, done}
use Rattle.answer.specs.Laws.{Passed}
use Rattle.answer.proofs.CheckLaws.{passed-append, done-passed}
use Rattle.planning.specs.Groups.{groups, piece_count, rows_of}
use Rattle.planning.specs.Policy.{Policy, policy_of}
use Rattle.planning.specs.Planned.{list_lines, plan_lines, planned, rows_for, planned_rows}
use Rattle.planning.specs.Laws.{AcceptedListed, SomePiece, ForbiddenFree, RowsMean, RefusedRows}
use Rattle.planning.proofs.HoldingLaws.{some-piece, two_pieces}
use Rattle.planning.proofs.ApartLaws.{few-rows}
use Rattle.planning.proofs.ListedLaws.{listed}
use Rattle.planning.proofs.PlannedLaws.{end}
use Rattle.planning.proofs.RowLaws.{row-marks, row_past, no_marks}

-- every line has passed, and k is the number of pieces
accepted : (p : Policy) (k : ℕ) → planned p ≡ done k
    → Passed (plan_lines p) × (piece_count p.people p.required ≡ k)
unfolding planned
accepted p k e =
    let r = done-passed (plan_lines p) (end p) k e in
    let count : piece_count p.people p.required ≡ k = cc r.1 in
    (r.0, count)

pub accepted-listed : AcceptedListed
unfolding plan_lines
accepted-listed p k e =
    listed p (passed-append (list_lines p) (accepted p k e).0).0

pub some-pieces : SomePiece
some-pieces p k e =
    let r = accepted p k e in
    let l = accepted-listed p k e in
    let few = few-rows p.people p.required l.few in
    let one = some-piece p.people p.required l.few l.known-required l.none_empty in
    let two = two_pieces p.people p.required l.few l.known-required l.none_alone (get_or p.required 0 0) (at_in 0 p.required 0 l.some-required) one in
    (sym r.1, omega arith, omega arith)

-- ---- rows
accepted-rows : (p : Policy) (k : ℕ) → planned p ≡ done k
    → planned_rows p ≡ rows_of (groups p.people p.required)
unfolding planned_rows
accepted-rows p k e = ap (λ (o : Outcome ℕ). rows_for o (groups p.people p.required)) e

pub rows_mean : RowsMean
rows_mean p k e i j low high least =
    let c = (accepted p k e).1 in
    rw (accepted-rows p k e)
    ((λ h. row-marks (groups p.people p.required) i j low high least (omega arith)), (λ h. row_past (groups p.people p.required) i j (omega arith)))

pub refused-rows : RefusedRows
unfolding planned_rows
refused-rows p m a b e i j = rw e (no_marks i j)

pub forbidden_free : ForbiddenFree
forbidden_free p others k l e f =
    let q = policy_of p.people p.required others in
    (sym (accepted p k e).1 ∙ (accepted q l f).1, accepted-rows p k e ∙ sym (accepted-rows q l f))
