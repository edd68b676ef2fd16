-- `titmeadow::titmeadow_plan` meets its contract: the rows of an accepted plan give the groups of its pieces.
-- Assumes nothing.
use mathlib.Core.Path.{◌≡◌, sym, ap, ◌∙◌}
use mathlib.Core.List.{List, map}
use mathlib.Core.Bool.{Bool}
use Prim.Native.Nat.{ℕ}
use native.Mathlib.Omega.{arith}
use lib.ListN.{length, take}
use Rattle.answer.specs.Outcome.{outcome, done}
use Rattle.lists.specs.Over.{over}
use Rattle.answer.proofs.LentLaws.{result_writes, refusal_keeps}
use Rattle.planning.specs.Groups.{groups}
use Rattle.planning.specs.Policy.{Policy, policy_of}
use Rattle.planning.specs.Planned.{planned}
use Rattle.planning.proofs.Laws.{some-piece}
use Rattle.planning.proofs.RowLaws.{empty_rows}
use Rattle.titmeadow.specs.Said.{said}
use Rattle.titmeadow.specs.Inner.{number_of}
use Rattle.titmeadow.proofs.RowLaws.{rows-numbers, rows_seventy}
use Rattle.titmeadow.proofs.titmeadow_plan.Goals as goal

pub plan_into-requires : goal.plan_into-requires
plan_into-requires c = empty_rows

pub write_groups-requires : goal.write_groups-requires
write_groups-requires c = let policy : Policy = policy_of c.args.people c.args.required.now c.args.forbidden.now in
    let accepted : planned policy ≡ done c.in-Ok.k = sym c.plan_into.ensures.says ∙ ap outcome c.in-Ok.is in
    ((some-piece _ _ accepted).2, ap length c.plan_into.ensures.table ∙ rows_seventy _ _ accepted, omega arith)

pub returns-in-Ok-clause-leaves : goal.returns-in-Ok-clause-leaves
returns-in-Ok-clause-leaves c =
    let policy : Policy = policy_of c.args.people c.args.required.now c.args.forbidden.now in
    let accepted : planned policy ≡ done c.in-Ok.k = sym c.plan_into.ensures.says ∙ ap outcome c.in-Ok.is in
    let a = c.args in
    c.write_groups.ensures
    ∙ ap (λ (r : List (List Bool)). over (map number_of (take c.in-Ok.k r)) a.groups.now) c.plan_into.ensures.table
    ∙ ap (λ (l : List ℕ). over l a.groups.now) (rows-numbers _ _ accepted)
    ∙ sym (result_writes (planned policy) _ (groups a.people a.required.now) a.groups.now accepted)

pub returns-in-Err-clause-leaves : goal.returns-in-Err-clause-leaves
returns-in-Err-clause-leaves c =
    let policy : Policy = policy_of c.args.people c.args.required.now c.args.forbidden.now in
    let a = c.args in
    let e = sym c.plan_into.ensures.says ∙ ap outcome c.in-Err.is in
    sym (refusal_keeps (planned policy) _ _ _ (groups a.people a.required.now) a.groups.now e)
