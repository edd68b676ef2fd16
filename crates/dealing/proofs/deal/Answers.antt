-- `dealing::deal` meets its contract: a refusal of planning is kept; else the planned deal speaks.
-- Assumes nothing.
use mathlib.Core.Path.{sym, ap, ◌∙◌}
use Rattle.answer.specs.Outcome.{outcome}
use Rattle.answer.proofs.PassedOn.{passed_on}
use Rattle.planning.proofs.RowLaws.{empty_rows}
use Rattle.dealing.specs.Given.{deal_in}
use Rattle.dealing.proofs.DealLaws.{refused_deal, refused_out, plan_gives, deals}
use Rattle.dealing.proofs.deal.Goals as goal

pub plan_into-requires : goal.plan_into-requires
plan_into-requires c = empty_rows

pub returns-in_err-k : goal.returns-in_err-k
returns-in_err-k c =
    let d = deal_in c.args.deal in
    let e = sym c.plan_into.ensures.says ∙ ap outcome c.in_err-k.was in
    record { says = ap outcome (passed_on c.from_residual.ensures.1) ∙ refused_deal d _ _ _ e c.args.holder _; leaves = refused_out d _ _ _ e c.args.holder c.args.out.now }

pub deal_planned-requires : goal.deal_planned-requires
deal_planned-requires c =
    plan_gives (deal_in c.args.deal) _ (sym c.plan_into.ensures.says ∙ ap outcome c.in_ok-k.was)

pub returns : goal.returns
returns c =
    let w = c.deal_planned in
    let both = deals (deal_in c.args.deal) _ (sym c.plan_into.ensures.says ∙ ap outcome c.in_ok-k.was) _ c.plan_into.ensures.table c.args.holder (outcome w.result)
    c.args.out.now _ w.ensures.says w.ensures.leaves in
    record { says = both.0; leaves = both.1 }
