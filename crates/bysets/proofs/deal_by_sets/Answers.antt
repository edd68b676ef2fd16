-- `bysets::deal_by_sets` meets its contract: a refusal of planning is kept; else the deal of the minimal sets speaks.
-- Assumes nothing.
use mathlib.Core.Path.{ap, ◌∙◌}
use Rattle.answer.specs.Outcome.{outcome}
use Rattle.answer.proofs.PassedOn.{passed_on}
use Rattle.dealing.specs.Given.{deal_in}
use Rattle.bysets.proofs.DealLaws.{lent-sets, known, minimals-proper, refused_deal, plan_passed, deals}
use Rattle.bysets.proofs.deal_by_sets.Goals as goal

pub returns-in_err-check : goal.returns-in_err-check
returns-in_err-check c =
    let both = refused_deal (deal_in c.args.deal) c.args.holder c.check.ensures c.in_err-check.was c.args.out.now in
    record { says = ap outcome (passed_on c.from_residual.ensures.1) ∙ both.0; leaves = both.1 }

pub minimal_sets-sets-requires : goal.minimal_sets-sets-requires
minimal_sets-sets-requires c =
    (known _ (plan_passed (deal_in c.args.deal) c.args.holder c.check.ensures c.in_ok-check.was)).few

pub deal_sets-requires : goal.deal_sets-requires
deal_sets-requires c =
    let p = c.args.deal.policy in
    let made = c.minimal_sets-sets in
    let k = known _ (plan_passed (deal_in c.args.deal) c.args.holder c.check.ensures c.in_ok-check.was) in
    record {
      people_bound = k.few;
      proper = rw (lent-sets _ _ made.ensures.counts made.ensures.lists) (minimals-proper p.people p.required.now k);
    }

pub returns : goal.returns
returns c =
    let made = c.minimal_sets-sets in
    let w = c.deal_sets in
    let both = deals (deal_in c.args.deal) c.args.holder c.check.ensures c.in_ok-check.was _ (lent-sets _ _ made.ensures.counts made.ensures.lists)
    (outcome w.result) c.args.out.now _ w.ensures.says w.ensures.leaves in
    record { says = both.0; leaves = both.1 }
