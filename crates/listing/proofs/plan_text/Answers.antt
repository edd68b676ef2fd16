-- `listing::plan_text` meets its contract: the refusal of the text, that of its policy, or the plan. Assumes nothing.
use mathlib.Core.Path.{sym, subst, ◌∙◌}
use Rattle.answer.proofs.PassedOn.{passed_on}
use Rattle.planning.specs.Policy.{policy_of}
use Rattle.policy.specs.Policy.{read_policy}
use Rattle.listing.specs.Inner.{Plans}
use Rattle.listing.specs.Listing.{listed}
use Rattle.listing.proofs.PlanLaws.{read_not, read_lists, not_planned, few_people, few_pieces, listing-is}
use Rattle.listing.proofs.plan_text.Goals as goal

pub returns-in_err-read : goal.returns-in_err-read
unfolding listed
returns-in_err-read c =
    subst (Plans c.args.text.now) (sym (passed_on c.from_residual.ensures.1)) (sym (read_not (read_policy c.args.text.now) _ c.in_err-read.ensures))

pub returns-in_err-plan : goal.returns-in_err-plan
unfolding listed
returns-in_err-plan c =
    let r = c.in_ok-read.read in
    let p = policy_of r.people c.as_slice.result.now c.as_slice-2.result.now in
    subst (Plans c.args.text.now) (sym (passed_on c.from_residual-in_err-plan.ensures.1))
    (sym
    (read_lists (read_policy c.args.text.now) r c.in_ok-read.ensures c.as_slice.ensures.kept c.as_slice-2.ensures.kept
    ∙ not_planned p c.plan.result c.plan.ensures.says c.in_err-plan.was))

pub returns : goal.returns
unfolding listed
returns c =
    let r = c.in_ok-read.read in
    let p = policy_of r.people c.as_slice.result.now c.as_slice-2.result.now in
    let says = c.plan.ensures.says in
    let rows = c.in_ok-plan.ensures.table in (
      few_people p c.plan.result says c.in_ok-plan.was rows,
      few_pieces p c.plan.result says c.in_ok-plan.was rows,
      listing-is p c.plan.result says c.in_ok-plan.was rows
          ∙ sym (read_lists (read_policy c.args.text.now) r c.in_ok-read.ensures c.as_slice.ensures.kept c.as_slice-2.ensures.kept),
    )
