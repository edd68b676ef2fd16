-- `desk::checks::check_open` meets its contract: the first test that holds speaks. Assumes nothing.
use mathlib.Core.Path.{sym, ap, ◌∙◌}
use mathlib.Core.Bool.{not}
use Rattle.answer.specs.Outcome.{checked}
use Rattle.answer.proofs.SaysLaws.{whole, passes, speaks, silent}
use Rattle.desk.specs.Lines.{close_lines}
use Rattle.desk.proofs.checks.check_open.Goals as goal

pub returns-then-no_client : goal.returns-then-no_client
unfolding close_lines
returns-then-no_client c = ap checked c.refuse.ensures ∙ speaks (whole _) (sym c.no_client.ensures ∙ c.if-no_client.true)

pub returns-then-not-accepted : goal.returns-then-not-accepted
unfolding close_lines
returns-then-not-accepted c =
    let l = passes (whole _) (sym c.no_client.ensures ∙ c.if-no_client.false) in
    ap checked c.refuse-then-not-accepted.ensures ∙ speaks l (ap not (sym c.accepted.ensures ∙ c.if-not-accepted.true))

pub returns : goal.returns
unfolding close_lines
returns c =
    let l = passes (whole _) (sym c.no_client.ensures ∙ c.if-no_client.false) in
    silent (passes l (ap not (sym c.accepted.ensures ∙ c.if-not-accepted.false)))
