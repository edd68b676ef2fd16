-- `desk::calls::opened` meets its contract: the checks speak, and a result stores the words.
-- Assumes nothing.
use mathlib.Core.Path.{sym, ap, ◌∙◌}
use Rattle.answer.specs.Outcome.{outcome}
use Rattle.answer.proofs.PassedOn.{passed_on}
use Rattle.desk.specs.Parts.{put, open_in}
use Rattle.desk.proofs.NextLaws.{by_done, by_refused}
use Rattle.desk.proofs.ChainLaws.{open_stops, open_goes}
use Rattle.desk.proofs.calls.opened.Goals as goal

pub returns-in_err-check_opening : goal.returns-in_err-check_opening
returns-in_err-check_opening c =
    let g = c.args in
    let e = open_stops g.both.now g.client g.new c.check_opening.ensures c.in_err-check_opening.was in
    (ap outcome (passed_on c.from_residual.ensures.1) ∙ sym e, sym (by_refused (open_in g.both.now g.client g.new) (put g.both.now g.client g.new) g.both.now _ _ _ e))

pub returns : goal.returns
returns c =
    let g = c.args in
    let e = open_goes g.both.now g.client g.new c.check_opening.ensures c.in_ok-check_opening.was in
    (sym e, c.put.ensures ∙ sym (by_done (open_in g.both.now g.client g.new) (put g.both.now g.client g.new) g.both.now _ e))
