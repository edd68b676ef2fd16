-- `desk::checks::reserved` meets its contract. Assumes nothing.
use mathlib.Core.Path.{sym, ◌∙◌}
use Rattle.desk.proofs.WordLaws.{ranged}
use Rattle.desk.proofs.checks.reserved.Goals as goal

pub returns-then-accepted : goal.returns-then-accepted
returns-then-accepted c =
    let e = sym c.accepted.ensures ∙ c.if-accepted.true in
    (simp e, (ranged c.args.o e).pieces.1)
