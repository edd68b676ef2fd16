-- `planning::alone` meets its contract: a set of one member stays, any other gives way to nobody. Assumes nothing.
use mathlib.Core.Path.{sym, ◌∙◌}
use Rattle.planning.proofs.sets.alone.Goals as goal

pub returns-then-one_member : goal.returns-then-one_member
returns-then-one_member c = rw (sym c.one_member.ensures ∙ c.if-one_member.true)

pub returns-else-one_member : goal.returns-else-one_member
returns-else-one_member c = rw (sym c.one_member.ensures ∙ c.if-one_member.false)
