-- `holdings::holders::way` meets its contract: its four returns are the four cases.
-- Assumes nothing.
use mathlib.Core.Path.{sym, ◌∙◌}
use borrow.Author.Tests.{lt-ltb, le-ltb}
use Rattle.holdings.specs.Inner.{way_in}
use Rattle.holdings.proofs.holders.way.Goals as goal

pub returns-then-count-needed : goal.returns-then-count-needed
unfolding way_in
returns-then-count-needed c = rw (sym c.authorised.ensures ∙ c.if-authorised.true, ← c.have-count.ensures, lt-ltb _ _ c.if-count-needed.true)

pub returns-else-count-needed : goal.returns-else-count-needed
unfolding way_in
returns-else-count-needed c = rw (sym c.authorised.ensures ∙ c.if-authorised.true, ← c.have-count.ensures, le-ltb _ _ c.if-count-needed.false)

pub returns-then-count-needed-2 : goal.returns-then-count-needed-2
unfolding way_in
returns-then-count-needed-2 c = rw (sym c.authorised.ensures ∙ c.if-authorised.false, ← c.have-count.ensures, lt-ltb _ _ c.if-count-needed-2.true)

pub returns-else-count-needed-2 : goal.returns-else-count-needed-2
unfolding way_in
returns-else-count-needed-2 c = rw (sym c.authorised.ensures ∙ c.if-authorised.false, ← c.have-count.ensures, le-ltb _ _ c.if-count-needed-2.false)
