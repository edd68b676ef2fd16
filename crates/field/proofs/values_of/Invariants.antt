-- `field::values_of` meets its contract: the values made and those to come are all.
-- Assumes nothing.
use Rattle.field.proofs.ValuesMade.{Valued}
use Rattle.field.proofs.values_of.Given as goal

abbrev pub invariant-loop-i : goal.invariant-loop-i
invariant-loop-i l = Valued l.secret l.random l.q l.j l.made l.i
