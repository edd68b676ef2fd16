-- `field::differences::write_firsts` meets its contract. The invariant: the numbers before place m stand as they will, and the first numbers
-- of the row from there on are still to come. Assumes nothing.
use Prim.Native.Nat.{◌-◌}
use Rattle.field.proofs.RowLaws.{Rowed}
use Rattle.field.proofs.differences.write_firsts.Given as goal

abbrev pub invariant-loop-m : goal.invariant-loop-m
invariant-loop-m l = Rowed l.initial.row l.row (l.m - 1)
