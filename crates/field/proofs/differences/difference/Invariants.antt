-- `field::differences::difference` meets its contract. The invariant: the numbers from place i on have given way, those before it stand.
-- Assumes nothing.
use Prim.Native.Nat.{◌≤◌}
use lib.ListN.{length}
use Rattle.field.proofs.RowLaws.{Differenced}
use Rattle.field.proofs.differences.difference.Given as goal

abbrev pub invariant-loop-i : goal.invariant-loop-i
invariant-loop-i l = (l.m ≤ l.i) × (l.i ≤ length l.initial.row) × Differenced l.initial.row l.i l.row
