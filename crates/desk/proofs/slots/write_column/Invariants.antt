-- `desk::slots::write_column` meets its contract. The invariant: the values of the first j pieces are written.
-- Assumes nothing.
use mathlib.Core.Path.{◌≡◌}
use Rattle.lists.specs.Over.{over}
use Rattle.lists.specs.Run.{run}
use Rattle.desk.specs.Slots.{value_in}
use Rattle.desk.proofs.slots.write_column.Given as goal

abbrev pub invariant-loop-j : goal.invariant-loop-j
invariant-loop-j l = l.values ≡ over (run (λ m. value_in l.slots l.client m l.i) 1 l.j) l.initial.values
