-- `adding::added_values` meets its contract. The invariant: the first i values of the sum stand in front.
-- Assumes nothing.
use Prim.Native.Nat.{◌≤◌}
use mathlib.Core.Path.{◌≡◌}
use lib.ListN.{length}
use Rattle.lists.specs.Run.{run}
use Rattle.lists.specs.Over.{over}
use Rattle.adding.proofs.SumLaws.{value_sum}
use Rattle.adding.proofs.added_values.Given as goal

abbrev pub invariant-loop-i : goal.invariant-loop-i
invariant-loop-i l = (l.w ≤ 16) × (length l.initial.made ≡ 16) × (length l.made ≡ 16) × (l.made ≡ over (run (value_sum l.one l.two) 1 l.i) l.initial.made)
