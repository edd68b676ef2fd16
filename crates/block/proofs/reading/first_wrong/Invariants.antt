-- `block::reading::first_wrong` meets its contract. The invariant: the first wrong word is still to be found from word i on; past word 7 it is
-- the first word past the values that is not 0, the year left aside, or the set's. Assumes nothing.
use mathlib.Core.Path.{◌≡◌}
use mathlib.Core.Bool.{not}
use Prim.Native.Nat.{◌≤◌}
use Rattle.lists.specs.Places.{first_in}
use Rattle.block.specs.Layout.{width_of, right_at, first_wrong}
use Rattle.block.proofs.reading.first_wrong.Given as goal

abbrev pub invariant-loop-i : goal.invariant-loop-i
invariant-loop-i l = (1 ≤ l.i) × (l.i ≤ 8) × (7 ≤ l.i → width_of l.b ≤ 16) × (first_wrong l.b ≡ first_in (λ k. not (right_at l.b k)) l.i 256)
