-- `block::reading::search_filled` meets its contract. The invariant: the first word that is not 0 is still to be found from word i on. Assumes nothing.
use mathlib.Core.Path.{◌≡◌}
use Prim.Native.Nat.{◌≤◌}
use Rattle.lists.specs.Places.{first_in}
use Rattle.block.specs.Inner.{filled}
use Rattle.block.proofs.reading.search_filled.Given as goal

abbrev pub invariant-loop-i : goal.invariant-loop-i
invariant-loop-i l = (1 ≤ l.i) × (first_in (filled l.b) l.start l.end ≡ first_in (filled l.b) l.i l.end)
