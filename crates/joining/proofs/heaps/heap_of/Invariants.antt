-- `joining::heaps::heap_of` meets its contract. The invariant: the size counts the blocks of the deal before block a.
-- Assumes nothing.
use mathlib.Core.Path.{◌≡◌}
use Rattle.joining.proofs.HeapLaws.{counted}
use Rattle.joining.proofs.heaps.heap_of.Given as goal

abbrev pub invariant-loop-a : goal.invariant-loop-a
invariant-loop-a l = l.size ≡ counted l.pile l.d l.a
