-- `joining::heaps::own_block` meets its contract. The invariant: of the blocks before block a, the own one is the first in a largest heap.
-- Assumes nothing.
use mathlib.Core.Path.{◌≡◌}
use Rattle.joining.specs.Pile.{heap}
use Rattle.joining.proofs.HeapLaws.{Best}
use Rattle.joining.proofs.heaps.own_block.Given as goal

abbrev pub invariant-loop-a : goal.invariant-loop-a
invariant-loop-a l = Best l.pile l.a l.own × (l.most ≡ heap l.pile l.own)
