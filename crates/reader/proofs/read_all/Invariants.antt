-- `reader::read_all` meets its contract. The invariant: the blocks after the passed ones are still to speak. Assumes nothing.
use mathlib.Core.Path.{◌≡◌}
use Prim.Native.Nat.{◌-◌}
use Rattle.pile.specs.Blocks.{blocks}
use Rattle.reader.proofs.ReadingLaws.{Ahead}
use Rattle.reader.proofs.read_all.Given as goal

abbrev pub invariant-loop-seen : goal.invariant-loop-seen
invariant-loop-seen l = (l.r.pile.now ≡ l.pile) × Ahead l.pile l.r.block

abbrev pub decreases-loop-seen : goal.decreases-loop-seen
decreases-loop-seen l = blocks l.pile - l.r.block
