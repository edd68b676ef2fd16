-- `planning::sets::authorised` meets its contract: some set of those still ahead lies inside the group exactly where some required set does.
-- Assumes nothing.
use mathlib.Core.Bool.{Bool}
use Prim.Native.Nat.{ℕ}
use Rattle.planning.specs.Sets.{inside}
use Rattle.planning.proofs.LoopLaws.{SomeAhead}
use Rattle.planning.proofs.sets.authorised.Given as goal

-- the sets inside the group g
abbrev pub within : ℕ → ℕ → Bool
within g r = inside r g

abbrev pub invariant-loop-i : goal.invariant-loop-i
invariant-loop-i l = SomeAhead (within l.g) l.required l.i
