-- `joining::checks::check_conflict` meets its contract. The invariant: the first block unlike the first of its set or of its piece lies from a on.
-- Assumes nothing.
use mathlib.Core.Path.{◌≡◌}
use Prim.Native.Nat.{◌+◌}
use Rattle.lists.specs.Places.{first_in}
use Rattle.pile.specs.Blocks.{blocks}
use Rattle.joining.specs.Checks.{conflict_at}
use Rattle.joining.proofs.ConflictLaws.{apart}
use Rattle.joining.proofs.checks.check_conflict.Given as goal

abbrev pub invariant-loop-a : goal.invariant-loop-a
invariant-loop-a l = let p = l.sorted.pile.now in conflict_at p ≡ first_in (apart p) l.a (blocks p + 1)
