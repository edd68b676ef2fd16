-- `field::invert` meets its contract. The invariant: r is a·s mod p, and neither 0 nor above 32748.
-- Assumes nothing.
use Prim.Native.Nat.{◌*◌, ◌<◌}
use Rattle.prime.specs.Prime.{p}
use Rattle.prime.proofs.Mod.{◌≈◌}
use Rattle.field.proofs.invert.Given as goal

abbrev pub invariant-loop-r : goal.invariant-loop-r
invariant-loop-r l = (0 < l.r) × (l.r < p) × (l.s < p) × (l.r ≈ l.a * l.s)

abbrev pub decreases-loop-r : goal.decreases-loop-r
decreases-loop-r l = l.r
