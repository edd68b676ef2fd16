-- `field::weight_of` meets its contract. The invariant: above and below are the products over the pieces before i.
-- Assumes nothing.
use mathlib.Core.Path.{◌≡◌}
use Prim.Native.Nat.{◌-◌}
use Rattle.field.specs.Lagrange.{product}
use Rattle.field.proofs.weight_of.Given as goal

abbrev pub invariant-loop-i : goal.invariant-loop-i
invariant-loop-i l = (l.above ≡ product l.j 0 (l.i - 1)) × (l.below ≡ product l.j l.j (l.i - 1))
