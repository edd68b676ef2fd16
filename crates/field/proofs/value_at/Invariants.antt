-- `field::value_at` meets its contract. The invariant: acc is, mod p, the value of the coefficients past those that are left.
-- Assumes nothing.
use lib.ListN.{length, drop}
use Rattle.field.specs.Poly.{value}
use Rattle.prime.proofs.Mod.{◌≈◌}
use Rattle.field.proofs.BackLaws.{Front}
use Rattle.field.proofs.value_at.Given as goal

abbrev pub invariant-loop-coefficient : goal.invariant-loop-coefficient
invariant-loop-coefficient l =
    let left = l.coefficient-iterator.iter.rest.now in
    Front l.coefficients left × (l.acc ≈ value (drop (length left) l.coefficients) l.x)
