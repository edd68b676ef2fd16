-- This room's laws, proved: each by its name in specs/Laws.antt. Assumes nothing.
use native.Mathlib.Nat.{pos_of_ne-zero}
use native.Mathlib.Omega.{arith}
use Rattle.prime.specs.Laws as law
use Rattle.prime.proofs.Prime as prime

pub no_divisor : law.NoDivisor
no_divisor m h l e = omega (arith, prime.no_divisor m h l)

pub inverse-right : law.InverseRight
inverse-right a h = ((prime.inverse-right a (pos_of_ne-zero h)).same, prime.inverse-below a)
