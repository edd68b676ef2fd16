-- `field::differences::subtract` meets its contract: the remainder of a number below p, and of one of p more.
-- Assumes nothing.
use native.Mathlib.Omega.{arith}
use Rattle.prime.specs.Prime.{minus}
use Rattle.field.proofs.differences.subtract.Goals as goal

pub returns-then-b-a : goal.returns-then-b-a
unfolding minus
returns-then-b-a c = omega arith

pub returns-else-b-a : goal.returns-else-b-a
unfolding minus
returns-else-b-a c = omega arith
