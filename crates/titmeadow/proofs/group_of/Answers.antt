-- `titmeadow::group_of` meets its contract: what each mark is worth.
-- Assumes nothing.
use native.Mathlib.Omega.{arith}
use Rattle.titmeadow.specs.Inner.{number_of}
use Rattle.titmeadow.proofs.group_of.Goals as goal

pub returns : goal.returns
unfolding number_of
returns c =
    omega (arith, c.worth.ensures.0, c.worth-2.ensures.0, c.worth-3.ensures.0, c.worth-4.ensures.0, c.worth-5.ensures.0, c.worth-6.ensures.0, c.worth-7.ensures.0, c.worth-8.ensures.0)
