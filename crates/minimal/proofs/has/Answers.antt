-- `minimal::has` meets its contract: the digit that person i is worth. Assumes nothing.
use mathlib.Core.Path.{ap}
use lib.Dec.{eqb}
use Prim.Native.Nat.{ℕ, ◌-◌}
use Rattle.std.proofs.lemmas.Nat.Bits.{shr_and_one}
use Rattle.planning.specs.Sets.{member}
use Rattle.minimal.proofs.has.Goals as goal

pub returns : goal.returns
unfolding member
returns c = ap (λ (x : ℕ). eqb x 1) (shr_and_one c.args.set (c.args.i - 1))
