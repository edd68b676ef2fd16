-- `block::weigh` meets its contract: one word adds at most 255 times 32748. Assumes nothing.
use Prim.Native.Nat.{◌*◌, ◌≤◌}
use mathlib.Core.Path.{refl}
use native.Mathlib.Nat.{mul-le-mul}
use native.Mathlib.Omega.{arith}
use Rattle.block.proofs.weigh.Goals as goal

pub overflow_mul-result : goal.overflow_mul-result
overflow_mul-result c = let term : c.args.i * c.args.v ≤ 255 * 32748 = mul-le-mul c.requires.le_i.1 c.requires.v_bound in
    omega (arith, term)

pub overflow_add-result : goal.overflow_add-result
overflow_add-result c = let term : c.args.i * c.args.v ≤ 255 * 32748 = mul-le-mul c.requires.le_i.1 c.requires.v_bound in
    omega (arith, term)

pub returns : goal.returns
returns c = let term : c.args.i * c.args.v ≤ 255 * 32748 = mul-le-mul c.requires.le_i.1 c.requires.v_bound in
    (refl, omega (arith, term))
