-- `salvage::mending::value_for` meets its contract: no product exceeds 32 bits. Assumes nothing.
use mathlib.Core.Path.{sym, ◌∙◌}
use Prim.Native.Nat.{◌+◌, ◌-◌, ◌%◌}
use native.Mathlib.Omega.{arith}
use Rattle.prime.proofs.Prime.{inverse-below}
use Rattle.salvage.proofs.ValueLaws.{value_last, value_made, product_low}
use Rattle.salvage.proofs.mending.value_for.Goals as goal

pub returns-then-i-eq256 : goal.returns-then-i-eq256
returns-then-i-eq256 c = let a = c.args in c.other_sum-sum.ensures ∙ sym (value_last a.b.now a.i c.if-i-eq256.true)

pub overflow_mul-result : goal.overflow_mul-result
overflow_mul-result c =
    omega (arith, product_low c.invert.result ((c.word-check.result + (32749 - c.other_sum-sum.result)) % 32749) (rw c.invert.ensures (inverse-below _)) (omega arith))

pub returns : goal.returns
returns c =
    let a = c.args in
    value_made a.b.now a.i _ _ _ c.if-i-eq256.false c.invert.ensures c.other_sum-sum.ensures c.word-check.ensures
