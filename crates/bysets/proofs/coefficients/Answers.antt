-- `bysets::coefficients` meets its contract: total is the coefficients of the first sets. Assumes nothing.
use native.Mathlib.Nat.{le_refl}
use native.Mathlib.Omega.{arith}
use Rattle.bysets.proofs.SizeLaws.{counting_start, counting_next, counting_small, counted_in}
use Rattle.bysets.proofs.coefficients.Goals as goal

pub loop-set-init : goal.loop-set-init
loop-set-init c = counting_start _

pub overflow_sub-total : goal.overflow_sub-total
overflow_sub-total c =
    omega (arith, (counted_in (le_refl 8) c.requires c.loop-set.invariant c.loop-set-test.true _ c.members.ensures).0)

pub overflow_add-total : goal.overflow_add-total
overflow_add-total c =
    let p = c.requires in
    omega (
      arith,
      (counted_in (le_refl 8) p c.loop-set.invariant c.loop-set-test.true _ c.members.ensures).1,
      counting_small (le_refl 8) p c.loop-set.invariant,
    )

pub loop-set-preserved : goal.loop-set-preserved
loop-set-preserved c =
    counting_next (le_refl 8) c.requires c.loop-set.invariant c.loop-set-test.true c.members.result c.members.ensures
