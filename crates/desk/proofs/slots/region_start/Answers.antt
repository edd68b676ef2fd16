-- `desk::slots::region_start` meets its contract. Assumes nothing.
use native.Mathlib.Omega.{arith}
use borrow.Author.Rules.{rules}
use borrow.Author.Tests.{eq-eqb, ne_eqb}
use Rattle.desk.specs.Slots.{region_start}
use Rattle.desk.proofs.slots.region_start.Goals as goal

pub overflow_sub-result : goal.overflow_sub-result
overflow_sub-result c = search rules

pub overflow_mul-result : goal.overflow_mul-result
overflow_mul-result c = search rules

pub returns-then-client-eq1 : goal.returns-then-client-eq1
unfolding region_start
returns-then-client-eq1 c = (simp (eq-eqb _ _ c.if-client-eq1.true), omega arith)

pub returns-else-client-eq1 : goal.returns-else-client-eq1
unfolding region_start
returns-else-client-eq1 c = (simp (ne_eqb _ _ c.if-client-eq1.false), omega arith)
