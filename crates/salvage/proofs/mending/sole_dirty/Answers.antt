-- `salvage::mending::sole_dirty` meets its contract: what its two searches tell. Assumes nothing.
use mathlib.Core.Path.{◌∙◌}
use native.Mathlib.Omega.{arith}
use Rattle.salvage.proofs.DirtyLaws.{first_hot, search_none, search_one, search_two}
use Rattle.salvage.proofs.mending.sole_dirty.Goals as goal

pub returns-in_err-first : goal.returns-in_err-first
returns-in_err-first c = c.from_residual.ensures ∙ search_none c.args.b.now c.next_above.ensures c.in_err-first.was

pub overflow_add-first : goal.overflow_add-first
overflow_add-first c = omega (arith, (first_hot c.args.b.now c.next_above.ensures c.in_ok-first.was).1)

pub returns-in-Some : goal.returns-in-Some
returns-in-Some c = search_two c.args.b.now c.next_above.ensures c.in_ok-first.was c.next_above-2.ensures c.in-Some.is

pub returns-in-None : goal.returns-in-None
returns-in-None c = search_one c.args.b.now c.next_above.ensures c.in_ok-first.was c.next_above-2.ensures c.in-None.is
