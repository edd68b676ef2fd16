-- `holdings::holders::have` meets its contract: the count is of the pieces passed whose holders meet the group.
-- Assumes nothing.
use mathlib.Core.Path.{◌≡◌}
use native.Mathlib.Omega.{arith}
use borrow.Author.Rules.{rules}
use Rattle.holdings.proofs.HolderLaws.{count-start, count_in, count_out, count-few}
use Rattle.holdings.proofs.holders.have.Goals as goal
use Rattle.holdings.proofs.holders.have.Goals.{then-sets-j-ne0, else-sets-j-ne0}

pub loop-j-init : goal.loop-j-init
loop-j-init c = (search rules, c.requires, count-start)

pub overflow_add-count : goal.overflow_add-count
overflow_add-count c = let l = c.loop-j in omega (arith, l.invariant.0, l.invariant.1, count-few l.invariant.2)

pub loop-j-preserved : goal.loop-j-preserved
loop-j-preserved c =
    let h = c.loop-j.invariant.2 in (
      search rules,
      search rules,
      elim c.if-sets-j-ne0.branch [
        | then-sets-j-ne0 w ↦ rw w.count-is (count_in h w.if-sets-j-ne0.true)
        | else-sets-j-ne0 w ↦ rw w.count-is (count_out h w.if-sets-j-ne0.false)
      ],
    )

pub returns : goal.returns
returns c =
    let l = c.loop-j in
    let e : l.j ≡ c.args.pieces = omega arith in
    rw e at l.invariant.2.so_far
