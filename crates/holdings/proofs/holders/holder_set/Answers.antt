-- `holdings::holders::holder_set` meets its contract: the people passed are gathered, each with the next worth.
-- Assumes nothing.
use mathlib.Core.Path.{◌≡◌}
use native.Mathlib.Omega.{arith}
use Rattle.holdings.proofs.HolderLaws.{gather_start, gather_hit, gather_miss, gather_small}
use Rattle.holdings.proofs.holders.holder_set.Goals as goal
use Rattle.holdings.proofs.holders.holder_set.Goals.{then-list-i-eq1, else-list-i-eq1}

pub loop-i-init : goal.loop-i-init
loop-i-init c = gather_start

pub overflow_add-set : goal.overflow_add-set
overflow_add-set c =
    let q = gather_small c.loop-i.invariant c.args.list.people c.requires.0 c.loop-i-test.true in
    omega arith

pub overflow_mul-worth : goal.overflow_mul-worth
overflow_mul-worth c =
    let q = gather_small c.loop-i.invariant c.args.list.people c.requires.0 c.loop-i-test.true in
    omega arith

pub loop-i-preserved : goal.loop-i-preserved
loop-i-preserved c =
    let h = c.loop-i.invariant in
    elim c.if-list-i-eq1.branch [
      | then-list-i-eq1 w ↦ rw w.set-is (gather_hit h w.if-list-i-eq1.true)
      | else-list-i-eq1 w ↦ rw w.set-is (gather_miss h w.if-list-i-eq1.false)
    ]

pub returns : goal.returns
returns c =
    let l = c.loop-i in
    let e : l.i ≡ c.args.list.people = omega (arith, c.loop-i-test.false) in
    rw e at l.invariant.so_far
