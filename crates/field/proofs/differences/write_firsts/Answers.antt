-- `field::differences::write_firsts` meets its contract. The invariant: the numbers before place m stand as they will, and the first numbers
-- of the row from there on are still to come. Assumes nothing.
use Prim.Native.Nat.{◌+◌, ◌-◌}
use native.Mathlib.Omega.{arith}
use Rattle.field.proofs.RowLaws.{rowed_turn, rowed_end}
use Rattle.field.proofs.differences.write_firsts.Goals as goal

pub loop-m-preserved : goal.loop-m-preserved
loop-m-preserved c =
    rowed_turn c.args.row.now c.loop-m.row c.difference.new.row c.loop-m.m (omega arith) (omega arith) c.difference.ensures c.loop-m.invariant

pub returns : goal.returns
returns c =
    rowed_end c.args.row.now c.loop-m.row (c.loop-m.m - 1) (omega arith) c.loop-m.invariant

pub returns-2 : goal.returns-2
returns-2 c =
    let l = c.loop-m in
    let r = rowed_turn c.args.row.now l.row c.difference.new.row l.m (omega arith) (omega arith) c.difference.ensures l.invariant in
    rowed_end c.args.row.now c.difference.new.row (l.m + 1 - 1) (omega (arith, r.long, l.invariant.long)) r
