-- `field::weights` meets its contract. The invariant: the weights of pieces 1 to j are in their places, and 0 past them.
-- Assumes nothing.
use native.Mathlib.Omega.{arith}
use Rattle.field.proofs.Table.{filled-start, filled_turn, filled_end}
use Rattle.field.proofs.weights.Goals as goal

pub loop-j-init : goal.loop-j-init
loop-j-init c = filled-start c.args.k

pub loop-j-preserved : goal.loop-j-preserved
loop-j-preserved c =
    filled_turn c.args.k c.loop-j.j c.weight_of.result c.loop-j.table (omega arith) c.weight_of.ensures c.loop-j.invariant

pub returns : goal.returns
returns c =
    filled_end c.args.k c.loop-j.j c.loop-j.table (omega arith) c.loop-j.invariant
