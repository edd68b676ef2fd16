-- `triangle::weights` meets its contract. The invariant: the weights of the pieces before j are in their places, and 0 past them.
-- Assumes nothing.
use mathlib.Core.Path.{◌≡◌}
use Prim.Native.Nat.{◌-◌}
use native.Mathlib.Omega.{arith}
use lib.ListN.{get_or}
use Rattle.field.proofs.Table.{filled-start, filled_end}
use Rattle.triangle.specs.Triangle.{weight}
use Rattle.triangle.proofs.RowLaws.{line-most, in_place, read_weight}
use Rattle.triangle.proofs.FillLaws.{stored_turn}
use Rattle.triangle.proofs.weights.Goals as goal

pub stored_line-line-requires : goal.stored_line-line-requires
stored_line-line-requires c = omega (arith, c.line_of.ensures, line-most c.args.k c.requires)

pub loop-j-init : goal.loop-j-init
loop-j-init c = filled-start c.args.k

pub offset_bounds-line-place_of : goal.offset_bounds-line-place_of
offset_bounds-line-place_of c = omega (arith, c.place_of.ensures, (in_place c.args.k c.loop-j.j (omega arith) (omega arith) c.requires).2)

pub bounds-line-place_of : goal.bounds-line-place_of
bounds-line-place_of c = omega (arith, c.place_of.ensures, (in_place c.args.k c.loop-j.j (omega arith) (omega arith) c.requires).2)

pub loop-j-preserved : goal.loop-j-preserved
loop-j-preserved c =
    let l = c.loop-j in
    let line = c.stored_line-line in
    let read : get_or line.result c.place_of.result 0 ≡ weight c.args.k l.j =
    read_weight c.args.k l.j c.line_of.result c.place_of.result line.result (omega arith) (omega arith) c.requires c.line_of.ensures c.place_of.ensures line.ensures in
    stored_turn c.args.k l.j _ l.table (omega arith) (omega arith) c.requires read l.invariant

pub returns : goal.returns
returns c = filled_end c.args.k (c.loop-j.j - 1) c.loop-j.table (omega arith) c.loop-j.invariant
