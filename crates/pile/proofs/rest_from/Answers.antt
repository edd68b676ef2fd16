-- `pile::rest_from` meets its contract: the part is the pile from byte 512 (a - 1) on. Assumes nothing.
use Prim.Native.Nat.{◌-◌, ◌*◌}
use native.Mathlib.Omega.{arith}
use borrow.Author.Rules.{rules}
use Rattle.pile.specs.Blocks.{blocks, rest_from}
use Rattle.pile.proofs.PileLaws.{part_rest, rest_long}
use Rattle.pile.proofs.rest_from.Goals as goal

pub overflow_mul-result : goal.overflow_mul-result
unfolding blocks
overflow_mul-result c = omega arith

pub slice_bounds-result-count : goal.slice_bounds-result-count
unfolding blocks
slice_bounds-result-count c = omega arith

pub slice_bounds-result-start : goal.slice_bounds-result-start
unfolding blocks
slice_bounds-result-start c = search rules

pub returns : goal.returns
unfolding rest_from
returns c =
    let p = c.args.pile.now in
    let is = part_rest p (512 * (c.args.a - 1)) in
    record { is = is; long = rw is (rest_long p c.args.a c.requires.0 c.requires.1) }
