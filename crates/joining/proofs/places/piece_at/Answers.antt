-- `joining::places::piece_at` meets its contract: the part is the rest of the pile from block a on. Assumes nothing.
use mathlib.Core.Path.{ap, ◌∙◌}
use Prim.Native.Nat.{◌-◌, ◌*◌}
use native.Mathlib.Omega.{arith}
use lib.ListN.{length-drop}
use Rattle.block.specs.Layout.{piece_of}
use Rattle.pile.specs.Blocks.{blocks, rest_from}
use Rattle.pile.proofs.PileLaws.{part_rest}
use borrow.Author.Rules.{rules}
use Rattle.joining.proofs.places.piece_at.Goals as goal

pub overflow_mul-a : goal.overflow_mul-a
unfolding blocks
overflow_mul-a c = omega arith

pub slice_bounds-piece_of-count : goal.slice_bounds-piece_of-count
unfolding blocks
slice_bounds-piece_of-count c = omega arith

pub slice_bounds-piece_of-start : goal.slice_bounds-piece_of-start
unfolding blocks
slice_bounds-piece_of-start c = search rules

pub piece_of-requires : goal.piece_of-requires
unfolding blocks
piece_of-requires c =
    let a = c.args in
    rw (part_rest a.pile.now (512 * (a.a - 1)), length-drop (512 * (a.a - 1)) a.pile.now) (omega arith)

pub returns : goal.returns
unfolding rest_from
returns c =
    let a = c.args in
    c.piece_of.ensures ∙ ap piece_of (part_rest a.pile.now (512 * (a.a - 1)))
