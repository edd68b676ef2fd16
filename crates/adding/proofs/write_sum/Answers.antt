-- `adding::write_sum` meets its contract: the label and the values are those of the sum, and the block that is built of them is written.
-- Assumes nothing.
use Prim.Native.Nat.{ℕ, ◌≤◌}
use mathlib.Core.Path.{sym, ap, ◌∙◌}
use mathlib.Core.List.{List}
use native.Mathlib.Omega.{arith}
use lib.Seq.{length-take-le}
use Rattle.lists.specs.Over.{over}
use Rattle.adding.proofs.SumLaws.{width-most, label-from, built, bytes_are}
use Rattle.adding.proofs.write_sum.Goals as goal

pub slice_bounds-made-end : goal.slice_bounds-made-end
slice_bounds-made-end c = let few : c.word-width.result ≤ 16 = omega (arith, c.word-width.ensures, width-most c.requires.true_one) in
    omega (arith, few)

pub slice_bounds-write_block-end : goal.slice_bounds-write_block-end
slice_bounds-write_block-end c = let few : c.word-width.result ≤ 16 = omega (arith, c.word-width.ensures, width-most c.requires.true_one) in
    sym (length-take-le _ c.added_values-made.result (omega (arith, few)))

pub write_block-requires : goal.write_block-requires
write_block-requires c =
    let y = c.requires in record {
      in_bounds = y.fits;
      buildable = built y (label-from y c.word-people.ensures c.word-pieces.ensures c.word-width.ensures c.word-holder.ensures c.word-piece.ensures)
          c.added_values-made.ensures;
    }

pub returns : goal.returns
returns c =
    let y = c.requires in
    c.write_block.ensures
    ∙ ap (λ (x : List ℕ). over x c.args.out.now)
    (bytes_are y (label-from y c.word-people.ensures c.word-pieces.ensures c.word-width.ensures c.word-holder.ensures c.word-piece.ensures)
    c.added_values-made.ensures)
