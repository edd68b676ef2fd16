-- `pile::check_blocks` meets its contract. The invariant: what all blocks' lines say, those from block a on say. Assumes nothing.
use mathlib.Core.Path.{sym, ap, ◌∙◌}
use native.Mathlib.Omega.{arith}
use Rattle.answer.specs.Outcome.{checked}
use Rattle.answer.proofs.PassedOn.{passed_on}
use Rattle.pile.specs.Blocks.{blocks}
use Rattle.pile.proofs.WalkLaws.{walk_start, walk_stops, walk_on, walk_end}
use Rattle.pile.proofs.check_blocks.Goals as goal

pub loop-a-init : goal.loop-a-init
loop-a-init c = walk_start c.args.pile.now

pub rest_from-requires : goal.rest_from-requires
unfolding blocks
rest_from-requires c = omega arith

pub returns-in_err-check_block : goal.returns-in_err-check_block
unfolding blocks
returns-in_err-check_block c =
    let p = c.args.pile.now in
    let a = c.loop-a.a in
    ap checked (passed_on c.from_residual.ensures.1)
    ∙ walk_stops p a (omega arith) (rw c.rest_from.ensures.is at c.check_block.ensures) c.in_err-check_block.was ∙ sym c.loop-a.invariant

pub loop-a-preserved : goal.loop-a-preserved
unfolding blocks
loop-a-preserved c =
    c.loop-a.invariant ∙ walk_on c.args.pile.now c.loop-a.a (omega arith) (rw c.rest_from.ensures.is at c.check_block.ensures) c.in_ok-check_block.was

pub returns : goal.returns
unfolding blocks
returns c = sym (c.loop-a.invariant ∙ walk_end c.args.pile.now c.loop-a.a (omega arith))
