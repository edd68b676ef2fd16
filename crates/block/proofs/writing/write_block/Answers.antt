-- `block::writing::write_block` meets its contract: words 1 to i - 1 stand before the rest of what was lent, and are in the sum.
-- Assumes nothing.
use mathlib.Core.Path.{◌∙◌}
use native.Mathlib.Omega.{arith}
use borrow.Author.Rules.{rules}
use Rattle.block.proofs.WritingLaws.{write_start, write_on, write_end}
use Rattle.block.proofs.writing.write_block.Goals as goal

pub loop-i-init : goal.loop-i-init
loop-i-init c = write_start _ _ _

pub weigh-sum-requires : goal.weigh-sum-requires
weigh-sum-requires c =
    let small = c.requires.buildable.small c.loop-i.i (omega arith) (omega arith) in
    record { v_bound = omega arith; le_i = search rules }

pub loop-i-preserved : goal.loop-i-preserved
loop-i-preserved c =
    let w = c.put_word in
    write_on _ _ _ _ _ _ c.requires.in_bounds c.loop-i.invariant (omega arith) _ c.body_word-v.ensures _ w.auto.b w.ensures _
    c.weigh-sum.ensures.0 c.weigh-sum.ensures.1

pub shape_of-out : goal.shape_of-out
shape_of-out c = c.put_word-2.auto.b ∙ c.loop-i.invariant.same

pub returns : goal.returns
returns c =
    c.put_word-2.ensures ∙ write_end _ _ _ _ _ _ c.requires.in_bounds c.loop-i.invariant (omega arith)
