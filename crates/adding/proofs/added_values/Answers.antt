-- `adding::added_values` meets its contract. The invariant: the first i values of the sum stand in front.
-- Assumes nothing.
use Prim.Native.Nat.{ℕ, ◌+◌, ◌%◌}
use mathlib.Core.Path.{◌≡◌, refl, ap, ap₂, ◌∙◌}
use native.Mathlib.Omega.{arith}
use lib.ListN.{length-set}
use Rattle.lists.specs.Run.{run}
use Rattle.lists.specs.Over.{over}
use Rattle.lists.proofs.OverLaws.{over_on}
use Rattle.block.specs.Words.{word_at}
use Rattle.adding.proofs.SumLaws.{value_sum, width-most, front-values}
use Rattle.adding.proofs.added_values.Goals as goal

pub loop-i-init : goal.loop-i-init
unfolding run over
loop-i-init c = (omega (arith, c.requires.w_value.0, width-most c.requires.true_block.0), refl, refl, refl)

-- no word of the two blocks is above 32748, and all are in them
pub loop-i-preserved : goal.loop-i-preserved
loop-i-preserved c =
    let v = c.loop-i in
    let a = c.args in
    let e : 8 + v.i ≡ 7 + (v.i + 1) = omega arith in
    let one = c.word.ensures ∙ ap (word_at a.one.now) e in
    let two = c.word-in-loop-i.ensures ∙ ap (word_at a.two.now) e in (
      v.invariant.0,
      v.invariant.1,
      length-set v.made v.i c.add.result ∙ v.invariant.2,
      over_on (value_sum a.one.now a.two.now) _ v.made v.i c.add.result (omega (arith, v.invariant.1))
          (c.add.ensures ∙ ap₂ (λ (x y : ℕ). (x + y) % 32749) one two) v.invariant.3,
    )

pub returns : goal.returns
returns c =
    let a = c.args in
    let all : c.loop-i.i ≡ a.w = omega arith in
    front-values a.one.now a.two.now a.w c.requires.w_value.0 c.requires.w_value.1 _ c.loop-i.made
    (c.loop-i.invariant.3 ∙ ap (λ (n : ℕ). over (run (value_sum a.one.now a.two.now) 1 n) _) all)
