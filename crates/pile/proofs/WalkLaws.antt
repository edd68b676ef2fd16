-- The walk over the blocks: the lines of the blocks from block a on are still to speak. Assumes nothing.
use mathlib.Core.Path.{◌≡◌, sym, ap, ◌∙◌}
use mathlib.Core.List.{List, ◌++◌}
use Prim.Native.Nat.{ℕ, suc, ◌+◌, ◌-◌, ◌≤◌, ◌<◌}
use native.Mathlib.Omega.{arith}
use Rattle.answer.specs.declared.Refusal.{Refusal}
use Rattle.std.specs.Prelude.{⊤, Result, Ok, Err}
use Rattle.answer.specs.Outcome.{Outcome, checked, done}
use Rattle.answer.specs.Checks.{first_fail}
use Rattle.answer.proofs.CheckLaws.{stops, goes_on}
use Rattle.block.specs.Open.{block_lines}
use Rattle.pile.specs.Blocks.{blocks, rest_from}
use Rattle.pile.specs.Lines.{lines_from, every_block}

-- what the lines of the blocks from block a on say
abbrev pub ahead : List ℕ → ℕ → Outcome ℕ
ahead pile a = first_fail (lines_from pile a (blocks pile + 1 - a)) (done 0)

pub walk_start : (pile : List ℕ) → first_fail (every_block pile) (done 0) ≡ ahead pile 1
unfolding every_block
walk_start pile = let n : blocks pile ≡ blocks pile + 1 - 1 = omega arith in ap (λ (m : ℕ). first_fail {A = ℕ} (lines_from pile 1 m) (done 0)) n

module _ (pile : List ℕ) (a : ℕ) (h : a < blocks pile + 1) where
  -- the lines of block a, and of those after it
  turn : ahead pile a ≡ first_fail (block_lines (rest_from pile a) a ++ lines_from pile (a + 1) (blocks pile + 1 - (a + 1))) (done 0)
  unfolding lines_from
  turn =
      let n : blocks pile + 1 - a ≡ suc (blocks pile + 1 - (a + 1)) = omega arith in
      ap (λ (m : ℕ). first_fail {A = ℕ} (lines_from pile a m) (done 0)) n

  module _ {x : Result ⊤ Refusal} (e : checked x ≡ first_fail (block_lines (rest_from pile a) a) (done 0)) where
    -- block a is refused: so is the pile
    pub walk_stops : {r : Refusal} → x ≡ Err r → checked (Err r) ≡ ahead pile a
    walk_stops q = stops (block_lines (rest_from pile a) a) e _ (done 0) q ∙ sym turn

    -- block a passes: on to the next
    pub walk_on : {u : ⊤} → x ≡ Ok u → ahead pile a ≡ ahead pile (a + 1)
    walk_on q = turn ∙ goes_on (block_lines (rest_from pile a) a) e _ (done 0) q

-- past the last block
pub walk_end : (pile : List ℕ) (a : ℕ) → blocks pile + 1 ≤ a → ahead pile a ≡ done 0
unfolding lines_from first_fail
walk_end pile a l = let z : blocks pile + 1 - a ≡ 0 = omega arith in ap (λ (m : ℕ). first_fail {A = ℕ} (lines_from pile a m) (done 0)) z
