-- The block that is written from a label and the values of a piece.
-- Assumes nothing.
use Rattle.std.specs.Prelude.{ℕ, ◌≤◌, ◌≡◌, List, [], ◌∷◌, ◌++◌, length}
use Rattle.lists.specs.Run.{run}
use Rattle.block.specs.declared.Label.{Label}
use Rattle.block.specs.Words.{bytes_of, check_of}
use Rattle.block.specs.Layout.{held_at, Ranged}

-- words 1 to 255, as the table has them
unfoldable pub body : Label → List ℕ → List ℕ
body l vs = run (held_at l vs) 1 255

-- the block's 512 bytes: words 1 to 255, then their check
unfoldable pub block_bytes : Label → List ℕ → List ℕ
block_bytes l vs = bytes_of (body l vs) ++ bytes_of (check_of (bytes_of (body l vs)) ∷ [])

-- what a block can be written from: a label in its ranges, as many values as it says, and no word above 32748
pub record Buildable (l : Label) (vs : List ℕ) : Type 0 where
  pub ranged : Ranged l
  pub counted : l.width ≡ length vs
  pub small : (i : ℕ) → 1 ≤ i → i ≤ 255 → held_at l vs i ≤ 32748
