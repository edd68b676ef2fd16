-- A secret of several words from the values of its pieces, wherever those are kept: `value j i` is value i of piece j.
-- Assumes nothing.
use Rattle.std.specs.Prelude.{ℕ, List}
use Rattle.lists.specs.Run.{run}
use Rattle.field.specs.Joined.{joined}

-- value i of each of the pieces 1 to k
unfoldable pub column : (ℕ → ℕ → ℕ) → ℕ → ℕ → List ℕ
column value k i = run (λ j. value j i) 1 k

-- the secret of w words: word i is what the values i of the k pieces join to
unfoldable pub secret_of : (ℕ → ℕ → ℕ) → ℕ → ℕ → List ℕ
secret_of value k w = run (λ i. joined (column value k i)) 1 w
