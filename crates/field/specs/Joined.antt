-- The joined word of k pieces, by differences. What it means is the law JoinedOne (SCOPE 3): the polynomial of degree less than k that has
-- piece j as its value at j, for each j of 1 to k, has this word as its value at 0. Assumes nothing.
use Rattle.std.specs.Prelude.{List, [], ◌∷◌, ℕ, zero, suc, length}
use Rattle.prime.specs.Prime.{minus}

-- the differences of neighbours, each less the one before it
unfoldable pub diffs : List ℕ → List ℕ
diffs [] = []
diffs (y ∷ []) = []
diffs (y ∷ z ∷ zs) = minus z y ∷ diffs (z ∷ zs)

-- the first numbers of n rows, each row the differences of the one before, with alternating signs
unfoldable pub joined_in : ℕ → List ℕ → ℕ
joined_in zero ys = 0
joined_in (suc n) [] = 0
joined_in (suc n) (y ∷ ys) = minus y (joined_in n (diffs (y ∷ ys)))

-- the secret word of the pieces ys
unfoldable pub joined : List ℕ → ℕ
joined ys = joined_in (length ys) ys
