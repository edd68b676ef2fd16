-- The weights of the pieces without an inverse (SCOPE 3), by Pascal's triangle: where j is odd, as many as there are groups of j among k, and where j is
-- even, as many less than none; all mod p. That these are Lagrange's weights is the law WeightsSame. Assumes nothing.
use Rattle.std.specs.Prelude.{Bool, cond, List, ◌++◌, ℕ, zero, suc, ◌+◌, ◌-◌, ◌%◌, eqb, ltb}
use Rattle.lists.specs.Run.{run}
use Rattle.prime.specs.Prime.{p, minus}

-- how many groups of j there are among k, by Pascal's rule: those with the last of the k, and those without it
unfoldable pub choose : ℕ → ℕ → ℕ
choose k zero = 1
choose zero (suc j) = 0
choose (suc k) (suc j) = choose k j + choose k (suc j)

abbrev pub odd : ℕ → Bool
odd j = eqb (j % 2) 1

-- the weight of piece j of k
unfoldable pub weight : ℕ → ℕ → ℕ
weight k j = cond (odd j) (choose k j % p) (minus 0 (choose k j))

-- row k of the triangle: the weights of pieces 1 to k
abbrev pub row : ℕ → List ℕ
row k = run (weight k) 1 k

-- ---- how the 70 rows are stored: two to a line

-- line m, for m of 1 to 35: row m, and behind it row 71 − m
unfoldable pub line : ℕ → List ℕ
line m = row m ++ row (71 - m)

-- the line in which row k stands, and where in it, counted from 0, the weight of piece j
unfoldable pub line_of : ℕ → ℕ
line_of k = cond (ltb 35 k) (71 - k) k

unfoldable pub place_of : ℕ → ℕ → ℕ
place_of k j = cond (ltb 35 k) (71 - k + (j - 1)) (j - 1)
