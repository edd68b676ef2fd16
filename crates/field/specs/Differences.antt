-- Joining a word by differences alone (SCOPE 3): the pieces in a row, under it the row of the differences of neighbours, and so on down to a row
-- of one number; then the first numbers of all rows, with signs that alternate. The law ByDifferences says that it is the joined word.
-- Assumes nothing.
use Rattle.std.specs.Prelude.{List, [], ◌∷◌, map, ℕ, zero, suc, ◌+◌, length, get_or}
use Rattle.prime.specs.Prime.{minus}
use Rattle.field.specs.Joined.{diffs}

-- n rows, the first of which is given: each next one is the differences of neighbours of the one before
unfoldable pub rows_in : ℕ → List ℕ → List (List ℕ)
rows_in zero row = []
rows_in (suc n) row = row ∷ rows_in n (diffs row)

-- all rows of the pieces ys: as many as there are pieces, so that the last one has one number (the law RowsEnd)
unfoldable pub rows : List ℕ → List (List ℕ)
rows ys = rows_in (length ys) ys

-- the first number of each row
unfoldable pub firsts : List ℕ → List ℕ
firsts ys = map (λ (row : List ℕ). get_or row 0 0) (rows ys)

-- where signs alternate, a plus in front: the sum of the numbers with a plus, the first, the third, and so on
unfoldable pub with_plus : List ℕ → ℕ
with_plus [] = 0
with_plus (x ∷ []) = x
with_plus (x ∷ y ∷ zs) = x + with_plus zs

-- and the sum of those with a minus, the second, the fourth, and so on
unfoldable pub with_minus : List ℕ → ℕ
with_minus [] = 0
with_minus (x ∷ []) = 0
with_minus (x ∷ y ∷ zs) = y + with_minus zs

-- what they add up to, mod p
unfoldable pub alternating : List ℕ → ℕ
alternating xs = minus (with_plus xs) (with_minus xs)

-- the secret word of the pieces ys
unfoldable pub by_differences : List ℕ → ℕ
by_differences ys = alternating (firsts ys)
