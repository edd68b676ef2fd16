-- Two lists of as many numbers, added number by number mod 32749. What it does to deals is the law ValuesAdded.
-- Assumes nothing.
use Rattle.std.specs.Prelude.{List, [], ◌∷◌, ℕ, ◌+◌, ◌%◌}
use Rattle.prime.specs.Prime.{p}

-- the sums mod p, as far as both lists go
unfoldable pub added : List ℕ → List ℕ → List ℕ
added [] ys = []
added (x ∷ xs) [] = []
added (x ∷ xs) (y ∷ ys) = (x + y) % p ∷ added xs ys
