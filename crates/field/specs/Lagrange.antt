-- The weights of Lagrange's formula: with them the joined word is the sum of the pieces, each times its weight, mod p.
-- Assumes nothing.
use Rattle.std.specs.Prelude.{◌≡◌, cond, List, [], ◌∷◌, ◌++◌, ℕ, zero, suc, ◌+◌, ◌-◌, ◌*◌, ◌%◌, ◌≤◌, eqb, get_or, replicate}
use Rattle.prime.specs.Prime.{p, minus}
use Rattle.lists.specs.Run.{run}
use Rattle.prime.specs.Inverse.{inverse}

-- the product of i − x over the pieces i of 1 to k but j, mod p
unfoldable pub product : ℕ → ℕ → ℕ → ℕ
product j x zero = 1
product j x (suc k) = cond (eqb (suc k) j) (product j x k) (minus (suc k) x * product j x k % p)

-- the weight of piece j of k: the product of i / (i − j) over the other pieces i
unfoldable pub lagrange_weight : ℕ → ℕ → ℕ
lagrange_weight k j = product j 0 k * inverse (product j j k) % p

-- ws has the weight of piece j of k at j − 1
pub record Weights (k : ℕ) (ws : List ℕ) : Type 0 where
  pub weight : (j : ℕ) → 1 ≤ j → j ≤ k → get_or ws (j - 1) 0 ≡ lagrange_weight k j

-- the weights of pieces 1 to k, in a table of 70 places that has 0 past them
unfoldable pub weights_of : ℕ → List ℕ
weights_of k = run (lagrange_weight k) 1 k ++ replicate (70 - k) 0

-- the sum of the pieces, the first of them piece j, each times its weight w j, not reduced
unfoldable pub weighed : (ℕ → ℕ) → ℕ → List ℕ → ℕ
weighed w j [] = 0
weighed w j (y ∷ ys) = w j * y + weighed w (suc j) ys
