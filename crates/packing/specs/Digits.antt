-- Numbers and their digits to a base, the highest digit first (SCOPE 3.1).
-- Assumes nothing.
use Rattle.std.specs.Prelude.{ℕ, zero, suc, ◌+◌, ◌*◌, ◌/◌, ◌%◌, List, [], ◌∷◌, ◌++◌}

-- the number that the digits make behind a number c that stands before them
unfoldable pub number_from : ℕ → ℕ → List ℕ → ℕ
number_from base c [] = c
number_from base c (d ∷ ds) = number_from base (c * base + d) ds

-- the number that a list of digits makes, of bytes to the base 256 and of words to the base 8192
unfoldable pub number_of : ℕ → List ℕ → ℕ
number_of base ds = number_from base 0 ds

-- the last n digits of a number, the highest first
unfoldable pub digits : ℕ → ℕ → ℕ → List ℕ
digits base zero x = []
digits base (suc n) x = digits base n (x / base) ++ x % base ∷ []
