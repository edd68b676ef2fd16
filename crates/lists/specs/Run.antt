-- A list of what a function gives at numbers that follow one another.
-- Assumes nothing.
use Rattle.std.specs.Prelude.{List, [], ◌∷◌, ℕ, zero, suc}

-- f x, f (x + 1), .., n of them
unfoldable pub run : (ℕ → ℕ) → ℕ → ℕ → List ℕ
run f x zero = []
run f x (suc n) = f x ∷ run f (suc x) n
