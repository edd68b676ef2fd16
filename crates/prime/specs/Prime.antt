-- The prime of the build, numbers below it, and differences by it.
-- Assumes nothing.
use Rattle.std.specs.Prelude.{List, Bool, ℕ, ◌+◌, ◌-◌, ◌%◌, ◌<◌, ltb, get_or}

-- SCOPE's p
abbrev pub p : ℕ
p = 32749

-- a word that is not below p: no such word enters a sum
abbrev pub too_large : ℕ → Bool
too_large v = ltb 32748 v

-- each number of the list is one of 0 to 32748 (past its end a list reads 0)
pub record Below (cs : List ℕ) : Type 0 where
  pub each : (i : ℕ) → get_or cs i 0 < p

-- a − b mod p
unfoldable pub minus : ℕ → ℕ → ℕ
minus a b = (a + (p - b % p)) % p
