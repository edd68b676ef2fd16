-- A number in decimal, in ASCII, with no zero in front.
-- Assumes nothing.
use Rattle.std.specs.Prelude.{cond, List, [], ◌∷◌, ◌++◌, ℕ, zero, suc, ◌+◌, ◌-◌, ◌*◌, ◌/◌, ◌%◌, ltb}

-- the byte of a digit
abbrev pub digit : ℕ → ℕ
digit d = 48 + d

-- the digits of a number, the highest first, where there are at most `most` of them
unfoldable pub digits : ℕ → ℕ → List ℕ
digits zero n = []
digits (suc most) n = cond (ltb n 10) (digit n ∷ []) (digits most (n / 10) ++ digit (n % 10) ∷ [])

-- a number below 10 ^ 20 in decimal: every usize is below 2 ^ 64, and so below 10 ^ 20
abbrev pub decimal : ℕ → List ℕ
decimal n = digits 20 n

-- what digits mean, read from the first to the last, behind digits that mean `front`
unfoldable pub meaning : ℕ → List ℕ → ℕ
meaning front [] = front
meaning front (d ∷ ds) = meaning (10 * front + (d - 48)) ds
