-- The laws that this room owes; their proofs are in proofs/Laws.antt.
-- Assumes nothing.
use Rattle.std.specs.Prelude.{◌≡◌, List, [], ◌∷◌, ℕ, ◌≤◌, ◌<◌, ◌^◌, length, get_or}
use Rattle.print.specs.Decimal.{digit, decimal, meaning}

-- ---- numbers in decimal
-- the bytes are the number n in decimal: digits that mean n, with no zero in front but that of 0 itself
pub record Spells (n : ℕ) (bytes : List ℕ) : Type 0 where
  pub means : meaning 0 bytes ≡ n
  pub each-digit : (i : ℕ) → i < length bytes → (digit 0 ≤ get_or bytes i 0) × (get_or bytes i 0 ≤ digit 9)
  pub front : 1 ≤ n → digit 1 ≤ get_or bytes 0 0
  pub nought : n ≡ 0 → bytes ≡ digit 0 ∷ []

-- Every number that a usize can be is written in decimal, with no zero in front.
abbrev pub DecimalMeans : Type 0
DecimalMeans = (n : ℕ) → n < 10 ^ 20 → Spells n (decimal n)
