-- The laws that this room owes; their proofs are in proofs/Laws.antt.
-- Assumes nothing.
use Rattle.std.specs.Prelude.{◌≡◌, ◌≢◌, ℕ, ◌*◌, ◌%◌, ◌<◌}
use Rattle.prime.specs.Prime.{p}
use Rattle.prime.specs.Inverse.{inverse}

-- 32749 has no divisor but 1 and itself.
abbrev pub NoDivisor : Type 0
NoDivisor = (m : ℕ) → 1 < m → m < p → p % m ≢ 0

-- Every number that p does not divide has its inverse, which is one of 0 to 32748.
abbrev pub InverseRight : Type 0
InverseRight = (a : ℕ) → a % p ≢ 0 → (a * inverse a % p ≡ 1) × (inverse a < p)
