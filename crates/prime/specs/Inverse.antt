-- The modular inverse, by the remainders of p: p = q·a + r gives 1 / a = −q · 1 / r. What it means is the law InverseRight.
-- Assumes nothing.
use Rattle.std.specs.Prelude.{ℕ, zero, suc, ◌-◌, ◌*◌, ◌/◌, ◌%◌}
use Rattle.prime.specs.Prime.{p}

-- in at most n steps
unfoldable pub inverse_in : ℕ → ℕ → ℕ
inverse_in zero a = 0
inverse_in (suc n) zero = 0
inverse_in (suc n) (suc zero) = 1
inverse_in (suc n) (suc (suc a)) = (p - p / suc (suc a)) * inverse_in n (p % suc (suc a)) % p

-- the number of 0 to 32748 that gives 1 mod p when it is multiplied with a
unfoldable pub inverse : ℕ → ℕ
inverse a = inverse_in (a % p) (a % p)
