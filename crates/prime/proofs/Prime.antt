-- 32749 is prime, in the forms that are used: no number from 2 to 32748 divides it; each number that it does not divide has an inverse;
-- it divides a product only if it divides a factor. Assumes nothing.
use mathlib.Core.Path.{◌≡◌, refl, ap}
use mathlib.Core.Logic.{◌⊎◌, inl, inr}
use Prim.Native.Nat.{ℕ, zero, suc, ◌-◌, ◌*◌, ◌%◌, ◌/◌, ◌≤◌, ◌<◌}
use native.Mathlib.Omega.{arith}
use native.Mathlib.Nat.{div-add-mod, mod-lt, eq-zero-or-pos, not-suc-le-zero, pos_of_ne-zero, sub-add_cancel, div-le_self, le_refl, mul_assoc}
use borrow.Author.Tests.{eqb-false}
use lib.Dec.{eqb, lit<}
use Rattle.lists.specs.Places.{first_from, first_in}
use Rattle.lists.proofs.FirstLaws.{none_in}
use Rattle.prime.specs.Prime.{p}
use Rattle.prime.specs.Inverse.{inverse_in, inverse}
use Rattle.prime.proofs.Mod.{◌≈◌, ◌then◌, flip, from≡, mul≈, mul≈₂, mod≈, mod_below, same-small}

-- one test of all numbers from 2 to 32748, which antt computes in about a second
tried : first_in (λ i. eqb (p % i) 0) 2 32749 ≡ 0
unfolding first_from
tried = refl

pub no_divisor : (m : ℕ) → 1 < m → m < p → 0 < p % m
no_divisor m h k = pos_of_ne-zero (eqb-false (p % m) 0 (none_in (λ i. eqb (p % i) 0) 2 32749 (omega arith) tried m h k))

-- ---- the inverse
inverse_in_lem : (n a : ℕ) → 0 < a → a ≤ n → a < p → a * inverse_in n a ≈ 1
unfolding inverse_in
inverse_in_lem zero zero h l k = absurd (not-suc-le-zero h)
inverse_in_lem zero (suc a) h l k = absurd (not-suc-le-zero l)
inverse_in_lem (suc n) zero h l k = absurd (not-suc-le-zero h)
inverse_in_lem (suc n) (suc zero) h l k = omega arith
inverse_in_lem (suc n) (suc (suc a)) h l k = step (suc (suc a)) (inverse_in n (p % suc (suc a))) k
    (inverse_in_lem n (p % suc (suc a)) (no_divisor (suc (suc a)) (omega arith) k)
    (omega (arith, mod-lt p h)) (omega (arith, mod-lt p h)))
  where
    step : (m r : ℕ) → m < p → p % m * r ≈ 1 → m * ((p - p / m) * r % p) ≈ 1
    step m r k ih =
        mul≈ m (mod≈ ((p - p / m) * r))
        then omega (arith, ih, ap (λ (x : ℕ). x * r) (div-add-mod p m), ap (λ (x : ℕ). m * x * r) (sub-add_cancel (div-le_self p m)))

below_in : (n a : ℕ) → inverse_in n a < p
unfolding inverse_in
below_in zero a = lit< tt
below_in (suc n) zero = lit< tt
below_in (suc n) (suc zero) = lit< tt
below_in (suc n) (suc (suc a)) = mod_below ((p - p / suc (suc a)) * inverse_in n (p % suc (suc a)))

pub inverse-below : (a : ℕ) → inverse a < p
unfolding inverse
inverse-below a = below_in (a % p) (a % p)

pub inverse-right : (a : ℕ) → 0 < a % p → a * inverse a ≈ 1
unfolding inverse
inverse-right a h = mul≈₂ (flip (mod≈ a)) (from≡ refl) then inverse_in_lem (a % p) (a % p) h (le_refl (a % p)) (mod_below a)

-- a factor that p does not divide is cancelled
pub cancel : (a : ℕ) {b c : ℕ} → 0 < a % p → a * b ≈ a * c → b ≈ c
cancel a {b} {c} l h = omega (arith, mul≈ (inverse a) h, mul≈ b (inverse-right a l), mul≈ c (inverse-right a l))

pub cancel_small : (a b c : ℕ) → 1 ≤ a → a ≤ 32748 → b ≤ 32748 → c ≤ 32748 → a * b % p ≡ a * c % p → b ≡ c
cancel_small a b c l h m n e = same-small (omega arith) (omega arith) (cancel a (omega arith) (record { same = e }))

-- there is one inverse below p
pub inverse_one : (a s : ℕ) → 0 < a % p → s < p → 1 ≈ a * s → s ≡ inverse a
inverse_one a s h l e = same-small l (inverse-below a) (cancel a h (flip e then flip (inverse-right a h)))

-- p divides a product only if it divides a factor
pub euclid : (a b : ℕ) → a * b ≈ 0 → (a ≈ 0) ⊎ (b ≈ 0)
euclid a b h = pick (eq-zero-or-pos (a % p))
  where
    pick : (a % p ≡ 0) ⊎ (0 < a % p) → (a ≈ 0) ⊎ (b ≈ 0)
    pick (inl e) = inl (record { same = e })
    pick (inr l) = inr (omega (arith, mul≈ b (inverse-right a l), mul≈ (inverse a) h))

-- one turn of the loop that inverts a: the remainder r is a·s, and so is the next one, with the next s
pub remainder : (a r s : ℕ) → r ≈ a * s → p % r ≈ a * (s * (p - p / r) % p)
remainder a r s h = turn then (mul≈₂ h (from≡ refl) then (from≡ (mul_assoc a s (p - p / r)) then mul≈ a (flip (mod≈ (s * (p - p / r))))))
  where
    turn : p % r ≈ r * (p - p / r)
    turn = omega (arith, div-add-mod p r, ap (λ (x : ℕ). r * x) (sub-add_cancel (div-le_self p r)))
