-- The weights by Pascal's rule: with changing signs, each is the weight above it less the one to the left of that.
-- Assumes nothing.
use mathlib.Core.Path.{◌≡◌, refl, ap, ◌∙◌}
use mathlib.Core.Bool.{Bool, true, false, cond}
use Prim.Native.Nat.{ℕ, zero, suc, ◌+◌, ◌*◌, ◌%◌, ◌<◌}
use native.Mathlib.Omega.{arith}
use native.Mathlib.Nat.{not-suc-le-zero, le_of_suc-le-suc}
use borrow.Author.Tests.{eqb-true, eqb-false, eq-eqb, ne_eqb}
use Rattle.prime.specs.Prime.{p, minus}
use Rattle.prime.proofs.Mod.{◌≈◌, ◌then◌, flip, add≈, mod≈, mod_below, minus≈, minus-below, same-small}
use Rattle.triangle.specs.Triangle.{choose, odd, weight}

-- c with the sign that it has where the test of an odd place says t
signed : Bool → ℕ → ℕ
signed t c = cond t (c % p) (minus 0 c)

signed_below : (t : Bool) (c : ℕ) → signed t c < p
unfolding signed
signed_below true c = mod_below c
signed_below false c = minus-below 0 c

pub weight-below : (k j : ℕ) → weight k j < p
unfolding weight signed
weight-below k j = signed_below (odd j) (choose k j)

pub weight-zero : (k : ℕ) → weight k 0 ≡ 32748
unfolding weight choose minus
weight-zero k = refl

-- of k there is no way to choose more than k
choose-none : (k j : ℕ) → k < j → choose k j ≡ 0
unfolding choose
choose-none k zero l = absurd (not-suc-le-zero l)
choose-none zero (suc j) l = refl
choose-none (suc k) (suc j) l = omega (arith, choose-none k j (le_of_suc-le-suc l), choose-none k (suc j) (omega arith))

signed_none : (t : Bool) → signed t 0 ≡ 0
unfolding signed minus
signed_none true = refl
signed_none false = refl

pub weight-none : (k j : ℕ) → k < j → weight k j ≡ 0
unfolding weight signed
weight-none k j l = ap (signed (odd j)) (choose-none k j l) ∙ signed_none (odd j)

-- ---- Pascal's rule
-- neighbours have unlike signs
odd_turns : (j : ℕ) (t : Bool) → odd j ≡ t → odd (suc j) ≡ cond t false true
odd_turns j true e = ne_eqb (suc j % 2) 1 (λ f. omega (arith, eqb-true (j % 2) 1 e))
odd_turns j false e = eq-eqb (suc j % 2) 1 (let n = eqb-false (j % 2) 1 e in omega arith)

signed_rule : (t : Bool) (a b : ℕ) → signed (cond t false true) (a + b) + signed t a ≈ signed (cond t false true) b
unfolding signed
signed_rule true a b = add≈ (minus≈ 0 (a + b)) (mod≈ a) then turned then flip (minus≈ 0 b)
  where
    turned : 0 + 32748 * (a + b) + a ≈ 0 + 32748 * b
    turned = omega arith
signed_rule false a b = add≈ (mod≈ (a + b)) (minus≈ 0 a) then turned then flip (mod≈ b)
  where
    turned : a + b + (0 + 32748 * a) ≈ b
    turned = omega arith

pub weight_rule : (k j : ℕ) → weight (suc k) (suc j) + weight k j ≈ weight k (suc j)
unfolding weight choose signed
weight_rule k j = go (odd j) refl
  where
    go : (t : Bool) → odd j ≡ t
        → signed (odd (suc j)) (choose k j + choose k (suc j)) + signed (odd j) (choose k j) ≈ signed (odd (suc j)) (choose k (suc j))
    go t e = rw (odd_turns j t e, e) (signed_rule t (choose k j) (choose k (suc j)))

pub weight-minus : (k j : ℕ) → minus (weight k (suc j)) (weight k j) ≡ weight (suc k) (suc j)
weight-minus k j =
    same-small (minus-below (weight k (suc j)) (weight k j)) (weight-below (suc k) (suc j))
    (minus≈ (weight k (suc j)) (weight k j) then go (weight_rule k j))
  where
    go : weight (suc k) (suc j) + weight k j ≈ weight k (suc j) → weight k (suc j) + 32748 * weight k j ≈ weight (suc k) (suc j)
    go h = omega arith
