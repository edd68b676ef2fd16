-- The products of Lagrange's weights: one factor more, what they are of the loose polynomial, and that p does not divide them.
-- Assumes nothing.
use mathlib.Core.Path.{◌≡◌, refl, ap}
use mathlib.Core.Logic.{◌≢◌, ◌⊎◌, inl, inr}
use mathlib.Core.Bool.{Bool, true, false, cond}
use mathlib.Core.List.{◌∷◌}
use Prim.Native.Nat.{ℕ, zero, suc, ◌+◌, ◌-◌, ◌*◌, ◌%◌, ◌≤◌, ◌<◌}
use native.Mathlib.Omega.{arith}
use native.Mathlib.Nat.{pos_of_ne-zero}
use borrow.Author.Tests.{eqb-false, eq-eqb, ne_eqb}
use lib.Dec.{eqb, lit<}
use Rattle.prime.specs.Prime.{p, minus}
use Rattle.field.specs.Poly.{value}
use Rattle.prime.specs.Inverse.{inverse}
use Rattle.field.specs.Lagrange.{product, lagrange_weight}
use Rattle.prime.proofs.Mod.{◌≈◌, ◌then◌, flip, from≡, add≈, mul≈, mul≈₂, mod≈, mod_below, same-small, minus≈}
use Rattle.prime.proofs.Prime.{inverse-right, euclid}
use Rattle.field.proofs.Sums.{plus_times}
use Rattle.field.proofs.Loosened.{loose, factor}

-- ---- one turn of the loop, which has gone over the pieces before i: piece i is j, or it is another and f is i − x mod p
pub product_skip : (j x i acc : ℕ) → 1 ≤ i → i ≡ j → acc ≡ product j x (i - 1) → acc ≡ product j x (i + 1 - 1)
unfolding product
product_skip j x zero acc l h e = absurd (omega arith)
product_skip j x (suc n) acc l h e =
    let s : suc n - 1 ≡ n = omega arith in
    let t : suc n + 1 - 1 ≡ suc n = omega arith in
    rw (t, eq-eqb (suc n) j h) (rw s at e)

pub product_turn : (j x i f acc : ℕ) → 1 ≤ i → i ≢ j → f ≈ i + 32748 * x → acc ≡ product j x (i - 1) → f * acc % p ≡ product j x (i + 1 - 1)
unfolding product
product_turn j x zero f acc l h g e = absurd (omega arith)
product_turn j x (suc n) f acc l h g e =
    let s : suc n - 1 ≡ n = omega arith in
    let t : suc n + 1 - 1 ≡ suc n = omega arith in
    rw (t, ne_eqb (suc n) j h) (mul≈₂ (g then flip (minus≈ (suc n) x)) (from≡ (rw s at e))).same

pub product_small : (j x n : ℕ) → product j x n < p
unfolding product
product_small j x zero = lit< tt
product_small j x (suc n) = go (eqb (suc n) j) (product_small j x n)
  where
    go : (t : Bool) → product j x n < p → cond t (product j x n) (minus (suc n) x * product j x n % p) < p
    go true h = h
    go false h = mod_below (minus (suc n) x * product j x n)

-- p does not divide the product where x is none of the pieces in it
pub product-apart : (j x n : ℕ) → x < p → n < p → ((i : ℕ) → 1 ≤ i → i ≤ n → i ≢ j → i ≢ x) → 0 < product j x n % p
unfolding product
product-apart j x zero h l f = lit< tt
product-apart j x (suc n) h l f = go (eqb (suc n) j) refl (product-apart j x n h (omega arith) (λ i a b. f i a (omega arith)))
  where
    go : (t : Bool) → eqb (suc n) j ≡ t → 0 < product j x n % p → 0 < cond t (product j x n) (minus (suc n) x * product j x n % p) % p
    go true e a = a
    go false e a = pos_of_ne-zero λ z. pick (euclid (minus (suc n) x) (product j x n) (omega arith))
      where
        pick : (minus (suc n) x ≈ 0) ⊎ (product j x n ≈ 0) → ⊥
        pick (inl g) = f (suc n) (omega arith) (omega arith) (eqb-false (suc n) j e) (same-small l h (omega (arith, minus≈ (suc n) x)))
        pick (inr g) = omega arith

-- i · (1 − x / i) is i − x
times : (i a x v : ℕ) → 0 < i % p → i * a * ((1 + x * (32748 * inverse i)) * v) ≈ (i + 32748 * x) * (a * v)
times i a x v h =
    from≡ (open_up (inverse i)) then add≈ (from≡ refl) (mul≈ (32748 * (x * (a * v))) (inverse-right i h)) then from≡ (omega arith)
  where
    open_up : (u : ℕ) → i * a * ((1 + x * (32748 * u)) * v) ≡ i * (a * v) + 32748 * (x * (a * v)) * (i * u)
    open_up u = omega arith

-- the loose polynomial at x is the product at x by the product at 0
loose_product : (m x n : ℕ) → n < p → product m 0 n * value (1 ∷ loose m n) x ≈ product m x n
unfolding product loose value
loose_product m x zero l = omega arith
loose_product m x (suc n) l = go (eqb (suc n) m) (loose_product m x n (omega arith))
  where
    v : ℕ
    v = value (1 ∷ loose m n) x

    go : (t : Bool) → product m 0 n * v ≈ product m x n
        → cond t (product m 0 n) (minus (suc n) 0 * product m 0 n % p) * value (1 ∷ cond t (loose m n) (plus_times (loose m n) (32748 * inverse (suc n)) (1 ∷ loose m n))) x
        ≈ cond t (product m x n) (minus (suc n) x * product m x n % p)
    go true ih = ih
    go false ih =
        mul≈₂ (mod≈ (minus (suc n) 0 * product m 0 n) then mul≈₂ (minus≈ (suc n) 0) (from≡ refl)) (factor (loose m n) (32748 * inverse (suc n)) x)
        then from≡ (ap (λ (y : ℕ). y * product m 0 n * ((1 + x * (32748 * inverse (suc n))) * v)) (omega arith))
        then times (suc n) (product m 0 n) x v (omega arith)
        then mul≈₂ (flip (minus≈ (suc n) x)) ih
        then flip (mod≈ (minus (suc n) x * product m x n))

-- the weight of piece j times the loose polynomial of piece j is 1 at j
pub weight_one : (k j : ℕ) → j < p → k < p → lagrange_weight k j * value (1 ∷ loose j k) j ≈ 1
unfolding lagrange_weight
weight_one k j h l =
    mul≈₂ (mod≈ (product j 0 k * inverse (product j j k))) (from≡ refl)
    then regroup (product j 0 k) (inverse (product j j k)) (value (1 ∷ loose j k) j) (product j j k) (loose_product j j k l)
    then inverse-right (product j j k) (product-apart j j k h l (λ i a b f. f))
  where
    regroup : (a i v b : ℕ) → a * v ≈ b → a * i * v ≈ b * i
    regroup a i v b e = omega (arith, mul≈ i e)

pub weight-small : (k j : ℕ) → lagrange_weight k j < p
unfolding lagrange_weight
weight-small k j = mod_below (product j 0 k * inverse (product j j k))
