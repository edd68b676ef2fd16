-- The polynomial that is 1 at 0 and 0 at every piece of 1 to k but m: the product of 1 − x / i over the other pieces i.
-- Assumes nothing.
use mathlib.Core.Path.{◌≡◌, refl, sym, ap, ◌∙◌}
use mathlib.Core.Logic.{◌≢◌, ◌⊎◌, inl, inr}
use mathlib.Core.Bool.{Bool, true, false, cond}
use mathlib.Core.List.{List, [], ◌∷◌}
use Prim.Native.Nat.{ℕ, zero, suc, ◌+◌, ◌*◌, ◌%◌, ◌≤◌, ◌<◌}
use native.Mathlib.Omega.{arith}
use native.Mathlib.Nat.{eq-or-lt_of_le, le_of_suc-le-suc}
use borrow.Author.Tests.{eqb-true, eq-eqb, ne_eqb}
use lib.Dec.{eqb}
use lib.ListN.{length}
use Rattle.prime.specs.Prime.{p, Below}
use Rattle.field.specs.Poly.{value}
use Rattle.prime.specs.Inverse.{inverse}
use Rattle.field.specs.Laws.{Loose}
use Rattle.prime.proofs.Mod.{◌≈◌, ◌then◌, from≡, add≈, mul≈}
use Rattle.prime.proofs.Prime.{inverse-right}
use Rattle.field.proofs.Sums.{below-nil, plus_times, plus_times_value, plus_times_length, plus_times_below}

-- its coefficients after the 1
unfoldable pub loose : ℕ → ℕ → List ℕ
loose m zero = []
loose m (suc n) = cond (eqb (suc n) m) (loose m n) (plus_times (loose m n) (32748 * inverse (suc n)) (1 ∷ loose m n))

-- one factor more
pub factor : (cs : List ℕ) (e x : ℕ) → value (1 ∷ plus_times cs e (1 ∷ cs)) x ≈ (1 + x * e) * value (1 ∷ cs) x
unfolding value
factor cs e x = add≈ (from≡ refl) (mul≈ x (plus_times_value cs e (1 ∷ cs) x)) then omega arith

-- 1 − j / j is 0
gone : (j v : ℕ) → 0 < j % p → (1 + j * (32748 * inverse j)) * v ≈ 0
gone j v h = omega (arith, mul≈ v (inverse-right j h))

pub loose_none : (m n j : ℕ) → n < p → 1 ≤ j → j ≤ n → j ≢ m → value (1 ∷ loose m n) j ≈ 0
unfolding loose
loose_none m zero j l a b f = absurd (omega arith)
loose_none m (suc n) j l a b f = go (eqb (suc n) m) refl (eq-or-lt_of_le b) (λ h. loose_none m n j (omega arith) a h f)
  where
    cs : List ℕ
    cs = loose m n

    go : (t : Bool) → eqb (suc n) m ≡ t → (j ≡ suc n) ⊎ (j < suc n) → (j ≤ n → value (1 ∷ cs) j ≈ 0)
        → value (1 ∷ cond t cs (plus_times cs (32748 * inverse (suc n)) (1 ∷ cs))) j ≈ 0
    go true e (inl g) ih = absurd (f (g ∙ eqb-true (suc n) m e))
    go true e (inr g) ih = ih (le_of_suc-le-suc g)
    go false e (inl g) ih =
        factor cs (32748 * inverse (suc n)) j
        then rw g (gone (suc n) (value (1 ∷ cs) (suc n)) (omega arith))
    go false e (inr g) ih =
        factor cs (32748 * inverse (suc n)) j
        then mul≈ (1 + j * (32748 * inverse (suc n))) (ih (le_of_suc-le-suc g))
        then omega arith

loose_below : (m n : ℕ) → Below (loose m n)
unfolding loose
loose_below m zero = below-nil
loose_below m (suc n) = go (eqb (suc n) m) (loose_below m n)
  where
    go : (t : Bool) → Below (loose m n) → Below (cond t (loose m n) (plus_times (loose m n) (32748 * inverse (suc n)) (1 ∷ loose m n)))
    go true b = b
    go false b = plus_times_below (loose m n) (32748 * inverse (suc n)) (1 ∷ loose m n) b

-- as many coefficients as factors: piece m has none
longer : (m n : ℕ) → suc n ≢ m → length (loose m (suc n)) ≡ suc (length (loose m n))
unfolding loose
longer m n f =
    let e : eqb (suc n) m ≡ false = ne_eqb (suc n) m f in
    rw e (plus_times_length (loose m n) (32748 * inverse (suc n)) (1 ∷ loose m n) (omega arith))

loose_full : (m n : ℕ) → n < m → length (loose m n) ≡ n
unfolding loose
loose_full m zero l = refl
loose_full m (suc n) l = longer m n (λ e. omega arith) ∙ ap suc (loose_full m n (omega arith))

pub loose_length : (m n : ℕ) → 1 ≤ m → m ≤ n → length (1 ∷ loose m n) ≡ n
unfolding loose
loose_length m zero a b = absurd (omega arith)
loose_length m (suc n) a b = go (eq-or-lt_of_le b) (loose_length m n a)
  where
    go : (m ≡ suc n) ⊎ (m < suc n) → (m ≤ n → length (1 ∷ loose m n) ≡ n) → length (1 ∷ loose m (suc n)) ≡ suc n
    go (inl e) ih =
        let t : eqb (suc n) m ≡ true = eq-eqb (suc n) m (sym e) in
        rw t (ap suc (loose_full m n (omega arith)))
    go (inr l) ih = ap suc (longer m n (λ e. omega arith) ∙ ih (le_of_suc-le-suc l))

pub loose_is : (k m : ℕ) → k < p → 1 ≤ m → m ≤ k → Loose k m (loose m k)
loose_is k m l a b = record {
  degree = loose_length m k a b;
  below = loose_below m k;
  none = λ j u v f. (loose_none m k j l u v f).same;
}
