-- Lagrange's formula: the loose polynomials, each times its piece and its weight, make the polynomial through the pieces; at 0 it is the
-- weighted sum of the pieces. Assumes nothing.
use mathlib.Core.Path.{◌≡◌, refl, sym, ap, ◌∙◌}
use mathlib.Core.Logic.{◌≢◌, ◌⊎◌, inl, inr}
use mathlib.Core.List.{List, [], ◌∷◌}
use Prim.Native.Nat.{ℕ, suc, zero-le, ◌+◌, ◌-◌, ◌*◌, ◌%◌, ◌≤◌, ◌<◌}
use native.Mathlib.Omega.{arith}
use native.Mathlib.Nat.{eq-or-lt_of_le, le_of_eq, le_refl}
use lib.ListN.{length, get_or}
use Rattle.prime.specs.Prime.{p, Below}
use Rattle.field.specs.Poly.{value, Through}
use Rattle.field.specs.Joined.{joined}
use Rattle.field.specs.Lagrange.{lagrange_weight, weighed}
use Rattle.prime.proofs.Mod.{◌≈◌, ◌then◌, from≡, add≈, mul≈, mul≈₂, small}
use Rattle.field.proofs.Sums.{below-nil, plus_times, plus_times_value, plus_times_length, plus_times_below}
use Rattle.field.proofs.Unique.{value-zero, joined-value}
use Rattle.field.proofs.Loosened.{loose, loose_none, loose_length}
use Rattle.field.proofs.Products.{weight_one}

-- where all weights are 0, and where all but that of piece x, which is 1
weighed-none : (w : ℕ → ℕ) (j : ℕ) (ys : List ℕ) → ((i : ℕ) → j ≤ i → i < j + length ys → w i ≈ 0) → weighed w j ys ≈ 0
unfolding weighed
weighed-none w j [] h = from≡ refl
weighed-none w j (y ∷ ys) h =
    add≈ (mul≈₂ (h j (le_refl j) (omega arith)) (from≡ refl)) (weighed-none w (suc j) ys (λ i a b. h i (omega arith) (omega arith)))
    then omega arith

weighed_one : (w : ℕ → ℕ) (x j : ℕ) (ys : List ℕ) → w x ≈ 1 → ((i : ℕ) → j ≤ i → i < j + length ys → i ≢ x → w i ≈ 0)
    → j ≤ x → x < j + length ys → weighed w j ys ≈ get_or ys (x - j) 0
unfolding weighed
weighed_one w x j [] e h l m = absurd (omega arith)
weighed_one w x j (y ∷ ys) e h l m =
    pick (eq-or-lt_of_le l) (λ k. weighed_one w x (suc j) ys e (λ i a b. h i (omega arith) (omega arith)) k (omega arith))
  where
    pick : (j ≡ x) ⊎ (j < x) → (suc j ≤ x → weighed w (suc j) ys ≈ get_or ys (x - suc j) 0) → w j * y + weighed w (suc j) ys ≈ get_or (y ∷ ys) (x - j) 0
    pick (inl g) ih =
        let s : x - j ≡ 0 = omega arith in
        rw (s, g) (add≈ (mul≈₂ e (from≡ refl)) (weighed-none w (suc x) ys (λ i a b. h i (omega arith) (omega arith) (λ f. omega arith)))
        then omega arith)
    pick (inr g) ih =
        let s : x - j ≡ suc (x - suc j) = omega arith in
        rw s (add≈ (mul≈₂ (h j (le_refl j) (omega arith) (λ f. omega arith)) (from≡ refl)) (ih g) then omega arith)

weighed-same : (v w : ℕ → ℕ) (j : ℕ) (ys : List ℕ) → ((i : ℕ) → v i ≡ w i) → weighed v j ys ≡ weighed w j ys
unfolding weighed
weighed-same v w j [] h = refl
weighed-same v w j (y ∷ ys) h = rw (h j, weighed-same v w (suc j) ys h)

-- the polynomial that is the pieces ys at j, j + 1, .. and 0 at the other pieces of 1 to k
pub curve : ℕ → ℕ → List ℕ → List ℕ
curve k j [] = []
curve k j (y ∷ ys) = plus_times (curve k (suc j) ys) (lagrange_weight k j * y) (1 ∷ loose j k)

module _ (k : ℕ) where
  curve_value : (x j : ℕ) (ys : List ℕ) → value (curve k j ys) x ≈ weighed (λ i. lagrange_weight k i * value (1 ∷ loose i k) x) j ys
  unfolding curve weighed value
  curve_value x j [] = from≡ refl
  curve_value x j (y ∷ ys) =
      plus_times_value (curve k (suc j) ys) (lagrange_weight k j * y) (1 ∷ loose j k) x
      then add≈ (curve_value x (suc j) ys) (from≡ refl)
      then turned (lagrange_weight k j) (value (1 ∷ loose j k) x) (weighed (λ i. lagrange_weight k i * value (1 ∷ loose i k) x) (suc j) ys)
    where
      turned : (w v s : ℕ) → s + w * y * v ≈ w * v * y + s
      turned w v s = omega arith

  curve_below : (j : ℕ) (ys : List ℕ) → Below (curve k j ys)
  unfolding curve
  curve_below j [] = below-nil
  curve_below j (y ∷ ys) = plus_times_below (curve k (suc j) ys) (lagrange_weight k j * y) (1 ∷ loose j k) (curve_below (suc j) ys)

  -- it has k coefficients, if there is a piece at all
  one_more : (j y : ℕ) (ys : List ℕ) → 1 ≤ j → j ≤ k → length (curve k (suc j) ys) ≤ k → length (curve k j (y ∷ ys)) ≡ k
  unfolding curve
  one_more j y ys a b h =
      let n = loose_length j k a b in
      plus_times_length (curve k (suc j) ys) (lagrange_weight k j * y) (1 ∷ loose j k) (omega arith) ∙ n

  curve_most : (j : ℕ) (ys : List ℕ) → 1 ≤ j → j + length ys ≤ suc k → length (curve k j ys) ≤ k
  unfolding curve
  curve_most j [] a h = zero-le
  curve_most j (y ∷ ys) a h = le_of_eq (one_more j y ys a (omega arith) (curve_most (suc j) ys (omega arith) (omega arith)))

  -- the value at piece x
  curve_meets : (ys : List ℕ) → length ys ≡ k → k < p → (x : ℕ) → 1 ≤ x → x ≤ k → value (curve k 1 ys) x ≈ get_or ys (x - 1) 0
  curve_meets ys e l x a b =
      curve_value x 1 ys
      then weighed_one (λ i. lagrange_weight k i * value (1 ∷ loose i k) x) x 1 ys (weight_one k x (omega arith) l)
      (λ i u v f. mul≈ (lagrange_weight k i) (loose_none i k x l a b (λ g. f (sym g))) then omega arith)
      a (omega arith)

-- through k points goes a polynomial of degree less than k
pub through_some : (ys : List ℕ) → Below ys → length ys < p → Through (curve (length ys) 1 ys) ys
through_some ys b l = record {
  degree = full ys;
  below = curve_below (length ys) 1 ys;
  meets = λ j u v. sym (small (b.each (j - 1))) ∙ sym (curve_meets (length ys) ys refl l j u v).same;
}
  where
    full : (zs : List ℕ) → length (curve (length zs) 1 zs) ≡ length zs
    full [] = unfold curve in refl
    full (z ∷ zs) = one_more (length (z ∷ zs)) 1 z zs (le_refl 1) (omega arith) (curve_most (length (z ∷ zs)) 2 zs (omega arith) (omega arith))

-- the weighted sum of the pieces is the joined word
pub by_weights : (ys : List ℕ) → Below ys → length ys < p → weighed (lagrange_weight (length ys)) 1 ys % p ≡ joined ys
by_weights ys b l =
    let k = length ys in
    ap (λ (s : ℕ). s % p) (weighed-same (lagrange_weight k) (λ i. lagrange_weight k i * value (1 ∷ loose i k) 0) 1 ys at_zero)
    ∙ sym (curve_value k 0 1 ys).same
    ∙ sym (joined-value (curve k 1 ys) ys (through_some ys b l))
  where
    at_zero : (i : ℕ) → lagrange_weight (length ys) i ≡ lagrange_weight (length ys) i * value (1 ∷ loose i (length ys)) 0
    at_zero i = rw (value-zero 1 (loose i (length ys))) (omega arith)
