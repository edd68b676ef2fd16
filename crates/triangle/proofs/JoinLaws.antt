-- The weighted sum of the pieces is their joined word, by parts over the differences; and so these weights are Lagrange's, since both sums are the
-- joined word also of the list that is 1 at one piece and 0 at the others. Assumes nothing.
use mathlib.Core.Path.{◌≡◌, refl, sym, ap, ◌∙◌}
use mathlib.Core.Bool.{Bool, true, false, cond}
use mathlib.Core.Logic.{◌⊎◌, inl, inr}
use mathlib.Core.List.{List, [], ◌∷◌}
use Prim.Native.Nat.{ℕ, zero, suc, zero-le, ◌+◌, ◌*◌, ◌%◌, ◌≤◌, ◌<◌}
use native.Mathlib.Omega.{arith}
use native.Mathlib.Nat.{suc_inj, suc-ne-zero, mul_comm, le_refl, eq-or-lt_of_le}
use lib.Dec.{eqb}
use lib.ListN.{length}
use borrow.Author.Tests.{eq-eqb, ne_eqb}
use Rattle.lists.specs.Run.{run}
use Rattle.lists.proofs.RunLaws.{run_length, run-few}
use Rattle.prime.specs.Prime.{p, Below}
use Rattle.prime.proofs.Mod.{◌≈◌, ◌then◌, flip, from≡, add≈, mul≈, minus≈, small}
use Rattle.field.specs.Joined.{diffs, joined_in, joined}
use Rattle.field.specs.Lagrange.{lagrange_weight, weighed}
use Rattle.field.proofs.DifferenceLaws.{diffs-length}
use Rattle.field.proofs.Degree.{joined-below}
use Rattle.field.proofs.Products.{weight-small}
use Rattle.field.proofs.Curve as curve
use Rattle.triangle.specs.Triangle.{weight}
use Rattle.triangle.proofs.WeightLaws.{weight-below, weight-none, weight-zero, weight_rule}

regroup : (w s w' t z y : ℕ) → w * (z + 32748 * y) + s + (w' * z + t) + w * y ≈ s + t + z * (w' + w)
regroup w s w' t z y = omega arith

-- a sum over differences, by parts
parts : (k j y : ℕ) (ys : List ℕ) → k < j + length ys → weighed (weight k) j (diffs (y ∷ ys)) + weighed (weight (suc k)) (suc j) ys + weight k j * y ≈ 0
unfolding weighed diffs
parts k j y [] l = omega (arith, ap (λ (x : ℕ). x * y) (weight-none k j (omega arith)))
parts k j y (z ∷ zs) l =
    add≈ (add≈ (add≈ (mul≈ (weight k j) (minus≈ z y)) (from≡ refl)) (from≡ refl)) (from≡ refl)
    then regroup (weight k j) (weighed (weight k) (suc j) (diffs (z ∷ zs))) (weight (suc k) (suc j)) (weighed (weight (suc k)) (suc (suc j)) zs) z y
    then add≈ (from≡ refl) (mul≈ z (weight_rule k j) then from≡ (mul_comm z (weight k (suc j))))
    then parts k (suc j) z zs (omega arith)

weighed-joined : (k : ℕ) (ys : List ℕ) → length ys ≡ k → weighed (weight k) 1 ys ≈ joined_in k ys
unfolding weighed joined_in
weighed-joined zero [] e = from≡ refl
weighed-joined zero (y ∷ ys) e = absurd (suc-ne-zero (length ys) e)
weighed-joined (suc k) [] e = from≡ refl
weighed-joined (suc k) (y ∷ ys) e =
    first (weight (suc k) 1) (weight k 1) (weighed (weight (suc k)) 2 ys) (weight_rule k 0)
    then second (weight k 1) (weighed (weight (suc k)) 2 ys) (weighed (weight k) 1 (diffs (y ∷ ys))) (parts k 1 y ys (omega arith))
    then third (weighed (weight k) 1 (diffs (y ∷ ys))) (joined_in k (diffs (y ∷ ys))) (weighed-joined k (diffs (y ∷ ys)) (diffs-length y ys ∙ suc_inj e))
    then flip (minus≈ y (joined_in k (diffs (y ∷ ys))))
  where
    first : (w u s : ℕ) → w + weight k 0 ≈ u → w * y + s ≈ y + u * y + s
    first w u s h = omega (arith, mul≈ y (rw weight-zero at h))

    second : (u s d : ℕ) → d + s + u * y ≈ 0 → y + u * y + s ≈ y + 32748 * d
    second u s d h = omega arith

    third : (d x : ℕ) → d ≈ x → y + 32748 * d ≈ y + 32748 * x
    third d x h = add≈ (from≡ refl) (mul≈ 32748 h)

pub by_weights : (ys : List ℕ) → joined ys ≡ weighed (weight (length ys)) 1 ys % p
unfolding joined
by_weights ys = sym ((weighed-joined (length ys) ys refl).same ∙ small (joined-below (length ys) ys))

-- ---- the list that is 1 at piece j and 0 at the others gives the weight of piece j
unit : ℕ → ℕ → ℕ
unit j i = cond (eqb i j) 1 0

unit_most : (j i : ℕ) → unit j i ≤ 1
unfolding unit
unit_most j i = go (eqb i j)
  where
    go : (t : Bool) → cond t 1 0 ≤ 1
    go true = le_refl 1
    go false = zero-le

-- past piece j nothing is added any more
unit_past : (w : ℕ → ℕ) (j x n : ℕ) → j < x → weighed w x (run (unit j) x n) ≡ 0
unfolding weighed run unit
unit_past w j x zero l = refl
unit_past w j x (suc n) l =
    let t : eqb x j ≡ false = ne_eqb x j (λ e. omega arith) in
    rw t (omega (arith, unit_past w j (suc x) n (omega arith)))

unit_weight : (w : ℕ → ℕ) (j x n : ℕ) → x ≤ j → j < x + n → weighed w x (run (unit j) x n) ≡ w j
unfolding weighed run unit
unit_weight w j x zero l h = absurd (omega arith)
unit_weight w j x (suc n) l h = pick (eq-or-lt_of_le l) (λ g. unit_weight w j (suc x) n g (omega arith))
  where
    pick : (x ≡ j) ⊎ (x < j) → (x < j → weighed w (suc x) (run (unit j) (suc x) n) ≡ w j)
        → w x * cond (eqb x j) 1 0 + weighed w (suc x) (run (unit j) (suc x) n) ≡ w j
    pick (inl e) ih =
        let t : eqb x j ≡ true = eq-eqb x j e in
        let s : w x ≡ w j = ap w e in
        rw t (omega (arith, s, unit_past w j (suc x) n (omega arith)))
    pick (inr g) ih =
        let t : eqb x j ≡ false = ne_eqb x j (λ e. omega arith) in
        rw t (omega (arith, ih g))

-- ---- so the weights are Lagrange's
pub weights_same : (k j : ℕ) → k < p → 1 ≤ j → j ≤ k → weight k j ≡ lagrange_weight k j
weights_same k j h l u =
    sym (picked (weight k) (weight-below k j))
    ∙ rw n at (sym (by_weights ys) ∙ sym (curve.by_weights ys below (omega (arith, n))))
    ∙ picked (lagrange_weight k) (weight-small k j)
  where
    ys : List ℕ
    ys = run (unit j) 1 k

    n : length ys ≡ k
    n = run_length (unit j) 1 k

    below : Below ys
    below = record { each = λ i. omega (arith, run-few (unit j) 1 (unit_most j) 1 k i) }

    picked : (w : ℕ → ℕ) → w j < p → weighed w 1 ys % p ≡ w j
    picked w b = ap (λ (x : ℕ). x % p) (unit_weight w j 1 k l (omega arith)) ∙ small b
