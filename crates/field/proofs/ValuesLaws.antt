-- The values of a piece, one for each secret word: what each is, how many they are, and that each is below p. Randomness of zeros.
-- Assumes nothing.
use mathlib.Core.Path.{◌≡◌, refl, ap}
use mathlib.Core.List.{List, [], ◌∷◌}
use Prim.Native.Nat.{ℕ, zero, suc, ◌+◌, ◌-◌, ◌*◌, ◌<◌}
use native.Mathlib.Omega.{arith}
use native.Mathlib.Nat.{not-suc-le-zero, le_of_suc-le-suc}
use lib.ListN.{length, get_or, take, drop, replicate, length-replicate}
use lib.Seq.{drop-drop}
use Rattle.field.specs.Poly.{value, piece}
use Rattle.prime.specs.Prime.{Below}
use Rattle.field.specs.Pieces.{values, Random}
use Rattle.prime.proofs.Mod.{mod_below}
use Rattle.field.proofs.Sums.{below-nil, below-cons}

-- i counts from 0
pub values-at : (q : ℕ) (ds rs : List ℕ) (j i : ℕ) → i < length ds → get_or (values q ds rs j) i 0 ≡ piece (get_or ds i 0) (take q (drop (i * q) rs)) j
unfolding values
values-at q [] rs j i h = absurd (not-suc-le-zero h)
values-at q (d ∷ ds) rs j zero h = let e : 0 * q ≡ 0 = omega arith in rw e
values-at q (d ∷ ds) rs j (suc i) h =
    let e : suc i * q ≡ q + i * q = omega arith in
    rw (e, ← drop-drop (i * q) q rs) (values-at q ds (drop q rs) j i (le_of_suc-le-suc h))

pub values_length : (q : ℕ) (ds rs : List ℕ) (j : ℕ) → length (values q ds rs j) ≡ length ds
unfolding values
values_length q [] rs j = refl
values_length q (d ∷ ds) rs j = ap suc (values_length q ds (drop q rs) j)

pub values-below : (q : ℕ) (ds rs : List ℕ) (j : ℕ) → Below (values q ds rs j)
unfolding values
values-below q [] rs j = below-nil
values-below q (d ∷ ds) rs j = below-cons (mod_below (value (d ∷ take q rs) j)) (values-below q ds (drop q rs) j)

-- ---- randomness of zeros alone
zero-at : (n i : ℕ) → ◌≡◌ {A = ℕ} (get_or (replicate n 0) i 0) 0
zero-at zero i = refl
zero-at (suc n) zero = refl
zero-at (suc n) (suc i) = zero-at n i

pub zeros_too : (w k : ℕ) → Random w k (replicate (w * (k - 1)) 0)
zeros_too w k = record { count = length-replicate (w * (k - 1)) 0; below = record { each = λ i. omega (arith, zero-at (w * (k - 1)) i) } }
