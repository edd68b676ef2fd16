-- What was dealt is joined again, word by word: each word with its own coefficients.
-- Assumes nothing.
use mathlib.Core.Path.{◌≡◌, ◌∙◌, subst}
use mathlib.Core.List.{List, [], ◌∷◌}
use Prim.Native.Nat.{ℕ, zero, suc, ◌-◌, ◌*◌, ◌≤◌, ◌<◌}
use native.Mathlib.Omega.{arith}
use native.Mathlib.Nat.{not-suc-le-zero, le_of_suc-le-suc}
use lib.ListN.{length, get_or, take, drop, length-drop}
use lib.Seq.{length-take-le}
use Rattle.field.specs.Poly.{piece}
use Rattle.prime.specs.Prime.{Below}
use Rattle.lists.specs.Run.{run}
use Rattle.field.specs.Pieces.{values, Random}
use Rattle.field.specs.Joined.{joined}
use Rattle.field.proofs.Sums.{below-cons, below_rest, below-take, below-drop}
use Rattle.field.proofs.Unique.{round_trip_one}

-- with q coefficients for each word; i counts from 0
words : (q : ℕ) (ds rs : List ℕ) → Below ds → Below rs → length rs ≡ length ds * q → (i : ℕ) → i < length ds
    → joined (run (λ j. get_or (values q ds rs j) i 0) 1 (suc q)) ≡ get_or ds i 0
unfolding values
words q [] rs a b e i h = absurd (not-suc-le-zero h)
words q (d ∷ ds) rs a b e zero h =
    let n : length (take q rs) ≡ q = length-take-le q rs (omega arith) in
    subst (λ (m : ℕ). joined (run (piece d (take q rs)) 1 (suc m)) ≡ d) n
    (round_trip_one d (take q rs) (below-cons (a.each 0) (below-take q rs b)))
words q (d ∷ ds) rs a b e (suc i) h =
    words q ds (drop q rs) (below_rest a) (below-drop q rs b) (length-drop q rs ∙ omega arith) i (le_of_suc-le-suc h)

pub round_trip : (k : ℕ) (ds rs : List ℕ) → 1 ≤ k → Below ds → Random (length ds) k rs → (i : ℕ) → 1 ≤ i → i ≤ length ds
    → joined (run (λ j. get_or (values (k - 1) ds rs j) (i - 1) 0) 1 k) ≡ get_or ds (i - 1) 0
round_trip k ds rs l b r i a h =
    let e : suc (k - 1) ≡ k = omega arith in
    subst (λ (n : ℕ). joined (run (λ j. get_or (values (k - 1) ds rs j) (i - 1) 0) 1 n) ≡ get_or ds (i - 1) 0) e
    (words (k - 1) ds rs b r.below r.count (i - 1) (omega arith))
