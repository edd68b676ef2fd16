-- Rows of differences: how long they are, and that the sum of their first numbers with alternating signs is the joined word. Such a sum is
-- its first number less the same sum of the others. Assumes nothing.
use mathlib.Core.Path.{◌≡◌, refl, sym, ap, ◌∙◌}
use mathlib.Core.List.{List, [], ◌∷◌}
use Prim.Native.Nat.{ℕ, zero, suc, ◌+◌, ◌-◌, ◌≤◌, ◌<◌}
use native.Mathlib.Omega.{arith}
use native.Mathlib.Nat.{suc_inj, suc-ne-zero, not-suc-le-zero}
use lib.ListN.{length, get_or}
use Rattle.prime.specs.Prime.{minus, Below}
use Rattle.field.specs.Joined.{diffs, joined_in, joined}
use Rattle.field.specs.Differences.{rows_in, rows, firsts, with_plus, with_minus, alternating, by_differences}
use Rattle.prime.proofs.Mod.{minus-below}
use Rattle.field.proofs.Sums.{below-nil, below-cons}

-- ---- one row
pub diffs-length : (y : ℕ) (ys : List ℕ) → length (diffs (y ∷ ys)) ≡ length ys
unfolding diffs
diffs-length y [] = refl
diffs-length y (z ∷ zs) = ap suc (diffs-length z zs)

pub diffs-below : (ys : List ℕ) → Below (diffs ys)
unfolding diffs
diffs-below [] = below-nil
diffs-below (y ∷ []) = below-nil
diffs-below (y ∷ z ∷ zs) = below-cons (minus-below z y) (diffs-below (z ∷ zs))

-- ---- all rows
rows-count : (n : ℕ) (row : List ℕ) → length (rows_in n row) ≡ n
unfolding rows_in
rows-count zero row = refl
rows-count (suc n) row = ap suc (rows-count n (diffs row))

row-length : (n : ℕ) (row : List ℕ) → length row ≡ n → (i : ℕ) → i < n → length (get_or (rows_in n row) i []) ≡ n - i
unfolding rows_in
row-length zero row e i h = absurd (not-suc-le-zero h)
row-length (suc n) [] e i h = absurd (suc-ne-zero n (sym e))
row-length (suc n) (y ∷ ys) e zero h = e ∙ omega arith
row-length (suc n) (y ∷ ys) e (suc i) h = row-length n (diffs (y ∷ ys)) (diffs-length y ys ∙ suc_inj e) i (omega arith) ∙ omega arith

pub rows_end : (ys : List ℕ) → (length (rows ys) ≡ length ys) × ((i : ℕ) → 1 ≤ i → i ≤ length ys → length (get_or (rows ys) (i - 1) []) ≡ length ys + 1 - i)
unfolding rows
rows_end ys = (rows-count (length ys) ys, λ i l h. row-length (length ys) ys refl (i - 1) (omega arith) ∙ omega arith)

-- the first numbers are that of the pieces, and those of the differences
pub firsts-cons : (y : ℕ) (ys : List ℕ) → firsts (y ∷ ys) ≡ y ∷ firsts (diffs (y ∷ ys))
unfolding firsts rows rows_in
firsts-cons y ys = rw (diffs-length y ys)

pub firsts-none : firsts [] ≡ []
unfolding firsts rows rows_in
firsts-none = refl

pub firsts-below : (n : ℕ) (ys : List ℕ) → length ys ≡ n → Below ys → Below (firsts ys)
firsts-below zero [] e b = rw firsts-none below-nil
firsts-below zero (y ∷ ys) e b = absurd (suc-ne-zero (length ys) e)
firsts-below (suc n) [] e b = absurd (suc-ne-zero n (sym e))
firsts-below (suc n) (y ∷ ys) e b =
    rw (firsts-cons y ys) (below-cons (b.each 0) (firsts-below n (diffs (y ∷ ys)) (diffs-length y ys ∙ suc_inj e) (diffs-below (y ∷ ys))))

pub firsts-length : (n : ℕ) (ys : List ℕ) → length ys ≡ n → length (firsts ys) ≡ n
firsts-length zero [] e = rw firsts-none
firsts-length zero (y ∷ ys) e = absurd (suc-ne-zero (length ys) e)
firsts-length (suc n) [] e = absurd (suc-ne-zero n (sym e))
firsts-length (suc n) (y ∷ ys) e = rw (firsts-cons y ys) (ap suc (firsts-length n (diffs (y ∷ ys)) (diffs-length y ys ∙ suc_inj e)))

-- ---- the sum with alternating signs
-- one number in front of the others turns their signs round
turned : (x : ℕ) (xs : List ℕ) → (with_plus (x ∷ xs) ≡ x + with_minus xs) × (with_minus (x ∷ xs) ≡ with_plus xs)
unfolding with_plus with_minus
turned x [] = (omega arith, refl)
turned x (y ∷ zs) =
    let t = turned y zs in
    (ap (λ (n : ℕ). x + n) (sym t.1), sym t.0)

less : (x a b : ℕ) → minus (x + b) a ≡ minus x (minus a b)
unfolding minus
less x a b = omega arith

pub alternating-cons : (x : ℕ) (xs : List ℕ) → alternating (x ∷ xs) ≡ minus x (alternating xs)
unfolding alternating
alternating-cons x xs =
    let t = turned x xs in
    rw (t.0, t.1) (less x (with_plus xs) (with_minus xs))

pub alternating-none : alternating [] ≡ 0
unfolding alternating with_plus with_minus minus
alternating-none = refl

-- ---- the joined word
firsts-joined : (n : ℕ) (ys : List ℕ) → length ys ≡ n → alternating (firsts ys) ≡ joined_in n ys
unfolding joined_in
firsts-joined zero [] e = rw firsts-none alternating-none
firsts-joined zero (y ∷ ys) e = absurd (suc-ne-zero (length ys) e)
firsts-joined (suc n) [] e = absurd (suc-ne-zero n (sym e))
firsts-joined (suc n) (y ∷ ys) e =
    rw (firsts-cons y ys) (alternating-cons y (firsts (diffs (y ∷ ys)))
    ∙ ap (minus y) (firsts-joined n (diffs (y ∷ ys)) (diffs-length y ys ∙ suc_inj e)))

pub by_differences_lem : (ys : List ℕ) → by_differences ys ≡ joined ys
unfolding by_differences joined
by_differences_lem ys = firsts-joined (length ys) ys refl
