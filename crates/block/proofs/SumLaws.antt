-- The weighted sum of a check: one word more, words that agree, and one word that differs.
-- Assumes nothing.
use mathlib.Core.Path.{◌≡◌, refl, ap}
use mathlib.Core.Logic.{⊎_elim, ◌≢◌}
use mathlib.Core.List.{List, ◌++◌}
use Prim.Native.Nat.{ℕ, zero, suc, ◌+◌, ◌-◌, ◌*◌, ◌%◌, ◌≤◌, ◌<◌}
use native.Mathlib.Nat.{le_refl, not-suc-le-zero, eq-or-lt_of_le}
use native.Mathlib.Omega.{arith}
use lib.ListN.{length}
use Rattle.block.specs.Words.{word_at, weighted, check_of}
use Rattle.block.proofs.WordLaws.{word-front}

-- one word more, as a loop adds it: at word i, words 1 to i - 1 are in the sum
pub weighted_step : (f : ℕ → ℕ) (i : ℕ) → 1 ≤ i → weighted f (i + 1 - 1) ≡ weighted f (i - 1) + i * f i
unfolding weighted
weighted_step f zero h = absurd (not-suc-le-zero h)
weighted_step f (suc i) h =
    let p : suc i + 1 - 1 ≡ suc i = omega arith in
    let q : suc i - 1 ≡ i = omega arith in
    rw (p, q)

-- words that agree have one sum
pub weighted-same : (f g : ℕ → ℕ) (n : ℕ) → ((i : ℕ) → 1 ≤ i → i ≤ n → f i ≡ g i) → weighted f n ≡ weighted g n
unfolding weighted
weighted-same f g zero h = refl
weighted-same f g (suc n) h =
    rw (weighted-same f g n (λ i l m. h i l (omega arith)), h (suc n) (omega arith) (le_refl (suc n)))

pub check-same : (b c : List ℕ) → ((i : ℕ) → 1 ≤ i → i ≤ 255 → word_at b i ≡ word_at c i) → check_of b ≡ check_of c
unfolding check_of
check-same b c h = ap (λ (s : ℕ). s % 32749) (weighted-same (word_at b) (word_at c) 255 h)

pub check-front : (xs ys : List ℕ) → 510 ≤ length xs → check_of (xs ++ ys) ≡ check_of xs
check-front xs ys h = check-same (xs ++ ys) xs (λ i l m. word-front xs ys i l (omega arith))

-- one word differs: the sums do by its weight times the difference
swap : (a x y : ℕ) → a + x + y ≡ a + y + x
swap a x y = omega arith

shift : (a x u b v : ℕ) → a + u ≡ b + v → a + x + u ≡ b + x + v
shift a x u b v e = omega arith

pub one_differs : (f g : ℕ → ℕ) (i n : ℕ) → 1 ≤ i → i ≤ n → ((k : ℕ) → 1 ≤ k → k ≤ n → k ≢ i → g k ≡ f k)
    → weighted g n + i * f i ≡ weighted f n + i * g i
unfolding weighted
one_differs f g i zero l h same = absurd (omega arith)
one_differs f g i (suc n) l h same =
    ⊎_elim
    (λ (last : i ≡ suc n).
    let c : weighted g n ≡ weighted f n = weighted-same g f n (λ k a b. same k a (omega arith) (λ e. omega arith)) in
    rw (last, c) (swap (weighted f n) (suc n * g (suc n)) (suc n * f (suc n))))
    (λ (less : i < suc n).
    let c : g (suc n) ≡ f (suc n) = same (suc n) (omega arith) (le_refl (suc n)) (λ e. omega arith) in
    let ih : weighted g n + i * f i ≡ weighted f n + i * g i = one_differs f g i n l (omega arith) (λ k a b ne. same k a (omega arith) ne) in
    rw c (shift (weighted g n) (suc n * f (suc n)) (i * f i) (weighted f n) (i * g i) ih))
    (eq-or-lt_of_le h)
