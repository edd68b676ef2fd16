-- Laws of `run`: how long it is, what stands at each place, one number more at its end, and which list is a run.
-- Assumes nothing.
use mathlib.Core.Path.{◌≡◌, refl, sym, ap, ◌∙◌}
use mathlib.Core.List.{List, [], ◌∷◌, ◌++◌}
use Prim.Native.Nat.{ℕ, zero, suc, ◌+◌, ◌-◌, ◌≤◌, ◌<◌, zero-le}
use native.Mathlib.Nat.{not-suc-le-zero, le_of_suc-le-suc, add-zero, add-suc, suc-add}
use native.Mathlib.Omega.{arith}
use lib.ListN.{length, get_or}
use lib.Seq.{ext_get_or}
use Rattle.lists.specs.Run.{run}

pub run_length : (f : ℕ → ℕ) (x n : ℕ) → length (run f x n) ≡ n
unfolding run
run_length f x zero = refl
run_length f x (suc n) = ap suc (run_length f (suc x) n)

run-from : (f : ℕ → ℕ) (x n i : ℕ) → i < n → get_or (run f x n) i 0 ≡ f (x + i)
unfolding run
run-from f x zero i l = absurd (not-suc-le-zero l)
run-from f x (suc n) zero l = ap f (sym (add-zero x))
run-from f x (suc n) (suc i) l = run-from f (suc x) n i (le_of_suc-le-suc l) ∙ ap f (suc-add x i ∙ sym (add-suc x i))

-- from 1 on, number j stands at j − 1
pub run_at : (f : ℕ → ℕ) (n j : ℕ) → 1 ≤ j → j ≤ n → get_or (run f 1 n) (j - 1) 0 ≡ f j
run_at f n j l h =
    let e : 1 + (j - 1) ≡ j = omega arith in
    run-from f 1 n (j - 1) (omega arith) ∙ ap f e

pub run_end : (f : ℕ → ℕ) (x n : ℕ) → run f x (suc n) ≡ run f x n ++ f (x + n) ∷ []
unfolding run
run_end f x zero = ap (λ (y : ℕ). f y ∷ []) (sym (add-zero x))
run_end f x (suc n) =
    ap (λ (l : List ℕ). f x ∷ l) (run_end f (suc x) n ∙ ap (λ (y : ℕ). run f (suc x) n ++ f y ∷ []) (suc-add x n ∙ sym (add-suc x n)))

-- a list of n numbers that are f 1 to f n is the run of f
pub run_is : (f : ℕ → ℕ) (n : ℕ) (l : List ℕ) → length l ≡ n → ((j : ℕ) → 1 ≤ j → j ≤ n → get_or l (j - 1) 0 ≡ f j) → l ≡ run f 1 n
run_is f n l e h =
    ext_get_or 0 l (run f 1 n) (e ∙ sym (run_length f 1 n))
    (λ i m.
    let s : i + 1 - 1 ≡ i = omega arith in
    rw s at (h (i + 1) (omega arith) (omega arith) ∙ sym (run_at f n (i + 1) (omega arith) (omega arith))))

-- two functions that agree have one run
pub run-same : (f g : ℕ → ℕ) (n : ℕ) → ((j : ℕ) → 1 ≤ j → j ≤ n → f j ≡ g j) → run f 1 n ≡ run g 1 n
run-same f g n h = run_is g n (run f 1 n) (run_length f 1 n) (λ j l m. run_at f n j l m ∙ h j l m)

-- no number is above m where the function gives none
pub run-few : (f : ℕ → ℕ) (m : ℕ) → ((j : ℕ) → f j ≤ m) → (x n i : ℕ) → get_or (run f x n) i 0 ≤ m
unfolding run
run-few f m h x zero i = zero-le
run-few f m h x (suc n) zero = h x
run-few f m h x (suc n) (suc i) = run-few f m h (suc x) n i
