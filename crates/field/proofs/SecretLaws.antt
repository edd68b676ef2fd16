-- A column of values and the secret of a table of them, word by word. Assumes nothing.
use mathlib.Core.Path.{◌≡◌}
use Prim.Native.Nat.{ℕ, ◌+◌, ◌-◌, ◌≤◌, ◌<◌}
use native.Mathlib.Decide.{dec_lt}
use native.Mathlib.Omega.{arith}
use lib.Dec.{lit<}
use lib.ListN.{length, get_or, get_or-eq_default}
use Rattle.lists.specs.Run.{run}
use Rattle.lists.proofs.RunLaws.{run_length, run_at}
use Rattle.prime.specs.Prime.{p, Below}
use Rattle.field.specs.Joined.{joined}
use Rattle.field.specs.Secret.{column, secret_of}

-- the numbers of a run are below p where those at its places are
run-below : (f : ℕ → ℕ) (n : ℕ) → ((j : ℕ) → 1 ≤ j → j ≤ n → f j < p) → Below (run f 1 n)
run-below f n h = record { each = λ i. go i (dec_lt i n) }
  where
    go : (i : ℕ) → Dec (i < n) → get_or (run f 1 n) i 0 < p
    go i (yes m) =
        let s : i + 1 - 1 ≡ i = omega arith in
        omega (arith, rw s at (run_at f n (i + 1) (omega arith) (omega arith)), h (i + 1) (omega arith) (omega arith))
    go i (no m) = rw (get_or-eq_default (run f 1 n) 0 {n = i} (omega (arith, run_length f 1 n))) (lit< tt)

module _ (v : ℕ → ℕ → ℕ) (k : ℕ) where
  pub column-length : (i : ℕ) → length (column v k i) ≡ k
  unfolding column
  column-length i = run_length (λ j. v j i) 1 k

  pub column-at : (i j : ℕ) → 1 ≤ j → j ≤ k → get_or (column v k i) (j - 1) 0 ≡ v j i
  unfolding column
  column-at i j l h = run_at (λ m. v m i) k j l h

  pub column-below : (i : ℕ) → ((j : ℕ) → 1 ≤ j → j ≤ k → v j i < p) → Below (column v k i)
  unfolding column
  column-below i h = run-below (λ j. v j i) k h

  pub secret-at : (w i : ℕ) → 1 ≤ i → i ≤ w → get_or (secret_of v k w) (i - 1) 0 ≡ joined (column v k i)
  unfolding secret_of
  secret-at w i l h = run_at (λ m. joined (column v k m)) w i l h

  pub secret-length : (w : ℕ) → length (secret_of v k w) ≡ w
  unfolding secret_of
  secret-length w = run_length (λ i. joined (column v k i)) 1 w

  pub secret-below : (w : ℕ) → ((i : ℕ) → 1 ≤ i → i ≤ w → joined (column v k i) < p) → Below (secret_of v k w)
  unfolding secret_of
  secret-below w h = run-below (λ i. joined (column v k i)) w h
