-- Pieces that are added: their rows of differences are added, and so is what they join to, word by word. Assumes nothing.
use mathlib.Core.Path.{◌≡◌, refl, sym, ap, ap₂, ◌∙◌}
use mathlib.Core.List.{List, [], ◌∷◌}
use Prim.Native.Nat.{ℕ, zero, suc, ◌+◌, ◌*◌, ◌%◌, ◌≤◌}
use native.Mathlib.Omega.{arith}
use native.Mathlib.Nat.{suc_inj, suc-ne-zero}
use lib.ListN.{length}
use Rattle.lists.proofs.RunLaws.{run_length, run-same}
use Rattle.prime.specs.Prime.{p, minus}
use Rattle.prime.proofs.Mod.{◌≈◌, ◌then◌, flip, add≈, mul≈, mod≈, minus≈, same-small, mod_below, minus-below}
use Rattle.field.specs.Joined.{diffs, joined_in, joined}
use Rattle.field.specs.Added.{added}
use Rattle.field.specs.Secret.{column, secret_of}
use Rattle.field.proofs.AddedLaws.{added-length, added-run}
use Rattle.field.proofs.DifferenceLaws.{diffs-length}

-- ---- a difference of sums is the sum of the differences
minus-added : (a b c d : ℕ) → minus ((a + b) % p) ((c + d) % p) ≡ (minus a c + minus b d) % p
minus-added a b c d =
    same-small (minus-below ((a + b) % p) ((c + d) % p)) (mod_below (minus a c + minus b d))
    (minus≈ ((a + b) % p) ((c + d) % p)
    then add≈ (mod≈ (a + b)) (mul≈ 32748 (mod≈ (c + d)))
    then regroup
    then flip (mod≈ (minus a c + minus b d) then add≈ (minus≈ a c) (minus≈ b d)))
  where
    regroup : a + b + 32748 * (c + d) ≈ a + 32748 * c + (b + 32748 * d)
    regroup = omega arith

diffs-added : (ys zs : List ℕ) → length ys ≡ length zs → diffs (added ys zs) ≡ added (diffs ys) (diffs zs)
unfolding diffs added
diffs-added [] [] e = refl
diffs-added [] (z ∷ zs) e = absurd (suc-ne-zero (length zs) (sym e))
diffs-added (y ∷ ys) [] e = absurd (suc-ne-zero (length ys) e)
diffs-added (y ∷ []) (z ∷ []) e = refl
diffs-added (y ∷ []) (z ∷ z' ∷ zs) e = absurd (suc-ne-zero (length zs) (sym (suc_inj e)))
diffs-added (y ∷ y' ∷ ys) (z ∷ []) e = absurd (suc-ne-zero (length ys) (suc_inj e))
diffs-added (y ∷ y' ∷ ys) (z ∷ z' ∷ zs) e =
    ap₂ (λ (x : ℕ) (xs : List ℕ). x ∷ xs) (minus-added y' z' y z) (diffs-added (y' ∷ ys) (z' ∷ zs) (suc_inj e))

-- ---- the joined word
joined_in_added : (n : ℕ) (ys zs : List ℕ) → length ys ≡ length zs → joined_in n (added ys zs) ≡ (joined_in n ys + joined_in n zs) % p
unfolding joined_in added
joined_in_added zero ys zs e = refl
joined_in_added (suc n) [] [] e = refl
joined_in_added (suc n) [] (z ∷ zs) e = absurd (suc-ne-zero (length zs) (sym e))
joined_in_added (suc n) (y ∷ ys) [] e = absurd (suc-ne-zero (length ys) e)
joined_in_added (suc n) (y ∷ ys) (z ∷ zs) e =
    ap (minus ((y + z) % p))
    (ap (joined_in n) (diffs-added (y ∷ ys) (z ∷ zs) e)
    ∙ joined_in_added n (diffs (y ∷ ys)) (diffs (z ∷ zs)) (diffs-length y ys ∙ suc_inj e ∙ sym (diffs-length z zs)))
    ∙ minus-added y z (joined_in n (diffs (y ∷ ys))) (joined_in n (diffs (z ∷ zs)))

pub joined-added : (ys zs : List ℕ) → length ys ≡ length zs → joined (added ys zs) ≡ (joined ys + joined zs) % p
unfolding joined
joined-added ys zs e =
    ap (λ (n : ℕ). joined_in n (added ys zs)) (added-length ys zs (omega arith))
    ∙ joined_in_added (length ys) ys zs e
    ∙ ap (λ (n : ℕ). (joined_in (length ys) ys + joined_in n zs) % p) e

-- ---- the secret
module _ (u v v' : ℕ → ℕ → ℕ) (k w : ℕ) (sums : (j i : ℕ) → 1 ≤ j → j ≤ k → 1 ≤ i → i ≤ w → u j i ≡ (v j i + v' j i) % p) where
  column-added : (i : ℕ) → 1 ≤ i → i ≤ w → column u k i ≡ added (column v k i) (column v' k i)
  unfolding column
  column-added i l h =
      run-same (λ j. u j i) (λ j. (v j i + v' j i) % p) k (λ j a b. sums j i a b l h) ∙ sym (added-run (λ j. v j i) (λ j. v' j i) 1 k)

  word-added : (i : ℕ) → 1 ≤ i → i ≤ w → joined (column u k i) ≡ (joined (column v k i) + joined (column v' k i)) % p
  unfolding column
  word-added i l h =
      ap joined (column-added i l h)
      ∙ joined-added (column v k i) (column v' k i) (run_length (λ j. v j i) 1 k ∙ sym (run_length (λ j. v' j i) 1 k))

  pub secret-added : secret_of u k w ≡ added (secret_of v k w) (secret_of v' k w)
  unfolding secret_of
  secret-added =
      run-same (λ i. joined (column u k i)) (λ i. (joined (column v k i) + joined (column v' k i)) % p) w word-added
      ∙ sym (added-run (λ i. joined (column v k i)) (λ i. joined (column v' k i)) 1 w)
